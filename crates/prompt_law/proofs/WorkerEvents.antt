-- What the events of a worker are at a gate that answers at once, and that each of them fits after those of
-- its handle.
use Rattle.std.proofs.Common.{◌≡◌, ℕ, ℤ, true, ◌||◌, List, [], ◌∷◌, ◌++◌, Option, Some, is_some, option_map, refl, sym, ◌∙◌, ap, subst}
use Rattle.std.specs.List.{list_any}
use Rattle.std.specs.Duration.{as_nanos}
use Rattle.sign_base.specs.declared.call_id.CallId.{CallId}
use Rattle.sign_base.specs.Calls.{same_call}
use Rattle.sequential_signer.specs.Policy.{Policy}
use Rattle.sequential_signer.specs.Setup.{Setup}
use Rattle.sequential_signer.specs.Transcript.{call_of, entries_of}
use Rattle.sequential_signer.specs.Phase.{moves_call, phase_of, phase_by, is_waiting, is_loading, is_signing, is_new_number, is_waiting_poll}
use Rattle.sequential_signer.specs.Hold.{BeginInput, begin_of, begin_in}
use Rattle.sequential_signer.specs.declared.event.Answer.{Answer}
use Rattle.sequential_signer.specs.declared.event.Entry.{Entry}
use Rattle.sequential_signer.specs.declared.event.Event.{Event}
use Rattle.sequential_signer.specs.declared.event.Event.TheVariants.{Begin, Poll, Provided, Signed}
use Rattle.sequential_signer.specs.declared.event.Reply.{Reply}
use Rattle.sequential_signer.specs.declared.event.Reply.TheVariants.{Begun, Pending, NotNow, OutOfMemory, Ask, Sign, Refused, Done, Cancelled}
use Rattle.sequential_signer.specs.declared.event.Verdict.{Verdict}
use Rattle.sign_base.proofs.Calls.{same_call-refl}
use Rattle.sequential_signer.proofs.OwnEntries.{entries_of-own, to_queued, phase_in-pending, begin_in-new}
use Rattle.sequential_signer.proofs.NewNumbers.{new_is_unbegun}
use Rattle.sequential_signer.proofs.CallInvariant.{phase-own_mark, loads-own_mark, begin-stays}
use Rattle.sign_desk.specs.ReplyKinds.{is_reply_to}
use Rattle.signer_shared.specs.Gates.{GateMeaning}
use Rattle.signer_shared.specs.Serving.{IsNext, next_after}
use Rattle.signer_shared.specs.declared.job.Job.{Job}
use Rattle.prompt_law.specs.Laws.{is_on_the_way_to_done}
use Rattle.prompt_law.specs.PromptGates.{AnswersAtOnce, IsWorkerJob}
use Rattle.prompt_law.proofs.CallPhases.{queued_waits, begun_waits, phase-own, phase_is-in}
use Rattle.prompt_law.proofs.FittingEvents.{HasBegun, Fits}

-- what a job's call is begun with
abbrev pub job_begin : Job → BeginInput
job_begin job = record { head = job.head; duration = option_map as_nanos job.expires_in }

module _ {K D : Type 0} (policy : Policy K D) (setup : Setup D) (c : K) (moment : ℤ) where
  -- how far the job's call is after these entries, the last of its own with this reply
  abbrev pub StandsAt : Job → Reply K → List (Entry K) → Type 0
  StandsAt job Begun past = (begin_of past job.call ≡ Some (job_begin job)) × (is_waiting (phase_of past job.call) ≡ true)
  StandsAt job Pending past = (begin_of past job.call ≡ Some (job_begin job)) × (is_waiting (phase_of past job.call) ≡ true)
  StandsAt job (Ask provider) past = (begin_of past job.call ≡ Some (job_begin job)) × (is_loading (phase_of past job.call) ≡ true)
  StandsAt job (Sign credential wake) past = is_signing (phase_of past job.call) ≡ true
  StandsAt job _ past = Unit {0}

  module _ (handle : ℕ) (job : Job) (known : IsWorkerJob policy setup c moment handle job) where
    has_begun : (past : List (Entry K)) → begin_of past job.call ≡ Some (job_begin job)
        → HasBegun policy setup c moment past job.call
    has_begun past b = record { cache = known.cache; rule = known.rule; ruled = known.ruled; begin = job_begin job; begun = b; lasts = known.lasts }

    -- a begin with a new number fits
    pub begin_fits : (past : List (Entry K)) (event : Event K)
        → event ≡ Begin job.call job.head job.expires_in → is_new_number past job.call ≡ true
        → Fits policy setup c moment past event
    begin_fits past event n new = subst (λ (e : Event K). Fits policy setup c moment past e) (sym n) (known.cache, new)

    module _ (gate : GateMeaning K) (prompt : AnswersAtOnce c moment gate) (past : List (Entry K)) (event : Event K) where
      -- so does the event that is next after a reply
      pub next_fits : (r : Reply K) → IsNext gate job (next_after r) event → StandsAt job r past
          → Fits policy setup c moment past event
      next_fits Begun n s = subst (λ (e : Event K). Fits policy setup c moment past e) (sym n.2) (has_begun past s.0, s.1, prompt.tells n.0 n.1)
      next_fits Pending n s = subst (λ (e : Event K). Fits policy setup c moment past e) (sym n.2) (has_begun past s.0, s.1, prompt.tells n.0 n.1)
      next_fits (Ask provider) n s =
          subst (λ (e : Event K). Fits policy setup c moment past e) (sym n.4) (has_begun past s.0, s.1, prompt.tells n.0 n.2, prompt.gives job.call provider n.1 n.3)
      next_fits (Sign credential wake) n s =
          subst (λ (e : Event K). Fits policy setup c moment past e) (sym n.2) (known.cache, s, prompt.judges job.call credential job.head n.0 n.1)
      next_fits NotNow n s = absurd n
      next_fits OutOfMemory n s = absurd n
      next_fits (Refused why wake) n s = absurd n
      next_fits (Done head) n s = absurd n
      next_fits (Cancelled wake) n s = absurd n

  module _ (job : Job) (past : List (Entry K)) where
    begin_kept : (e : Entry K) → same_call job.call (call_of e.event) ≡ true
        → begin_of past job.call ≡ Some (job_begin job)
        → begin_of (past ++ e ∷ []) job.call ≡ Some (job_begin job)
    begin_kept e own b = begin-stays setup past 0 e job.call own (ap is_some b) ∙ b

    begin_new : is_new_number past job.call ≡ true
        → begin_of (past ++ record { event = Begin job.call job.head job.expires_in; reply = Begun } ∷ [])
        job.call
        ≡ Some (job_begin job)
    begin_new new =
        let made : Entry K = record { event = Begin job.call job.head job.expires_in; reply = Begun } in
        ap begin_in (entries_of-own past job.call made (same_call-refl job.call)) ∙ begin_in-new (entries_of past job.call) made (new_is_unbegun job.call past new) refl

    signs_by : (e : Entry K) (k : K) (wake : Option CallId) → same_call job.call (call_of e.event) ≡ true
        → e.reply ≡ Sign k wake → is_signing (phase_of (past ++ e ∷ []) job.call) ≡ true
    signs_by e k wake own h =
        let mark : moves_call e.reply ≡ true = ap moves_call h in
        ap is_signing (phase-own_mark setup past 0 e job.call own mark ∙ ap (phase_by (list_any is_waiting_poll (entries_of past job.call) || is_waiting_poll e)) h)

    -- how far the call is after its begin, a poll, an answer of a provider, and one of the service
    after_begin : (reply : Reply K) → is_reply_to (Begin job.call job.head job.expires_in) reply ≡ true
        → is_on_the_way_to_done reply ≡ true → is_new_number past job.call ≡ true
        → StandsAt job reply
        (past ++ record { event = Begin job.call job.head job.expires_in; reply = reply } ∷ [])
    after_begin Begun kind well s =
        let made : Entry K = record { event = Begin job.call job.head job.expires_in; reply = Begun } in (
          begin_new s,
          ap is_waiting (phase-own_mark setup past 0 made job.call (same_call-refl job.call) refl) ∙ begun_waits K _,
        )
    after_begin Pending kind well s = absurd (cc)
    after_begin NotNow kind well s = absurd (cc)
    after_begin OutOfMemory kind well s = absurd (cc)
    after_begin (Ask p) kind well s = absurd (cc)
    after_begin (Sign k w) kind well s = absurd (cc)
    after_begin (Refused y w) kind well s = absurd (cc)
    after_begin (Done h) kind well s = absurd (cc)
    after_begin (Cancelled w) kind well s = absurd (cc)

    after_poll : (now : ℤ) (reply : Reply K) → is_reply_to (Poll job.call now) reply ≡ true
        → is_on_the_way_to_done reply ≡ true
        → (begin_of past job.call ≡ Some (job_begin job)) × (is_waiting (phase_of past job.call) ≡ true)
        → StandsAt job reply (past ++ record { event = Poll job.call now; reply = reply } ∷ [])
    after_poll now Pending kind well s =
        let made : Entry K = record { event = Poll job.call now; reply = Pending } in (
          begin_kept made (same_call-refl job.call) s.0,
          ap is_waiting (phase-own past job.call made (same_call-refl job.call) ∙ phase_in-pending (entries_of past job.call) job.call now ∙ ap to_queued (phase_is-in past job.call))
              ∙ queued_waits (phase_of past job.call) s.1,
        )
    after_poll now (Ask p) kind well s =
        let made : Entry K = record { event = Poll job.call now; reply = Ask p } in
        (begin_kept made (same_call-refl job.call) s.0, loads-own_mark setup past 0 made job.call (same_call-refl job.call) refl)
    after_poll now (Sign k w) kind well s = signs_by (record { event = Poll job.call now; reply = Sign k w }) k w (same_call-refl job.call) refl
    after_poll now Begun kind well s = absurd (cc)
    after_poll now NotNow kind well s = absurd (cc)
    after_poll now OutOfMemory kind well s = absurd (cc)
    after_poll now (Refused y w) kind well s = absurd (cc)
    after_poll now (Done h) kind well s = absurd (cc)
    after_poll now (Cancelled w) kind well s = absurd (cc)

    after_answer : (now : ℤ) (answer : Answer K) (reply : Reply K)
        → is_reply_to (Provided job.call now answer) reply ≡ true → is_on_the_way_to_done reply ≡ true
        → (begin_of past job.call ≡ Some (job_begin job))
        → StandsAt job reply (past ++ record { event = Provided job.call now answer; reply = reply } ∷ [])
    after_answer now answer (Ask p) kind well b =
        let made : Entry K = record { event = Provided job.call now answer; reply = Ask p } in
        (begin_kept made (same_call-refl job.call) b, loads-own_mark setup past 0 made job.call (same_call-refl job.call) refl)
    after_answer now answer (Sign k w) kind well b = signs_by (record { event = Provided job.call now answer; reply = Sign k w }) k w (same_call-refl job.call) refl
    after_answer now answer Begun kind well b = absurd (cc)
    after_answer now answer Pending kind well b = absurd (cc)
    after_answer now answer NotNow kind well b = absurd (cc)
    after_answer now answer OutOfMemory kind well b = absurd (cc)
    after_answer now answer (Refused y w) kind well b = absurd (cc)
    after_answer now answer (Done h) kind well b = absurd (cc)
    after_answer now answer (Cancelled w) kind well b = absurd (cc)

    after_verdict : (verdict : Verdict) (reply : Reply K) → is_reply_to (Signed job.call verdict) reply ≡ true
        → is_on_the_way_to_done reply ≡ true
        → StandsAt job reply (past ++ record { event = Signed job.call verdict; reply = reply } ∷ [])
    after_verdict verdict (Done h) kind well = tt
    after_verdict verdict Begun kind well = absurd (cc)
    after_verdict verdict Pending kind well = absurd (cc)
    after_verdict verdict NotNow kind well = absurd (cc)
    after_verdict verdict OutOfMemory kind well = absurd (cc)
    after_verdict verdict (Ask p) kind well = absurd (cc)
    after_verdict verdict (Sign k w) kind well = absurd (cc)
    after_verdict verdict (Refused y w) kind well = absurd (cc)
    after_verdict verdict (Cancelled w) kind well = absurd (cc)

    -- so after each event that was next and went well the call is as far as its reply says
    module _ (event : Event K) (reply : Reply K) (kind : is_reply_to event reply ≡ true) (well : is_on_the_way_to_done reply ≡ true) where
      abbrev From : Event K → Type 0
      From e = is_reply_to e reply ≡ true → StandsAt job reply (past ++ record { event = e; reply = reply } ∷ [])

      pub stands_begun : event ≡ Begin job.call job.head job.expires_in → is_new_number past job.call ≡ true
          → StandsAt job reply (past ++ record { event = event; reply = reply } ∷ [])
      stands_begun n new = subst (λ (e : Event K). From e) (sym n) (λ k. after_begin reply k well new) kind

      pub stands_after : (gate : GateMeaning K) (r : Reply K) → IsNext gate job (next_after r) event
          → StandsAt job r past → StandsAt job reply (past ++ record { event = event; reply = reply } ∷ [])
      stands_after gate Begun n s = subst (λ (e : Event K). From e) (sym n.2) (λ k. after_poll n.0 reply k well s) kind
      stands_after gate Pending n s = subst (λ (e : Event K). From e) (sym n.2) (λ k. after_poll n.0 reply k well s) kind
      stands_after gate (Ask provider) n s = subst (λ (e : Event K). From e) (sym n.4) (λ k. after_answer n.0 n.1 reply k well s.0) kind
      stands_after gate (Sign credential wake) n s = subst (λ (e : Event K). From e) (sym n.2) (λ k. after_verdict n.0 reply k well) kind
      stands_after gate NotNow n s = absurd n
      stands_after gate OutOfMemory n s = absurd n
      stands_after gate (Refused why wake) n s = absurd n
      stands_after gate (Done head) n s = absurd n
      stands_after gate (Cancelled wake) n s = absurd n
