-- What is previewed is the reply of a step: there is a desk that the step would leave.
use Rattle.std.proofs.Common.{◌≡◌, ℕ, ◌+◌, ◌≤◌, Bool, true, false, cond, not, ◌&&◌, ◌||◌, List, [], ◌∷◌, ◌++◌, Option, Some, None, is_some, option_map, length, filter, refl, sym, ◌∙◌, ap, subst, inl, inr, arith}
use Rattle.std.specs.List.{list_any}
use Rattle.sign_base.specs.declared.call_id.CallId.{CallId}
use Rattle.sign_base.specs.Calls.{same_call, IsOnce}
use Rattle.sign_base.proofs.Calls.{same_call-eq, same_call-refl, same_call-comm, once-filter}
use Rattle.sign_base.proofs.Truth.{and_left, and_right}
use Rattle.sequential_signer.specs.Policy.{Policy}
use Rattle.sequential_signer.specs.Lookup.{HandOut, Refuse}
use Rattle.sequential_signer.specs.SequentialCall.{Progress, Asking, Over}
use Rattle.sequential_signer.specs.Setup.{Setup, cache_of}
use Rattle.sequential_signer.specs.Transcript.{committed_entries, call_of}
use Rattle.sequential_signer.specs.Phase.{Phase, Unknown, Unpolled, Queued, Loading, Signing, Ended, phase_of, is_live, is_begun}
use Rattle.sequential_signer.specs.Hold.{BeginInput, begin_of, answers_of}
use Rattle.sequential_signer.specs.Legal.{IsLegalEntry}
use Rattle.sequential_signer.specs.LiveCall.{live_call, live_by, live_calls, begun_calls}
use Rattle.sequential_signer.specs.declared.event.Entry.{Entry}
use Rattle.sequential_signer.specs.declared.event.Event.{Event}
use Rattle.sequential_signer.specs.declared.event.Event.TheVariants.{Begin, Poll, Provided}
use Rattle.sequential_signer.specs.declared.event.Reply.{Reply}
use Rattle.sequential_signer.specs.declared.event.Reply.TheVariants.{Begun, Pending, NotNow}
use Rattle.sequential_signer.specs.ExpectedReply.{progress_reply, with_wake}
use Rattle.sequential_signer.proofs.Lists.{list_any-more, or_true, not_true}
use Rattle.sequential_signer.proofs.LegalStep.{LegalStep, not_now, begins, waits, pending, looks, takes_effect, accepts, fails, cancels}
use Rattle.sequential_signer.proofs.Run.{IsRun, start, more, legal_run}
use Rattle.sequential_signer.proofs.CallInvariant.{CallInvariant, unpolled_call, queued_call, loading_call, signing_call}
use Rattle.sequential_signer.proofs.CallInvariantSteps.{stands}
use Rattle.sequential_signer.proofs.BegunCalls.{begun_once, begun_there, begun_calls-same, begun_calls-begun, filter-drops}
use Rattle.desk_parts.specs.Action.{Leaves, Does, Allocates}
use Rattle.desk_parts.specs.Change.{ChangesOnlyCall, one_if}
use Rattle.desk_parts.specs.WellFormedSetup.{IsWellFormedSetup}
use Rattle.desk_parts.specs.Tables.{setup_of, find_call}
use Rattle.desk_parts.specs.declared.call_record.CallRecord.{CallRecord as Kept}
use Rattle.sign_desk.specs.Action.{Action, Performs}
use Rattle.sign_desk.specs.DeskState.{DeskState, live_view, Represents}
use Rattle.sign_desk.specs.Previews.{Previews}
use Rattle.sign_desk.specs.Records.{CallRecord}
use Rattle.sign_desk.specs.Transition.{action_of}
use Rattle.sign_desk.proofs.Actions.{IsPlain, action-plain}
use Rattle.sign_desk.proofs.RefineStep.{refines-step, entry-legal}

-- the records of the other calls
abbrev without : {H : Type 0} → CallId → List (CallId × Kept H) → List (CallId × Kept H)
without call [] = []
without call (x ∷ rest) = cond (same_call call x.0) (without call rest) (x ∷ without call rest)

module _ {H : Type 0} where
  without-own : (call : CallId) (xs : List (CallId × Kept H)) → find_call call (without call xs) ≡ None
  without-own call [] = refl
  without-own call (x ∷ rest) = by_test (same_call call x.0) refl (without-own call rest)
    where
      by_test : (b : Bool) → same_call call x.0 ≡ b → find_call call (without call rest) ≡ None
          → find_call call (cond b (without call rest) (x ∷ without call rest)) ≡ None
      by_test true e h = h
      by_test false e h = rw e h

  without-other : (call other : CallId) → same_call call other ≡ false → (xs : List (CallId × Kept H))
      → find_call other (without call xs) ≡ find_call other xs
  without-other call other apart [] = refl
  without-other call other apart (x ∷ rest) = by_test (same_call call x.0) refl (without-other call other apart rest)
    where
      by_test : (b : Bool) → same_call call x.0 ≡ b
          → find_call other (without call rest) ≡ find_call other rest
          → find_call other (cond b (without call rest) (x ∷ without call rest))
          ≡ cond (same_call other x.0) (Some x.1) (find_call other rest)
      by_test true e h =
          let is : same_call other x.0 ≡ false = ap (same_call other) (sym (same_call-eq call x.0 e)) ∙ same_call-comm other call ∙ apart in
          rw is h
      by_test false e h = ap (cond (same_call other x.0) (Some x.1)) h

  without_none : (call : CallId) (xs : List (CallId × Kept H)) → find_call call xs ≡ None
      → length (without call xs) ≡ length xs
  without_none call [] h = refl
  without_none call (x ∷ rest) h = by_test (same_call call x.0) refl h (without_none call rest)
    where
      by_test : (b : Bool) → same_call call x.0 ≡ b → cond b (Some x.1) (find_call call rest) ≡ None
          → (find_call call rest ≡ None → length (without call rest) ≡ length rest)
          → length (cond b (without call rest) (x ∷ without call rest)) ≡ length (x ∷ rest)
      by_test true e h later = absurd (cc)
      by_test false e h later = let k : length (without call rest) ≡ length rest = later h in omega (arith, k)

  without_no_more : (call : CallId) (xs : List (CallId × Kept H)) → length (without call xs) ≤ length xs
  without_no_more call [] = omega arith
  without_no_more call (x ∷ rest) = by_test (same_call call x.0) (without_no_more call rest)
    where
      by_test : (b : Bool) → length (without call rest) ≤ length rest
          → length (cond b (without call rest) (x ∷ without call rest)) ≤ length (x ∷ rest)
      by_test true k = omega (arith, k)
      by_test false k = omega (arith, k)

  without_fewer : (call : CallId) (xs : List (CallId × Kept H)) → is_some (find_call call xs) ≡ true
      → length (without call xs) + 1 ≤ length xs
  without_fewer call [] h = cc
  without_fewer call (x ∷ rest) h = by_test (same_call call x.0) h (without_fewer call rest)
    where
      by_test : (b : Bool) → is_some (cond b (Some x.1) (find_call call rest)) ≡ true
          → (is_some (find_call call rest) ≡ true → length (without call rest) + 1 ≤ length rest)
          → length (cond b (without call rest) (x ∷ without call rest)) + 1 ≤ length (x ∷ rest)
      by_test true h later = let k = without_no_more call rest in omega (arith, k)
      by_test false h later = let k : length (without call rest) + 1 ≤ length rest = later h in omega (arith, k)

  -- calls that each stand once and are all kept are no more than the records
  enough : (calls : List CallId) (xs : List (CallId × Kept H)) → IsOnce calls
      → ((c : CallId) → list_any (same_call c) calls ≡ true → is_some (find_call c xs) ≡ true)
      → length calls ≤ length xs
  enough [] xs once found = omega arith
  enough (c ∷ rest) xs once found =
      let here : is_some (find_call c xs) ≡ true = found c (ap (λ v. v || list_any (same_call c) rest) (same_call-refl c)) in
      let fewer : length (without c xs) + 1 ≤ length xs = without_fewer c xs here in
      let later : length rest ≤ length (without c xs) = enough rest (without c xs) once.1 (λ b m. ap is_some (without-other c b (apart b m (same_call c b) refl) xs) ∙ found b (ap (λ v. same_call b c || v) m ∙ or_true _)) in
      omega (arith, fewer, later)
    where
      apart : (b : CallId) → list_any (same_call b) rest ≡ true → (v : Bool) → same_call c b ≡ v
          → same_call c b ≡ false
      apart b m false e = e
      apart b m true e =
          let there : list_any (same_call c) rest ≡ true = subst (λ y. list_any (same_call y) rest ≡ true) (sym (same_call-eq c b e)) m in
          let out : list_any (same_call c) rest ≡ false = once.0 in
          absurd (cc)

among_filter : (q : CallId → Bool) (c : CallId) (xs : List CallId)
    → list_any (same_call c) (filter q xs) ≡ true → (q c ≡ true) × (list_any (same_call c) xs ≡ true)
among_filter q c [] h = cc
among_filter q c (x ∷ rest) h = by_test (q x) refl h (among_filter q c rest)
  where
    later : (q c ≡ true) × (list_any (same_call c) rest ≡ true)
        → (q c ≡ true) × (list_any (same_call c) (x ∷ rest) ≡ true)
    later k = (k.0, ap (λ v. same_call c x || v) k.1 ∙ or_true _)

    by_test : (b : Bool) → q x ≡ b
        → list_any (same_call c) (cond b (x ∷ filter q rest) (filter q rest)) ≡ true
        → (list_any (same_call c) (filter q rest) ≡ true
        → (q c ≡ true) × (list_any (same_call c) rest ≡ true))
        → (q c ≡ true) × (list_any (same_call c) (x ∷ rest) ≡ true)
    by_test false e h rec = later (rec h)
    by_test true e h rec = by_place (same_call c x) refl h
      where
        by_place : (s : Bool) → same_call c x ≡ s → (s || list_any (same_call c) (filter q rest)) ≡ true
            → (q c ≡ true) × (list_any (same_call c) (x ∷ rest) ≡ true)
        by_place true s h = (ap q (same_call-eq c x s) ∙ e, ap (λ v. v || list_any (same_call c) rest) s)
        by_place false s h = later (rec h)

module _ {K D : Type 0} (policy : Policy K D) (setup : Setup D) where
  none_begun : (c : CallId) → list_any (same_call c) (begun_calls {K = K} []) ≡ true
      → is_some (cache_of setup c) ≡ true
  unfolding begun_calls
  none_begun c h = absurd (cc)

  module _ (entries : List (Entry K)) (c : CallId)
      (before : list_any (same_call c) (begun_calls entries) ≡ true → is_some (cache_of setup c) ≡ true) where
    same : (event : Event K) (reply : Reply K) → is_begun reply ≡ false
        → list_any (same_call c) (begun_calls (entries ++ record { event = event; reply = reply } ∷ []))
        ≡ true
        → is_some (cache_of setup c) ≡ true
    same event reply b h = before (ap (list_any (same_call c)) (sym (begun_calls-same entries (record { event = event; reply = reply }) b)) ∙ h)

    by_place : (call : CallId) (i : ℕ) → cache_of setup call ≡ Some i → (s : Bool) → same_call c call ≡ s
        → (list_any (same_call c) (begun_calls entries) || s) ≡ true → is_some (cache_of setup c) ≡ true
    by_place call i at true s h = ap (λ x. is_some (cache_of setup x)) (same_call-eq c call s) ∙ ap is_some at
    by_place call i at false s h = before (by_false (list_any (same_call c) (begun_calls entries)) h)
      where
        by_false : (b : Bool) → (b || false) ≡ true → b ≡ true
        by_false true h = refl
        by_false false h = h

    wake_begun : (progress : Progress K) (wake : Option CallId)
        → is_begun (with_wake (progress_reply progress) wake) ≡ false
    wake_begun (Asking k) wake = refl
    wake_begun (Over (HandOut c) cache) wake = refl
    wake_begun (Over (Refuse why) cache) wake = refl

    step_cache : (event : Event K) (reply : Reply K) → LegalStep policy setup entries event reply
        → list_any (same_call c) (begun_calls (entries ++ record { event = event; reply = reply } ∷ []))
        ≡ true
        → is_some (cache_of setup c) ≡ true
    step_cache event reply (not_now _) h = same event NotNow refl h
    step_cache event reply (begins call head expires_in i at new) h =
        by_place call i at (same_call c call) refl
        (sym (list_any-more (same_call c) (begun_calls entries) call) ∙ ap (list_any (same_call c)) (sym (begun_calls-begun entries (record { event = Begin call head expires_in; reply = Begun }) refl)) ∙ h)
    step_cache event reply (waits call now i _ _ _) h = same (Poll call now) Pending refl h
    step_cache event reply (pending call now _) h = same (Poll call now) Pending refl h
    step_cache event reply (looks call now i progress wake _ _ _) h = same (Poll call now) (with_wake (progress_reply progress) wake) (wake_begun progress wake) h
    step_cache event reply (takes_effect call now answer i progress wake _ _) h = same (Provided call now answer) (with_wake (progress_reply progress) wake) (wake_begun progress wake) h
    step_cache event reply (accepts call candidate _) h = same event reply refl h
    step_cache event reply (fails call e i _ _) h = same event reply refl h
    step_cache event reply (cancels call wake _) h = same event reply refl h

  -- a call that was begun has a cache
  begun_cache : (entries : List (Entry K)) → IsRun policy setup entries → (c : CallId)
      → list_any (same_call c) (begun_calls entries) ≡ true → is_some (cache_of setup c) ≡ true
  begun_cache _ start c h = none_begun c h
  begun_cache _ (more entries event reply run step) c h = step_cache entries c (λ k. begun_cache entries run c k) event reply step h

live_some : (p : Phase) (n : ℕ) (o : Option BeginInput) → is_live p ≡ true → is_some o ≡ true
    → is_some (live_by p n o) ≡ true
live_some p n None l s = absurd (cc)
live_some Unpolled n (Some b) l s = refl
live_some Queued n (Some b) l s = refl
live_some Loading n (Some b) l s = refl
live_some Signing n (Some b) l s = refl
live_some Unknown n (Some b) l s = absurd (cc)
live_some Ended n (Some b) l s = absurd (cc)

mapped_some : {A B : Type 0} (f : A → B) (o : Option A) → is_some (option_map f o) ≡ true → is_some o ≡ true
mapped_some f None h = h
mapped_some f (Some x) h = refl

module _ {K D : Type 0} (policy : Policy K D) (old : DeskState K D) (entries : List (Entry K))
    (stood : Represents policy old entries) where
  abbrev setup : Setup D
  setup = setup_of old

  abbrev before : List (Entry K)
  before = committed_entries entries

  run : IsRun policy (setup_of old) (committed_entries entries)
  run = legal_run policy (setup_of old) entries stood.legal

  -- whether a call is live and another one than this
  abbrev others : CallId → CallId → Bool
  others call c = is_live (phase_of (committed_entries entries) c) && not (same_call call c)

  -- a live call among those that were begun was begun
  begun_by : (c : CallId) (i : ℕ) → (p : Phase) → is_live p ≡ true
      → CallInvariant (setup_of old) (committed_entries entries) i c p
      → is_some (begin_of (committed_entries entries) c) ≡ true
  begun_by c i Unpolled l (unpolled_call w _ _) = w.begun
  begun_by c i Queued l (queued_call w _) = w.begun
  begun_by c i Loading l (loading_call w) = w.begun
  begun_by c i Signing l (signing_call w) = w.begun
  begun_by c i Unknown l k = absurd (cc)
  begun_by c i Ended l k = absurd (cc)

  was_begun : (c : CallId) → list_any (same_call c) (begun_calls (committed_entries entries)) ≡ true
      → is_live (phase_of (committed_entries entries) c) ≡ true
      → is_some (begin_of (committed_entries entries) c) ≡ true
  was_begun c m l = by_cache (cache_of (setup_of old) c) refl (begun_cache policy (setup_of old) (committed_entries entries) run c m)
    where
      by_cache : (o : Option ℕ) → cache_of (setup_of old) c ≡ o → is_some o ≡ true
          → is_some (begin_of (committed_entries entries) c) ≡ true
      by_cache None at s = absurd (cc)
      by_cache (Some i) at s = begun_by c i (phase_of (committed_entries entries) c) l (stands policy (setup_of old) (committed_entries entries) run c i at)

  -- a live call has a record
  found : (c : CallId) → is_live (phase_of (committed_entries entries) c) ≡ true
      → is_some (begin_of (committed_entries entries) c) ≡ true → is_some (find_call c old.calls) ≡ true
  found c l b =
      mapped_some live_view (find_call c old.calls)
      (ap is_some (stood.calls c) ∙ live_some (phase_of (committed_entries entries) c) (length (answers_of (committed_entries entries) c)) (begin_of (committed_entries entries) c) l b)

  -- each call has one record
  once_kept : (call : CallId)
      → length (without call old.calls) + one_if (find_call call old.calls) ≡ length old.calls
  once_kept call = by_record (find_call call old.calls) refl
    where
      by_record : (o : Option CallRecord) → find_call call old.calls ≡ o
          → length (without call old.calls) + one_if o ≡ length old.calls
      by_record None f = let k : length (without call old.calls) ≡ length old.calls = without_none call old.calls f in omega (arith, k)
      by_record (Some r) f =
          let fewer : length (without call old.calls) + 1 ≤ length old.calls = without_fewer call old.calls (ap is_some f) in
          let lived : is_some (live_call (committed_entries entries) call) ≡ true = ap is_some (sym (stood.calls call) ∙ ap (option_map live_view) f) in
          let begun : is_some (begin_of (committed_entries entries) call) ≡ true = begun_of (phase_of (committed_entries entries) call) (length (answers_of (committed_entries entries) call)) (begin_of (committed_entries entries) call) lived in
          let live : is_live (phase_of (committed_entries entries) call) ≡ true = live_of (phase_of (committed_entries entries) call) (length (answers_of (committed_entries entries) call)) (begin_of (committed_entries entries) call) lived in
          let drops : length (live_calls (committed_entries entries)) ≡ length (filter (others call) (begun_calls (committed_entries entries))) + 1 =
          filter-drops (λ c. is_live (phase_of (committed_entries entries) c)) (others call) call (begun_calls (committed_entries entries)) (begun_once policy (setup_of old) (committed_entries entries) run) (begun_there call (committed_entries entries) begun) live
          (rw (live, same_call-refl call) refl) (λ b apart. agree b apart) in
          let few : length (filter (others call) (begun_calls (committed_entries entries))) ≤ length (without call old.calls) =
          enough (filter (others call) (begun_calls (committed_entries entries))) (without call old.calls) (once-filter (others call) (begun_calls (committed_entries entries)) (begun_once policy (setup_of old) (committed_entries entries) run))
          (λ c m. kept c (among_filter (others call) c (begun_calls (committed_entries entries)) m)) in
          omega (arith, fewer, drops, few, stood.live)
        where
          agree : (b : CallId) → same_call b call ≡ false
              → is_live (phase_of (committed_entries entries) b) ≡ others call b
          agree b apart = let s : same_call call b ≡ false = same_call-comm call b ∙ apart in rw s (sym (and_yes (is_live (phase_of (committed_entries entries) b))))
            where
              and_yes : (v : Bool) → (v && true) ≡ v
              and_yes true = refl
              and_yes false = refl

          kept : (c : CallId)
              → (others call c ≡ true)
              × (list_any (same_call c) (begun_calls (committed_entries entries)) ≡ true)
              → is_some (find_call c (without call old.calls)) ≡ true
          kept c m =
              let l : is_live (phase_of (committed_entries entries) c) ≡ true = and_left (is_live (phase_of (committed_entries entries) c)) (not (same_call call c)) m.0 in
              let apart : same_call call c ≡ false = not_true (same_call call c) (and_right (is_live (phase_of (committed_entries entries) c)) (not (same_call call c)) m.0) in
              ap is_some (without-other call c apart old.calls) ∙ found c l (was_begun c m.1 l)

          begun_of : (p : Phase) (n : ℕ) (o : Option BeginInput) → is_some (live_by p n o) ≡ true
              → is_some o ≡ true
          begun_of p n None h = h
          begun_of p n (Some b) h = refl

          live_of : (p : Phase) (n : ℕ) (o : Option BeginInput) → is_some (live_by p n o) ≡ true
              → is_live p ≡ true
          live_of p n None h = absurd (cc)
          live_of Unpolled n (Some b) h = refl
          live_of Queued n (Some b) h = refl
          live_of Loading n (Some b) h = refl
          live_of Signing n (Some b) h = refl
          live_of Unknown n (Some b) h = absurd (cc)
          live_of Ended n (Some b) h = absurd (cc)

  -- the record of this call among the others, if it has one
  abbrev with_record : CallId → Option CallRecord → List (CallId × CallRecord)
  with_record call None = without call old.calls
  with_record call (Some r) = (call, r) ∷ without call old.calls

  -- there is a desk where only this call changed
  changed : (base : DeskState K D) → base.calls ≡ old.calls → (call : CallId) (live : Option CallRecord)
      → (new : DeskState K D) × ChangesOnlyCall base call live new
  changed base same call live = (
    record base { calls = with_record call live },
    record {
      loaders = refl;
      rules = refl;
      handles = refl;
      caches = refl;
      queues = refl;
      greatest = refl;
      started = refl;
      this_call = this live;
      other_calls = λ other apart. other_call live other apart ∙ ap (find_call other) (sym same);
      count = rw same (count live);
    },
  )
    where
      this : (live : Option CallRecord) → find_call call (with_record call live) ≡ live
      this None = without-own call old.calls
      this (Some r) = rw (same_call-refl call) refl

      other_call : (live : Option CallRecord) (other : CallId) → same_call call other ≡ false
          → find_call other (with_record call live) ≡ find_call other old.calls
      other_call None other apart = without-other call other apart old.calls
      other_call (Some r) other apart = let s : same_call other call ≡ false = same_call-comm other call ∙ apart in rw s (without-other call other apart old.calls)

      count : (live : Option CallRecord)
          → length (with_record call live) + one_if (find_call call old.calls)
          ≡ length old.calls + one_if live
      count None = let k = once_kept call in omega (arith, k)
      count (Some r) = let k = once_kept call in omega (arith, k)

  -- a reply that is previewed is the reply of a step
  performed : (action : Action K D) (call : CallId) (reply : Reply K) → IsPlain old call action
      → Previews action reply → (new : DeskState K D) × Performs action call old reply new
  performed (Leaves given) call reply k h = (old, (h, refl))
  performed (Does effect) call reply k h = let s = changed effect.desk k.0 call effect.live in (s.0, (h, s.1))
  performed (Allocates effect) call reply k (inl h) = let s = changed effect.desk k.0.0 call effect.live in (s.0, inl (h, s.1))
  performed (Allocates effect) call reply k (inr h) = (old, inr (h, refl))

-- a reply that is previewed is the expected one, or out of memory at an event that allocates
pub preview-legal : {K D : Type 0} (policy : Policy K D) (old : DeskState K D)
    → IsWellFormedSetup (setup_of old) → (event : Event K) (reply : Reply K)
    → Previews (action_of policy old event) reply → (entries : List (Entry K)) → Represents policy old entries
    → IsLegalEntry policy (setup_of old) (committed_entries entries) (record { event = event; reply = reply })
preview-legal policy old set_up event reply h entries stood =
    let s = performed policy old entries stood (action_of policy old event) (call_of event) reply (action-plain old policy event) h in
    let at = refines-step policy old entries stood set_up reply s.0 event s.1 in
    entry-legal policy old s.0 entries (record { event = event; reply = reply }) at.setup at.represents
