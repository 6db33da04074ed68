-- How the one cache of a pool stands after events that fit: untouched, loading, or loaded for good.
use Rattle.std.proofs.Common.{◌≡◌, ℕ, ℤ, suc, ◌+◌, Bool, true, false, List, [], ◌∷◌, ◌++◌, Option, Some, None, is_some, inl, inr, filter, length, slice_get, refl, sym, ◌∙◌, ap, subst, arith, length-append}
use Rattle.std.specs.Option.{option_or}
use Rattle.std.proofs.lemmas.Bool.{false≢true}
use Rattle.sign_base.specs.declared.head.Head.{Head}
use Rattle.sign_base.specs.declared.call_id.CallId.{CallId}
use Rattle.sign_base.specs.Calls.{same_call}
use Rattle.sequential_signer.specs.Policy.{Policy}
use Rattle.sequential_signer.specs.Setup.{Setup, cache_of}
use Rattle.sequential_signer.specs.Transcript.{call_of, entries_of, is_out_of_memory}
use Rattle.sequential_signer.specs.Phase.{moves_call, phase_of, phase_by, is_waiting, is_loading, is_signing, is_new_number}
use Rattle.sequential_signer.specs.Turn.{has_turn}
use Rattle.sequential_signer.specs.Hold.{begin_of, begin_in}
use Rattle.sequential_signer.specs.SequentialCache.{sequential_cache}
use Rattle.sequential_signer.specs.ExpectedReply.{expected_reply, done_head}
use Rattle.sequential_signer.specs.Legal.{IsLegalEntry}
use Rattle.sequential_signer.specs.LawsOfCaches.{handed_out, serves_at}
use Rattle.sequential_signer.specs.Replies.{is_ask, is_done}
use Rattle.sequential_signer.specs.declared.event.Answer.{Answer}
use Rattle.sequential_signer.specs.declared.event.Answer.TheVariants.{Found}
use Rattle.sequential_signer.specs.declared.event.Entry.{Entry}
use Rattle.sequential_signer.specs.declared.event.Event.{Event}
use Rattle.sequential_signer.specs.declared.event.Event.TheVariants.{Begin, Poll, Provided, Signed, Cancel}
use Rattle.sequential_signer.specs.declared.event.Loader.TheVariants.{Single}
use Rattle.sequential_signer.specs.declared.event.Reply.{Reply}
use Rattle.sequential_signer.specs.declared.event.Reply.TheVariants.{Begun, Pending, Ask, Sign, Done}
use Rattle.sequential_signer.specs.declared.event.Verdict.{Verdict}
use Rattle.sequential_signer.specs.declared.event.Verdict.TheVariants.{Accepted}
use Rattle.std.specs.declared.time.Duration.{Duration}
use Rattle.sign_base.proofs.Calls.{same_call-eq, same_call-refl}
use Rattle.sequential_signer.proofs.Lists.{filter-more_yes, filter-more_no, list_all-more, false_by}
use Rattle.sequential_signer.proofs.OwnEntries.{to_queued, phase_in-pending}
use Rattle.sequential_signer.proofs.NewNumbers.{new_is_unbegun}
use Rattle.sequential_signer.proofs.LegalStep.{LegalStep}
use Rattle.sequential_signer.proofs.Run.{IsRun, more, legal_entry_step}
use Rattle.sequential_signer.proofs.CallInvariant.{Waits, Loads, HadTurn, phase-other, phase-own_mark, loads-own_mark, loads-own_unmarked}
use Rattle.sequential_signer.proofs.CallInvariantSteps.{run_waits, run_loads}
use Rattle.sequential_signer.proofs.CacheRows.{one_turn}
use Rattle.sequential_signer.proofs.HandedOut.{cache_own}
use Rattle.prompt_law.specs.Laws.{is_on_the_way_to_done}
use Rattle.prompt_law.proofs.CallPhases.{waiting_idles, queued_signing, begun_signs_not, phase-own, phase_is-in}
use Rattle.prompt_law.proofs.ExpectedAtOneProvider.{expected_begin, expected_wait, expected_done, asks_look, signs_look, signs_answer}
use Rattle.prompt_law.proofs.FittingEvents.{all_well, HasBegun, Fits}

-- a new number is of a call that was begun with nothing
new_begins_nothing : {K : Type 0} (entries : List (Entry K)) (call : CallId)
    → is_new_number entries call ≡ true → is_some (begin_of entries call) ≡ false
unfolding begin_in
new_begins_nothing entries call new = rw (new_is_unbegun call entries new) refl

module _ {K D : Type 0} (policy : Policy K D) (setup : Setup D) (c : K) (moment : ℤ) where
  -- how many entries ask a provider, and how many are done
  abbrev pub asks : List (Entry K) → ℕ
  asks entries = length (filter (λ e. is_ask e.reply) entries)

  abbrev pub dones : List (Entry K) → ℕ
  dones entries = length (filter (λ e. is_done e.reply) entries)

  -- no call of the cache loads, and none is handed to the service
  abbrev pub NobodyLoads : List (Entry K) → Type 0
  NobodyLoads entries = (b : CallId) → cache_of setup b ≡ Some 0 → is_loading (phase_of entries b) ≡ false

  abbrev pub NobodySigns : List (Entry K) → Type 0
  NobodySigns entries = (b : CallId) → cache_of setup b ≡ Some 0 → is_signing (phase_of entries b) ≡ false

  -- nobody asked yet; one call asked, and is not answered; the credential is there, and nobody will ask again
  pub data PoolState (entries : List (Entry K)) : Type 0 where
    untouched : sequential_cache policy setup entries 0 ≡ None → asks entries ≡ 0 → dones entries ≡ 0
        → NobodyLoads entries → NobodySigns entries → PoolState entries
    loading : (x : CallId) → cache_of setup x ≡ Some 0 → is_loading (phase_of entries x) ≡ true
        → sequential_cache policy setup entries 0 ≡ None → asks entries ≡ 1 → dones entries ≡ 0
        → NobodySigns entries → PoolState entries
    loaded : sequential_cache policy setup entries 0 ≡ Some c → asks entries ≡ 1 → NobodyLoads entries
        → PoolState entries

  -- a run in which all went well, and the state of its cache
  pub record IsPool (entries : List (Entry K)) : Type 0 where
    pub run : IsRun policy setup entries
    pub well : all_well entries ≡ true
    pub state : PoolState entries

  module _ (entries : List (Entry K)) (event : Event K) (reply : Reply K) where
    abbrev next : List (Entry K)
    next = entries ++ record { event = event; reply = reply } ∷ []

    asks_same : is_ask reply ≡ false → asks next ≡ asks entries
    asks_same h = ap length (filter-more_no (λ (e : Entry K). is_ask e.reply) entries (record { event = event; reply = reply }) h)

    asks_more : is_ask reply ≡ true → asks next ≡ suc (asks entries)
    asks_more h =
        ap length (filter-more_yes (λ (e : Entry K). is_ask e.reply) entries (record { event = event; reply = reply }) h)
        ∙ length-append (filter (λ (e : Entry K). is_ask e.reply) entries) (record { event = event; reply = reply } ∷ [])
        ∙ one_more (asks entries)
      where
        one_more : (n : ℕ) → n + 1 ≡ suc n
        one_more n = omega arith

    dones_same : is_done reply ≡ false → dones next ≡ dones entries
    dones_same h = ap length (filter-more_no (λ (e : Entry K). is_done e.reply) entries (record { event = event; reply = reply }) h)

    -- a mark that asks nobody leaves nobody loading where no other call loads
    idle_mark : moves_call reply ≡ true → is_ask reply ≡ false
        → ((b : CallId) → cache_of setup b ≡ Some 0 → same_call b (call_of event) ≡ false
        → is_loading (phase_of entries b) ≡ false)
        → NobodyLoads next
    idle_mark m a others b at = by_call (same_call b (call_of event)) refl
      where
        by_call : (s : Bool) → same_call b (call_of event) ≡ s → is_loading (phase_of next b) ≡ false
        by_call true s = loads-own_mark setup entries 0 (record { event = event; reply = reply }) b s m ∙ a
        by_call false s = ap is_loading (phase-other setup entries 0 (record { event = event; reply = reply }) b s) ∙ others b at s

    idle_unmarked : moves_call reply ≡ false → NobodyLoads entries → NobodyLoads next
    idle_unmarked m idle b at = by_call (same_call b (call_of event)) refl
      where
        by_call : (s : Bool) → same_call b (call_of event) ≡ s → is_loading (phase_of next b) ≡ false
        by_call true s = loads-own_unmarked setup entries 0 (record { event = event; reply = reply }) b s m ∙ idle b at
        by_call false s = ap is_loading (phase-other setup entries 0 (record { event = event; reply = reply }) b s) ∙ idle b at

    -- a mark by which no call signs leaves nobody signing
    unsigned_mark : moves_call reply ≡ true → ((w : Bool) → is_signing (phase_by w reply) ≡ false)
        → NobodySigns entries → NobodySigns next
    unsigned_mark m never idle b at = by_call (same_call b (call_of event)) refl
      where
        by_call : (s : Bool) → same_call b (call_of event) ≡ s → is_signing (phase_of next b) ≡ false
        by_call true s = ap is_signing (phase-own_mark setup entries 0 (record { event = event; reply = reply }) b s m) ∙ never _
        by_call false s = ap is_signing (phase-other setup entries 0 (record { event = event; reply = reply }) b s) ∙ idle b at

  -- nor does a poll that waits
  unsigned_pending : (entries : List (Entry K)) (call : CallId) (now : ℤ) → NobodySigns entries
      → NobodySigns (next entries (Poll call now) Pending)
  unsigned_pending entries call now idle b at = by_call (same_call b call) refl
    where
      by_call : (s : Bool) → same_call b call ≡ s
          → is_signing (phase_of (next entries (Poll call now) Pending) b) ≡ false
      by_call true s =
          ap is_signing (phase-own entries b (record { event = Poll call now; reply = Pending }) s ∙ phase_in-pending (entries_of entries b) call now ∙ ap to_queued (phase_is-in entries b))
          ∙ queued_signing (phase_of entries b) ∙ idle b at
      by_call false s = ap is_signing (phase-other setup entries 0 (record { event = Poll call now; reply = Pending }) b s) ∙ idle b at

  module _ (loads : slice_get setup.loaders 0 ≡ Some Single) (entries : List (Entry K)) (pool : IsPool entries) where
    -- the cache holds what is handed out, or else what it held
    cache_next : (event : Event K) (reply : Reply K) → LegalStep policy setup entries event reply
        → cache_of setup (call_of event) ≡ Some 0
        → sequential_cache policy setup (next entries event reply) 0
        ≡ option_or (handed_out reply) (sequential_cache policy setup entries 0)
    cache_next event reply step at = cache_own policy setup entries pool.run event reply step 0 at

    grows : (event : Event K) (reply : Reply K) → LegalStep policy setup entries event reply
        → is_on_the_way_to_done reply ≡ true → PoolState (next entries event reply) → IsPool (next entries event reply)
    grows event reply step well state = record {
      run = more entries event reply pool.run step;
      well = list_all-more (λ (e : Entry K). is_on_the_way_to_done e.reply) entries (record { event = event; reply = reply }) ∙ rw (pool.well, well) refl;
      state = state;
    }

    -- a begin
    begun_state : (call : CallId) (head : Head) (expires_in : Option Duration)
        → LegalStep policy setup entries (Begin call head expires_in) Begun → cache_of setup call ≡ Some 0
        → is_new_number entries call ≡ true → PoolState entries
        → PoolState (next entries (Begin call head expires_in) Begun)
    begun_state call head expires_in step at new (untouched empty a d idle unsigned) =
        let e : Event K = Begin call head expires_in in
        untouched (cache_next e Begun step at ∙ empty) (asks_same entries e Begun refl ∙ a) (dones_same entries e Begun refl ∙ d)
        (idle_mark entries e Begun refl refl (λ b atb s. idle b atb)) (unsigned_mark entries e Begun refl (begun_signs_not K) unsigned)
    begun_state call head expires_in step at new (loading x atx l empty a d unsigned) =
        let e : Event K = Begin call head expires_in in
        let others : same_call x call ≡ false = false_by (same_call x call) (λ s.
        let had : is_some (begin_of entries x) ≡ true = (run_loads policy setup entries pool.run x 0 atx l).begun in
        let none : is_some (begin_of entries call) ≡ false = new_begins_nothing entries call new in
        false≢true (sym none ∙ ap (λ v. is_some (begin_of entries v)) (sym (same_call-eq x call s)) ∙ had)) in
        loading x atx (ap is_loading (phase-other setup entries 0 (record { event = e; reply = Begun }) x others) ∙ l)
        (cache_next e Begun step at ∙ empty) (asks_same entries e Begun refl ∙ a) (dones_same entries e Begun refl ∙ d) (unsigned_mark entries e Begun refl (begun_signs_not K) unsigned)
    begun_state call head expires_in step at new (loaded full a idle) =
        let e : Event K = Begin call head expires_in in
        loaded (cache_next e Begun step at ∙ full) (asks_same entries e Begun refl ∙ a) (idle_mark entries e Begun refl refl (λ b atb s. idle b atb))

    -- a poll before the turn
    pending_state : (call : CallId) (now : ℤ) → LegalStep policy setup entries (Poll call now) Pending
        → cache_of setup call ≡ Some 0 → PoolState entries → PoolState (next entries (Poll call now) Pending)
    pending_state call now step at (untouched empty a d idle unsigned) =
        let e : Event K = Poll call now in
        untouched (cache_next e Pending step at ∙ empty) (asks_same entries e Pending refl ∙ a) (dones_same entries e Pending refl ∙ d)
        (idle_unmarked entries e Pending refl idle) (unsigned_pending entries call now unsigned)
    pending_state call now step at (loading x atx l empty a d unsigned) =
        let e : Event K = Poll call now in
        loading x atx (still (same_call x call) refl) (cache_next e Pending step at ∙ empty) (asks_same entries e Pending refl ∙ a) (dones_same entries e Pending refl ∙ d) (unsigned_pending entries call now unsigned)
      where
        still : (s : Bool) → same_call x call ≡ s
            → is_loading (phase_of (next entries (Poll call now) Pending) x) ≡ true
        still true s = loads-own_unmarked setup entries 0 (record { event = Poll call now; reply = Pending }) x s refl ∙ l
        still false s = ap is_loading (phase-other setup entries 0 (record { event = Poll call now; reply = Pending }) x s) ∙ l
    pending_state call now step at (loaded full a idle) =
        let e : Event K = Poll call now in
        loaded (cache_next e Pending step at ∙ full) (asks_same entries e Pending refl ∙ a) (idle_unmarked entries e Pending refl idle)

    -- the first look asks
    ask_state : (call : CallId) (now : ℤ) → LegalStep policy setup entries (Poll call now) (Ask 0)
        → cache_of setup call ≡ Some 0 → sequential_cache policy setup entries 0 ≡ None → asks entries ≡ 0
        → dones entries ≡ 0 → NobodySigns entries → PoolState (next entries (Poll call now) (Ask 0))
    ask_state call now step at empty a d unsigned =
        let e : Event K = Poll call now in
        loading call at (loads-own_mark setup entries 0 (record { event = e; reply = Ask 0 }) call (same_call-refl call) refl)
        (cache_next e (Ask 0) step at ∙ empty) (asks_more entries e (Ask 0) refl ∙ ap suc a) (dones_same entries e (Ask 0) refl ∙ d)
        (unsigned_mark entries e (Ask 0) refl (λ w. refl) unsigned)

    -- a credential that is handed out is there for good
    sign_state : (event : Event K) (wake : Option CallId) → LegalStep policy setup entries event (Sign c wake)
        → cache_of setup (call_of event) ≡ Some 0 → asks entries ≡ 1
        → ((b : CallId) → cache_of setup b ≡ Some 0 → same_call b (call_of event) ≡ false
        → is_loading (phase_of entries b) ≡ false)
        → PoolState (next entries event (Sign c wake))
    sign_state event wake step at a others =
        loaded (cache_next event (Sign c wake) step at) (asks_same entries event (Sign c wake) refl ∙ a) (idle_mark entries event (Sign c wake) refl refl others)

    done_state : (event : Event K) (head : Head) → LegalStep policy setup entries event (Done head)
        → cache_of setup (call_of event) ≡ Some 0 → sequential_cache policy setup entries 0 ≡ Some c
        → asks entries ≡ 1 → NobodyLoads entries → PoolState (next entries event (Done head))
    done_state event head step at full a idle =
        loaded (cache_next event (Done head) step at ∙ full) (asks_same entries event (Done head) refl ∙ a) (idle_mark entries event (Done head) refl refl (λ b atb s. idle b atb))

    -- beside a call that loads none waits at its turn, and no other loads
    turn_alone : (x call : CallId) → cache_of setup x ≡ Some 0 → is_loading (phase_of entries x) ≡ true
        → cache_of setup call ≡ Some 0 → is_waiting (phase_of entries call) ≡ true
        → has_turn setup entries 0 call ≡ true → ⊥
    turn_alone x call atx l at w t = by_call (same_call x call) refl
      where
        by_call : (s : Bool) → same_call x call ≡ s → ⊥
        by_call true s =
            let bad : is_loading (phase_of entries call) ≡ true = ap (λ v. is_loading (phase_of entries v)) (sym (same_call-eq x call s)) ∙ l in
            false≢true (sym (waiting_idles (phase_of entries call) w) ∙ bad)
        by_call false s =
            let y : Loads setup entries 0 x = run_loads policy setup entries pool.run x 0 atx l in
            let z : Waits setup entries 0 call = run_waits policy setup entries pool.run call 0 at w in
            one_turn setup entries 0 x call s y.had.polled y.had.turn y.unfinished t z.unfinished

    loads_alone : (x b : CallId) → cache_of setup x ≡ Some 0 → is_loading (phase_of entries x) ≡ true
        → cache_of setup b ≡ Some 0 → same_call b x ≡ false → is_loading (phase_of entries b) ≡ false
    loads_alone x b atx l at s = false_by (is_loading (phase_of entries b)) (λ m.
        let y : Loads setup entries 0 x = run_loads policy setup entries pool.run x 0 atx l in
        let z : Loads setup entries 0 b = run_loads policy setup entries pool.run b 0 at m in
        one_turn setup entries 0 b x s z.had.polled z.had.turn z.unfinished y.had.turn y.unfinished)

    -- the entry has its expected reply
    due : (event : Event K) (reply : Reply K) → is_out_of_memory reply ≡ false
        → IsLegalEntry policy setup entries (record { event = event; reply = reply })
        → reply ≡ expected_reply policy setup entries event
    due event reply m (inl e) = e
    due event reply m (inr lost) = absurd (false≢true (sym m ∙ ap is_out_of_memory lost.0))

    -- with a reply that is known
    with_reply : (event : Event K) (reply known : Reply K) → reply ≡ known → IsPool (next entries event known)
        → IsPool (next entries event reply)
    with_reply event reply known e p = subst (λ (r : Reply K). IsPool (next entries event r)) (sym e) p

    step_as : (event : Event K) (reply known : Reply K) → is_out_of_memory reply ≡ false
        → IsLegalEntry policy setup entries (record { event = event; reply = reply }) → reply ≡ known
        → LegalStep policy setup entries event known
    step_as event reply known m legal e = subst (λ (r : Reply K). LegalStep policy setup entries event r) e (legal_entry_step policy setup entries (record { event = event; reply = reply }) m legal)

    module _ (reply : Reply K) (m : is_out_of_memory reply ≡ false) where
      poll_turn : (call : CallId) (now : ℤ)
          → IsLegalEntry policy setup entries (record { event = Poll call now; reply = reply })
          → HasBegun policy setup c moment entries call → is_waiting (phase_of entries call) ≡ true
          → now ≡ moment → has_turn setup entries 0 call ≡ true → PoolState entries
          → IsPool (next entries (Poll call now) reply)
      poll_turn call now legal h w e t (untouched empty a d idle unsigned) =
          let is : reply ≡ Ask 0 = due (Poll call now) reply m legal ∙ asks_look policy setup loads entries call h.cache h.rule h.ruled h.begin h.begun now w t empty in
          let step : LegalStep policy setup entries (Poll call now) (Ask 0) = step_as (Poll call now) reply (Ask 0) m legal is in
          with_reply (Poll call now) reply (Ask 0) is (grows (Poll call now) (Ask 0) step refl (ask_state call now step h.cache empty a d unsigned))
      poll_turn call now legal h w e t (loading x atx l empty a d unsigned) = absurd (turn_alone x call atx l h.cache w t)
      poll_turn call now legal h w e t (loaded full a idle) =
          let lasts : serves_at policy c h.rule h.begin.duration now ≡ true = ap (serves_at policy c h.rule h.begin.duration) e ∙ h.lasts in
          let given = signs_look policy setup loads entries call h.cache h.rule h.ruled h.begin h.begun c now w t full lasts in
          let is : reply ≡ Sign c given.0 = due (Poll call now) reply m legal ∙ given.1 in
          let step : LegalStep policy setup entries (Poll call now) (Sign c given.0) = step_as (Poll call now) reply (Sign c given.0) m legal is in
          with_reply (Poll call now) reply (Sign c given.0) is (grows (Poll call now) (Sign c given.0) step refl (sign_state (Poll call now) given.0 step h.cache a (λ b atb s. idle b atb)))

      poll_pool : (call : CallId) (now : ℤ)
          → IsLegalEntry policy setup entries (record { event = Poll call now; reply = reply })
          → HasBegun policy setup c moment entries call → is_waiting (phase_of entries call) ≡ true
          → now ≡ moment → (t : Bool) → has_turn setup entries 0 call ≡ t
          → IsPool (next entries (Poll call now) reply)
      poll_pool call now legal h w e true t = poll_turn call now legal h w e t pool.state
      poll_pool call now legal h w e false t =
          let is : reply ≡ Pending = due (Poll call now) reply m legal ∙ expected_wait policy setup loads entries call h.cache now w t in
          let step : LegalStep policy setup entries (Poll call now) Pending = step_as (Poll call now) reply Pending m legal is in
          with_reply (Poll call now) reply Pending is (grows (Poll call now) Pending step refl (pending_state call now step h.cache pool.state))

      begin_pool : (call : CallId) (head : Head) (expires_in : Option Duration)
          → IsLegalEntry policy setup entries (record { event = Begin call head expires_in; reply = reply })
          → cache_of setup call ≡ Some 0 → is_new_number entries call ≡ true
          → IsPool (next entries (Begin call head expires_in) reply)
      begin_pool call head expires_in legal at new =
          let is : reply ≡ Begun = due (Begin call head expires_in) reply m legal ∙ expected_begin policy setup loads entries call at head expires_in new in
          let step : LegalStep policy setup entries (Begin call head expires_in) Begun = step_as (Begin call head expires_in) reply Begun m legal is in
          with_reply (Begin call head expires_in) reply Begun is (grows (Begin call head expires_in) Begun step refl (begun_state call head expires_in step at new pool.state))

      answer_pool : (call : CallId) (now : ℤ) (answer : Answer K)
          → IsLegalEntry policy setup entries (record { event = Provided call now answer; reply = reply })
          → HasBegun policy setup c moment entries call → is_loading (phase_of entries call) ≡ true
          → now ≡ moment → answer ≡ Found c → PoolState entries
          → IsPool (next entries (Provided call now answer) reply)
      answer_pool call now answer legal h l e found (untouched empty a d idle unsigned) = absurd (false≢true (sym (idle call h.cache) ∙ l))
      answer_pool call now answer legal h l e found (loaded full a idle) = absurd (false≢true (sym (idle call h.cache) ∙ l))
      answer_pool call now answer legal h l e found (loading x atx lx empty a d unsigned) =
          let had : HadTurn setup entries 0 call = (run_loads policy setup entries pool.run call 0 h.cache l).had in
          let lasts : serves_at policy c h.rule h.begin.duration now ≡ true = ap (serves_at policy c h.rule h.begin.duration) e ∙ h.lasts in
          let given = signs_answer policy setup loads entries call h.cache h.rule h.ruled h.begin h.begun c now had.moment l had.at empty lasts in
          let is : reply ≡ Sign c given.0 =
          due (Provided call now answer) reply m legal ∙ ap (λ (v : Answer K). expected_reply policy setup entries (Provided call now v)) found ∙ given.1 in
          let step : LegalStep policy setup entries (Provided call now answer) (Sign c given.0) = step_as (Provided call now answer) reply (Sign c given.0) m legal is in
          with_reply (Provided call now answer) reply (Sign c given.0) is
          (grows (Provided call now answer) (Sign c given.0) step refl (sign_state (Provided call now answer) given.0 step h.cache a (λ b atb s. loads_alone call b h.cache l atb s)))

      verdict_pool : (call : CallId) (verdict : Verdict) (made : Head)
          → IsLegalEntry policy setup entries (record { event = Signed call verdict; reply = reply })
          → cache_of setup call ≡ Some 0 → is_signing (phase_of entries call) ≡ true → verdict ≡ Accepted made
          → PoolState entries → IsPool (next entries (Signed call verdict) reply)
      verdict_pool call verdict made legal at s is_made (untouched empty a d idle unsigned) = absurd (false≢true (sym (unsigned call at) ∙ s))
      verdict_pool call verdict made legal at s is_made (loading x atx l empty a d unsigned) = absurd (false≢true (sym (unsigned call at) ∙ s))
      verdict_pool call verdict made legal at s is_made (loaded full a idle) =
          let head : Head = done_head (begin_of entries call) made in
          let is : reply ≡ Done head =
          due (Signed call verdict) reply m legal ∙ ap (λ (v : Verdict). expected_reply policy setup entries (Signed call v)) is_made ∙ expected_done policy setup loads entries call at made s in
          let step : LegalStep policy setup entries (Signed call verdict) (Done head) = step_as (Signed call verdict) reply (Done head) m legal is in
          with_reply (Signed call verdict) reply (Done head) is (grows (Signed call verdict) (Done head) step refl (done_state (Signed call verdict) head step at full a idle))

      -- an event that fits leaves a pool
      pub event_pool : (event : Event K)
          → IsLegalEntry policy setup entries (record { event = event; reply = reply })
          → Fits policy setup c moment entries event → IsPool (next entries event reply)
      event_pool (Begin call head expires_in) legal f = begin_pool call head expires_in legal f.0 f.1
      event_pool (Poll call now) legal f = poll_pool call now legal f.0 f.1 f.2 (has_turn setup entries 0 call) refl
      event_pool (Provided call now answer) legal f = answer_pool call now answer legal f.0 f.1 f.2 f.3 pool.state
      event_pool (Signed call verdict) legal f = verdict_pool call verdict f.2.0 legal f.0 f.1 f.2.1 pool.state
      event_pool (Cancel call) legal f = absurd f
