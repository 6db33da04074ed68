-- A desk without live calls has nobody in its queues, so it is known by its setup and what it keeps beside.
use Rattle.std.proofs.Common.{◌≡◌, ◌≢◌, MatchBool, ℕ, zero, suc, Bool, true, false, not, cond, ◌&&◌, ◌||◌, ◌<◌, ◌≤◌, List, [], ◌∷◌, Some, is_some, map, option_map, slice_get, length, filter, refl, sym, ◌∙◌, ap, arith}
use Rattle.std.specs.List.{list_any}
use Rattle.sign_base.specs.declared.call_id.CallId.{CallId}
use Rattle.sign_base.specs.Calls.{same_call}
use Rattle.sign_base.proofs.Calls.{same_call-refl}
use Rattle.sequential_signer.specs.Policy.{Policy}
use Rattle.sequential_signer.specs.Setup.{Setup, cache_of, is_of_cache}
use Rattle.sequential_signer.specs.Transcript.{committed_entries}
use Rattle.sequential_signer.specs.Phase.{Phase, Unknown, Unpolled, Queued, Loading, Signing, Ended, phase_of, is_live}
use Rattle.sequential_signer.specs.Turn.{poll_order, hold_is_finished, open_calls}
use Rattle.sequential_signer.specs.Hold.{begin_of}
use Rattle.sequential_signer.specs.LiveCall.{begun_calls, live_calls}
use Rattle.sequential_signer.specs.declared.event.Entry.{Entry}
use Rattle.sequential_signer.proofs.Lists.{or_true}
use Rattle.sequential_signer.proofs.PollOrder.{is_polled}
use Rattle.sequential_signer.proofs.Run.{IsRun, legal_run}
use Rattle.sequential_signer.proofs.CallInvariant.{CallInvariant, unknown_call, unpolled_call, queued_call, loading_call, signing_call, over_call, cancelled_call}
use Rattle.sequential_signer.proofs.CallInvariantSteps.{stands}
use Rattle.sequential_signer.proofs.CacheLaw.{list_all-member, is_number-eq, order_of_cache}
use Rattle.sequential_signer.proofs.BegunCalls.{begun_there}
use Rattle.desk_parts.specs.Tables.{setup_of}
use Rattle.sign_desk.specs.TranscriptQueue.{is_unpolled, unpolled_calls, queue_of}
use Rattle.sign_desk.specs.DeskState.{DeskState}
use Rattle.sign_desk.specs.IsDesk.{IsDesk}
use Rattle.sign_desk.specs.Idle.{IdleState, IsIdleAt, empty_queue, desk_at, with_idle}
use Rattle.sign_desk.proofs.StepPreconditionLemmas.{passes_some, fewer_pass, unpolled_live}

-- a list that has at each place what stands at another's place, mapped, is that other, mapped
mapped_same : {A B : Type 0} (f : B → A) (xs : List A) (ys : List B)
    → ((i : ℕ) → slice_get xs i ≡ option_map f (slice_get ys i)) → xs ≡ map f ys
mapped_same f [] [] h = refl
mapped_same f [] (y ∷ ys) h = let e = h zero in absurd (cc)
mapped_same f (x ∷ xs) [] h = let e = h zero in absurd (cc)
mapped_same f (x ∷ xs) (y ∷ ys) h =
    let e : Some x ≡ Some (f y) = h zero in
    let here : x ≡ f y = cc in
    let rest : xs ≡ map f ys = mapped_same f xs ys (λ i. h (suc i)) in
    rw (here, rest) refl

no_items : {A : Type 0} (xs : List A) → length xs ≡ 0 → xs ≡ []
no_items [] h = refl
no_items (x ∷ xs) h = absurd (omega (arith, h))

-- none of a list passes a test that none of its calls passes
none_pass : (p : CallId → Bool) (xs : List CallId)
    → ((c : CallId) → list_any (same_call c) xs ≡ true → p c ≡ true → ⊥) → filter p xs ≡ []
none_pass p [] h = refl
none_pass p (x ∷ xs) h = by_test (p x) refl (none_pass p xs (λ c m. h c (ap (λ v. same_call c x || v) m ∙ or_true (same_call c x))))
  where
    by_test : (b : Bool) → p x ≡ b → filter p xs ≡ [] → cond b (x ∷ filter p xs) (filter p xs) ≡ []
    by_test true e later = absurd (h x (ap (λ v. v || list_any (same_call x) xs) (same_call-refl x)) e)
    by_test false e later = later

is_not : (b : Bool) → not b ≡ true → b ≡ false
is_not false h = refl
is_not true h = cc

empty_is : (line : List CallId) (n : ℕ) → line ≡ [] → n ≡ 0
    → record { line = line; reserved = n } ≡ empty_queue
empty_is line n h k = rw (h, k) refl

module _ {K D : Type 0} (policy : Policy K D) (setup : Setup D) (entries : List (Entry K))
    (run : IsRun policy setup entries) where
  -- a call that was polled, and whose hold is open, was begun and is live
  open_lives : (call : CallId) (i : ℕ) (p : Phase) → is_polled setup entries i call ≡ true
      → hold_is_finished entries call ≡ false → CallInvariant setup entries i call p
      → (is_live p ≡ true) × (is_some (begin_of entries call) ≡ true)
  open_lives call i Unknown polled unfinished (unknown_call b) = let u = b.unpolled in absurd (cc)
  open_lives call i Unpolled polled unfinished (unpolled_call w _ _) = (refl, w.begun)
  open_lives call i Queued polled unfinished (queued_call w _) = (refl, w.begun)
  open_lives call i Loading polled unfinished (loading_call l) = (refl, l.begun)
  open_lives call i Signing polled unfinished (signing_call s) = let f = s.finished in absurd (cc)
  open_lives call i Ended polled unfinished (over_call s) = let f = s.finished in absurd (cc)
  open_lives call i Ended polled unfinished (cancelled_call s) = let f = s.finished in absurd (cc)

  module _ (none : length (live_calls entries) ≡ 0) (i : ℕ) where
    no_open_call : (call : CallId) → list_any (same_call call) (poll_order setup entries i) ≡ true
        → not (hold_is_finished entries call) ≡ true → ⊥
    no_open_call call polled unfinished =
        let at : cache_of setup call ≡ Some i = is_number-eq i (cache_of setup call) (list_all-member (is_of_cache setup i) call (poll_order setup entries i) (order_of_cache setup entries i) polled) in
        let lives = open_lives call i (phase_of entries call) polled (is_not (hold_is_finished entries call) unfinished) (stands policy setup entries run call i at) in
        let some : 0 < length (live_calls entries) = passes_some (λ c. is_live (phase_of entries c)) call (begun_calls entries) (begun_there call entries lives.1) lives.0 in
        absurd (omega (arith, some, none))

    -- where no call is live, nobody is in the queue of a cache
    nobody_waits : queue_of setup entries i ≡ empty_queue
    nobody_waits =
        let fewer : length (unpolled_calls setup entries i) ≤ length (live_calls entries) = fewer_pass (λ call. is_of_cache setup i call && is_unpolled (phase_of entries call)) (λ call. is_live (phase_of entries call)) (λ call p. unpolled_live (is_of_cache setup i call) (phase_of entries call) p) (begun_calls entries) in
        empty_is (open_calls setup entries i) (length (unpolled_calls setup entries i)) (none_pass (λ call. not (hold_is_finished entries call)) (poll_order setup entries i) no_open_call) (omega (arith, fewer, none))

module _ {K D : Type 0} (policy : Policy K D) (desk : DeskState K D) (stood : IsDesk policy desk)
    (idle : length desk.calls ≡ 0) where
  abbrev before : List (Entry K)
  before = committed_entries stood.entries

  none_live : length (live_calls (committed_entries stood.entries)) ≡ 0
  none_live = sym stood.represents.live ∙ idle

  -- nobody is in a queue
  pub empty-queues : desk.queues ≡ map (λ _. empty_queue) desk.loaders
  empty-queues =
      mapped_same (λ _. empty_queue) desk.queues desk.loaders
      (λ i. stood.represents.queues i ∙ ap (λ q. option_map (λ _. q) (slice_get desk.loaders i)) (nobody_waits policy (setup_of desk) (committed_entries stood.entries) (legal_run policy (setup_of desk) stood.entries stood.represents.legal) none_live i))

  -- a desk without live calls is known by its setup and what it keeps beside
  pub idle-at : (kept : IdleState K) → IsIdleAt desk kept → desk ≡ desk_at (setup_of desk) kept
  idle-at kept at = λ i. let d : DeskState K D = record desk {
    caches = at.caches i;
    queues = empty-queues i;
    greatest = at.greatest i;
    started = at.started i;
    calls = no_items desk.calls idle i;
  } in d

  -- and it is like another one of the same setup, once it has taken over what that keeps
  pub idle-like : (other : DeskState K D)
      → setup_of desk ≡ setup_of other → (kept : IdleState K) → other ≡ desk_at (setup_of other) kept
      → with_idle kept desk ≡ other
  idle-like other setup kept is =
      (λ i. let d : DeskState K D = record (with_idle kept desk) {
        queues = empty-queues i;
        calls = no_items desk.calls idle i;
      } in d)
      ∙ ap (λ s. desk_at s kept) setup
      ∙ sym is

-- a desk that is known by its setup and what is kept beside, keeps this
pub at-idle : {K D : Type 0} (desk : DeskState K D) (kept : IdleState K)
    → desk ≡ desk_at (setup_of desk) kept → IsIdleAt desk kept
at-idle {K} {D} desk kept is = record {
  calls = ap (λ (d : DeskState K D). length d.calls) is;
  caches = ap (λ (d : DeskState K D). d.caches) is;
  greatest = ap (λ (d : DeskState K D). d.greatest) is;
  started = ap (λ (d : DeskState K D). d.started) is;
}

-- by a test of what it keeps one sees whether a desk is that one
pub idle-test : {K D : Type 0} (policy : Policy K D) (desk : DeskState K D) → IsDesk policy desk
    → (kept : IdleState K) (b : Bool) → MatchBool b (IsIdleAt desk kept) (IsIdleAt desk kept → ⊥)
    → MatchBool b (desk ≡ desk_at (setup_of desk) kept) (desk ≢ desk_at (setup_of desk) kept)
idle-test policy desk stood kept true at = idle-at policy desk stood at.calls kept at
idle-test policy desk stood kept false differs = λ is. differs (at-idle desk kept is)
