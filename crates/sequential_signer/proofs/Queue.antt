-- The open calls of a cache, as its lock has them: who has the turn, and who leaves.
use Rattle.std.proofs.Common.{◌≡◌, if◌then◌else◌, ℕ, Bool, true, false, not, cond, ◌&&◌, ◌||◌, List, [], ◌∷◌, ◌++◌, filter, refl, sym, ◌∙◌, ap}
use Rattle.std.specs.List.{list_any, list_all}
use Rattle.sign_base.specs.declared.call_id.CallId.{CallId}
use Rattle.sequential_signer.specs.Setup.{Setup}
use Rattle.sign_base.specs.Calls.{same_call, is_first}
use Rattle.sequential_signer.specs.Transcript.{call_of}
use Rattle.sequential_signer.specs.Turn.{before_call, ends_hold, poll_order, hold_is_finished, has_turn, open_calls}
use Rattle.sequential_signer.specs.declared.event.Entry.{Entry}
use Rattle.sign_base.proofs.Calls.{same_call-eq}
use Rattle.sequential_signer.proofs.CallNames.{before_call-absent}
use Rattle.sequential_signer.proofs.Lists.{or_false}
use Rattle.sequential_signer.proofs.PollOrder.{is_polled, hold_is_finished-own, hold_is_finished-other}

-- whether there is no call in the list
abbrev pub has_nobody : List CallId → Bool
has_nobody [] = true
has_nobody (x ∷ rest) = false

module _ (fin : CallId → Bool) where
  -- the open holds of the list, in order
  abbrev pub open_holds : List CallId → List CallId
  open_holds xs = filter (λ x. not (fin x)) xs

  first_here : (call x : CallId) (xs : List CallId) → fin call ≡ false → same_call call x ≡ true
      → list_all fin (before_call call (x ∷ xs)) ≡ is_first call (open_holds (x ∷ xs))
  first_here call x xs o s =
      let here : fin x ≡ false = ap fin (sym (same_call-eq call x s)) ∙ o in
      rw (s, here, s) refl

  first_later : (call x : CallId) (xs : List CallId) → same_call call x ≡ false → (f : Bool) → fin x ≡ f
      → list_all fin (before_call call xs) ≡ is_first call (open_holds xs)
      → list_all fin (before_call call (x ∷ xs)) ≡ is_first call (open_holds (x ∷ xs))
  first_later call x xs s true h rest = rw (s, h) rest
  first_later call x xs s false h rest = rw (s, h, s) refl

  -- of an open hold that is in the list, all before it are finished exactly where it is the first open one
  first-open : (call : CallId) (xs : List CallId) → fin call ≡ false → list_any (same_call call) xs ≡ true
      → list_all fin (before_call call xs) ≡ is_first call (open_holds xs)
  first-open call [] o m = cc
  first-open call (x ∷ xs) o m = by_place (same_call call x) refl m (λ k. first-open call xs o k)
    where
      by_place : (s : Bool) → same_call call x ≡ s → (s || list_any (same_call call) xs) ≡ true
          → (list_any (same_call call) xs ≡ true
          → list_all fin (before_call call xs) ≡ is_first call (open_holds xs))
          → list_all fin (before_call call (x ∷ xs)) ≡ is_first call (open_holds (x ∷ xs))
      by_place true e m rest = first_here call x xs o e
      by_place false e m rest = first_later call x xs e (fin x) refl (rest m)

  -- all holds of the list are finished exactly where none is open
  pub all-finished : (xs : List CallId) → list_all fin xs ≡ has_nobody (open_holds xs)
  all-finished [] = refl
  all-finished (x ∷ xs) =
      (elim (fin x) as (λ v. (v && list_all fin xs) ≡ has_nobody (cond (not v) (x ∷ open_holds xs) (open_holds xs)))
      [ true ↦ all-finished xs | false ↦ refl ])

-- what stands after the call, where it stands first; else nothing
abbrev pub after_first : CallId → List CallId → List CallId
after_first call [] = []
after_first call (x ∷ rest) = if same_call call x then rest else []

module _ {K D : Type 0} (setup : Setup D) where
  -- a call that was polled and whose hold is open has its turn exactly where it holds
  pub has_turn-polled : (entries : List (Entry K)) (i : ℕ) (call : CallId)
      → hold_is_finished entries call ≡ false → is_polled setup entries i call ≡ true
      → has_turn setup entries i call ≡ is_first call (open_calls setup entries i)
  unfolding has_turn
  has_turn-polled entries i call o m = first-open (hold_is_finished entries) call (poll_order setup entries i) o m

  -- a call that was not polled has its turn exactly where nobody holds
  pub has_turn-unpolled : (entries : List (Entry K)) (i : ℕ) (call : CallId)
      → is_polled setup entries i call ≡ false
      → has_turn setup entries i call ≡ has_nobody (open_calls setup entries i)
  unfolding has_turn
  has_turn-unpolled entries i call u =
      ap (list_all (hold_is_finished entries)) (before_call-absent call (poll_order setup entries i) u)
      ∙ all-finished (hold_is_finished entries) (poll_order setup entries i)

-- where no hold ends
module _ {K D : Type 0} (setup : Setup D) (entries : List (Entry K)) (i : ℕ) (e : Entry K)
    (stays_open : ends_hold e.reply ≡ false) where
  -- a hold is finished exactly where it was before
  pub finished_same : (b : CallId) → hold_is_finished (entries ++ e ∷ []) b ≡ hold_is_finished entries b
  finished_same b = same_by (same_call b (call_of e.event)) refl
    where
      same_by : (s : Bool) → same_call b (call_of e.event) ≡ s
          → hold_is_finished (entries ++ e ∷ []) b ≡ hold_is_finished entries b
      same_by true s = hold_is_finished-own setup entries e b s ∙ ap (λ v. hold_is_finished entries b || v) stays_open ∙ or_false _
      same_by false s = hold_is_finished-other setup entries e b s

-- an entry that ends its call's hold takes the call out of the open ones
module _ {K D : Type 0} (setup : Setup D) (entries : List (Entry K)) (i : ℕ) (e : Entry K)
    (ends : ends_hold e.reply ≡ true) where
  finished_after : (b : CallId)
      → hold_is_finished (entries ++ e ∷ []) b ≡ (hold_is_finished entries b || same_call b (call_of e.event))
  finished_after b = after_by (same_call b (call_of e.event)) refl
    where
      after_by : (s : Bool) → same_call b (call_of e.event) ≡ s
          → hold_is_finished (entries ++ e ∷ []) b ≡ (hold_is_finished entries b || s)
      after_by true s = hold_is_finished-own setup entries e b s ∙ ap (λ v. hold_is_finished entries b || v) ends
      after_by false s = hold_is_finished-other setup entries e b s ∙ sym (or_false _)

  out_of : (xs : List CallId)
      → filter (λ x. not (hold_is_finished (entries ++ e ∷ []) x)) xs
      ≡ filter (λ x. not (same_call x (call_of e.event))) (filter (λ x. not (hold_is_finished entries x)) xs)
  out_of [] = refl
  out_of (x ∷ xs) =
      rw (finished_after x, out_of xs)
      (elim (hold_is_finished entries x) as (λ v. cond (not (v || same_call x (call_of e.event))) (x ∷ filter (λ y. not (same_call y (call_of e.event))) (filter (λ y. not (hold_is_finished entries y)) xs)) (filter (λ y. not (same_call y (call_of e.event))) (filter (λ y. not (hold_is_finished entries y)) xs))
      ≡ filter (λ y. not (same_call y (call_of e.event))) (cond (not v) (x ∷ filter (λ y. not (hold_is_finished entries y)) xs) (filter (λ y. not (hold_is_finished entries y)) xs)))
      [ true ↦ refl | false ↦ refl ])

  -- the call of an entry that ends its hold leaves the open calls
  pub queue-leaves : poll_order setup (entries ++ e ∷ []) i ≡ poll_order setup entries i
      → open_calls setup (entries ++ e ∷ []) i
      ≡ filter (λ x. not (same_call x (call_of e.event))) (open_calls setup entries i)
  queue-leaves o = ap (filter (λ x. not (hold_is_finished (entries ++ e ∷ []) x))) o ∙ out_of (poll_order setup entries i)
