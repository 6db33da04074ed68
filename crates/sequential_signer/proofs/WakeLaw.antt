-- Who is woken: the call that stands after the holder, by the entry that ends the holder's hold.
use Rattle.std.proofs.Common.{◌≡◌, if◌then◌else◌, ℕ, Bool, true, false, not, cond, ◌&&◌, ◌||◌, List, [], ◌∷◌, ◌++◌, Some, None, filter, find, refl, sym, ◌∙◌, ap, subst}
use Rattle.std.specs.List.{list_any}
use Rattle.sign_base.specs.declared.call_id.CallId.{CallId}
use Rattle.sequential_signer.specs.Policy.{Policy}
use Rattle.sequential_signer.specs.Setup.{Setup, cache_of, is_of_cache}
use Rattle.sign_base.specs.Calls.{same_call, IsOnce, is_first, first_of}
use Rattle.sequential_signer.specs.Transcript.{call_of}
use Rattle.sequential_signer.specs.Phase.{Phase, Unknown, Unpolled, Queued, Loading, Signing, Ended, phase_of, is_queued}
use Rattle.sequential_signer.specs.Turn.{ends_hold, poll_order, hold_is_finished, has_turn, open_calls}
use Rattle.sequential_signer.specs.Wake.{gets_turn, call_to_wake}
use Rattle.sequential_signer.specs.declared.event.Entry.{Entry}
use Rattle.sequential_signer.proofs.Lists.{or_true, and_false, and_true, and_not, and_false_and, false_by}
use Rattle.sign_base.proofs.Calls.{same_call-eq, same_call-refl, same_call-comm, once-filter, absent-leaves}
use Rattle.sequential_signer.proofs.PollOrder.{is_polled, is_polled-more, hold_is_finished-other}
use Rattle.sequential_signer.proofs.Run.{IsRun}
use Rattle.sequential_signer.proofs.CallInvariant.{CallInvariant, unknown_call, unpolled_call, queued_call, loading_call, signing_call, over_call, cancelled_call}
use Rattle.sequential_signer.proofs.CallInvariantSteps.{stands}
use Rattle.sequential_signer.proofs.CacheLaw.{order_of_cache, order_once, is_number-eq, list_all-member}
use Rattle.sequential_signer.proofs.Queue.{after_first, queue-leaves, has_turn-polled, has_nobody, all-finished}

-- tests that agree on the calls of a list find the same in it
find-agree : (p q : CallId → Bool) (xs : List CallId)
    → ((b : CallId) → list_any (same_call b) xs ≡ true → p b ≡ q b) → find p xs ≡ find q xs
find-agree p q [] h = refl
find-agree p q (x ∷ xs) h =
    let here : p x ≡ q x = h x (ap (λ v. v || list_any (same_call x) xs) (same_call-refl x)) in
    let later : find p xs ≡ find q xs = find-agree p q xs (λ b m. h b (ap (λ v. same_call b x || v) m ∙ or_true _)) in
    rw (here, later) refl

find_never : (xs : List CallId) → find (λ (b : CallId). false) xs ≡ None
find_never [] = refl
find_never (x ∷ xs) = find_never xs

find-none : (p : CallId → Bool) (xs : List CallId)
    → ((b : CallId) → list_any (same_call b) xs ≡ true → p b ≡ false) → find p xs ≡ None
find-none p xs h = find-agree p (λ _. false) xs h ∙ find_never xs

find_step : (h x : CallId) (xs : List CallId) → (s : Bool) → same_call h x ≡ s
    → (s || list_any (same_call h) xs) ≡ true
    → (list_any (same_call h) xs ≡ true → find (λ b. same_call b h) xs ≡ Some h)
    → find (λ b. same_call b h) (x ∷ xs) ≡ Some h
find_step h x xs true s m rest = let e : same_call x h ≡ true = same_call-comm x h ∙ s in rw e (ap Some (sym (same_call-eq h x s)))
find_step h x xs false s m rest = let e : same_call x h ≡ false = same_call-comm x h ∙ s in rw e (rest m)

find_call_itself : (h : CallId) (xs : List CallId) → list_any (same_call h) xs ≡ true
    → find (λ b. same_call b h) xs ≡ Some h
find_call_itself h [] m = cc
find_call_itself h (x ∷ xs) m = find_step h x xs (same_call h x) refl m (λ k. find_call_itself h xs k)

-- a test that only the first call of another list passes finds that call
find_first : (ys xs : List CallId) → ((h : CallId) → is_first h ys ≡ true → list_any (same_call h) xs ≡ true)
    → find (λ b. is_first b ys) xs ≡ first_of ys
find_first [] xs h = find_never xs
find_first (y ∷ ys) xs h = find_call_itself y xs (h y (same_call-refl y))

member-filter : (q : CallId → Bool) (b : CallId) (xs : List CallId)
    → list_any (same_call b) (filter q xs) ≡ true → (list_any (same_call b) xs ≡ true) × (q b ≡ true)
member-filter q b [] m = absurd (cc)
member-filter q b (x ∷ xs) m = by_test (q x) refl m (λ k. member-filter q b xs k)
  where
    by_place : (s : Bool) → same_call b x ≡ s → q x ≡ true
        → (s || list_any (same_call b) (filter q xs)) ≡ true
        → (list_any (same_call b) (filter q xs) ≡ true → (list_any (same_call b) xs ≡ true) × (q b ≡ true))
        → ((same_call b x || list_any (same_call b) xs) ≡ true) × (q b ≡ true)
    by_place true s t m rest = (ap (λ v. v || list_any (same_call b) xs) s, ap q (same_call-eq b x s) ∙ t)
    by_place false s t m rest = let r = rest m in (ap (λ v. same_call b x || v) r.0 ∙ or_true _, r.1)

    by_test : (t : Bool) → q x ≡ t → list_any (same_call b) (cond t (x ∷ filter q xs) (filter q xs)) ≡ true
        → (list_any (same_call b) (filter q xs) ≡ true → (list_any (same_call b) xs ≡ true) × (q b ≡ true))
        → ((same_call b x || list_any (same_call b) xs) ≡ true) × (q b ≡ true)
    by_test true t m rest = by_place (same_call b x) refl t m rest
    by_test false t m rest = let r = rest m in (ap (λ v. same_call b x || v) r.0 ∙ or_true _, r.1)

first_member : (b : CallId) (xs : List CallId) → is_first b xs ≡ true → list_any (same_call b) xs ≡ true
first_member b [] h = h
first_member b (x ∷ xs) h = ap (λ v. v || list_any (same_call b) xs) h

later_member : (a b : CallId) (xs : List CallId) → list_any (same_call b) (after_first a xs) ≡ true
    → list_any (same_call b) xs ≡ true
later_member a b [] h = h
later_member a b (x ∷ xs) h =
    (elim (same_call a x) as (λ v. list_any (same_call b) (cond v xs []) ≡ true → (same_call b x || list_any (same_call b) xs) ≡ true)
    [ true ↦ λ k. ap (λ v. same_call b x || v) k ∙ or_true _ | false ↦ λ k. (cc) ]) h

module _ {K D : Type 0} (policy : Policy K D) (setup : Setup D) (entries : List (Entry K))
    (run : IsRun policy setup entries) (i : ℕ) where
  -- a call that was polled at the cache stands as its phase says
  polled_stands : (b : CallId) → is_polled setup entries i b ≡ true
      → CallInvariant setup entries i b (phase_of entries b)
  polled_stands b m = stands policy setup entries run b i (is_number-eq i (cache_of setup b) (list_all-member (is_of_cache setup i) b (poll_order setup entries i) (order_of_cache setup entries i) m))

  finished_unqueued : (b : CallId) (p : Phase) → hold_is_finished entries b ≡ true
      → CallInvariant setup entries i b p → is_queued p ≡ false
  finished_unqueued b Queued f (queued_call x _) = let u = x.unfinished in cc
  finished_unqueued b Unknown f s = refl
  finished_unqueued b Unpolled f s = refl
  finished_unqueued b Loading f s = refl
  finished_unqueued b Signing f s = refl
  finished_unqueued b Ended f s = refl

  -- a finished hold is not queued, so it gets no turn
  finished_gets_no_turn : (e : Entry K) (b : CallId) → is_polled setup entries i b ≡ true
      → hold_is_finished entries b ≡ true → gets_turn setup entries i e b ≡ false
  finished_gets_no_turn e b m f =
      let unqueued : is_queued (phase_of entries b) ≡ false = finished_unqueued b (phase_of entries b) f (polled_stands b m) in
      rw unqueued (and_false_and (not (same_call (call_of e.event) b)) (has_turn setup (entries ++ e ∷ []) i b && not (has_turn setup entries i b)))

module _ {K D : Type 0} (policy : Policy K D) (setup : Setup D) (entries : List (Entry K))
    (run : IsRun policy setup entries) (i : ℕ) (e : Entry K)
    (ends : ends_hold e.reply ≡ true)
    (order : poll_order setup (entries ++ e ∷ []) i ≡ poll_order setup entries i) where
  -- an open hold of a call that was polled and does not hold is queued
  open_is_queued : (b : CallId) (p : Phase) → phase_of entries b ≡ p → is_polled setup entries i b ≡ true
      → hold_is_finished entries b ≡ false → has_turn setup entries i b ≡ false
      → CallInvariant setup entries i b p → is_queued p ≡ true
  open_is_queued b Unknown h m o t (unknown_call x) = let u = x.unpolled in cc
  open_is_queued b Unpolled h m o t (unpolled_call x _ u) = cc
  open_is_queued b Queued h m o t s = refl
  open_is_queued b Loading h m o t (loading_call x) = let u = x.had.turn in cc
  open_is_queued b Signing h m o t (signing_call x) = let u = x.finished in cc
  open_is_queued b Ended h m o t (over_call x) = let u = x.finished in cc
  open_is_queued b Ended h m o t (cancelled_call x) = let u = x.finished in cc

  open_calls-once : IsOnce (open_calls setup entries i)
  open_calls-once = once-filter (λ x. not (hold_is_finished entries x)) (poll_order setup entries i) (order_once setup entries i)

  -- the call of the entry is not the one that stands after it
  not_itself : (a : CallId) (q : List CallId) → IsOnce q → is_first a (after_first a q) ≡ true → ⊥
  not_itself a [] o h = cc
  not_itself a (x ∷ rest) o h = by_place (same_call a x) refl h
    where
      by_place : (s : Bool) → same_call a x ≡ s → is_first a (cond s rest []) ≡ true → ⊥
      by_place false s k = cc
      by_place true s k =
          let m : list_any (same_call a) rest ≡ true = first_member a rest k in
          let n : list_any (same_call a) rest ≡ false = subst (λ y. list_any (same_call y) rest ≡ false) (sym (same_call-eq a x s)) o.0 in cc

  -- of an open hold of another call: it gets its turn exactly where it stands after the holder
  open_by : (a b : CallId) → same_call a b ≡ false → (q : List CallId) → IsOnce q → (queued : Bool)
      → (is_first b q ≡ false → queued ≡ true)
      → (queued && (is_first b (filter (λ x. not (same_call x a)) q) && not (is_first b q)))
      ≡ is_first b (after_first a q)
  open_by a b d [] o queued w = and_false queued
  open_by a b d (x ∷ rest) o queued w = by_place (same_call a x) refl
    where
      by_place : (s : Bool) → same_call a x ≡ s
          → (queued && (is_first b (filter (λ y. not (same_call y a)) (x ∷ rest)) && not (same_call b x)))
          ≡ is_first b (if same_call a x then rest else [])
      by_place true s =
          let same : a ≡ x = same_call-eq a x s in
          let xa : same_call x a ≡ true = same_call-comm x a ∙ s in
          let bx : same_call b x ≡ false = ap (same_call b) (sym same) ∙ same_call-comm b a ∙ d in
          let gone : list_any (same_call a) rest ≡ false = subst (λ y. list_any (same_call y) rest ≡ false) (sym same) o.0 in
          let stays : filter (λ y. not (same_call y a)) rest ≡ rest = absent-leaves a rest gone in
          let one : queued ≡ true = w bx in
          rw (s, xa, bx, one, stays) (and_true (is_first b rest))
      by_place false s =
          let xa : same_call x a ≡ false = same_call-comm x a ∙ s in
          rw (s, xa, and_not (same_call b x)) (and_false queued)

  gets_by : (b : CallId) → is_polled setup entries i b ≡ true → (f : Bool) → hold_is_finished entries b ≡ f
      → (s : Bool) → same_call (call_of e.event) b ≡ s
      → gets_turn setup entries i e b
      ≡ is_first b (after_first (call_of e.event) (open_calls setup entries i))
  gets_by b m true f s _ =
      let none : is_first b (after_first (call_of e.event) (open_calls setup entries i)) ≡ false =
      false_by (is_first b (after_first (call_of e.event) (open_calls setup entries i)))
      (λ h. let k = member-filter (λ x. not (hold_is_finished entries x)) b (poll_order setup entries i) (later_member (call_of e.event) b (open_calls setup entries i) (first_member b (after_first (call_of e.event) (open_calls setup entries i)) h)) in
      let bad : not (hold_is_finished entries b) ≡ true = k.1 in cc) in
      finished_gets_no_turn policy setup entries run i e b m f ∙ sym none
  gets_by b m false f true s =
      let same : call_of e.event ≡ b = same_call-eq (call_of e.event) b s in
      let none : is_first b (after_first (call_of e.event) (open_calls setup entries i)) ≡ false =
      false_by (is_first b (after_first (call_of e.event) (open_calls setup entries i)))
      (λ h. not_itself b (open_calls setup entries i) open_calls-once (subst (λ y. is_first b (after_first y (open_calls setup entries i)) ≡ true) same h)) in
      rw (s, none) refl
  gets_by b m false f false s =
      let f' : hold_is_finished (entries ++ e ∷ []) b ≡ false = hold_is_finished-other setup entries e b (same_call-comm b (call_of e.event) ∙ s) ∙ f in
      let m' : is_polled setup (entries ++ e ∷ []) i b ≡ true = is_polled-more setup entries i e b m in
      let after : has_turn setup (entries ++ e ∷ []) i b ≡ is_first b (filter (λ x. not (same_call x (call_of e.event))) (open_calls setup entries i)) = has_turn-polled setup (entries ++ e ∷ []) i b f' m' ∙ ap (is_first b) (queue-leaves setup entries i e ends order) in
      let before : has_turn setup entries i b ≡ is_first b (open_calls setup entries i) = has_turn-polled setup entries i b f m in
      rw (s, after, before)
      (open_by (call_of e.event) b s (open_calls setup entries i) open_calls-once (is_queued (phase_of entries b))
      (λ n. open_is_queued b (phase_of entries b) refl m f (before ∙ n) (polled_stands policy setup entries run i b m)))

  -- the call to wake is the one that stands after the holder
  pub wakes : call_to_wake setup entries i e
      ≡ first_of (after_first (call_of e.event) (open_calls setup entries i))
  unfolding call_to_wake
  wakes =
      find-agree (gets_turn setup entries i e) (λ b. is_first b (after_first (call_of e.event) (open_calls setup entries i))) (poll_order setup entries i) (λ b m. gets_by b m (hold_is_finished entries b) refl (same_call (call_of e.event) b) refl)
      ∙ find_first (after_first (call_of e.event) (open_calls setup entries i)) (poll_order setup entries i)
      (λ h k. (member-filter (λ x. not (hold_is_finished entries x)) h (poll_order setup entries i) (later_member (call_of e.event) h (open_calls setup entries i) (first_member h (after_first (call_of e.event) (open_calls setup entries i)) k))).0)

module _ {K D : Type 0} (policy : Policy K D) (setup : Setup D) (entries : List (Entry K))
    (run : IsRun policy setup entries) (i : ℕ) (e : Entry K) where
  -- where nobody holds, nobody is woken, as by a first poll that ends its hold at once
  pub wakes-nobody : has_nobody (open_calls setup entries i) ≡ true → call_to_wake setup entries i e ≡ None
  unfolding call_to_wake
  wakes-nobody h = find-none (gets_turn setup entries i e) (poll_order setup entries i) (λ b m. none b m)
    where
      none : (b : CallId) → list_any (same_call b) (poll_order setup entries i) ≡ true
          → gets_turn setup entries i e b ≡ false
      none b m =
          finished_gets_no_turn policy setup entries run i e b m
          (list_all-member (hold_is_finished entries) b (poll_order setup entries i) (all-finished (hold_is_finished entries) (poll_order setup entries i) ∙ h) m)
