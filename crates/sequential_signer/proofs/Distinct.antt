-- Lists in which no call stands twice.
use Rattle.std.proofs.Common.{◌≡◌, Bool, true, false, not, cond, ◌&&◌, ◌||◌, List, [], ◌∷◌, ◌++◌, refl, sym, ◌∙◌, ap, subst, filter, map}
use Rattle.std.specs.List.{list_any, list_all}
use Rattle.sign_base.specs.declared.call_id.CallId.{CallId}
use Rattle.sign_base.specs.Calls.{same_call, IsOnce}
use Rattle.sequential_signer.specs.Turn.{first_of_each, before_call}
use Rattle.sequential_signer.proofs.Lists.{or_true}
use Rattle.sign_base.proofs.Calls.{same_call-eq, same_call-refl, once-filter}
use Rattle.sign_base.proofs.Truth.{and_left, and_right, or_left, or_right}

gone : (x : CallId) (xs : List CallId)
    → list_any (same_call x) (filter (λ other. not (same_call x other)) xs) ≡ false
gone x [] = refl
gone x (y ∷ ys) =
    (elim (same_call x y) as (λ v. same_call x y ≡ v → list_any (same_call x) (cond (not v) (y ∷ filter (λ other. not (same_call x other)) ys) (filter (λ other. not (same_call x other)) ys)) ≡ false)
    [ true ↦ λ _. gone x ys | false ↦ λ s. rw s (gone x ys) ]) refl

-- each call once: no call stands twice
pub first_of_each-once : (xs : List CallId) → IsOnce (first_of_each xs)
first_of_each-once [] = tt
first_of_each-once (x ∷ xs) = (gone x (first_of_each xs), once-filter (λ other. not (same_call x other)) (first_of_each xs) (first_of_each-once xs))

-- what holds of all items holds of those that a test keeps
pub list_all-filter_of : {X : Type 0} (q r : X → Bool) (xs : List X) → list_all q xs ≡ true
    → list_all q (filter r xs) ≡ true
list_all-filter_of q r [] h = refl
list_all-filter_of q r (x ∷ xs) h =
    let here : q x ≡ true = and_left _ _ h in
    let later = list_all-filter_of q r xs (and_right _ _ h) in
    elim (r x) as (λ v. list_all q (cond v (x ∷ filter r xs) (filter r xs)) ≡ true) [ true ↦ rw here later | false ↦ later ]

-- what holds of all calls holds of each once
pub list_all-first_of_each : (q : CallId → Bool) (xs : List CallId) → list_all q xs ≡ true
    → list_all q (first_of_each xs) ≡ true
list_all-first_of_each q [] h = refl
list_all-first_of_each q (x ∷ xs) h =
    let here : q x ≡ true = and_left _ _ h in
    rw here (list_all-filter_of q (λ other. not (same_call x other)) (first_of_each xs) (list_all-first_of_each q xs (and_right _ _ h)))

-- what holds of what each item gives holds of the list of these
pub list_all-map : {X Y : Type 0} (q : Y → Bool) (f : X → Y) (xs : List X) → list_all (λ x. q (f x)) xs ≡ true
    → list_all q (map f xs) ≡ true
list_all-map q f [] h = refl
list_all-map q f (x ∷ xs) h =
    let here : q (f x) ≡ true = and_left _ _ h in
    rw here (list_all-map q f xs (and_right _ _ h))

-- a test that one more call passes, whose hold is open, while those that passed it before had their turn
module _ (p q fin : CallId → Bool) (c : CallId) (was : p c ≡ false) (now : q c ≡ true)
    (open_still : fin c ≡ false) (others : (b : CallId) → same_call c b ≡ false → q b ≡ p b) where
  -- where the call does not stand, nothing changes
  filter-absent : (xs : List CallId) → list_any (same_call c) xs ≡ false → filter q xs ≡ filter p xs
  filter-absent [] h = refl
  filter-absent (x ∷ xs) h =
      let here : same_call c x ≡ false = or_left _ _ h in
      let later : filter q xs ≡ filter p xs = filter-absent xs (or_right _ _ h) in
      rw (others x here, later) refl

  abbrev InTurn : List CallId → Type 0
  InTurn xs = (b : CallId) → list_any (same_call b) xs ≡ true → p b ≡ true → list_all fin (before_call b xs) ≡ true

  -- behind the call, nobody passes
  none-behind : (xs : List CallId) → list_any (same_call c) xs ≡ false
      → ((b : CallId) → list_any (same_call b) xs ≡ true → p b ≡ true → ⊥) → filter p xs ≡ []
  none-behind [] h n = refl
  none-behind (x ∷ xs) h n =
      (elim (p x) as (λ v. p x ≡ v → cond v (x ∷ filter p xs) (filter p xs) ≡ []) [
        | true ↦ λ e. absurd (n x (ap (λ v. v || list_any (same_call x) xs) (same_call-refl x)) e)
        | false ↦ λ _. none-behind xs (or_right _ _ h) (λ b m. n b (ap (λ v. same_call b x || v) m ∙ or_true _))
      ]) refl

  -- who stands later is another call
  other_later : (x b : CallId) (xs : List CallId) → list_any (same_call x) xs ≡ false
      → list_any (same_call b) xs ≡ true → same_call b x ≡ false
  other_later x b xs once m = other_by (same_call b x) refl
    where
      other_by : (s : Bool) → same_call b x ≡ s → s ≡ false
      other_by false s = refl
      other_by true s =
          let there : list_any (same_call x) xs ≡ true = subst (λ y. list_any (same_call y) xs ≡ true) (same_call-eq b x s) m in cc

  turn_first : (x b : CallId) (xs : List CallId) → list_any (same_call x) xs ≡ false → InTurn (x ∷ xs)
      → list_any (same_call b) xs ≡ true → p b ≡ true → (fin x && list_all fin (before_call b xs)) ≡ true
  turn_first x b xs once turn m e =
      let o : same_call b x ≡ false = other_later x b xs once m in
      let t = turn b (ap (λ v. same_call b x || v) m ∙ or_true _) e in
      subst (λ v. list_all fin (cond v [] (x ∷ before_call b xs)) ≡ true) o t

  newly_by : (x : CallId) (xs : List CallId) → IsOnce (x ∷ xs) → InTurn (x ∷ xs) → (s : Bool)
      → same_call c x ≡ s → (s || list_any (same_call c) xs) ≡ true
      → (list_any (same_call c) xs ≡ true → InTurn xs → filter q xs ≡ filter p xs ++ c ∷ [])
      → filter q (x ∷ xs) ≡ filter p (x ∷ xs) ++ c ∷ []
  newly_by x xs once turn true s m rest =
      let same : x ≡ c = sym (same_call-eq c x s) in
      let gone_c : list_any (same_call c) xs ≡ false = subst (λ y. list_any (same_call y) xs ≡ false) same once.0 in
      let qx : q x ≡ true = ap q same ∙ now in
      let px : p x ≡ false = ap p same ∙ was in
      let fx : fin x ≡ false = ap fin same ∙ open_still in
      let empty : filter p xs ≡ [] = none-behind xs gone_c (λ b mem e. let t : fin x ≡ true = and_left _ _ (turn_first x b xs once.0 turn mem e) in cc) in
      let none : filter q xs ≡ [] = filter-absent xs gone_c ∙ empty in
      rw (qx, px, none, empty) (ap (λ y. y ∷ []) same)
  newly_by x xs once turn false s m rest =
      let step : filter q xs ≡ filter p xs ++ c ∷ [] = rest m (λ b mem e. and_right _ _ (turn_first x b xs once.0 turn mem e)) in
      rw (others x s, step)
      (elim (p x) as (λ v. cond v (x ∷ (filter p xs ++ c ∷ [])) (filter p xs ++ c ∷ []) ≡ cond v (x ∷ filter p xs) (filter p xs) ++ c ∷ []) [ true ↦ refl | false ↦ refl ])

  -- that call passes as the last
  pub filter-newly : (xs : List CallId) → IsOnce xs → list_any (same_call c) xs ≡ true → InTurn xs
      → filter q xs ≡ filter p xs ++ c ∷ []
  filter-newly [] once there turn = cc
  filter-newly (x ∷ xs) once there turn = newly_by x xs once turn (same_call c x) refl there (λ m t. filter-newly xs once.1 m t)
