-- Names of calls, and lists of them.
use Rattle.std.proofs.Common.{◌≡◌, Bool, true, false, not, cond, ◌||◌, List, [], ◌∷◌, ◌++◌, refl, sym, ◌∙◌, ap, filter}
use Rattle.std.specs.List.{list_any}
use Rattle.sign_base.specs.declared.call_id.CallId.{CallId}
use Rattle.sign_base.specs.Calls.{same_call}
use Rattle.sequential_signer.specs.Turn.{first_of_each, before_call}
use Rattle.sign_base.proofs.Calls.{same_call-eq, same_call-refl, same_call-comm}
use Rattle.sequential_signer.proofs.Lists.{filter-more_yes, filter-more_no}

-- a filter that keeps a call leaves whether it is in the list
any-filter_step : (x : CallId) (q : CallId → Bool) → q x ≡ true → (y : CallId) (ys : List CallId)
    → list_any (same_call x) (filter q ys) ≡ list_any (same_call x) ys → (s : Bool) → same_call x y ≡ s
    → list_any (same_call x) (filter q (y ∷ ys)) ≡ list_any (same_call x) (y ∷ ys)
any-filter_step x q h y ys rest true s =
    let k : q y ≡ true = ap q (sym (same_call-eq x y s)) ∙ h in
    rw (k, s) refl
any-filter_step x q h y ys rest false s =
    elim (q y) as (λ v. list_any (same_call x) (cond v (y ∷ filter q ys) (filter q ys)) ≡ (same_call x y || list_any (same_call x) ys))
    [ true ↦ ap (λ v. same_call x y || v) rest | false ↦ rw s rest ]

any-filter : (x : CallId) (q : CallId → Bool) → q x ≡ true → (xs : List CallId)
    → list_any (same_call x) (filter q xs) ≡ list_any (same_call x) xs
any-filter x q h [] = refl
any-filter x q h (y ∷ ys) = any-filter_step x q h y ys (any-filter x q h ys) (same_call x y) refl

-- one more call at the end: it is there already, or stands last from then on
first_of_each_step : (y : CallId) (ys : List CallId) (x : CallId)
    → first_of_each (ys ++ x ∷ [])
    ≡ cond (list_any (same_call x) (first_of_each ys)) (first_of_each ys) (first_of_each ys ++ x ∷ [])
    → (s : Bool) → same_call x y ≡ s → (a : Bool) → list_any (same_call x) (first_of_each ys) ≡ a
    → first_of_each ((y ∷ ys) ++ x ∷ [])
    ≡ cond (list_any (same_call x) (first_of_each (y ∷ ys))) (first_of_each (y ∷ ys))
    (first_of_each (y ∷ ys) ++ x ∷ [])
first_of_each_step y ys x rest true s a h =
    let q : CallId → Bool = λ o. not (same_call y o) in
    let out : q x ≡ false = ap not (same_call-comm y x ∙ s) in
    rw (s, rest, h)
    (elim a as (λ v. y ∷ filter q (cond v (first_of_each ys) (first_of_each ys ++ x ∷ [])) ≡ y ∷ filter q (first_of_each ys))
    [ true ↦ refl | false ↦ ap (λ v. y ∷ v) (filter-more_no q (first_of_each ys) x out) ])
first_of_each_step y ys x rest false s a h =
    let q : CallId → Bool = λ o. not (same_call y o) in
    let stays : q x ≡ true = ap not (same_call-comm y x ∙ s) in
    let there : list_any (same_call x) (filter q (first_of_each ys)) ≡ a = any-filter x q stays (first_of_each ys) ∙ h in
    rw (s, there, rest, h)
    (elim a as (λ v. y ∷ filter q (cond v (first_of_each ys) (first_of_each ys ++ x ∷ [])) ≡ cond v (y ∷ filter q (first_of_each ys)) (y ∷ (filter q (first_of_each ys) ++ x ∷ [])))
    [ true ↦ refl | false ↦ ap (λ v. y ∷ v) (filter-more_yes q (first_of_each ys) x stays) ])

-- one more call stands at the end, unless it is there already
pub first_of_each-more : (xs : List CallId) (x : CallId)
    → first_of_each (xs ++ x ∷ [])
    ≡ cond (list_any (same_call x) (first_of_each xs)) (first_of_each xs) (first_of_each xs ++ x ∷ [])
first_of_each-more [] x = refl
first_of_each-more (y ∷ ys) x = first_of_each_step y ys x (first_of_each-more ys x) (same_call x y) refl (list_any (same_call x) (first_of_each ys)) refl

-- before a call that is there, one more call at the end changes nothing
pub before_call-more_there : (x : CallId) (xs : List CallId) (y : CallId) → list_any (same_call x) xs ≡ true
    → before_call x (xs ++ y ∷ []) ≡ before_call x xs
before_call-more_there x [] y h = cc
before_call-more_there x (z ∷ zs) y h =
    (elim (same_call x z) as (λ v. (v || list_any (same_call x) zs) ≡ true → cond v [] (z ∷ before_call x (zs ++ y ∷ [])) ≡ cond v [] (z ∷ before_call x zs))
    [ true ↦ λ _. refl | false ↦ λ e. ap (λ v. z ∷ v) (before_call-more_there x zs y e) ]) h

-- before a call that is not there stand all
pub before_call-absent : (x : CallId) (xs : List CallId) → list_any (same_call x) xs ≡ false
    → before_call x xs ≡ xs
before_call-absent x [] h = refl
before_call-absent x (z ∷ zs) h =
    (elim (same_call x z) as (λ v. (v || list_any (same_call x) zs) ≡ false → cond v [] (z ∷ before_call x zs) ≡ z ∷ zs)
    [ true ↦ λ e. (cc) | false ↦ λ e. ap (λ v. z ∷ v) (before_call-absent x zs e) ]) h

-- before a call that is put at the end stand all
pub before_call-last : (x : CallId) (xs : List CallId) → list_any (same_call x) xs ≡ false
    → before_call x (xs ++ x ∷ []) ≡ xs
before_call-last x [] h = rw (same_call-refl x) refl
before_call-last x (z ∷ zs) h =
    (elim (same_call x z) as (λ v. (v || list_any (same_call x) zs) ≡ false → cond v [] (z ∷ before_call x (zs ++ x ∷ [])) ≡ z ∷ zs)
    [ true ↦ λ e. (cc) | false ↦ λ e. ap (λ v. z ∷ v) (before_call-last x zs e) ]) h
