-- Lists one after another, list by list.
use Rattle.std.proofs.Common.{◌≡◌, ℕ, zero, suc, ◌<◌, ◌≤◌, ◌+◌, List, [], ◌∷◌, ◌++◌, length, get_or, take, sym, ◌∙◌, ap, subst, arith}
use Rattle.std.specs.Global.{Vec}
use Rattle.std.specs.Prelude.{All}
use Rattle.std.proofs.lemmas.List.{append-nil, append_assoc, take_more, take_all, get_or-map, length-map}
use Rattle.std.proofs.lemmas.List.Concat.{flat_map-append}
use Rattle.std.proofs.lemmas.List.Elements.{All-append, All-same, All-nil, All-cons, All-head, All-tail, All-get_or}
use Rattle.pool_books.specs.Cleared.{joined, lists_of}

module _ {X : Type 0} where
  -- one list more
  pub joined-more : (lists : List (List X)) (i : ℕ) (list : List X) → i < length lists
      → list ≡ get_or lists i list → joined (take (i + 1) lists) ≡ joined (take i lists) ++ list
  joined-more lists i list below is =
      let e : take (i + 1) lists ≡ take i lists ++ list ∷ [] = take_more lists i list below ∙ ap (λ y. take i lists ++ y ∷ []) (sym is) in
      ap joined e ∙ flat_map-append (λ (l : List X). l) (take i lists) (list ∷ []) ∙ ap (λ l. joined (take i lists) ++ l) (append-nil list)

  -- the lists so far, this one, and others behind them
  pub joined-around : (lists : List (List X)) (i : ℕ) (list : List X) → i < length lists
      → list ≡ get_or lists i list
      → (rest : List X) × (joined lists ≡ joined (take i lists) ++ (list ++ rest))
  joined-around [] i list below is = absurd (omega arith)
  joined-around (l ∷ lists) zero list below is = (joined lists, ap (λ y. y ++ joined lists) (sym is))
  joined-around (l ∷ lists) (suc i) list below is =
      let later = joined-around lists i list (omega arith) is in
      (later.0, ap (λ y. l ++ y) later.1 ∙ sym (append_assoc l (joined (take i lists)) (list ++ later.0)))

  pub joined-all : (lists : List (List X)) (n : ℕ) → length lists ≤ n → joined (take n lists) ≡ joined lists
  joined-all lists n past = ap joined (take_all n lists past)

  module _ (P : X → Type 0) where
    -- what holds of each item holds of one that is read
    pub all-at : (xs : List X) (i : ℕ) (x : X) → i < length xs → x ≡ get_or xs i x → All P xs → P x
    all-at xs i x below is h = subst P (sym is) (All-get_or P xs i x below h)

    pub all-left : (xs ys : List X) → All P (xs ++ ys) → All P xs
    all-left [] ys h = All-nil P
    all-left (x ∷ xs) ys h = All-cons P x xs (All-head P x (xs ++ ys) h) (all-left xs ys (All-tail P x (xs ++ ys) h))

    pub all-right : (xs ys : List X) → All P (xs ++ ys) → All P ys
    all-right [] ys h = h
    all-right (x ∷ xs) ys h = all-right xs ys (All-tail P x (xs ++ ys) h)

    -- what holds of all items holds of those of one list
    pub all-of-list : (lists : List (List X)) (i : ℕ) (list : List X) → i < length lists
        → list ≡ get_or lists i list → All P (joined lists) → All P list
    all-of-list lists i list below is h =
        let at = joined-around lists i list below is in
        all-left list at.0 (all-right (joined (take i lists)) (list ++ at.0) (All-same P (joined (take i lists) ++ (list ++ at.0)) (joined lists) (sym at.1) h))

    pub all-joined-more : (lists : List (List X)) (i : ℕ) (list : List X) → i < length lists
        → list ≡ get_or lists i list → All P (joined (take i lists)) → All P list
        → All P (joined (take (i + 1) lists))
    all-joined-more lists i list below is h k =
        All-same P (joined (take (i + 1) lists)) (joined (take i lists) ++ list) (joined-more lists i list below is)
        (All-append P (joined (take i lists)) list h k)

    pub all-joined-end : (lists : List (List X)) (n : ℕ) → length lists ≤ n → All P (joined (take n lists))
        → All P (joined lists)
    all-joined-end lists n past h = All-same P (joined lists) (joined (take n lists)) (sym (joined-all lists n past)) h

  -- a list of a vector among vectors
  pub list-read : (vectors : List (Vec X)) (i : ℕ) (v : Vec X) (list : List X) → i < length vectors
      → v ≡ get_or vectors i v → list ≡ v.items → list ≡ get_or (lists_of vectors) i list
  list-read vectors i v list below is same = same ∙ ap (λ (w : Vec X). w.items) is ∙ sym (get_or-map (λ (w : Vec X). w.items) vectors i v list below)

  pub lists-length : (vectors : List (Vec X)) → length (lists_of vectors) ≡ length vectors
  lists-length vectors = length-map vectors (λ (w : Vec X). w.items)
