-- A path with the home folder in place of every `~` is its pieces between them, joined by the folder.
use Rattle.std.proofs.Common.{◌≡◌, ◌++◌, ◌∷◌, [], ℕ, List, Bool, true, false, cond, map, refl, sym, ◌∙◌, ap, subst, append_assoc}
use Rattle.std.specs.List.{join_by, flat_map, slice_split, onto_first}
use denote.Ref.{Bor}
use Rattle.credentials.specs.Home.{is_tilde, with_home}

-- a list that is split has a first piece
pub first-piece : (bs : List ℕ)
    → (piece : List ℕ) × (pieces : List (List ℕ)) × (slice_split is_tilde bs ≡ piece ∷ pieces)
first-piece [] = ([], [], refl)
first-piece (x ∷ xs) = go (is_tilde x) (first-piece xs)
  where
    go : (b : Bool)
        → ((piece : List ℕ) × (pieces : List (List ℕ)) × (slice_split is_tilde xs ≡ piece ∷ pieces))
        → (piece : List ℕ) × (pieces : List (List ℕ))
        × (cond b ([] ∷ slice_split is_tilde xs) (onto_first x (slice_split is_tilde xs)) ≡ piece ∷ pieces)
    go true h = ([], slice_split is_tilde xs, refl)
    go false (piece, pieces, e) = (x ∷ piece, pieces, ap (onto_first x) e)

-- one byte more in front of a joined list
pub join-more : (home : List ℕ) (x : ℕ) (b : Bool) (piece : List ℕ) (pieces : List (List ℕ)) (w : List ℕ)
    → join_by (λ (y : List ℕ). y) home (piece ∷ pieces) ≡ w
    → join_by (λ (y : List ℕ). y) home (cond b ([] ∷ piece ∷ pieces) (onto_first x (piece ∷ pieces)))
    ≡ cond b home (x ∷ []) ++ w
join-more home x true piece pieces w h = append_assoc home piece _ ∙ ap (λ ys. home ++ ys) h
join-more home x false piece pieces w h = ap (λ ys. x ∷ ys) h

pub join-split : (home bs : List ℕ)
    → join_by (λ (y : List ℕ). y) home (slice_split is_tilde bs) ≡ with_home home bs
join-split home [] = refl
join-split home (x ∷ xs) = go (first-piece xs) (join-split home xs)
  where
    go : ((piece : List ℕ) × (pieces : List (List ℕ)) × (slice_split is_tilde xs ≡ piece ∷ pieces))
        → join_by (λ (y : List ℕ). y) home (slice_split is_tilde xs) ≡ with_home home xs
        → join_by (λ (y : List ℕ). y) home (slice_split is_tilde (x ∷ xs)) ≡ with_home home (x ∷ xs)
    go (piece, pieces, e) h =
        let one : join_by (λ (y : List ℕ). y) home (cond (is_tilde x) ([] ∷ piece ∷ pieces) (onto_first x (piece ∷ pieces))) ≡ cond (is_tilde x) home (x ∷ []) ++ with_home home xs
        = join-more home x (is_tilde x) piece pieces (with_home home xs) (subst (λ (s : List (List ℕ)). join_by (λ (y : List ℕ). y) home s ≡ with_home home xs) e h) in
        subst (λ (s : List (List ℕ)). join_by (λ (y : List ℕ). y) home (cond (is_tilde x) ([] ∷ s) (onto_first x s)) ≡ cond (is_tilde x) home (x ∷ []) ++ with_home home xs) (sym e) one

-- joining borrowed pieces is joining the pieces
pub join-borrowed : (home : List ℕ) (xs : List (Bor (List ℕ)))
    → join_by (λ x. x.now) home xs ≡ join_by (λ (y : List ℕ). y) home (map (λ x. x.now) xs)
join-borrowed home [] = refl
join-borrowed home (x ∷ xs) = ap (λ ys. x.now ++ ys) (rest xs)
  where
    rest : (zs : List (Bor (List ℕ)))
        → flat_map (λ z. home ++ z.now) zs ≡ flat_map (λ y. home ++ y) (map (λ z. z.now) zs)
    rest [] = refl
    rest (z ∷ zs) = ap (λ ys. (home ++ z.now) ++ ys) (rest zs)
