-- Variables of lists and of maps.
use Rattle.std.proofs.Common.{◌≡◌, ◌++◌, ◌∷◌, [], ◌+◌, ◌<◌, ℕ, List, Bool, true, false, cond, Option, Some, option_map, map, take, length, get_or, add-one, sym, ◌∙◌, ap, refl}
use Rattle.std.proofs.Math.Seq.{take-suc}
use Rattle.std.proofs.lemmas.List.{map-append}
use Rattle.std.specs.String.{string_bytes, string_eq}
use Rattle.std.specs.declared.string.String.{String}
use Rattle.std.specs.List.{AllZip}
use Rattle.std.specs.Str.{bytes_eq}
use Rattle.std.specs.Map.{lookup}
use Rattle.std.specs.HashMap.{HashMap, Updates, get_by_text}
use Rattle.std.proofs.lemmas.Map.Text.{hash_map_updates_text}
use Rattle.credentials.specs.Env.{Variable, variable_of, with_variable, set_variables, map_variables, HasVariables}

-- one variable more, set after the others
pub set-push : (f : List ℕ → Option (List ℕ)) (vs : List Variable) (v : Variable)
    → set_variables f (vs ++ v ∷ []) ≡ with_variable (set_variables f vs) v
set-push f [] v = refl
set-push f (w ∷ vs) v = set-push (with_variable f w) vs v

module _ {Z : Type 0} where
  -- a choice between texts that have the same bytes
  pub same-choice : (b : Bool) (v w : String Z) (x y : Option (String Z)) → string_bytes w ≡ string_bytes v
      → option_map string_bytes y ≡ option_map string_bytes x
      → option_map string_bytes (cond b (Some w) y) ≡ option_map string_bytes (cond b (Some v) x)
  same-choice true v w x y e h = ap Some e
  same-choice false v w x y e h = h

  -- and the bytes of what a choice gives
  pub chosen-bytes : (b : Bool) (v : String Z) (x : Option (String Z)) (bytes : Option (List ℕ))
      → option_map string_bytes x ≡ bytes
      → option_map string_bytes (cond b (Some v) x) ≡ cond b (Some (string_bytes v)) bytes
  chosen-bytes true v x bytes h = refl
  chosen-bytes false v x bytes h = h

module _ {Y Z : Type 0} where
  -- the variables of a list up to its next item
  pub set-next : (f : List ℕ → Option (List ℕ)) (xs : List (String Y × String Z)) (i : ℕ)
      (d : String Y × String Z) → i < length xs
      → set_variables f (map variable_of (take (i + 1) xs))
      ≡ with_variable (set_variables f (map variable_of (take i xs))) (variable_of (get_or xs i d))
  set-next f xs i d lt =
      let cut : take (i + 1) xs ≡ take i xs ++ get_or xs i d ∷ [] = rw add-one (take-suc xs i d lt) in
      ap (λ ys. set_variables f (map variable_of ys)) cut
      ∙ ap (set_variables f) (map-append variable_of (take i xs) (get_or xs i d ∷ []))
      ∙ set-push f (map variable_of (take i xs)) (variable_of (get_or xs i d))

  -- a copy of entries has the same variables
  pub clone-lookup : (es fs : List (String Y × String Z)) (name : List ℕ)
      → AllZip (λ p q. (string_bytes q.0 ≡ string_bytes p.0) × (string_bytes q.1 ≡ string_bytes p.1)) es fs
      → option_map string_bytes (lookup (λ k. bytes_eq name (string_bytes k)) fs)
      ≡ option_map string_bytes (lookup (λ k. bytes_eq name (string_bytes k)) es)
  clone-lookup [] [] name h = refl
  clone-lookup [] (q ∷ fs) name h = absurd h
  clone-lookup (p ∷ es) [] name h = absurd h
  clone-lookup (p ∷ es) (q ∷ fs) name h =
      ap (λ bs. option_map string_bytes (cond (bytes_eq name bs) (Some q.1) (lookup (λ k. bytes_eq name (string_bytes k)) fs))) h.0.0
      ∙ same-choice (bytes_eq name (string_bytes p.0)) p.1 q.1 _ _ h.0.1 (clone-lookup es fs name h.1)

  -- the same by the next item itself
  pub next-variable : (f : List ℕ → Option (List ℕ)) (xs : List (String Y × String Z)) (i : ℕ)
      (item : String Y × String Z) (name : List ℕ) → i < length xs → item ≡ get_or xs i item
      → set_variables f (map variable_of (take (i + 1) xs)) name
      ≡ with_variable (set_variables f (map variable_of (take i xs))) (variable_of item) name
  next-variable f xs i item name lt is =
      ap (λ (g : List ℕ → Option (List ℕ)). g name) (set-next f xs i item lt)
      ∙ ap (λ d. with_variable (set_variables f (map variable_of (take i xs))) (variable_of d) name) (sym is)

  -- the last value so far of a name, where the next variable has it and where not
  pub last-here : (f : List ℕ → Option (List ℕ)) (xs : List (String Y × String Z)) (i : ℕ)
      (item : String Y × String Z) (name : List ℕ) → i < length xs → item ≡ get_or xs i item
      → bytes_eq (string_bytes item.0) name ≡ true
      → Some (string_bytes item.1) ≡ set_variables f (map variable_of (take (i + 1) xs)) name
  last-here f xs i item name lt is eq =
      sym (next-variable f xs i item name lt is ∙ ap (λ b. cond b (Some (string_bytes item.1)) (set_variables f (map variable_of (take i xs)) name)) eq)

  pub last-before : (f : List ℕ → Option (List ℕ)) (xs : List (String Y × String Z)) (i : ℕ)
      (item : String Y × String Z) (name : List ℕ) → i < length xs → item ≡ get_or xs i item
      → bytes_eq (string_bytes item.0) name ≡ false
      → set_variables f (map variable_of (take i xs)) name
      ≡ set_variables f (map variable_of (take (i + 1) xs)) name
  last-before f xs i item name lt is eq =
      sym (next-variable f xs i item name lt is ∙ ap (λ b. cond b (Some (string_bytes item.1)) (set_variables f (map variable_of (take i xs)) name)) eq)

module _ {Y Z S : Type 0} where
  -- a map with one entry more has one variable more
  pub insert-variable : (m n : HashMap (String Y) (String Z) S) (key : String Y) (value : String Z)
      (f : List ℕ → Option (List ℕ)) → Updates string_eq m n key (Some value) → HasVariables m f
      → HasVariables n (with_variable f (string_bytes key, string_bytes value))
  insert-variable m n key value f new old name =
      let found : get_by_text n name ≡ cond (bytes_eq (string_bytes key) name) (Some value) (get_by_text m name) = hash_map_updates_text (string_bytes key) m n (Some value) new name in
      ap (option_map string_bytes) found ∙ chosen-bytes (bytes_eq (string_bytes key) name) value (get_by_text m name) (f name) (old name)

  -- with the next of a list put into it a map has the variables up to that one
  pub put-next : (f : List ℕ → Option (List ℕ)) (xs : List (String Y × String Z)) (i : ℕ)
      (item : String Y × String Z) (m n : HashMap (String Y) (String Z) S)
      (key : String Y) (value : String Z) → i < length xs → item ≡ get_or xs i item → string_bytes key ≡ string_bytes item.0 → string_bytes value ≡ string_bytes item.1
      → Updates string_eq m n key (Some value) → HasVariables m (set_variables f (map variable_of (take i xs)))
      → HasVariables n (set_variables f (map variable_of (take (i + 1) xs)))
  put-next f xs i item m n key value lt is k v new old name =
      let before : List ℕ → Option (List ℕ) = set_variables f (map variable_of (take i xs)) in
      let put : map_variables n name ≡ with_variable before (string_bytes key, string_bytes value) name = insert-variable m n key value before new old name in
      let named : with_variable before (string_bytes key, string_bytes value) name ≡ with_variable before (string_bytes item.0, string_bytes value) name =
      ap (λ bs. with_variable before (bs, string_bytes value) name) k in
      let valued : with_variable before (string_bytes item.0, string_bytes value) name ≡ with_variable before (variable_of item) name =
      ap (λ bs. with_variable before (string_bytes item.0, bs) name) v in
      put ∙ (named ∙ (valued ∙ sym (next-variable f xs i item name lt is)))
