-- Headers with a prefix, one after another.
use Rattle.std.proofs.Common.{◌≡◌, ℕ, Bool, true, false, cond, nat_eq, List, [], ◌∷◌, ◌++◌, map, ap, ◌∙◌, append_assoc, append-nil}
use Rattle.std.specs.List.{starts_with}
use Rattle.http_header.specs.FieldValue.{FieldValue}
use Rattle.sign_request.specs.Query.{Pair}
use Rattle.sign_request.specs.Headers.{header_pair, with_prefix, AreVisible}

found-next : (yes : Bool) (h : List ℕ × FieldValue) (rest : List (List ℕ × FieldValue))
    (before after all : List Pair) → before ++ map header_pair (cond yes (h ∷ rest) rest) ≡ all
    → after ≡ before ++ map header_pair (cond yes (h ∷ []) []) → after ++ map header_pair rest ≡ all
found-next true h rest before after all made more =
    ap (λ (pairs : List Pair). pairs ++ map header_pair rest) more ∙ append_assoc before (header_pair h ∷ []) (map header_pair rest) ∙ made
found-next false h rest before after all made more =
    ap (λ (pairs : List Pair). pairs ++ map header_pair rest) (more ∙ append-nil before) ∙ made

visible-both : (yes : Bool) (h : List ℕ × FieldValue) (rest : List (List ℕ × FieldValue))
    → AreVisible (cond yes (h ∷ []) []) → AreVisible rest → AreVisible (cond yes (h ∷ rest) rest)
visible-both true h rest here later = (here.0, later)
visible-both false h rest here later = later

visible-here : (yes : Bool) (h : List ℕ × FieldValue) (rest : List (List ℕ × FieldValue))
    → AreVisible (cond yes (h ∷ rest) rest) → AreVisible (cond yes (h ∷ []) [])
visible-here true h rest all = (all.0, tt)
visible-here false h rest all = tt

visible-later : (yes : Bool) (h : List ℕ × FieldValue) (rest : List (List ℕ × FieldValue))
    → AreVisible (cond yes (h ∷ rest) rest) → AreVisible rest
visible-later true h rest all = all.1
visible-later false h rest all = all

-- one header more is looked at
module _ (prefix : List ℕ) (h : List ℕ × FieldValue) (rest : List (List ℕ × FieldValue)) where
  pub prefix-found : (before after all : List Pair)
      → before ++ map header_pair (with_prefix prefix (h ∷ rest)) ≡ all
      → after ≡ before ++ map header_pair (with_prefix prefix (h ∷ []))
      → after ++ map header_pair (with_prefix prefix rest) ≡ all
  prefix-found = found-next (starts_with nat_eq h.0 prefix) h (with_prefix prefix rest)

  pub prefix-visible : AreVisible (with_prefix prefix (h ∷ [])) → AreVisible (with_prefix prefix rest)
      → AreVisible (with_prefix prefix (h ∷ rest))
  prefix-visible = visible-both (starts_with nat_eq h.0 prefix) h (with_prefix prefix rest)

  pub prefix-here : AreVisible (with_prefix prefix (h ∷ rest)) → AreVisible (with_prefix prefix (h ∷ []))
  prefix-here = visible-here (starts_with nat_eq h.0 prefix) h (with_prefix prefix rest)

  pub prefix-later : AreVisible (with_prefix prefix (h ∷ rest)) → AreVisible (with_prefix prefix rest)
  prefix-later = visible-later (starts_with nat_eq h.0 prefix) h (with_prefix prefix rest)
