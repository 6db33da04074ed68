use Rattle.std.proofs.Common.{◌≡◌, ℕ, ◌<◌, List, [], ◌∷◌, ◌++◌, ◌+◌, length, map, take, get_or, codes, sym, ap, ◌∙◌, arith}
use Rattle.std.specs.Borrow.{Bor}
use Rattle.std.proofs.lemmas.List.{take_more, map-append, length-map, length-take-le}
use Rattle.sign_request.specs.CanonicalText.{joined_texts, parameter_text}
use Rattle.sigv4_canonical.specs.EncodedPairs.{shown_pair, shown_pairs}
use Rattle.sigv4_canonical.proofs.JoinedOn.{joined_on-first, joined_on-more}
use Rattle.signctl_by_line.proofs.view_query.join_sides.Goals as goal
use Rattle.signctl_by_line.proofs.view_query.join_sides.Goals.{then-i-ne0+in_ok-push, else-i-ne0}

abbrev written : Bor (List ℕ) × Bor (List ℕ) → List ℕ
written p = parameter_text (codes "=") (shown_pair p)

abbrev texts : List (Bor (List ℕ) × Bor (List ℕ)) → List (List ℕ)
texts pairs = map (parameter_text (codes "=")) (shown_pairs pairs)

module _ (d : Bor (List ℕ) × Bor (List ℕ)) (pairs : List (Bor (List ℕ) × Bor (List ℕ))) (i : ℕ)
    (within : i < length pairs) (text : List ℕ) where
  more : texts (take (i + 1) pairs) ≡ texts (take i pairs) ++ written (get_or pairs i d) ∷ []
  more =
      let p = get_or pairs i d in
      ap texts (take_more pairs i d within)
      ∙ (ap (map (parameter_text (codes "="))) (map-append shown_pair (take i pairs) (p ∷ []))
      ∙ map-append (parameter_text (codes "=")) (shown_pairs (take i pairs)) (shown_pair p ∷ []))

  as_many : length (texts (take i pairs)) ≡ i
  as_many =
      length-map (shown_pairs (take i pairs)) (parameter_text (codes "="))
      ∙ (length-map (take i pairs) shown_pair ∙ length-take-le i pairs (omega (arith, within)))

  -- the first pair, and one more behind an ampersand
  written_first : i ≡ 0 → text ≡ joined_texts (codes "&") (texts (take i pairs))
      → text ++ written (get_or pairs i d) ≡ joined_texts (codes "&") (texts (take (i + 1) pairs))
  written_first none e =
      ap (λ bs. bs ++ written (get_or pairs i d)) e
      ∙ (joined_on-first (codes "&") [] (texts (take i pairs)) (written (get_or pairs i d)) (as_many ∙ none)
      ∙ ap (λ ws. joined_texts (codes "&") ws) (sym more))

  written_more : 0 < i → text ≡ joined_texts (codes "&") (texts (take i pairs)) ++ codes "&"
      → text ++ written (get_or pairs i d) ≡ joined_texts (codes "&") (texts (take (i + 1) pairs))
  written_more some e =
      ap (λ bs. bs ++ written (get_or pairs i d)) e
      ∙ (joined_on-more (codes "&") [] (texts (take i pairs)) (written (get_or pairs i d)) (omega (arith, as_many, some))
      ∙ ap (λ ws. joined_texts (codes "&") ws) (sym more))

pub loop-i-preserved : goal.loop-i-preserved
loop-i-preserved c =
    let start = c.in_ok-push_sides.ensures {u = tt} in
    elim c.if-i-ne0.branch [
      | then-i-ne0+in_ok-push w ↦
          start ∙ written_more _ c.args.pairs.now c.loop-i.i c.loop-i-test.true _ (omega arith)
          (ap (λ v. v.items) w.text-is ∙ (w.in_ok-push.ensures.items ∙ ap (λ bs. bs ++ codes "&") c.loop-i.invariant))
      | else-i-ne0 w ↦
          start ∙ written_first _ c.args.pairs.now c.loop-i.i c.loop-i-test.true _ w.if-i-ne0.false
          (ap (λ v. v.items) w.text-is ∙ c.loop-i.invariant)
    ]
