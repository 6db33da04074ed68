use Rattle.std.proofs.Common.{◌≡◌, List, ◌++◌, ◌∷◌, [], ◌+◌, ◌∙◌, sym, ap, refl, map, take, length, string_bytes, arith}
use Rattle.std.proofs.lemmas.List.{take_more, map-append, length-map, length-take-le}
use Rattle.sign_request.specs.Query.{text_pair, text_pairs}
use Rattle.sign_request.specs.CanonicalText.{joined_texts}
use Rattle.sign_request.specs.PairForm.{pair_text}
use Rattle.sign_request.proofs.Joined.{joined_texts-more}
use Rattle.sign_request.proofs.pair_form.write_pairs.Goals as goal
use Rattle.sign_request.proofs.pair_form.write_pairs.Goals.{then-i-ne0+in_ok-push_str, else-i-ne0}

empty_from_length : {X : Type 0} → (xs : List X) → length xs ≡ 0 → xs ≡ []
empty_from_length [] h = refl
empty_from_length (x ∷ xs) h = absurd (omega (arith, h))

pub loop-i-preserved : goal.loop-i-preserved
loop-i-preserved c =
    let write = pair_text c.args.form c.args.sep.now in
    let before = map write (text_pairs (take c.loop-i.i c.args.pairs.now)) in
    let last = write (text_pair c.index-pairs-i.result) in
    let more : map write (text_pairs (take (c.loop-i.i + 1) c.args.pairs.now)) ≡ before ++ last ∷ [] =
    ap (λ ps. map write (text_pairs ps))
    (take_more c.args.pairs.now c.loop-i.i c.index-pairs-i.result c.loop-i-test.true ∙ ap (λ p. take c.loop-i.i c.args.pairs.now ++ p ∷ []) (sym c.index-pairs-i.is))
    ∙ (ap (map write) (map-append text_pair _ _) ∙ map-append write _ _) in
    let as_many : length before ≡ c.loop-i.i = length-map _ write ∙ (length-map _ text_pair ∙ length-take-le c.loop-i.i c.args.pairs.now (omega arith)) in
    let start = c.in_ok-push_pair.ensures {u = tt} in
    elim c.if-i-ne0.branch [
      | then-i-ne0+in_ok-push_str w ↦
          start ∙ (ap (λ bs. bs ++ last) (ap string_bytes w.text-is ∙ ((w.in_ok-push_str.ensures {u = tt}).bytes ∙ ap (λ bs. bs ++ c.args.join.now) c.loop-i.invariant))
          ∙ (sym (joined_texts-more c.args.join.now before last (omega arith)) ∙ ap (joined_texts c.args.join.now) (sym more)))
      | else-i-ne0 w ↦
          let none : before ≡ [] = empty_from_length before (as_many ∙ w.if-i-ne0.false) in
          start ∙ (ap (λ bs. bs ++ last) (ap string_bytes w.text-is ∙ (c.loop-i.invariant ∙ ap (joined_texts c.args.join.now) none))
          ∙ ap (joined_texts c.args.join.now) (ap (λ ws. ws ++ last ∷ []) (sym none) ∙ sym more))
    ]
