use Rattle.std.proofs.Common.{◌≡◌, ℕ, true, not, ◌==◌, List, [], ◌∷◌, ◌++◌, length, map, filter, sym, ap, ap₂, ◌∙◌, arith, rules, tests}
use Rattle.std.proofs.lemmas.Bool.Decides.{nat_tests}
use Rattle.std.proofs.lemmas.Iterator.Consumers.{YieldsList-end}
use Rattle.std.proofs.lemmas.Iterator.Splits.{YieldsList-from_slice_split}
use Rattle.std.proofs.lemmas.List.{map-append}
use Rattle.sign_request.specs.Query.{Pair, is_ampersand}
use Rattle.sigv4_canonical.specs.CanonicalTarget.{encoded_pair}
use Rattle.sigv4_canonical.specs.Encoding.{encoded_anew}
use Rattle.sigv4_canonical.specs.EncodedPairs.{sides_text, side_lengths}
use Rattle.sigv4_canonical.proofs.EncodedPairs.{sides_text-more}
use Rattle.sigv4_canonical.proofs.JoinedOn.{yielded_more, kept_more}
use Rattle.sigv4_canonical.proofs.query.push_sides.Goals as goal

pub loop-piece-preserved-in-Continue-branch-3 : goal.loop-piece-preserved-in-Continue-branch-3
loop-piece-preserved-in-Continue-branch-3 c =
    let words = map (λ word. word.now) c.loop-piece.yielded in
    let test : List ℕ → _ = λ word. not (length word == 0) in
    let x = c.in-Some.piece.now in
    let passes : test x ≡ true = grind (arith, nat_tests, c.is_empty.ensures, c.if-not-is_empty.true) in
    let before = map encoded_pair (filter test words) in
    let more : map encoded_pair (filter test (map (λ word. word.now) (c.loop-piece.yielded ++ c.in-Some.piece ∷ []))) ≡ before ++ encoded_pair x ∷ [] =
    ap (λ ws. map encoded_pair (filter test ws)) (yielded_more c.loop-piece.yielded c.in-Some.piece)
    ∙ (ap (map encoded_pair) (kept_more test words x passes) ∙ map-append encoded_pair (filter test words) (x ∷ [])) in
    let key = ap encoded_anew c.split_pair.ensures.key in
    let value = ap encoded_anew c.split_pair.ensures.value in
    let one = (c.in_ok-key.ensures {u = tt}) in
    let two = (c.in_ok-value.ensures {u = tt}) in (
      two.text ∙ (ap₂ (λ t v. t ++ v) (one.text ∙ ap₂ (λ t k. t ++ k) c.loop-piece.invariant.0 key) value
          ∙ (sym (sides_text-more before (encoded_pair x)) ∙ ap sides_text (sym more))),
      (c.in_ok-push.ensures {u = tt}).items ∙ (ap₂ (λ ns n. ns ++ n ∷ []) c.loop-piece.invariant.1 (ap₂ (λ a b. (a, b)) (one.length ∙ ap length key) (two.length ∙ ap length value))
          ∙ (sym (map-append (λ (p : Pair). (length p.0, length p.1)) before (encoded_pair x ∷ [])) ∙ ap side_lengths (sym more))),
    )

-- the pieces that were yielded are all pieces
pub returns-clause-text : goal.returns-clause-text
returns-clause-text c =
    let all = YieldsList-end (YieldsList-from_slice_split {s = c.into_iter-piece-iterator.result} _ is_ampersand c.args.query.now (search rules) (search rules) (search rules) (λ x r q k. search (rules, tests)))
    c.loop-piece.yielded c.loop-piece.piece-iterator c.loop-piece.yielded_by c.next.result c.next.new.self c.in-None.is c.next.ensures.steps in
    rw (← all.0) c.loop-piece.invariant.0

pub returns-clause-lengths : goal.returns-clause-lengths
returns-clause-lengths c =
    let all = YieldsList-end (YieldsList-from_slice_split {s = c.into_iter-piece-iterator.result} _ is_ampersand c.args.query.now (search rules) (search rules) (search rules) (λ x r q k. search (rules, tests)))
    c.loop-piece.yielded c.loop-piece.piece-iterator c.loop-piece.yielded_by c.next.result c.next.new.self c.in-None.is c.next.ensures.steps in
    rw (← all.0) c.loop-piece.invariant.1
