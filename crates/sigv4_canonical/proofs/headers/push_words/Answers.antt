use Rattle.std.proofs.Common.{◌≡◌, ℕ, ◌<◌, Bool, true, false, not, ◌==◌, List, [], ◌∷◌, ◌++◌, length, map, filter, codes, sym, ap, ◌∙◌, arith, rules, tests}
use Rattle.std.proofs.lemmas.Bool.Decides.{nat_tests}
use Rattle.std.proofs.lemmas.Iterator.Consumers.{YieldsList-end}
use Rattle.std.proofs.lemmas.Iterator.Splits.{YieldsList-from_slice_split}
use Rattle.sign_request.specs.CanonicalText.{joined_texts}
use Rattle.sign_request.specs.Headers.{is_blank}
use Rattle.sigv4_canonical.specs.CanonicalHeaders.{single_spaced}
use Rattle.sigv4_canonical.proofs.JoinedOn.{joined_on-first, joined_on-more, none_yet-push, yielded_more, kept_more, left_out}
use Rattle.sigv4_canonical.proofs.headers.push_words.Goals as goal
use Rattle.sigv4_canonical.proofs.headers.push_words.Goals.{then-not-first+in_ok-push, else-not-first}

-- a word that is not empty goes to the end
pub loop-word-preserved-then-not-is_empty : goal.loop-word-preserved-then-not-is_empty
loop-word-preserved-then-not-is_empty c =
    let words = map (λ word. word.now) c.loop-word.yielded in
    let test : List ℕ → Bool = λ word. not (length word == 0) in
    let kept = filter test words in
    let x = c.in-Some.word.now in
    let passes : test x ≡ true = grind (arith, nat_tests, c.is_empty.ensures, c.if-not-is_empty.true) in
    let more : filter test (map (λ word. word.now) (c.loop-word.yielded ++ c.in-Some.word ∷ [])) ≡ kept ++ x ∷ [] =
    ap (filter test) (yielded_more c.loop-word.yielded c.in-Some.word) ∙ kept_more test words x passes in
    let known = c.loop-word.invariant.first in
    let begun = c.args.text.now.items in
    let start = c.in_ok-extend_from_slice.ensures.items in
    record {
      text = elim c.if-not-first.branch [
        | then-not-first+in_ok-push w ↦
            let some : 0 < length kept = grind (arith, nat_tests, known) in
            start ∙ (ap (λ bs. bs ++ x) (ap (λ v. v.items) w.text-is ∙ (w.in_ok-push.ensures.items ∙ ap (λ bs. bs ++ 32 ∷ []) c.loop-word.invariant.text))
            ∙ (joined_on-more (codes " ") begun kept x some ∙ ap (λ ws. begun ++ joined_texts (codes " ") ws) (sym more)))
        | else-not-first w ↦
            let none : length kept ≡ 0 = grind (arith, nat_tests, known) in
            start ∙ (ap (λ bs. bs ++ x) (ap (λ v. v.items) w.text-is ∙ c.loop-word.invariant.text)
            ∙ (joined_on-first (codes " ") begun kept x none ∙ ap (λ ws. begun ++ joined_texts (codes " ") ws) (sym more)))
      ];
      first = none_yet-push kept x ∙ ap (λ ws. length ws == 0) (sym more);
    }

-- an empty word is left out
pub loop-word-preserved : goal.loop-word-preserved
loop-word-preserved c =
    let words = map (λ word. word.now) c.loop-word.yielded in
    let test : List ℕ → Bool = λ word. not (length word == 0) in
    let fails : test c.in-Some.word.now ≡ false = grind (arith, nat_tests, c.is_empty.ensures, c.if-not-is_empty.false) in
    let same : filter test (map (λ word. word.now) (c.loop-word.yielded ++ c.in-Some.word ∷ [])) ≡ filter test words =
    ap (filter test) (yielded_more c.loop-word.yielded c.in-Some.word) ∙ left_out test words c.in-Some.word.now fails in
    rw same c.loop-word.invariant

pub returns : goal.returns
unfolding single_spaced
returns c =
    let all = YieldsList-end (YieldsList-from_slice_split {s = c.into_iter-word-iterator.result} _ is_blank c.args.value.now (search rules) (search rules) (search rules) (λ x r q k. search (rules, tests)))
    c.loop-word.yielded c.loop-word.word-iterator c.loop-word.yielded_by c.next.result c.next.new.self c.in-None.is c.next.ensures.steps in
    rw (← all.0) c.loop-word.invariant.text
