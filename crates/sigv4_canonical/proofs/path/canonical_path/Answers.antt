use Rattle.std.proofs.Common.{◌≡◌, ◌<◌, [], ◌∷◌, ◌++◌, length, map, codes, string_bytes, sym, ap, ◌∙◌, arith, rules, tests}
use Rattle.std.proofs.lemmas.Bool.Decides.{nat_tests}
use Rattle.std.proofs.lemmas.Iterator.Consumers.{YieldsList-end}
use Rattle.std.proofs.lemmas.Iterator.Splits.{YieldsList-from_slice_split}
use Rattle.std.proofs.lemmas.List.{map-append, length-map}
use Rattle.sign_request.specs.CanonicalText.{joined_texts}
use Rattle.sigv4_canonical.specs.CanonicalTarget.{canonical_path, is_slash}
use Rattle.sigv4_canonical.specs.Encoding.{encoded_anew}
use Rattle.sigv4_canonical.proofs.JoinedOn.{joined-first, joined-more, none_yet-push, yielded_more}
use Rattle.sigv4_canonical.proofs.path.canonical_path.Goals as goal
use Rattle.sigv4_canonical.proofs.path.canonical_path.Goals.{then-not-first+in_ok-push_str, else-not-first}

pub loop-segment-preserved : goal.loop-segment-preserved
loop-segment-preserved c =
    let slash = codes "/" in
    let before = map (λ segment. segment.now) c.loop-segment.yielded in
    let texts = map encoded_anew before in
    let x = encoded_anew c.in-Some.segment.now in
    let more : map encoded_anew (map (λ segment. segment.now) (c.loop-segment.yielded ++ c.in-Some.segment ∷ [])) ≡ texts ++ x ∷ [] =
    ap (map encoded_anew) (yielded_more c.loop-segment.yielded c.in-Some.segment) ∙ map-append encoded_anew before (c.in-Some.segment.now ∷ []) in
    let long : length texts ≡ length c.loop-segment.yielded = length-map before encoded_anew ∙ length-map c.loop-segment.yielded (λ segment. segment.now) in
    let known = c.loop-segment.invariant.first in
    let start = c.in_ok-push_encoded_anew.ensures {u = tt} in
    record {
      text = elim c.if-not-first.branch [
        | then-not-first+in_ok-push_str w ↦
            let some : 0 < length texts = grind (arith, nat_tests, long, known) in
            start ∙ (ap (λ bs. bs ++ x) (ap string_bytes w.text-is ∙ ((w.in_ok-push_str.ensures {u = tt}).bytes ∙ ap (λ bs. bs ++ slash) c.loop-segment.invariant.text))
            ∙ (sym (joined-more slash texts x some) ∙ ap (joined_texts slash) (sym more)))
        | else-not-first w ↦
            let none : length texts ≡ 0 = grind (arith, nat_tests, long, known) in
            start ∙ (ap (λ bs. bs ++ x) (ap string_bytes w.text-is ∙ c.loop-segment.invariant.text)
            ∙ (sym (joined-first slash texts x none) ∙ ap (joined_texts slash) (sym more)))
      ];
      first = none_yet-push c.loop-segment.yielded c.in-Some.segment;
    }

pub returns : goal.returns
unfolding canonical_path
returns c =
    let all = YieldsList-end (YieldsList-from_slice_split {s = c.into_iter-segment-iterator.result} _ is_slash c.args.path.now (search rules) (search rules) (search rules) (λ x r q k. search (rules, tests)))
    c.loop-segment.yielded c.loop-segment.segment-iterator c.loop-segment.yielded_by c.next.result c.next.new.self c.in-None.is c.next.ensures.steps in
    rw (← all.0) c.loop-segment.invariant.text
