use Rattle.std.proofs.Common.{◌≡◌, ◌<◌, ◌≤◌, List, [], ◌∷◌, ◌++◌, ◌+◌, length, take, drop, codes, append_assoc, sym, ap, ap₂, ◌∙◌, subst, arith, length-append}
use Rattle.std.proofs.lemmas.Bool.Decides.{nat_tests}
use Rattle.std.proofs.lemmas.List.{drop-map, drop-drop, length-map, take_rest}
use Rattle.sign_request.specs.KeyOrder.{Ascends, key_cmp, BeginsWithKey}
use Rattle.sigv4_canonical.specs.SortedHeaders.{named_value, named_values, names_in, lines_in, group_line, first_name}
use Rattle.sigv4_canonical.specs.declared.headers.NamedValue.{NamedValue}
use Rattle.sigv4_canonical.proofs.HeaderGroups.{names-first, lines-first, first_name-key, Ascends-drop}
use Rattle.sigv4_canonical.proofs.JoinedOn.{joined-first, joined-more}
use Rattle.sigv4_canonical.proofs.headers.push_headers.Goals as goal
use Rattle.sigv4_canonical.proofs.headers.push_headers.Goals.{then-start-ne0+in_ok-push, else-start-ne0}

pub loop-start-preserved : goal.loop-start-preserved
loop-start-preserved c =
    let left_of : List NamedValue = drop c.loop-start.start c.args.headers.now in
    let part_is = take_rest c.args.headers.now c.loop-start.start in
    let rest = named_values left_of in
    let n = c.in_ok-start.field-0 in
    let known = c.loop-start.invariant in
    let first : BeginsWithKey n rest = subst (λ hs. BeginsWithKey n (named_values hs)) part_is c.in_ok-start.ensures.first in
    let bound = c.in_ok-start.ensures.bound in
    let fits : n ≤ length rest = (let one = length-map left_of named_value in let two = ap length part_is in omega (arith, one, two, bound.1)) in
    let lines_are : c.push_first_name.new.texts.lines.items ≡ c.if-start-ne0.texts.lines.items ++ group_line (first_name rest) (take n rest) =
    rw part_is at c.in_ok-start.ensures.lines in
    let names_are : c.push_first_name.new.texts.names.items ≡ c.if-start-ne0.texts.names.items ++ first_name rest = rw part_is at c.in_ok-start.ensures.names in
    let name = first_name-key n rest bound.0 fits first in
    let left : drop n rest ≡ named_values (drop (c.loop-start.start + n) c.args.headers.now) =
    drop-map named_value n (drop c.loop-start.start c.args.headers.now) ∙ ap named_values (drop-drop n c.loop-start.start c.args.headers.now) in
    let group = group_line first.0 (take n rest) in
    let before = c.loop-start.texts.lines.items in
    let same_lines : c.if-start-ne0.texts.lines.items ≡ before = elim c.if-start-ne0.branch [
      | then-start-ne0+in_ok-push w ↦ ap (λ t. t.lines.items) w.texts-is
      | else-start-ne0 w ↦ ap (λ t. t.lines.items) w.texts-is
    ] in
    let semicolon = codes ";" in
    record {
      ascend = subst (Ascends key_cmp) left (Ascends-drop n rest known.ascend);
      lines =
          ap₂ (λ a b. a ++ lines_in b) (lines_are ∙ ap₂ (λ a b. a ++ group_line b (take n rest)) same_lines name) (sym left)
          ∙ (append_assoc before group (lines_in (drop n rest)) ∙ (ap (λ t. before ++ t) (sym (lines-first n rest bound.0 fits first)) ∙ known.lines));
      written = known.written ++ first.0 ∷ [];
      names = names_are ∙ (ap (λ t. c.if-start-ne0.texts.names.items ++ t) name ∙ elim c.if-start-ne0.branch [
        | then-start-ne0+in_ok-push w ↦
            let some : 0 < length known.written = grind (arith, nat_tests, known.none) in
            ap (λ t. t ++ first.0) (ap (λ t. t.names.items) w.texts-is ∙ (w.in_ok-push.ensures.items ∙ ap (λ t. t ++ semicolon) known.names))
            ∙ sym (joined-more semicolon known.written first.0 some)
        | else-start-ne0 w ↦
            let none : length known.written ≡ 0 = grind (arith, nat_tests, known.none) in
            ap (λ t. t ++ first.0) (ap (λ t. t.names.items) w.texts-is ∙ known.names)
            ∙ sym (joined-first semicolon known.written first.0 none)
      ]);
      all =
          known.all ∙ (ap (λ ns. known.written ++ ns) (names-first n rest bound.0 fits first ∙ ap (λ hs. first.0 ∷ names_in hs) left)
          ∙ sym (append_assoc known.written (first.0 ∷ []) (names_in (named_values (drop (c.loop-start.start + n) c.args.headers.now)))));
      none = (let more = length-append known.written (first.0 ∷ []) in grind (arith, nat_tests, more, bound.0));
    }
