use Rattle.std.proofs.Common.{◌≡◌, ◌<◌, ℕ, List, [], ◌∷◌, ◌++◌, length, take, codes, get_or, append_assoc, refl, sym, ap, ◌∙◌, arith}
use Rattle.std.proofs.lemmas.List.{take-map}
use Rattle.sigv4_canonical.specs.SortedHeaders.{named_value, named_values, values_text, first_name}
use Rattle.sigv4_canonical.specs.declared.headers.NamedValue.{NamedValue}
use Rattle.sigv4_canonical.proofs.headers.push_first_name.Goals as goal

first_is : (headers : List NamedValue) (h : NamedValue) → 0 < length headers
    → first_name (named_values headers) ≡ (get_or headers 0 h).name.now
first_is [] h some = absurd (omega arith)
first_is (x ∷ headers) h some = refl

in_a_row : (a b c d e : List ℕ) → (((a ++ b) ++ c) ++ d) ++ e ≡ a ++ (b ++ (c ++ (d ++ e)))
in_a_row a b c d e = simp append_assoc refl

pub returns-clause-lines : goal.returns-clause-lines
returns-clause-lines c =
    let old = c.args.texts.now.lines.items in
    let name = first_name (named_values c.args.headers.now) in
    let count = c.count_named-count.result in
    let values = values_text (named_values (take count c.args.headers.now)) in
    c.in_ok-push-2.ensures.items
    ∙ (ap (λ t. t ++ 10 ∷ []) (c.in_ok-push_values.ensures {u = tt}
    ∙ ap (λ t. t ++ values) (c.in_ok-push.ensures.items
    ∙ ap (λ t. t ++ 58 ∷ []) (c.in_ok-extend_from_slice-2.ensures.items ∙ ap (λ t. old ++ t) (sym (first_is c.args.headers.now _ c.requires.not_empty)))))
    ∙ (in_a_row old name (codes ":") values (10 ∷ [])
    ∙ ap (λ vs. old ++ (name ++ (codes ":" ++ (values_text vs ++ 10 ∷ [])))) (sym (take-map named_value count c.args.headers.now))))

pub count_named-count-requires-clause-first : goal.count_named-count-requires-clause-first
count_named-count-requires-clause-first c = sym (first_is c.args.headers.now _ c.requires.not_empty)
