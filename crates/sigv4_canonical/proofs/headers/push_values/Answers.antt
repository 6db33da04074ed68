use Rattle.std.proofs.Common.{◌≡◌, ℕ, ◌<◌, List, [], ◌∷◌, ◌++◌, ◌+◌, length, map, take, get_or, codes, sym, ap, ◌∙◌, arith}
use Rattle.std.proofs.lemmas.List.{take_more, map-append, length-map, length-take-le}
use Rattle.sign_request.specs.CanonicalText.{joined_texts}
use Rattle.sign_request.specs.Query.{Pair}
use Rattle.sigv4_canonical.specs.CanonicalHeaders.{single_spaced}
use Rattle.sigv4_canonical.specs.SortedHeaders.{named_value, named_values, values_text}
use Rattle.sigv4_canonical.specs.declared.headers.NamedValue.{NamedValue}
use Rattle.sigv4_canonical.proofs.JoinedOn.{joined_on-first, joined_on-more}
use Rattle.sigv4_canonical.proofs.headers.push_values.Goals as goal
use Rattle.sigv4_canonical.proofs.headers.push_values.Goals.{then-i-ne0+in_ok-push, else-i-ne0}

abbrev values : List NamedValue → List (List ℕ)
values headers = map (λ (h : Pair). single_spaced h.1) (named_values headers)

module _ (d : NamedValue) (headers : List NamedValue) (i : ℕ) (within : i < length headers)
    (begun text : List ℕ) where
  more : values (take (i + 1) headers)
      ≡ values (take i headers) ++ single_spaced (get_or headers i d).value.now ∷ []
  more =
      let h = get_or headers i d in
      let taken = take i headers in
      ap values (take_more headers i d within)
      ∙ (ap (map (λ (h : Pair). single_spaced h.1)) (map-append named_value taken (h ∷ []))
      ∙ map-append (λ (h : Pair). single_spaced h.1) (named_values taken) (named_value h ∷ []))

  as_many : length (values (take i headers)) ≡ i
  as_many =
      length-map (named_values (take i headers)) (λ (h : Pair). single_spaced h.1)
      ∙ (length-map (take i headers) named_value ∙ length-take-le i headers (omega (arith, within)))

  -- the first value, and one more behind a comma
  written_first : i ≡ 0 → text ≡ begun ++ values_text (named_values (take i headers))
      → text ++ single_spaced (get_or headers i d).value.now
      ≡ begun ++ values_text (named_values (take (i + 1) headers))
  written_first none e =
      ap (λ bs. bs ++ single_spaced (get_or headers i d).value.now) e
      ∙ (joined_on-first (codes ",") begun (values (take i headers)) (single_spaced (get_or headers i d).value.now) (as_many ∙ none)
      ∙ ap (λ ws. begun ++ joined_texts (codes ",") ws) (sym more))

  written_more : 0 < i → text ≡ (begun ++ values_text (named_values (take i headers))) ++ codes ","
      → text ++ single_spaced (get_or headers i d).value.now
      ≡ begun ++ values_text (named_values (take (i + 1) headers))
  written_more some e =
      ap (λ bs. bs ++ single_spaced (get_or headers i d).value.now) e
      ∙ (joined_on-more (codes ",") begun (values (take i headers)) (single_spaced (get_or headers i d).value.now) (omega (arith, as_many, some))
      ∙ ap (λ ws. begun ++ joined_texts (codes ",") ws) (sym more))

pub loop-i-preserved : goal.loop-i-preserved
loop-i-preserved c =
    let start = c.in_ok-push_single_spaced.ensures {u = tt} in
    let begun = c.args.text.now.items in
    elim c.if-i-ne0.branch [
      | then-i-ne0+in_ok-push w ↦
          start ∙ written_more _ c.args.headers.now c.loop-i.i c.loop-i-test.true begun _ (omega arith)
          (ap (λ v. v.items) w.text-is ∙ (w.in_ok-push.ensures.items ∙ ap (λ bs. bs ++ codes ",") c.loop-i.invariant))
      | else-i-ne0 w ↦
          start ∙ written_first _ c.args.headers.now c.loop-i.i c.loop-i-test.true begun _ w.if-i-ne0.false
          (ap (λ v. v.items) w.text-is ∙ c.loop-i.invariant)
    ]
