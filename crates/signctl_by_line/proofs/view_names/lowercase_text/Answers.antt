use Rattle.std.proofs.Common.{◌≡◌, ◌≤◌, ◌∙◌, ap, arith, length, List, ℕ}
use Rattle.std.specs.List.{flat_map}
use Rattle.std.proofs.lemmas.List.{take_all}
use Rattle.http_header.specs.Token.{lowercase}
use Rattle.sign_base.specs.declared.head.Field.{Field}
use Rattle.sigv4_canonical.specs.SortedHeaders.{lowercase_names}
use Rattle.sigv4_canonical.proofs.NameText.{lowered}
use Rattle.signctl_by_line.proofs.view_names.lowercase_text.Goals as goal

pub returns : goal.returns
returns c =
    let spelled : List Field → List ℕ = flat_map (λ f. f.name) in
    let end : length c.args.fields.now ≤ c.loop-field.field-index =
    omega (arith, ap length c.as_slice-field-items.ensures, c.loop-field-test.false) in
    let whole : c.loop-field.text.items ≡ spelled c.args.fields.now =
    c.loop-field.invariant ∙ ap spelled (take_all _ _ end) in
    let lower : lowercase c.loop-field.text.items ≡ lowercase_names c.args.fields.now =
    ap lowercase whole ∙ lowered c.args.fields.now in
    rw lower at c.in_lower_case.ensures
