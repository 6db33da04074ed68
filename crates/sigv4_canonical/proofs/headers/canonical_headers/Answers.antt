use Rattle.std.proofs.Common.{◌++◌, ◌∙◌, ap, ap₂}
use Rattle.sigv4_canonical.specs.SortedHeaders.{named_values, lines_in, names_text}
use Rattle.sigv4_canonical.proofs.HeaderGroups.{lines-sorted, names-sorted}
use Rattle.sigv4_canonical.proofs.headers.canonical_headers.Goals as goal

pub returns-clause-lines : goal.returns-clause-lines
returns-clause-lines c =
    c.in_ok-push_headers.ensures.lines ∙ (ap₂ (λ a hs. a ++ lines_in (named_values hs)) c.in_ok-with_capacity.ensures.items c.as_slice-2.ensures.value ∙ lines-sorted c.args.fields.now (named_values c.in_ok-headers.headers.items) c.in_ok-headers.ensures)

pub returns-clause-names : goal.returns-clause-names
returns-clause-names c =
    c.in_ok-push_headers.ensures.names ∙ (ap (λ hs. names_text (named_values hs)) c.as_slice-2.ensures.value ∙ names-sorted c.args.fields.now (named_values c.in_ok-headers.headers.items) c.in_ok-headers.ensures)
