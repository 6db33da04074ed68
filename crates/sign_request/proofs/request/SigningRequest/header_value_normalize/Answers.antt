use Rattle.std.proofs.Common.{◌∙◌, ℕ, List, length, sym, ap, slice_range, arith}
use Rattle.http_header.specs.FieldValue.{plain_value}
use Rattle.sign_request.specs.Headers.{trimmed_value}
use Rattle.sign_request.proofs.request.SigningRequest.header_value_normalize.Goals as goal

pub slice-requires : goal.slice-requires
slice-requires c = record {
  known = tt;
  start_le_end = c.trimmed_range-start.ensures.start;
  in_bounds = omega (arith, c.trimmed_range-start.ensures.end, ap length c.as_bytes.ensures.value, ap length c.as_shared.ensures.value);
}

pub returns-clause-ok : goal.returns-clause-ok
returns-clause-ok c =
    let range = c.trimmed_range-start.result in
    c.from_known_valid.ensures
    ∙ ap plain_value
    ((c.in_ok-bytes.ensures {u = tt}).ok
    ∙ ap (λ (bytes : List ℕ). slice_range bytes range.0 range.1) (c.as_shared.ensures.value ∙ sym c.as_bytes.ensures.value)
    ∙ c.trimmed_range-start.ensures.cut ∙ ap trimmed_value c.as_bytes.ensures.value)
