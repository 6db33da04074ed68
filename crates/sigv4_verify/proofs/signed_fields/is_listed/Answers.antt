use Rattle.std.proofs.Common.{bytes_eq, rules, tests}
use Rattle.std.proofs.lemmas.Iterator.Search.{any_from_yields_List}
use Rattle.std.proofs.lemmas.Iterator.Splits.{YieldsList-from_slice_split}
use Rattle.http_header.specs.Token.{lowercase}
use Rattle.sigv4_verify.specs.SignedForm.{is_semicolon}
use Rattle.sigv4_verify.proofs.signed_fields.is_listed.Goals as goal

pub returns : goal.returns
returns c =
    any_from_yields_List (λ name. bytes_eq (lowercase name) (lowercase c.args.field.now.name)) _ _ _ c.any.ensures.ran
    (YieldsList-from_slice_split {s = c.split.result} _ is_semicolon c.args.names.now (search rules) (search rules) (search rules) (λ x r q k. search (rules, tests))) (λ x b q k. search (rules, tests))
