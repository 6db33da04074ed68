use Rattle.std.proofs.Common.{◌∙◌, ap, Err}
use Rattle.sign_request.proofs.Refused.{made_of_value}
use Rattle.sign_request.proofs.fields.value_of.Goals as goal

pub returns-in-Ok-clause-accepted : goal.returns-in-Ok-clause-accepted
returns-in-Ok-clause-accepted c = λ no. let refused = c.from_bytes.ensures.invalid.1 no in let made = c.in-Ok.is in cc

pub returns-in-Err-clause-err : goal.returns-in-Err-clause-err
returns-in-Err-clause-err c =
    made_of_value c.from_header_value.result c.or_out_of_memory.result c.in-Err.e c.or_out_of_memory.ensures c.from_header_value.ensures.kind
    c.from_header_value.ensures.memory (λ invalid. c.from_bytes.ensures.invalid.0 (c.in-Err.is ∙ ap Err invalid))
