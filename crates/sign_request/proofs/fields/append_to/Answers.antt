use Rattle.std.proofs.Common.{◌∙◌, ap, inl, Err}
use Rattle.sign_request.proofs.Refused.{made_of}
use Rattle.sign_request.proofs.fields.append_to.Goals as goal

pub returns-in-Ok-clause-accepted : goal.returns-in-Ok-clause-accepted
returns-in-Ok-clause-accepted c = λ refused. let full = c.append.ensures.full.1 refused in let fits = c.in-Ok.is in cc

pub returns-in-Err-MaxSizeReached-clause-err : goal.returns-in-Err-MaxSizeReached-clause-err
returns-in-Err-MaxSizeReached-clause-err c =
    made_of c.from_http.result c.or_out_of_memory.result c.or_out_of_memory.ensures c.from_http.ensures.kind
    (c.append.ensures.full.0 (c.in-Err-MaxSizeReached.is ∙ ap Err c.in-Err-MaxSizeReached.field-0-is))

pub returns-in-Err-OutOfMemory-clause-err : goal.returns-in-Err-OutOfMemory-clause-err
returns-in-Err-OutOfMemory-clause-err c = inl c.out_of_memory.ensures
