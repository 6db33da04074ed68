use Rattle.sigv4_verify.proofs.HeadFound.{signed-Valid, signed-Early, signed-Late}
use Rattle.sigv4_verify.proofs.laws.a_signed_head_is_valid_for_its_second.Goals as goal

pub returns-clause-valid : goal.returns-clause-valid
returns-clause-valid c = λ keys scope word now u tolerance head signed found was is. signed-Valid keys scope word now u tolerance head signed found was is

pub returns-clause-early : goal.returns-clause-early
returns-clause-early c = λ keys scope word now u tolerance head signed found was is early. signed-Early keys scope word now u tolerance head signed found was is early

pub returns-clause-late : goal.returns-clause-late
returns-clause-late c = λ keys scope word now u tolerance head signed found was is late. signed-Late keys scope word now u tolerance head signed found was is late
