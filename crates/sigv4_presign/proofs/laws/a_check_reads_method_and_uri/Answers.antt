use Rattle.sigv4_presign.proofs.SameRequest.{checked-AskTheSame, within-AskTheSame, checked-IsRequestBy}
use Rattle.sigv4_presign.proofs.laws.a_check_reads_method_and_uri.Goals as goal

pub returns-clause-same : goal.returns-clause-same
returns-clause-same c = λ keys scope u head other same. checked-AskTheSame keys scope head other same u

pub returns-clause-within : goal.returns-clause-within
returns-clause-within c = λ keys scope u tolerance head other same. within-AskTheSame keys scope head other same u tolerance

pub returns-clause-request : goal.returns-clause-request
returns-clause-request c = λ keys scope expires now u head link request was by. checked-IsRequestBy keys scope expires now u head link request was by
