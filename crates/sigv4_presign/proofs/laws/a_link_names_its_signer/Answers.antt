use Rattle.sigv4_presign.proofs.WhoSigned.{own_checked, own_within, other_checked}
use Rattle.sigv4_presign.proofs.laws.a_link_names_its_signer.Goals as goal

pub returns-clause-own : goal.returns-clause-own
returns-clause-own c = λ keys scope u head claims names signer. own_checked head claims names keys scope signer u

pub returns-clause-own_within : goal.returns-clause-own_within
returns-clause-own_within c = λ keys scope u tolerance head claims names signer. own_within head claims names keys scope signer u tolerance

pub returns-clause-other : goal.returns-clause-other
returns-clause-other c = λ keys scope u head claims names scoped other. other_checked head claims names keys scope scoped other u
