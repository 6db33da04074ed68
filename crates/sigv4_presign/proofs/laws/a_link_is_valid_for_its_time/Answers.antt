use Rattle.sigv4_presign.proofs.MadeLinkChecked.{checked-Valid, checked-Early, checked-Late}
use Rattle.sigv4_presign.proofs.laws.a_link_is_valid_for_its_time.Goals as goal

pub returns-clause-valid : goal.returns-clause-valid
returns-clause-valid c = λ keys scope expires now u head link was. checked-Valid keys scope expires now u head link was

pub returns-clause-early : goal.returns-clause-early
returns-clause-early c = λ keys scope expires now u head link was. checked-Early keys scope expires now u head link was

pub returns-clause-late : goal.returns-clause-late
returns-clause-late c = λ keys scope expires now u head link was. checked-Late keys scope expires now u head link was
