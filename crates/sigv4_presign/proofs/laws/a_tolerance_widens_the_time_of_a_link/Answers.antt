use Rattle.sigv4_presign.proofs.MadeLinkChecked.{within-Valid, within-Early, within-Late}
use Rattle.sigv4_presign.proofs.NoTolerance.{checked_within-zero}
use Rattle.sigv4_presign.proofs.laws.a_tolerance_widens_the_time_of_a_link.Goals as goal

pub returns-clause-none : goal.returns-clause-none
returns-clause-none c = λ keys scope u head. checked_within-zero keys scope u head

pub returns-clause-valid : goal.returns-clause-valid
returns-clause-valid c = λ keys scope expires now u tolerance head link was. within-Valid keys scope expires now u head link was tolerance

pub returns-clause-early : goal.returns-clause-early
returns-clause-early c = λ keys scope expires now u tolerance head link was. within-Early keys scope expires now u head link was tolerance

pub returns-clause-late : goal.returns-clause-late
returns-clause-late c = λ keys scope expires now u tolerance head link was. within-Late keys scope expires now u head link was tolerance
