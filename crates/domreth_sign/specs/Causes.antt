-- The causes of the calls below, as those of one list.
use Rattle.sigv4_core.specs.declared.sig_error.SigError.{SigError}
use Rattle.sigv4_core.specs.declared.sig_error.SigError.TheVariants as signing
use Rattle.sigv4_presign.specs.declared.presign_error.PresignError.{PresignError}
use Rattle.sigv4_presign.specs.declared.presign_error.PresignError.TheVariants as presigning
use Rattle.domreth_sign.specs.declared.refusal.Refusal.{Refusal}
use Rattle.domreth_sign.specs.declared.refusal.Refusal.TheVariants.{Head, Authority, Path, Moment, Already}
use Rattle.domreth_sign.specs.declared.refusal.Refusal.TheVariants.{Expires, Link, OutOfMemory}

-- why a head is not signed
abbrev pub of_signing : SigError → Refusal
of_signing signing.Head = Head
of_signing signing.Authority = Authority
of_signing signing.Path = Path
of_signing signing.Moment = Moment
of_signing signing.OutOfMemory = OutOfMemory

-- why a link is not made
abbrev pub of_presigning : PresignError → Refusal
of_presigning presigning.Head = Head
of_presigning presigning.Authority = Authority
of_presigning presigning.Path = Path
of_presigning presigning.Moment = Moment
of_presigning presigning.Already = Already
of_presigning presigning.Expires = Expires
of_presigning presigning.Link = Link
of_presigning presigning.OutOfMemory = OutOfMemory
