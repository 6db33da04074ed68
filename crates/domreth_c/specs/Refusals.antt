-- The status of each cause for which a call has no answer.
use Rattle.std.specs.Prelude.{ℕ}
use Rattle.domreth_sign.specs.declared.refusal.Refusal.{Refusal}
use Rattle.domreth_sign.specs.declared.refusal.Refusal.TheVariants.{Payload, Second, Version, Key, Scope}
use Rattle.domreth_sign.specs.declared.refusal.Refusal.TheVariants.{Head}
use Rattle.domreth_sign.specs.declared.refusal.Refusal.TheVariants.{Authority, Path, Moment, Already, Expires}
use Rattle.domreth_sign.specs.declared.refusal.Refusal.TheVariants.{Link, Shape, Credential, Early, Late}
use Rattle.domreth_sign.specs.declared.refusal.Refusal.TheVariants.{Signature, OutOfMemory}

-- from 10 on what is given does not fit, from 20 on it is not signed, and from 30 on a link is not valid
abbrev pub refusal_status : Refusal → ℕ
refusal_status OutOfMemory = 6
refusal_status Payload = 10
refusal_status Second = 11
refusal_status Version = 12
refusal_status Key = 13
refusal_status Scope = 14
refusal_status Head = 20
refusal_status Authority = 21
refusal_status Path = 22
refusal_status Moment = 23
refusal_status Already = 24
refusal_status Expires = 25
refusal_status Link = 26
refusal_status Shape = 30
refusal_status Credential = 31
refusal_status Early = 32
refusal_status Late = 33
refusal_status Signature = 34
