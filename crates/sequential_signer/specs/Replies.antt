-- Kinds of replies.
use Rattle.std.specs.Prelude.{Bool, true, false}
use Rattle.sequential_signer.specs.declared.event.Reply.{Reply}
use Rattle.sequential_signer.specs.declared.event.Reply.TheVariants.{Ask, Sign, Done, Refused, Cancelled}

-- whether the reply asks a provider
abbrev pub is_ask : {K : Type 0} → Reply K → Bool
is_ask (Ask provider) = true
is_ask _ = false

-- whether the reply hands out a credential
abbrev pub is_sign : {K : Type 0} → Reply K → Bool
is_sign (Sign credential wake) = true
is_sign _ = false

-- whether the reply is a signed head
abbrev pub is_done : {K : Type 0} → Reply K → Bool
is_done (Done head) = true
is_done _ = false

-- whether the reply refuses the call, by whatever cause
abbrev pub is_refused : {K : Type 0} → Reply K → Bool
is_refused (Refused why wake) = true
is_refused _ = false

-- whether the reply says that the call was cancelled
abbrev pub is_cancelled : {K : Type 0} → Reply K → Bool
is_cancelled (Cancelled wake) = true
is_cancelled _ = false
