-- A call that a signer began.
use Rattle.sign_base.specs.declared.head.Head.{Head}
use Rattle.desk_driver.specs.declared.begun_call.BegunCall.{BegunCall as Begun}

-- it has a head
abbrev pub BegunCall : Type 0
BegunCall = Begun Head
