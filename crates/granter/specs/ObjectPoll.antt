-- What a granting service means, in a context.
use Rattle.credentials.specs.declared.grant.GrantCredential as GrantCredential
use Rattle.desk_driver.specs.Meanings.{operation_of}
use Rattle.desk_driver.specs.declared.begun_call.BegunCall.{BegunCall as Begun}
use Rattle.granter.specs.ObjectAnswer.{ServiceMeaning}

-- a call that a granter began, which names no head
abbrev pub BegunCall : Type 0
BegunCall = Begun (Unit {0})

-- what a granting service means in a context, for a call with this source
abbrev pub service_meaning : {G C W K : Type 0} → GrantCredential.Ghosts G C W K → G → C → BegunCall → K
    → ServiceMeaning K W
service_meaning g service ctx begun source = record {
  started = g.started service ctx (operation_of begun source);
  ready = g.ready service ctx;
  gives = g.gives service ctx (operation_of begun source);
}
