-- What a service means, in a context.
use Rattle.credentials.specs.declared.sign.SignRequest as SignRequest
use Rattle.desk_driver.specs.Meanings.{operation_of}
use Rattle.signer.specs.ObjectAnswer.{ServiceMeaning}
use Rattle.signer.specs.BegunCall.{BegunCall}

-- what a service means in a context, for a call with this credential
abbrev pub service_meaning : {S C W K : Type 0} → SignRequest.Ghosts S C W K → S → C → BegunCall → K
    → ServiceMeaning W
service_meaning g service ctx begun credential = record {
  started = g.started service ctx (operation_of begun credential);
  ready = g.ready service ctx;
  gives = g.gives service ctx (operation_of begun credential) begun.head;
  head = begun.head;
}
