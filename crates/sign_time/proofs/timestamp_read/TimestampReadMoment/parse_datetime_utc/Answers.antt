use Rattle.std.proofs.Common.{◌≡◌, ◌∙◌, Some, None, sym, refl}
use Rattle.sign_time.specs.Reading.{read_civil}
use Rattle.sign_time.proofs.CivilRead.{read_civil-found}
use Rattle.sign_time.proofs.timestamp_read.TimestampReadMoment.parse_datetime_utc.Goals as goal

pub returns-in-Some-clause-value : goal.returns-in-Some-clause-value
returns-in-Some-clause-value c = read_civil-found c.args.s.now c.in-Ok.civil (sym c.in-Ok.ensures.value) ∙ (sym c.in_utc.ensures ∙ c.in-Some.is)

pub returns-in-Some-clause-ok : goal.returns-in-Some-clause-ok
returns-in-Some-clause-ok c =
    let read : read_civil c.args.s.now ≡ Some c.in-Some.timestamp = returns-in-Some-clause-value c in
    (λ _. rw read refl, λ _. refl)

pub returns-in-None-clause-ok : goal.returns-in-None-clause-ok
returns-in-None-clause-ok c =
    let read : read_civil c.args.s.now ≡ None = read_civil-found c.args.s.now c.in-Ok.civil (sym c.in-Ok.ensures.value) ∙ (sym c.in_utc.ensures ∙ c.in-None.is) in
    (λ ok. rw read ok, λ some. rw read at some)
