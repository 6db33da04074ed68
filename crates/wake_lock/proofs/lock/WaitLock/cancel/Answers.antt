use Rattle.wake_lock.proofs.lock.WaitLock.cancel.Goals as goal

pub returns-clause-answer : goal.returns-clause-answer
returns-clause-answer c = c.cancel.ensures.answer

pub returns-clause-holder : goal.returns-clause-holder
returns-clause-holder c = c.cancel.ensures.holder

pub returns-clause-waiters : goal.returns-clause-waiters
returns-clause-waiters c = c.cancel.ensures.waiters

pub returns-clause-line : goal.returns-clause-line
returns-clause-line c = c.cancel.ensures.line_is

pub returns-clause-absent : goal.returns-clause-absent
returns-clause-absent c = c.cancel.ensures.absent

pub returns-clause-lock : goal.returns-clause-lock
returns-clause-lock c = c.cancel.ensures.lock

pub returns-clause-spare : goal.returns-clause-spare
returns-clause-spare c = c.cancel.ensures.spare

pub returns-clause-spare_left : goal.returns-clause-spare_left
returns-clause-spare_left c = c.cancel.ensures.spare_left

pub returns-clause-slots : goal.returns-clause-slots
returns-clause-slots c = c.cancel.ensures.slots
