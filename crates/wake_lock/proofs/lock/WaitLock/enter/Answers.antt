use Rattle.wake_lock.proofs.lock.WaitLock.enter.Goals as goal

pub returns-clause-answer : goal.returns-clause-answer
returns-clause-answer c = c.enter.ensures.answer

pub returns-clause-holder : goal.returns-clause-holder
returns-clause-holder c = c.enter.ensures.holder

pub returns-clause-waiters : goal.returns-clause-waiters
returns-clause-waiters c = c.enter.ensures.waiters

pub returns-clause-line : goal.returns-clause-line
returns-clause-line c = c.enter.ensures.line_is

pub returns-clause-spare : goal.returns-clause-spare
returns-clause-spare c = c.enter.ensures.spare

pub returns-clause-spare_left : goal.returns-clause-spare_left
returns-clause-spare_left c = c.enter.ensures.spare_left

pub returns-clause-slots : goal.returns-clause-slots
returns-clause-slots c = c.enter.ensures.slots
