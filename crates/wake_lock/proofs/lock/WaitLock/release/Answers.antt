use Rattle.wake_lock.proofs.lock.WaitLock.release.Goals as goal

pub returns-clause-answer : goal.returns-clause-answer
returns-clause-answer c = c.release.ensures.answer

pub returns-clause-holder : goal.returns-clause-holder
returns-clause-holder c = c.release.ensures.holder

pub returns-clause-waiters : goal.returns-clause-waiters
returns-clause-waiters c = c.release.ensures.waiters

pub returns-clause-line : goal.returns-clause-line
returns-clause-line c = c.release.ensures.line_is

pub returns-clause-spare : goal.returns-clause-spare
returns-clause-spare c = c.release.ensures.spare

pub returns-clause-spare_left : goal.returns-clause-spare_left
returns-clause-spare_left c = c.release.ensures.spare_left

pub returns-clause-slots : goal.returns-clause-slots
returns-clause-slots c = c.release.ensures.slots
