use Rattle.wake_lock.proofs.lock.WaitLock.enter.Given as goal

-- the count is of its own
abbrev pub ghosts-enter : goal.ghosts-enter
ghosts-enter a = record { name = a.blank.name; parts = a.blank.parts }
