use Rattle.wake_lock.proofs.lock.WaitLock.first.Given as goal

-- the count is of its own
abbrev pub ghosts-first : goal.ghosts-first
ghosts-first a = record { name = a.blank.name; parts = a.blank.parts }
