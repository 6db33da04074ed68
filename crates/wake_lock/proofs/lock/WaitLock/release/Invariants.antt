use Rattle.wake_lock.proofs.lock.WaitLock.release.Given as goal

-- the count is of its own
abbrev pub ghosts-release : goal.ghosts-release
ghosts-release a = record { name = a.blank.name; parts = a.blank.parts }
