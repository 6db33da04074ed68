use Rattle.wake_lock.proofs.lock.WaitLock.cancel.Given as goal

-- the count is of its own
abbrev pub ghosts-cancel : goal.ghosts-cancel
ghosts-cancel a = record { name = a.blank.name; parts = a.blank.parts }
