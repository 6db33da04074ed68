-- What standard error says of how a run ended.
use Rattle.std.specs.Prelude.{ℕ, List, [], codes}
use Rattle.signctl_driver.specs.declared.status.Status.{Status}
use Rattle.signctl_driver.specs.declared.status.Status.TheVariants.{Done, Usage, Refused, ReadFault}
use Rattle.signctl_driver.specs.declared.status.Status.TheVariants.{WriteFault, OutOfMemory}

-- the usage line
abbrev pub usage_line : List ℕ
usage_line = codes "usage: signctl script|view|hmac|grant|load N|pool W J\n"

-- what stands on standard error for the way in which a run ended: the line that says what the output can't
abbrev pub reason_line : Status → List ℕ
reason_line Done = []
reason_line Refused = []
reason_line Usage = usage_line
reason_line ReadFault = codes "signctl: a read failed\n"
reason_line WriteFault = codes "signctl: a write failed\n"
reason_line OutOfMemory = codes "signctl: out of memory\n"
