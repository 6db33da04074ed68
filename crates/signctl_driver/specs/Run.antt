-- What a run of a command takes from its source and adds to its sink, by how it ends.
use Rattle.std.specs.Prelude.{◌≡◌, ◌<◌, ◌≤◌, ◌⊎◌, ℕ, List, Option, None, IsSome, length}
use Rattle.std.specs.Io.{StartsWith}
use Rattle.std.specs.Io.KnownBytes.{IsAtEnd}
use Rattle.sign_io.specs.Lines.{input_limit}
use Rattle.signctl_driver.specs.Command.{Command}
use Rattle.signctl_driver.specs.Lines.{Ending, End, Fault}
use Rattle.signctl_driver.specs.LinesRead.{lines_read, first_bad}
use Rattle.signctl_driver.specs.Output.{output}
use Rattle.signctl_driver.specs.declared.status.Status.{Status}
use Rattle.signctl_driver.specs.declared.status.Status.TheVariants.{Done, Usage, Refused, ReadFault}
use Rattle.signctl_driver.specs.declared.status.Status.TheVariants.{WriteFault, OutOfMemory}

-- some line of the bytes is bad, or, where all was read, their end is
abbrev pub HasBadLine : {Item Cause : Type 0} → Command Item Cause → List ℕ → Ending → Type 0
HasBadLine command bytes ending = IsSome (first_bad command ending (lines_read command bytes ending))

-- no line of the bytes is bad, nor, where all was read, their end
abbrev pub HasGoodLines : {Item Cause : Type 0} → Command Item Cause → List ℕ → Ending → Type 0
HasGoodLines command bytes ending = first_bad command ending (lines_read command bytes ending) ≡ None

-- all was read, no line is bad, and all answers and the closing were written
pub record IsDone {Item Cause : Type 0} (command : Command Item Cause) (left : Option (List ℕ))
    (taken added : List ℕ) : Type 0 where
  pub text : added ≡ output command taken End
  pub at_end : IsAtEnd left
  pub good : HasGoodLines command taken End
  pub within : length taken ≤ input_limit

-- why an input is refused: a line is bad, whatever would have followed; all was read, and a line is
-- bad; or there are too many bytes
abbrev pub IsBadInput : {Item Cause : Type 0} → Command Item Cause → Option (List ℕ) → List ℕ → Type 0
IsBadInput command left taken =
    HasBadLine command taken Fault
    ⊎ ((IsAtEnd left × HasBadLine command taken End) ⊎ (input_limit < length taken))

-- the input is refused, and the whole output was written, up to the line that says why
pub record IsRefused {Item Cause : Type 0} (command : Command Item Cause) (left : Option (List ℕ))
    (taken added : List ℕ) : Type 0 where
  pub text : added ≡ output command taken End
  pub cause : IsBadInput command left taken

-- a read failed after good lines, whose answers were written
pub record IsCutOff {Item Cause : Type 0} (command : Command Item Cause) (taken added : List ℕ) : Type 0 where
  pub text : added ≡ output command taken Fault
  pub good : HasGoodLines command taken Fault
  pub within : length taken ≤ input_limit

-- what was written is a prefix of the output to the bytes taken, as where a read failed, or, where all
-- was read, of the whole output
abbrev pub StopsEarly : {Item Cause : Type 0} → Command Item Cause → Option (List ℕ) → List ℕ
    → List ℕ → Type 0
StopsEarly command left taken added =
    StartsWith (output command taken Fault) added
    ⊎ (IsAtEnd left × StartsWith (output command taken End) added)

-- what a run has added to the sink for the bytes that it took, by how it ended; this is left in the source
abbrev pub RunAdds : {Item Cause : Type 0} → Command Item Cause → Option (List ℕ) → Status → List ℕ
    → List ℕ → Type 0
RunAdds command left Done taken added = IsDone command left taken added
RunAdds command left Refused taken added = IsRefused command left taken added
RunAdds command left ReadFault taken added = IsCutOff command taken added
RunAdds command left WriteFault taken added = StopsEarly command left taken added
RunAdds command left OutOfMemory taken added = StopsEarly command left taken added
RunAdds command left Usage taken added = ⊥
