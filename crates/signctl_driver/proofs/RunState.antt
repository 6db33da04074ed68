-- What holds of a run between two lines.
use Rattle.std.proofs.Common.{◌≡◌, ◌⊎◌, ℕ, ◌≤◌, List, [], ◌++◌, length, Option, Some, None}
use Rattle.std.specs.Io.KnownBytes.{Appends, Consumes, IsAtEnd}
use Rattle.sign_io.specs.declared.input_end.InputEnd.TheVariants as input_end
use Rattle.sign_io.specs.LineInput.{LineInput, IsWithinLimit}
use Rattle.signctl_driver.specs.Command.{Command, answers_to}
use Rattle.signctl_driver.specs.Lines.{End}
use Rattle.signctl_driver.specs.LinesRead.{lines_read}
use Rattle.signctl_driver.specs.Serving.{HasServed}
use Rattle.signctl_driver.specs.declared.service.Service.{Service}
use Rattle.signctl_driver.proofs.Progress.{GoesOn}

-- what a source has left or a sink holds, before the run and now
pub record Since : Type 0 where
  pub before : Option (List ℕ)
  pub now : Option (List ℕ)

-- the two streams of a run
pub record Streams : Type 0 where
  pub source : Since
  pub sink : Since

abbrev pub streams_of : Since → Since → Streams
streams_of source sink = record { source = source; sink = sink }

-- what the bytes handed out say: the lines after them are read after these items; or all was read, and no
-- line is bad
abbrev pub IsReadSoFar : {Item Cause : Type 0} → Command Item Cause → Option (List ℕ) → List Item → List ℕ
    → LineInput → Type 0
IsReadSoFar command left items bytes input =
    ((input.closed ≡ None) × GoesOn command items bytes)
    ⊎ ((input.closed ≡ Some input_end.End) × IsAtEnd left × (input.held ≡ []) × (lines_read command bytes End ≡ record { items = items; bad = None }))

-- the items of the lines so far, the bytes of these lines, and the answers that were written
pub record RunState {C Item Cause : Type 0} (command : Command Item Cause) (represents : C → List Item → Type 0) (streams : Streams) (input : LineInput) (service : Service C) : Type 0 where
  pub items : List Item
  pub bytes : List ℕ
  pub written : List ℕ
  pub served : HasServed represents service items
  pub read : IsReadSoFar command streams.source.now items bytes input
  pub handed : length bytes ≡ input.handed
  pub within : IsWithinLimit input
  pub few : length items ≤ input.handed
  pub taken : Consumes streams.source.before streams.source.now (bytes ++ input.held)
  pub added : Appends streams.sink.before streams.sink.now written
  pub answered : answers_to command items ≡ written ++ service.text.items
