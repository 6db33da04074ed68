-- What a reader that gave nothing says of its words.
use Rattle.std.proofs.Common.{◌≡◌, Option, None, Result, Ok, Err, IsErr}
use Rattle.line_words.specs.declared.read_error.NotUnderstood.{NotUnderstood}
use Rattle.line_words.specs.declared.read_error.ReadError.{ReadError}
use Rattle.line_words.specs.declared.read_error.ReadError.TheVariants as cause
use Rattle.line_words.specs.Readers.{Reads, Gives}

-- an error is right where the words spell nothing
pub gives_none : {X Y : Type 0} (view : X → Y) (result : Result X ReadError) (says : Option Y) → IsErr result
    → says ≡ None → Gives view result says
gives_none view (Ok x) says failed none = absurd cc
gives_none view (Err cause.NotUnderstood) says failed none = none
gives_none view (Err cause.OutOfMemory) says failed none = tt

pub reads_none : {X Y : Type 0} (view : X → Y) (result : Result X NotUnderstood) (says : Option Y)
    → IsErr result → says ≡ None → Reads view result says
reads_none view (Ok x) says failed none = absurd cc
reads_none view (Err e) says failed none = none
