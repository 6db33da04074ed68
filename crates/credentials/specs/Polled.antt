-- The answer of a poll.
use Rattle.std.specs.Prelude.{⊤}
use Rattle.credentials.specs.declared.polled.Polled.{Polled}
use Rattle.credentials.specs.declared.polled.Polled.TheVariants.{Pending, Ready, Failed, OutOfMemory}

-- after this answer the state that was polled can be polled again
abbrev pub CanBePolledAgain : {T : Type 0} → Polled T → Type 0
CanBePolledAgain Pending = ⊤
CanBePolledAgain OutOfMemory = ⊤
CanBePolledAgain (Ready value) = ⊥
CanBePolledAgain (Failed error) = ⊥

-- the answer with another value in place of its own
abbrev pub polled_map : {A B : Type 0} → (A → B) → Polled A → Polled B
polled_map f Pending = Pending
polled_map f (Ready value) = Ready (f value)
polled_map f (Failed error) = Failed error
polled_map f OutOfMemory = OutOfMemory
