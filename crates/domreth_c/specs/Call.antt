-- What a call from another language does: it hands a text over, or there is a cause why there is none.
use Rattle.std.specs.Prelude.{◌≡◌, ◌<◌, ◌⊎◌, ◌++◌, ℕ, Bool, true, false, List, Option, None, length, drop}
use Rattle.std.specs.Prelude.{Result, Ok, Err}
use Rattle.domreth_run.specs.Answers.{IsAnswer}
use Rattle.domreth_sign.specs.declared.refusal.Refusal.{Refusal}
use Rattle.signctl_core.specs.declared.commands.CommandName.{CommandName}
use Rattle.domreth_c.specs.Refusals.{refusal_status}

-- the caller's bytes before and after the call, and the length that is needed
pub record Room : Type 0 where
  pub old : List ℕ
  pub new : List ℕ
  pub needed : ℕ

-- the text stands in front of what is left of the bytes
abbrev pub HandsOver : List ℕ → Room → Type 0
HandsOver text room = (room.needed ≡ length text) × (room.new ≡ text ++ drop (length text) room.old)

-- the text does not fit, and the bytes are as before
abbrev pub HasNoRoom : List ℕ → Room → Type 0
HasNoRoom text room = (length room.old < length text) × (room.needed ≡ length text) × (room.new ≡ room.old)

-- there is no text, and the bytes are as before
abbrev pub HandsNothing : Room → Type 0
HandsNothing room = (room.needed ≡ 0) × (room.new ≡ room.old)

-- the text was handed over and the status is this one, or it is 5 and the text does not fit
abbrev pub HandsText : ℕ → List ℕ → ℕ → Room → Type 0
HandsText done text status room =
    ((status ≡ done) × HandsOver text room) ⊎ ((status ≡ 5) × HasNoRoom text room)

-- memory ran out
abbrev pub RanOut : ℕ → Room → Type 0
RanOut status room = (status ≡ 6) × HandsNothing room

-- the status of a text that a command answers: 0, or 3 where a line is bad
abbrev pub status_of : Bool → ℕ
status_of true = 0
status_of false = 3

-- the command answers the input by its whole output, which is handed over
abbrev pub HandsAnswer : Option CommandName → List ℕ → ℕ → Room → Type 0
HandsAnswer asked input status room =
    (good : Bool) × (text : List ℕ) × IsAnswer asked input good text
    × HandsText (status_of good) text status room

-- what a run does: the answer, or status 2 where no command has the name, or memory ran out
abbrev pub IsCall : Option CommandName → List ℕ → ℕ → Room → Type 0
IsCall asked input status room =
    HandsAnswer asked input status room
    ⊎ (((status ≡ 2) × (asked ≡ None) × HandsNothing room) ⊎ RanOut status room)

-- the text is handed over, or the status is that of the cause why there is none
abbrev pub HandsResult : Result (List ℕ) Refusal → ℕ → Room → Type 0
HandsResult (Ok text) status room = HandsText 0 text status room
HandsResult (Err why) status room = (status ≡ refusal_status why) × HandsNothing room

-- what a call does whose answer is this: it is handed over, or memory ran out
abbrev pub IsTextCall : Result (List ℕ) Refusal → ℕ → Room → Type 0
IsTextCall answer status room = HandsResult answer status room ⊎ RanOut status room

-- the status of a check: 0 where nothing was found, or that of what was
abbrev pub check_status : Result (Unit {0}) Refusal → ℕ
check_status (Ok valid) = 0
check_status (Err why) = refusal_status why

-- what a check does: its status is the answer's, or memory ran out
abbrev pub IsCheck : Result (Unit {0}) Refusal → ℕ → Type 0
IsCheck answer status = (status ≡ check_status answer) ⊎ (status ≡ 6)
