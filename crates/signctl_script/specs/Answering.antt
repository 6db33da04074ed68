-- What the private steps of a session do.
use Rattle.std.specs.Prelude.{◌≡◌, ℕ, ◌<◌, List, ◌∷◌, [], ◌++◌, None, length}
use Rattle.sign_io.specs.Lines.{input_limit}
use Rattle.signctl_format.specs.ScriptEvents.{ScriptItem}
use Rattle.signctl_format.specs.ScriptSetup.{item_error}
use Rattle.signctl_script.specs.ScriptOutput.{answer_to}
use Rattle.signctl_script.specs.SessionState.{SessionState, RepresentsItems}

-- the session represents some items, after which this one is good, and their numbers are small
abbrev pub CanAnswer : SessionState → ScriptItem → Type 0
CanAnswer session item =
    (items : List ScriptItem) × RepresentsItems session items × (item_error items item ≡ None)
    × (length items < input_limit)

-- a session and the text that it adds to
pub record SessionText : Type 0 where
  pub session : SessionState
  pub text : List ℕ

-- the item is answered: it stands after those before it, and its answer at the end of the text
abbrev pub AnswersItem : ScriptItem → SessionText → SessionText → Type 0
AnswersItem item old new =
    (items : List ScriptItem) → RepresentsItems old.session items → item_error items item ≡ None
    → RepresentsItems new.session (items ++ item ∷ []) × (new.text ≡ old.text ++ answer_to items item)
