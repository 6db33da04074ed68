-- What the private steps of a session of `grant` do.
use Rattle.std.specs.Prelude.{◌≡◌, ℕ, ◌<◌, List, ◌∷◌, [], ◌++◌, None, length}
use Rattle.sign_io.specs.Lines.{input_limit}
use Rattle.signctl_format.specs.ScriptSetup.{item_error}
use Rattle.signctl_grant.specs.GrantEvents.{GrantItem}
use Rattle.signctl_grant.specs.GrantOutput.{answer_to}
use Rattle.signctl_grant.specs.GrantSessionState.{GrantSessionState, GrantSessionRepresents}

-- the session represents some items, after which this one is good, and their numbers are small
abbrev pub CanAnswer : GrantSessionState → GrantItem → Type 0
CanAnswer session item =
    (items : List GrantItem) × GrantSessionRepresents session items × (item_error items item ≡ None)
    × (length items < input_limit)

-- a session and the text that it adds to
pub record SessionText : Type 0 where
  pub session : GrantSessionState
  pub text : List ℕ

-- the item is answered: it stands after those before it, and its answer at the end of the text
abbrev pub AnswersItem : GrantItem → SessionText → SessionText → Type 0
AnswersItem item old new =
    (items : List GrantItem) → GrantSessionRepresents old.session items → item_error items item ≡ None
    → GrantSessionRepresents new.session (items ++ item ∷ []) × (new.text ≡ old.text ++ answer_to items item)
