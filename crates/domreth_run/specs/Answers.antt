-- The text that a command answers a whole input with.
use Rattle.std.specs.Prelude.{◌≡◌, ◌<◌, ◌≤◌, ◌⊎◌, ℕ, Bool, true, false, List, Option, Some, None, length}
use Rattle.sign_io.specs.Lines.{input_limit}
use Rattle.signctl_audit.specs.AuditOutput.{audit_command}
use Rattle.signctl_by_line.specs.HmacAnswers.{hmac_command}
use Rattle.signctl_by_line.specs.Sigv4Answers.{sigv4_command}
use Rattle.signctl_by_line.specs.ViewAnswers.{view_command}
use Rattle.signctl_core.specs.declared.commands.CommandName.{CommandName}
use Rattle.signctl_core.specs.declared.commands.CommandName.TheVariants.{Script, Hmac, View, Grant, Sigv4}
use Rattle.signctl_core.specs.declared.commands.CommandName.TheVariants.{Audit, Load}
use Rattle.signctl_driver.specs.Command.{Command}
use Rattle.signctl_driver.specs.Lines.{End}
use Rattle.signctl_driver.specs.Output.{output}
use Rattle.signctl_driver.specs.Run.{HasBadLine, HasGoodLines}
use Rattle.signctl_driver.specs.declared.status.Status.{Status}
use Rattle.signctl_driver.specs.declared.status.Status.TheVariants.{Done, Refused}
use Rattle.signctl_grant.specs.GrantOutput.{grant_command}
use Rattle.signctl_load.specs.Load.{LoadAdds}
use Rattle.signctl_script.specs.ScriptOutput.{script_command}

-- the text is the whole output to the whole input, and good says whether no line is bad
abbrev pub IsOutput : {Item Cause : Type 0} → Command Item Cause → List ℕ → Bool → List ℕ → Type 0
IsOutput command input true text =
    (text ≡ output command input End) × HasGoodLines command input End × (length input ≤ input_limit)
IsOutput command input false text =
    (text ≡ output command input End) × (HasBadLine command input End ⊎ (input_limit < length input))

-- how a run ended that wrote all of its output
abbrev pub ended_by : Bool → Status
ended_by true = Done
ended_by false = Refused

-- the same, by the command's name. `load` reads nothing
abbrev pub IsText : CommandName → List ℕ → Bool → List ℕ → Type 0
IsText Script input good text = IsOutput script_command input good text
IsText Hmac input good text = IsOutput hmac_command input good text
IsText View input good text = IsOutput view_command input good text
IsText Grant input good text = IsOutput grant_command input good text
IsText Sigv4 input good text = IsOutput sigv4_command input good text
IsText Audit input good text = IsOutput audit_command input good text
IsText (Load n) input good text = LoadAdds n (ended_by good) text

-- where no command has the name, there is no text
abbrev pub IsAnswer : Option CommandName → List ℕ → Bool → List ℕ → Type 0
IsAnswer None input good text = ⊥
IsAnswer (Some name) input good text = IsText name input good text
