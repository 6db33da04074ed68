-- When a credential of a script is good, and how long its rules require it to last.
use Rattle.std.specs.Prelude.{ℕ, ℤ, int_lt, Bool, Option, Some, None}
use Rattle.sign_base.specs.Moment.{add_moment}
use Rattle.sequential_signer.specs.Policy.{Policy, policy_of}
use Rattle.signctl_format.specs.declared.credential.ScriptCredential.{ScriptCredential}
use Rattle.signctl_format.specs.declared.credential.ScriptRule.{ScriptRule}
use Rattle.signctl_format.specs.declared.credential.ScriptRule.TheVariants.{Now, Cred}

-- a credential can be used before its moment `fresh`
abbrev pub script_valid : ScriptCredential → ℤ → Bool
script_valid c now = int_lt now c.fresh

-- it lasts to a moment that lies before `expires`, whatever the time is now
abbrev pub script_valid_at : ScriptCredential → ℤ → ℤ → Bool
script_valid_at c moment now = int_lt moment c.expires

-- rule `now` requires it to last to the end of the operation, where that is a moment; rule
-- `cred` to its moment `required`
abbrev pub script_deadline : ScriptRule → ScriptCredential → Option ℕ → ℤ → Option ℤ
script_deadline Now c None now = Some now
script_deadline Now c (Some duration) now = add_moment now duration
script_deadline Cred c duration now = Some c.required

-- the credentials and the rules of scripts
abbrev pub script_policy : Policy ScriptCredential ScriptRule
script_policy = policy_of script_valid script_valid_at script_deadline
