use Rattle.std.proofs.Common.{◌≡◌, ◌++◌, List}
use Rattle.signctl_script.specs.ScriptOutput.{final_lines_of}
use Rattle.signctl_script.specs.SessionState.{SessionRepresents}
use Rattle.signctl_script.specs.declared.session.ScriptLine.{ScriptLine}
use Rattle.signctl_script.proofs.session.Session.push_finals.Given as goal

-- the caches so far have their lines
abbrev pub invariant-loop-cache : goal.invariant-loop-cache
invariant-loop-cache l = (lines : List ScriptLine) → SessionRepresents l.self lines → l.text.items ≡ l.fn.text.items ++ final_lines_of lines l.cache
