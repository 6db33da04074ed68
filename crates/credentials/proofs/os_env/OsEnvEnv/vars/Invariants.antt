use Rattle.std.proofs.Common.{map, take}
use Rattle.credentials.specs.Env.{no_variables, set_variables, variable_of, HasVariables}
use Rattle.credentials.proofs.os_env.OsEnvEnv.vars.Given as goal

-- the map has the variables so far
abbrev pub invariant-loop-name : goal.invariant-loop-name
invariant-loop-name l = HasVariables l.vars (set_variables no_variables (map variable_of (take l.name-index l.name-items)))
