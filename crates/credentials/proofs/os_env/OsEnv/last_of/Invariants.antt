use Rattle.std.proofs.Common.{◌≡◌, map, take, option_map}
use Rattle.std.specs.String.{string_bytes}
use Rattle.credentials.specs.Env.{no_variables, set_variables, variable_of}
use Rattle.credentials.proofs.os_env.OsEnv.last_of.Given as goal

-- the last so far, among the variables so far
abbrev pub invariant-loop-key : goal.invariant-loop-key
invariant-loop-key l = option_map (λ t. string_bytes t.now) l.last ≡ set_variables no_variables (map variable_of (take l.key-index l.key-items)) l.name
