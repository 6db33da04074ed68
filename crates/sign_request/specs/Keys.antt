-- The keys of header maps.
use Rattle.std.specs.Prelude.{None, Some}
use Rattle.std.specs.declared.random_state.RandomState.{RandomState}
use Rattle.sign_request.specs.declared.header_seeds.HeaderSeeds.{HeaderSeeds}

-- no keys
abbrev pub no_keys : HeaderSeeds
no_keys = record { keys = None }

-- these keys, which were drawn at random
abbrev pub drawn : RandomState → HeaderSeeds
drawn keys = record { keys = Some keys }
