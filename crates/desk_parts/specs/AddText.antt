-- What the errors of a desk print.
use Rattle.std.specs.Prelude.{List, ℕ, ◌++◌}
use lib.Chars.{codes}
use Rattle.std.specs.Fmt.{decimal}
use Rattle.desk_parts.specs.declared.adding.AddError.{AddError}
use Rattle.desk_parts.specs.declared.adding.AddError.TheVariants.{Late, NoCache, NoRule, OutOfMemory}

-- the cause why nothing was added
abbrev pub add_error_text : AddError → List ℕ
add_error_text Late = codes "a call was begun"
add_error_text (NoCache cache) = codes "no cache " ++ decimal cache
add_error_text (NoRule rule) = codes "no rule " ++ decimal rule
add_error_text OutOfMemory = codes "out of memory"
