-- Environments: variables by their names, and lists of pairs that make them.
use Rattle.std.specs.Prelude.{◌≡◌, ℕ, List, [], ◌∷◌, Option, Some, None, option_map, if◌then◌else◌}
use Rattle.std.specs.Str.{bytes_eq}
use Rattle.std.specs.String.{string_bytes}
use Rattle.std.specs.declared.string.String.{String}
use Rattle.std.specs.HashMap.{HashMap, get_by_text}

-- the variables of a map of strings: the value of a name, where the map has it
abbrev pub map_variables : {Y Z S : Type 0} → HashMap (String Y) (String Z) S → List ℕ → Option (List ℕ)
map_variables m name = option_map string_bytes (get_by_text m name)

-- a map has these variables and no others
abbrev pub HasVariables : {Y Z S : Type 0} → HashMap (String Y) (String Z) S
    → (List ℕ → Option (List ℕ)) → Type 0
HasVariables m variables = (name : List ℕ) → map_variables m name ≡ variables name

-- a name and its value
abbrev pub Variable : Type 0
Variable = List ℕ × List ℕ

-- the variable that two strings make
abbrev pub variable_of : {Y Z : Type 0} → String Y × String Z → Variable
variable_of p = (string_bytes p.0, string_bytes p.1)

-- the value of a name once one more variable is set
abbrev pub with_variable : (List ℕ → Option (List ℕ)) → Variable → List ℕ → Option (List ℕ)
with_variable variables (name, value) asked = if bytes_eq name asked then Some value else variables asked

-- no variables
abbrev pub no_variables : List ℕ → Option (List ℕ)
no_variables name = None

-- the variables once these are set, one after another on top of others: the last of a name counts
abbrev pub set_variables : (List ℕ → Option (List ℕ)) → List Variable → List ℕ → Option (List ℕ)
set_variables variables [] = variables
set_variables variables (v ∷ later) = set_variables (with_variable variables v) later

-- what an environment from a list has: its home folder, and its variables in order
pub record Listed : Type 0 where
  pub home : Option (List ℕ)
  pub variables : List Variable
