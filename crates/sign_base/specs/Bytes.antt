-- Names of bytes.
use Rattle.std.specs.Prelude.{ℕ}

-- `\n`, which ends a line
abbrev pub newline : ℕ
newline = 10

-- a space
abbrev pub space : ℕ
space = 32

-- `&`
abbrev pub ampersand : ℕ
ampersand = 38

-- `=`
abbrev pub equals_sign : ℕ
equals_sign = 61
