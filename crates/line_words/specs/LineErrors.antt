-- Why a line is bad, in words.
use Rattle.std.specs.Prelude.{ℕ, List, codes}
use Rattle.line_words.specs.declared.read_error.LineError.{LineError}
use Rattle.line_words.specs.declared.read_error.LineError.TheVariants.{NotUnderstood, Late, NoSuchCache}

-- why a line is bad
abbrev pub line_error_text : LineError → List ℕ
line_error_text NotUnderstood = codes "not understood"
line_error_text Late = codes "late"
line_error_text NoSuchCache = codes "no such cache"
