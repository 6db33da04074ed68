-- What a debug text shows of the answer of a reader of lines.
use Rattle.std.specs.Prelude.{ℕ, List, codes}
use Rattle.sign_io.specs.declared.line_reader.Next.{Next}
use Rattle.sign_io.specs.declared.line_reader.Next.TheVariants as next

-- that there is a line, and nothing of it; or why there is none
abbrev pub next_text : Next → List ℕ
next_text (next.Line line) = codes "Line(***)"
next_text next.TooLong = codes "TooLong"
next_text next.TooMuch = codes "TooMuch"
next_text next.End = codes "End"
next_text next.Fault = codes "Fault"
