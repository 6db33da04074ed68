-- One line more of an input: the lines that its bytes add, and what reading them gives.
use Rattle.std.proofs.Common.{◌≡◌, ℕ, ◌<◌, ◌≤◌, Bool, true, false, if◌then◌else◌, List, [], ◌∷◌, ◌++◌, length, refl, sym, ap, ◌∙◌, arith}
use Rattle.std.proofs.lemmas.List.Splits.{slice_split_none, slice_split_at}
use Rattle.std.proofs.lemmas.Bool.Decides.{nat_tests}
use Rattle.sign_base.specs.Bytes.{newline}
use Rattle.sign_io.specs.Lines.{is_newline, line_limit, HasNoNewline}
use Rattle.signctl_driver.specs.Lines.{Ending, End, Fault, is_too_long, lines_in, lines_of}
use Rattle.signctl_driver.proofs.Pieces.{first_piece, too_long-grows, too_long-line, grows-line}

-- a line and its newline in front of more bytes are one line more
pub lines-line : (line more : List ℕ) (ending : Ending) → HasNoNewline line
    → lines_of (line ++ newline ∷ more) ending ≡ line ∷ lines_of more ending
lines-line line more ending clear =
    let first = first_piece more in
    ap (λ v. lines_in ending v) (slice_split_at is_newline line newline more clear refl ∙ ap (λ v. line ∷ v) first.2)
    ∙ ap (λ v. line ∷ lines_in ending v) (sym first.2)

-- what stands after the last newline is a line at the end
pub lines-last : (line : List ℕ) → HasNoNewline line → 0 < length line → lines_of line End ≡ line ∷ []
lines-last [] clear some = absurd (omega arith)
lines-last (b ∷ rest) clear some = ap (λ v. lines_in End v) (slice_split_none is_newline (b ∷ rest) clear)

-- no bytes have no line
pub lines-none : (ending : Ending) → lines_of [] ending ≡ []
lines-none End = refl
lines-none Fault = refl

-- and where a read failed, the bytes of no whole line have none
pub lines-part : (bytes : List ℕ) → HasNoNewline bytes → length bytes ≤ line_limit → lines_of bytes Fault ≡ []
lines-part bytes clear few =
    let short : is_too_long bytes ≡ false = grind (arith, nat_tests) in
    ap (λ v. lines_in Fault v) (slice_split_none is_newline bytes clear)
    ∙ ap (λ (t : Bool). if t then bytes ∷ [] else []) short

-- too many bytes with no newline begin a line that is too long, whatever follows
pub lines-too_long : (bytes more : List ℕ) (ending : Ending) → HasNoNewline bytes → line_limit < length bytes
    → (line : List ℕ) × (rest : List (List ℕ)) × (is_too_long line ≡ true)
    × (lines_of (bytes ++ more) ending ≡ line ∷ rest)
lines-too_long bytes more ending clear many =
    let long : is_too_long bytes ≡ true = grind (arith, nat_tests) in
    let g = grows-line bytes clear more in
    let longer = too_long-grows bytes g.0 long in
    let line = too_long-line ending (bytes ++ g.0) g.1 longer in
    (bytes ++ g.0, line.0, longer, ap (λ v. lines_in ending v) g.2 ∙ line.1)
