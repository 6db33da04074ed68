-- Bytes cut at their newlines, and what more bytes after them change.
use Rattle.std.proofs.Common.{◌≡◌, ℕ, Bool, true, false, if◌then◌else◌, List, [], ◌∷◌, ◌++◌, refl, sym, ap, ◌∙◌, arith, length-append}
use Rattle.std.specs.List.{slice_split, onto_first}
use Rattle.std.proofs.lemmas.List.Elements.{All-head, All-tail, All-cons}
use Rattle.std.proofs.lemmas.List.Splits.{slice_split-cons_yes, slice_split-cons_no}
use Rattle.std.proofs.lemmas.Bool.Decides.{nat_tests}
use Rattle.sign_io.specs.Lines.{is_newline, HasNoNewline}
use Rattle.signctl_driver.specs.Lines.{Ending, End, Fault, is_too_long, lines_in}

-- the pieces of some bytes: those that a newline ends, and the last, which grows where more bytes follow
pub record Cut (bytes : List ℕ) : Type 0 where
  pub done : List (List ℕ)
  pub last : List ℕ
  pub clear : HasNoNewline last
  pub pieces : slice_split is_newline bytes ≡ done ++ last ∷ []
  pub more : (next : List ℕ)
      → slice_split is_newline (bytes ++ next) ≡ done ++ slice_split is_newline (last ++ next)

-- there is a first piece
pub first_piece : (bytes : List ℕ)
    → (first : List ℕ) × (rest : List (List ℕ)) × (slice_split is_newline bytes ≡ first ∷ rest)
first_piece [] = ([], [], refl)
first_piece (x ∷ xs) = by_test (first_piece xs) (is_newline x) refl
  where
    by_test : (first : List ℕ) × (rest : List (List ℕ)) × (slice_split is_newline xs ≡ first ∷ rest)
        → (b : Bool) → is_newline x ≡ b
        → (first : List ℕ) × (rest : List (List ℕ)) × (slice_split is_newline (x ∷ xs) ≡ first ∷ rest)
    by_test behind true e = ([], slice_split is_newline xs, slice_split-cons_yes is_newline x xs e)
    by_test behind false e =
        (x ∷ behind.0, behind.1, slice_split-cons_no is_newline x xs e ∙ ap (λ v. onto_first x v) behind.2)

-- bytes with no newline begin the first piece, whatever follows
pub grows-line : (line : List ℕ) → HasNoNewline line → (next : List ℕ)
    → (behind : List ℕ) × (rest : List (List ℕ))
    × (slice_split is_newline (line ++ next) ≡ (line ++ behind) ∷ rest)
grows-line [] clear next = first_piece next
grows-line (b ∷ line) clear next =
    let behind = grows-line line (All-tail (λ v. is_newline v ≡ false) b line clear) next in (
      behind.0,
      behind.1,
      slice_split-cons_no is_newline b (line ++ next) (All-head (λ v. is_newline v ≡ false) b line clear)
          ∙ ap (λ v. onto_first b v) behind.2,
    )

-- where the bytes are cut
pub cut_of : (bytes : List ℕ) → Cut bytes
cut_of [] = record {
  done = [];
  last = [];
  clear = λ k d lt. absurd (omega arith);
  pieces = refl;
  more = λ next. refl;
}
cut_of (x ∷ xs) = by_test (cut_of xs) (is_newline x) refl
  where
    by_done : is_newline x ≡ false → (done : List (List ℕ)) (last : List ℕ) → HasNoNewline last
        → slice_split is_newline xs ≡ done ++ last ∷ []
        → ((next : List ℕ)
        → slice_split is_newline (xs ++ next) ≡ done ++ slice_split is_newline (last ++ next))
        → Cut (x ∷ xs)
    by_done e [] last clear pieces more = record {
      done = [];
      last = x ∷ last;
      clear = All-cons (λ v. is_newline v ≡ false) x last e clear;
      pieces = slice_split-cons_no is_newline x xs e ∙ ap (λ v. onto_first x v) pieces;
      more = λ next. slice_split-cons_no is_newline x (xs ++ next) e ∙ ap (λ v. onto_first x v) (more next) ∙ sym (slice_split-cons_no is_newline x (last ++ next) e);
    }
    by_done e (d ∷ ds) last clear pieces more = record {
      done = (x ∷ d) ∷ ds;
      last = last;
      clear = clear;
      pieces = slice_split-cons_no is_newline x xs e ∙ ap (λ v. onto_first x v) pieces;
      more = λ next. slice_split-cons_no is_newline x (xs ++ next) e ∙ ap (λ v. onto_first x v) (more next);
    }

    by_test : Cut xs → (b : Bool) → is_newline x ≡ b → Cut (x ∷ xs)
    by_test c true e = record {
      done = [] ∷ c.done;
      last = c.last;
      clear = c.clear;
      pieces = slice_split-cons_yes is_newline x xs e ∙ ap (λ v. [] ∷ v) c.pieces;
      more = λ next. slice_split-cons_yes is_newline x (xs ++ next) e ∙ ap (λ v. [] ∷ v) (c.more next);
    }
    by_test c false e = by_done e c.done c.last c.clear c.pieces c.more

-- all pieces but the last are lines
pub lines_in-after : (ending : Ending) (done : List (List ℕ)) (piece : List ℕ) (rest : List (List ℕ))
    → lines_in ending (done ++ piece ∷ rest) ≡ done ++ lines_in ending (piece ∷ rest)
lines_in-after ending [] piece rest = refl
lines_in-after ending (d ∷ []) piece rest = refl
lines_in-after ending (d ∷ (e ∷ ds)) piece rest = ap (λ v. d ∷ v) (lines_in-after ending (e ∷ ds) piece rest)

-- a line that is too long stays so when more bytes follow
pub too_long-grows : (line behind : List ℕ) → is_too_long line ≡ true → is_too_long (line ++ behind) ≡ true
too_long-grows line behind h =
    let n = length-append line behind in
    grind (arith, nat_tests)

-- a piece that is too long is a line, whatever follows it
pub too_long-line : (ending : Ending) (piece : List ℕ) (rest : List (List ℕ)) → is_too_long piece ≡ true
    → (more : List (List ℕ)) × (lines_in ending (piece ∷ rest) ≡ piece ∷ more)
too_long-line End [] [] h = absurd (cc)
too_long-line End (b ∷ bs) [] h = ([], refl)
too_long-line Fault piece [] h = ([], ap (λ (t : Bool). if t then piece ∷ [] else []) h)
too_long-line ending piece (next ∷ rest) h = (lines_in ending (next ∷ rest), refl)
