-- How the faults of a run are counted.
use Rattle.std.proofs.Common.{◌≡◌, ℕ, inl, inr, Bool, true, false, List, [], ◌++◌, length, Option, Some, None, Result, Ok, Err, is_err, OnOk, MatchOption, refl, sym, ap, ◌∙◌, subst, arith, length-append}
use Rattle.std.proofs.lemmas.List.{take_at}
use Rattle.std.proofs.lemmas.List.Elements.{All-take}
use Rattle.sign_io.specs.Faults.{CountsFault}
use Rattle.sign_io.specs.Lines.{is_newline, HasNoNewline}
use Rattle.sign_io.specs.declared.input_end.InputEnd.{InputEnd}
use Rattle.sign_io.specs.declared.input_end.InputEnd.TheVariants as input_end
use Rattle.sign_io.specs.LineInput.{LineInput, NeedsRead}
use Rattle.sign_io.specs.LineReader.{AnswersOpen, AnswersNext, is_fault}
use Rattle.signctl_driver.specs.Command.{Command, BadLine}
use Rattle.signctl_driver.specs.LinesRead.{reading_of}
use Rattle.signctl_driver.specs.Status.{FinishesBy, is_read_fault, is_write_fault}
use Rattle.signctl_driver.specs.LineOutcome.{Good, Ends, line_outcome_by, end_outcome, line_outcome}
use Rattle.signctl_driver.specs.declared.status.Status.{Status}
use Rattle.signctl_driver.proofs.RunState.{IsReadSoFar}
use Rattle.signctl_driver.proofs.Endings.{status-is, closing-is}

module _ {Item Cause : Type 0} (command : Command Item Cause) where
  -- no read has failed at the end
  end-no_fault : (items : List Item) (closes : Result (List ℕ) Cause) (status : Status) (closing : List ℕ)
      → end_outcome command items closes ≡ Ends status closing → is_read_fault status ≡ false
  end-no_fault items (Ok text) status closing t = ap (λ s. is_read_fault s) (sym (status-is {Item = Item} _ _ _ _ t))
  end-no_fault items (Err cause) status closing t = ap (λ s. is_read_fault s) (sym (status-is {Item = Item} _ _ _ _ t))

  -- a run ends as in a failed read exactly where the reader says so
  pub turn-fault : (items : List Item) (answer : Result (List ℕ) InputEnd) (status : Status) (closing : List ℕ)
      → line_outcome command items answer ≡ Ends status closing → is_read_fault status ≡ is_fault answer
  turn-fault items (Ok line) status closing t = by_reading (reading_of command items line) t
    where
      by_reading : (r : Result Item BadLine) → line_outcome_by r ≡ Ends status closing
          → is_read_fault status ≡ false
      by_reading (Ok x) e = absurd (cc)
      by_reading (Err bad) e = ap (λ s. is_read_fault s) (sym (status-is {Item = Item} _ _ _ _ e))
  turn-fault items (Err input_end.TooLong) status closing t = ap (λ s. is_read_fault s) (sym (status-is {Item = Item} _ _ _ _ t))
  turn-fault items (Err input_end.TooMuch) status closing t = ap (λ s. is_read_fault s) (sym (status-is {Item = Item} _ _ _ _ t))
  turn-fault items (Err input_end.End) status closing t = end-no_fault items (command.closing items) status closing t
  turn-fault items (Err input_end.Fault) status closing t = ap (λ s. is_read_fault s) (sym (status-is {Item = Item} _ _ _ _ t))

  -- and no write has failed yet
  end-no_write_fault : (items : List Item) (closes : Result (List ℕ) Cause) (status : Status)
      (closing : List ℕ) → end_outcome command items closes ≡ Ends status closing
      → is_write_fault status ≡ false
  end-no_write_fault items (Ok text) status closing t = ap (λ s. is_write_fault s) (sym (status-is {Item = Item} _ _ _ _ t))
  end-no_write_fault items (Err cause) status closing t = ap (λ s. is_write_fault s) (sym (status-is {Item = Item} _ _ _ _ t))

  pub turn-no_write_fault : (items : List Item) (answer : Result (List ℕ) InputEnd) (status : Status)
      (closing : List ℕ) → line_outcome command items answer ≡ Ends status closing
      → is_write_fault status ≡ false
  turn-no_write_fault items (Ok line) status closing t = by_reading (reading_of command items line) t
    where
      by_reading : (r : Result Item BadLine) → line_outcome_by r ≡ Ends status closing
          → is_write_fault status ≡ false
      by_reading (Ok x) e = absurd (cc)
      by_reading (Err bad) e = ap (λ s. is_write_fault s) (sym (status-is {Item = Item} _ _ _ _ e))
  turn-no_write_fault items (Err input_end.TooLong) status closing t = ap (λ s. is_write_fault s) (sym (status-is {Item = Item} _ _ _ _ t))
  turn-no_write_fault items (Err input_end.TooMuch) status closing t = ap (λ s. is_write_fault s) (sym (status-is {Item = Item} _ _ _ _ t))
  turn-no_write_fault items (Err input_end.End) status closing t =
      end-no_write_fault items (command.closing items) status closing t
  turn-no_write_fault items (Err input_end.Fault) status closing t = ap (λ s. is_write_fault s) (sym (status-is {Item = Item} _ _ _ _ t))

  -- after a good line no read has failed
  pub good-no_fault : (items : List Item) (answer : Result (List ℕ) InputEnd) (x : Item)
      → line_outcome command items answer ≡ Good x → is_fault answer ≡ false
  good-no_fault items (Ok line) x t = refl
  good-no_fault items (Err input_end.TooLong) x t = refl
  good-no_fault items (Err input_end.TooMuch) x t = refl
  good-no_fault items (Err input_end.End) x t = refl
  good-no_fault items (Err input_end.Fault) x t = absurd (cc)

  -- and nothing closes the output then
  pub turn-nothing : (items : List Item) (answer : Result (List ℕ) InputEnd) (status : Status) (closing : List ℕ)
      → line_outcome command items answer ≡ Ends status closing → is_fault answer ≡ true → closing ≡ []
  turn-nothing items (Ok line) status closing t h = absurd (cc)
  turn-nothing items (Err input_end.TooLong) status closing t h = absurd (cc)
  turn-nothing items (Err input_end.TooMuch) status closing t h = absurd (cc)
  turn-nothing items (Err input_end.End) status closing t h = absurd (cc)
  turn-nothing items (Err input_end.Fault) status closing t h = sym (closing-is {Item = Item} _ _ _ _ t)

  module _ (left next : Option (List ℕ)) (items : List Item) (bytes : List ℕ) (input new : LineInput)
      (answer : Result (List ℕ) InputEnd) (read : IsReadSoFar command left items bytes input)
      (answers : AnswersNext input left next answer new) where
    -- where a read failed, one was needed
    pub needs-fault : is_fault answer ≡ true → NeedsRead input
    needs-fault h = by_read read
      where
        by_answer : (a : Result (List ℕ) InputEnd) → is_fault a ≡ true → AnswersOpen input left next a new
            → NeedsRead input
        by_answer (Ok line) f opened = absurd (cc)
        by_answer (Err input_end.TooLong) f opened = absurd (cc)
        by_answer (Err input_end.TooMuch) f opened = absurd (cc)
        by_answer (Err input_end.End) f opened = absurd (cc)
        by_answer (Err input_end.Fault) f opened =
            let needs = opened.3.0 in
            let P : List ℕ → Type 0 = λ v. HasNoNewline v in (
              needs.0,
              omega (arith, needs.1, length-append input.held opened.0),
              (
                subst P (take_at input.held opened.0 (length input.held) refl) (All-take (λ b. is_newline b ≡ false) (length input.held) (input.held ++ opened.0) needs.2.0),
                omega (arith, needs.2.1, length-append input.held opened.0),
              ),
            )

        by_read : IsReadSoFar command left items bytes input → NeedsRead input
        by_read (inl runs) =
            let P : Option InputEnd → Type 0 = λ o. MatchOption o (AnswersOpen input left next answer new) (λ why. (answer ≡ Err why) × (new ≡ input)) in
            by_answer answer h (subst P runs.0 answers)
        by_read (inr over) =
            let P : Option InputEnd → Type 0 = λ o. MatchOption o (AnswersOpen input left next answer new) (λ why. (answer ≡ Err why) × (new ≡ input)) in
            let e : (answer ≡ Err input_end.End) × (new ≡ input) = subst P over.0 answers in
            let f : false ≡ true = sym (ap (λ a. is_fault a) e.0) ∙ h in
            absurd (cc)

    -- an answer counts a fault of the source where it says so, and else none
    pub counts-answer : (before now : ℕ) → (input.closed ≡ None → CountsFault (is_fault answer) before now)
        → ((NeedsRead input → ⊥) → now ≡ before) → CountsFault (is_fault answer) before now
    counts-answer before now counts still = by_read read
      where
        by_read : IsReadSoFar command left items bytes input → CountsFault (is_fault answer) before now
        by_read (inl runs) = counts runs.0
        by_read (inr over) =
            let P : Option InputEnd → Type 0 = λ o. MatchOption o (AnswersOpen input left next answer new) (λ why. (answer ≡ Err why) × (new ≡ input)) in
            let e : (answer ≡ Err input_end.End) × (new ≡ input) = subst P over.0 answers in
            let Q : Bool → Type 0 = λ f. CountsFault f before now in
            subst Q (sym (ap (λ a. is_fault a) e.0)) (still (λ needs. let e : Some input_end.End ≡ None = sym over.0 ∙ needs.0 in absurd (cc)))

-- a failed read stays what a run ends by, where nothing waits to be written
pub finish-fault : (fault : Bool) (text : List ℕ) (before now : Option (List ℕ)) (status result : Status)
    → is_read_fault status ≡ fault → FinishesBy status text before now result
    → (fault ≡ true → result ≡ status) → is_read_fault result ≡ fault
finish-fault fault text before now status result is (inl all) nothing = ap (λ s. is_read_fault s) all.0 ∙ is
finish-fault true text before now status result is (inr part) nothing = ap (λ s. is_read_fault s) (nothing refl) ∙ is
finish-fault false text before now status result is (inr part) nothing = ap (λ s. is_read_fault s) part.0

-- nothing waits where nothing waited and nothing was added
pub nothing-waits : (old closing new : List ℕ) → new ≡ old ++ closing → old ≡ [] → closing ≡ [] → new ≡ []
nothing-waits old closing new is none more = is ∙ ap (λ v. v ++ closing) none ∙ more

-- the same count, by what is the same
pub counts-same : (f g : Bool) (first before now : ℕ) → CountsFault f before now → g ≡ f → before ≡ first
    → CountsFault g first now
counts-same f g first before now counts same since =
    let P : Bool → Type 0 = λ b. CountsFault b before now in
    let Q : ℕ → Type 0 = λ n. CountsFault g n now in
    subst Q since (subst P (sym same) counts)

-- where no call failed, the count stays
pub counts-none : (fault : Bool) (before now : ℕ) → CountsFault fault before now
    → (fault ≡ true → false ≡ true) → now ≡ before
counts-none true before now counts fine = let e : false ≡ true = fine refl in absurd (cc)
counts-none false before now counts fine = counts

-- what a call ensures of its success holds where it did not fail
pub where-ok : {T E : Type 0} (P : Type 0) (r : Result T E) → is_err r ≡ false → OnOk r P → P
where-ok P (Ok x) ok h = h
where-ok P (Err e) ok h = absurd (cc)
