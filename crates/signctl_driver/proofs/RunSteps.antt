-- A run takes a line more, or ends.
use Rattle.std.proofs.Common.{◌≡◌, ℕ, ◌+◌, ◌-◌, ◌<◌, ◌≤◌, inl, inr, List, [], ◌∷◌, ◌++◌, length, take, Option, Some, None, true, false, Result, Ok, Err, is_err, OnOk, OnErr, IfOk, MatchOption, refl, sym, ap, ◌∙◌, subst, append_assoc, append-nil, arith, length-append}
use Rattle.std.specs.Io.{StartsWith}
use Rattle.std.specs.Io.KnownBytes.{Appends, Consumes}
use Rattle.std.proofs.KnownBytes.{Appends-nil, Appends-trans, Consumes-nil, Consumes-trans}
use Rattle.sign_base.specs.Bytes.{newline}
use Rattle.sign_io.specs.Lines.{line_limit, input_limit, HasNoNewline, IsLine, BeginsTooLong}
use Rattle.sign_io.specs.declared.input_end.InputEnd.{InputEnd}
use Rattle.sign_io.specs.declared.input_end.InputEnd.TheVariants as input_end
use Rattle.sign_io.specs.LineInput.{LineInput, taken, with_taken, looked_at, NeedsRead, IsWithinLimit}
use Rattle.sign_io.specs.LineReader.{GivesLine, GivesLastLine, Answers, AnswersOpen, AnswersNext}
use Rattle.signctl_driver.specs.Command.{Command, BadLine, answers_to}
use Rattle.signctl_driver.specs.Lines.{End, Fault}
use Rattle.signctl_driver.specs.LinesRead.{too_long_line, reading_of}
use Rattle.signctl_driver.specs.Output.{bad_line, too_much_line, closing_by, output, AppendsPrefix}
use Rattle.signctl_driver.specs.Run.{StopsEarly, RunAdds}
use Rattle.signctl_driver.specs.Serving.{HasServed}
use Rattle.signctl_driver.specs.Status.{FinishesBy}
use Rattle.signctl_driver.specs.LineOutcome.{LineOutcome, Good, Ends, line_outcome_by, end_outcome, line_outcome}
use Rattle.signctl_driver.specs.declared.service.Service.{Service}
use Rattle.signctl_driver.specs.declared.status.Status.{Status}
use Rattle.signctl_driver.specs.declared.status.Status.TheVariants.{Refused, ReadFault, WriteFault, OutOfMemory}
use Rattle.signctl_driver.proofs.Starts.{starts-append, starts-trans, starts-after}
use Rattle.signctl_driver.proofs.ReadLines.{answers-none, answers-push}
use Rattle.signctl_driver.proofs.Progress.{GoesOn, goes_on-none, goes_on-line, all_read-last, all_read-none, answers-start_fault, output-good}
use Rattle.signctl_driver.proofs.Closes.{seen}
use Rattle.signctl_driver.proofs.Endings.{EndsWith, status-is, closing-is, ends-line, ends-last, ends-too_long, ends-too_much, ends-closing, ends-fault}
use Rattle.signctl_driver.proofs.RunState.{Since, streams_of, RunState, IsReadSoFar}

-- a prefix of what is a prefix of the output
pub stops-starts : {Item Cause : Type 0} (command : Command Item Cause) (left : Option (List ℕ))
    (taken text part : List ℕ) → StopsEarly command left taken text → StartsWith text part
    → StopsEarly command left taken part
stops-starts command left taken text part (inl s) f = inl (starts-trans part text (output command taken Fault) f s)
stops-starts command left taken text part (inr s) f = inr (s.0, starts-trans part text (output command taken End) f s.1)

-- what a run took and added, by how it ended
abbrev pub RunEnds : {Item Cause : Type 0} → Command Item Cause → Since → Since → Status → Type 0
RunEnds command source sink status =
    (taken : List ℕ) × (added : List ℕ)
    × Consumes source.before source.now taken × (length taken ≤ input_limit + 1)
    × Appends sink.before sink.now added × RunAdds command source.now status taken added

-- the bytes that a run has taken
pub record HasTaken (source : Since) (taken : List ℕ) : Type 0 where
  pub consumes : Consumes source.before source.now taken
  pub few : length taken ≤ input_limit + 1

module _ {Item Cause : Type 0} (command : Command Item Cause) where
  -- all that waits is written, or a prefix of it
  pub finishes : (items : List Item) (source : Since) (holds before now : Option (List ℕ))
      (taken written text closing all : List ℕ) (status result : Status) → HasTaken source taken
      → EndsWith command source.now status taken (answers_to command items ++ closing)
      → answers_to command items ≡ written ++ text → all ≡ text ++ closing → Appends holds before written
      → FinishesBy status all before now result
      → RunEnds command source (record { before = holds; now = now }) result
  finishes items source holds before now taken written text closing all status result took ends answered waits added how = by_how how
    where
      whole : answers_to command items ++ closing ≡ written ++ all
      whole = ap (λ v. v ++ closing) answered ∙ append_assoc written text closing ∙ ap (λ v. written ++ v) (sym waits)

      by_how : FinishesBy status all before now result
          → RunEnds command source (record { before = holds; now = now }) result
      by_how (inl full) =
          let P : Status → Type 0 = λ s. RunAdds command source.now s taken (written ++ all) in
          let Q : List ℕ → Type 0 = λ v. RunAdds command source.now status taken v in (
            taken,
            written ++ all,
            took.consumes,
            took.few,
            Appends-trans holds before now written all added full.1,
            subst P (sym full.0) (subst Q whole ends.adds),
          )
      by_how (inr part) =
          let P : Status → Type 0 = λ s. RunAdds command source.now s taken (written ++ part.1.0) in
          let Q : List ℕ → Type 0 = λ v. StopsEarly command source.now taken v in (
            taken,
            written ++ part.1.0,
            took.consumes,
            took.few,
            Appends-trans holds before now written part.1.0 added part.1.2,
            subst P (sym part.0) (stops-starts command source.now taken (written ++ all) (written ++ part.1.0) (subst Q whole ends.starts) (starts-after written part.1.0 all part.1.1)),
          )

module _ {C Item Cause : Type 0} (command : Command Item Cause) (represents : C → List Item → Type 0) where
  -- before the first line
  pub state-first : (left holds : Option (List ℕ)) (input : LineInput) (service : Service C)
      → input ≡ record { handed = 0; held = []; closed = None } → HasServed represents service []
      → service.text.items ≡ []
      → RunState command represents
      (streams_of (record { before = left; now = left }) (record { before = holds; now = holds })) input
      service
  state-first left holds input service new served text =
      let P : LineInput → Type 0 = λ i. RunState command represents (streams_of (record { before = left; now = left }) (record { before = holds; now = holds })) i service in
      subst P (sym new) (record {
        items = [];
        bytes = [];
        written = [];
        served = served;
        read = inl (refl, goes_on-none command);
        handed = refl;
        within = (omega arith, omega arith);
        few = omega arith;
        taken = Consumes-nil left;
        added = Appends-nil holds;
        answered = answers-none command ∙ sym text;
      })

  -- some answers more are written
  pub state-written : (source : Since) (holds before now : Option (List ℕ)) (input : LineInput)
      (old new : Service C)
      → RunState command represents (streams_of source (record { before = holds; now = before })) input old
      → (part : List ℕ) → old.text.items ≡ part ++ new.text.items → Appends before now part
      → new ≡ record old { text = new.text }
      → RunState command represents (streams_of source (record { before = holds; now = now })) input new
  state-written source holds before now input old new state part text appends same =
      let P : Service C → Type 0 = λ s. HasServed represents s state.items in
      record {
        items = state.items;
        bytes = state.bytes;
        written = state.written ++ part;
        served = subst P (sym same) (record { represented = state.served.represented; count = state.served.count });
        read = state.read;
        handed = state.handed;
        within = state.within;
        few = state.few;
        taken = state.taken;
        added = Appends-trans holds before now state.written part state.added appends;
        answered = state.answered ∙ ap (λ v. state.written ++ v) text ∙ sym (append_assoc state.written part new.text.items);
      }

  -- so it is where the answers that wait, or none of them, were written
  pub state-wrote : {E : Type 0} (source : Since) (holds before now : Option (List ℕ)) (input : LineInput)
      (old new : Service C) (result : Result (Unit {0}) E)
      → RunState command represents (streams_of source (record { before = holds; now = before })) input old
      → is_err result ≡ false
      → OnOk result ((part : List ℕ) × (old.text.items ≡ part ++ new.text.items) × Appends before now part)
      → new ≡ record old { text = new.text }
      → RunState command represents (streams_of source (record { before = holds; now = now })) input new
  state-wrote source holds before now input old new (Ok u) state ok part same =
      state-written source holds before now input old new state part.0 part.1 part.2 same
  state-wrote source holds before now input old new (Err e) state ok part same = absurd (cc)

  module _ (before left : Option (List ℕ)) (sink : Since) (input : LineInput) (service : Service C) (state : RunState command represents (streams_of (record { before = before; now = left }) sink) input service) where
    -- the answers to the lines so far are a prefix of the output to the bytes taken
    pub reached : HasTaken (record { before = before; now = left }) (state.bytes ++ input.held)
        × StopsEarly command left (state.bytes ++ input.held) (answers_to command state.items)
    reached = (
      record {
        consumes = state.taken;
        few = omega (arith, state.handed, state.within, length-append state.bytes input.held);
      },
      by_read state.read,
    )
      where
        by_read : IsReadSoFar command left state.items state.bytes input
            → StopsEarly command left (state.bytes ++ input.held) (answers_to command state.items)
        by_read (inl runs) =
            inl (answers-start_fault command state.items state.bytes input.held runs.1 (omega (arith, state.handed, state.within)))
        by_read (inr over) =
            let all : state.bytes ++ input.held ≡ state.bytes = ap (λ v. state.bytes ++ v) over.2 ∙ append-nil state.bytes in
            let few : length state.bytes ≤ input_limit = omega (arith, state.handed, state.within) in
            let P : List ℕ → Type 0 = λ v. StartsWith (output command v End) (answers_to command state.items) in
            inr (over.1, subst P (sym all) (starts-append _ (answers_to command state.items) (closing_by command state.items (command.closing state.items)) (output-good command state.items state.bytes End few over.3)))

    -- there are not too many lines
    pub items-few : length state.items ≤ input_limit
    items-few = omega (arith, state.few, state.within)

    -- a write of the answers that wait has failed
    pub stops-writing : {E : Type 0} (now : Option (List ℕ)) (result : Result (Unit {0}) E)
        → is_err result ≡ true → OnErr result (AppendsPrefix sink.now now service.text.items)
        → RunEnds command (record { before = before; now = left })
        (record { before = sink.before; now = now }) WriteFault
    stops-writing now (Ok u) failed part = absurd (cc)
    stops-writing now (Err e) failed part =
        let P : List ℕ → Type 0 = λ v. StopsEarly command left (state.bytes ++ input.held) v in (
          state.bytes ++ input.held,
          state.written ++ part.0,
          reached.0.consumes,
          reached.0.few,
          Appends-trans sink.before sink.now now state.written part.0 state.added part.2,
          stops-starts command left (state.bytes ++ input.held) (state.written ++ service.text.items) (state.written ++ part.0) (subst P state.answered reached.1) (starts-after state.written part.0 service.text.items part.1),
        )

-- a good line has one item
good-is : {Item : Type 0} (x y : Item) → Good x ≡ Good y → x ≡ y
good-is x y h = cc

-- and an end is no good line
end-no_line : {Item Cause : Type 0} (command : Command Item Cause) (items : List Item)
    (closes : Result (List ℕ) Cause) (x : Item) → end_outcome command items closes ≡ Good x → ⊥
end-no_line command items (Ok text) x t = cc
end-no_line command items (Err cause) x t = cc

-- an answer hands out what was taken, or keeps it
taken-kept : (input : LineInput) (left : Option (List ℕ)) (answer : Result (List ℕ) InputEnd) (new : LineInput)
    → Answers input left answer new → taken new ≡ taken input
taken-kept input left (Ok line) new (inl gives) =
    omega (arith, gives.2, ap (λ (v : List ℕ). length v) gives.1, length-append line (newline ∷ new.held))
taken-kept input left (Ok line) new (inr gives) =
    ap (λ i. taken i) gives.4 ∙ omega (arith, ap (λ (v : List ℕ). length v) gives.3)
taken-kept input left (Err why) new closes = ap (λ i. taken i) closes.1

module _ {C Item Cause : Type 0} (command : Command Item Cause) (represents : C → List Item → Type 0) (before left : Option (List ℕ)) (sink : Since) (input : LineInput) (service : Service C)
    (state : RunState command represents (streams_of (record { before = before; now = left }) sink) input service) (next : Option (List ℕ)) where
  -- what an open input has taken after an answer
  open-taken : (answer : Result (List ℕ) InputEnd) (new : LineInput)
      → (h : AnswersOpen input left next answer new)
      → HasTaken (record { before = before; now = next }) (state.bytes ++ (input.held ++ h.0))
  open-taken answer new h =
      let all : (state.bytes ++ input.held) ++ h.0 ≡ state.bytes ++ (input.held ++ h.0) = append_assoc state.bytes input.held h.0 in
      let P : List ℕ → Type 0 = λ v. Consumes before next v in
      record {
        consumes = subst P all (Consumes-trans before left next (state.bytes ++ input.held) h.0 state.taken h.1);
        few = omega (arith, state.handed, h.4, taken-kept (with_taken input h.0) next answer new h.3, length-append state.bytes (input.held ++ h.0));
      }

  handed-few : length state.bytes ≤ input_limit
  handed-few = omega (arith, state.handed, state.within)

  -- the answers to the lines so far are still a prefix of the output to the bytes taken
  pub reached-after : (answer : Result (List ℕ) InputEnd) (new : LineInput)
      → AnswersNext input left next answer new → ((NeedsRead input → ⊥) → next ≡ left)
      → (all : List ℕ) × HasTaken (record { before = before; now = next }) all
      × StopsEarly command next all (answers_to command state.items)
  reached-after answer new answers still = by_read state.read
    where
      by_read : IsReadSoFar command left state.items state.bytes input
          → (all : List ℕ) × HasTaken (record { before = before; now = next }) all
          × StopsEarly command next all (answers_to command state.items)
      by_read (inl runs) =
          let P : Option InputEnd → Type 0 = λ o. MatchOption o (AnswersOpen input left next answer new) (λ why. (answer ≡ Err why) × (new ≡ input)) in
          let h : AnswersOpen input left next answer new = subst P runs.0 answers in (
            state.bytes ++ (input.held ++ h.0),
            open-taken answer new h,
            inl (answers-start_fault command state.items state.bytes (input.held ++ h.0) runs.1 handed-few),
          )
      by_read (inr over) =
          let same : next ≡ left = still (λ needs. let e : Some input_end.End ≡ None = sym over.0 ∙ needs.0 in absurd (cc)) in
          let P : Option (List ℕ) → Type 0 = λ l. HasTaken (record { before = before; now = l }) (state.bytes ++ input.held) × StopsEarly command l (state.bytes ++ input.held) (answers_to command state.items) in
          let done = subst P (sym same) (reached command represents before left sink input service state) in
          (state.bytes ++ input.held, done.0, done.1)

  -- memory has run out after the answers that were written
  pub stops-taking : (answer : Result (List ℕ) InputEnd) (new : LineInput)
      → AnswersNext input left next answer new → ((NeedsRead input → ⊥) → next ≡ left)
      → RunEnds command (record { before = before; now = next }) sink OutOfMemory
  stops-taking answer new answers still =
      let all = reached-after answer new answers still in
      (all.0, state.written, all.1.consumes, all.1.few, state.added, stops-starts command next all.0 (answers_to command state.items) state.written all.2 (starts-append _ state.written service.text.items state.answered))

  -- one good line more
  module _ (item : Item) (served : Service C) (stands : HasServed represents served (state.items ++ item ∷ [])) (text : served.text.items ≡ service.text.items ++ command.answer state.items item) where
    answered-more : answers_to command (state.items ++ item ∷ []) ≡ state.written ++ served.text.items
    answered-more =
        answers-push command state.items item ∙ ap (λ v. v ++ command.answer state.items item) state.answered
        ∙ append_assoc state.written service.text.items (command.answer state.items item) ∙ ap (λ v. state.written ++ v) (sym text)

    -- with its newline
    state-whole : (line : List ℕ) (new : LineInput) (h : AnswersOpen input left next (Ok line) new)
        → GoesOn command state.items state.bytes → GivesLine (with_taken input h.0) line new
        → reading_of command state.items line ≡ Ok item
        → RunState command represents (streams_of (record { before = before; now = next }) sink) new served
    state-whole line new h go gives reads =
        let took = open-taken (Ok line) new h in
        let ended = line ++ newline ∷ [] in
        let all : state.bytes ++ (input.held ++ h.0) ≡ (state.bytes ++ ended) ++ new.held = ap (λ v. state.bytes ++ v) (gives.1 ∙ sym (append_assoc line (newline ∷ []) new.held)) ∙ sym (append_assoc state.bytes ended new.held) in
        let P : List ℕ → Type 0 = λ v. Consumes before next v in
        record {
          items = state.items ++ item ∷ [];
          bytes = state.bytes ++ ended;
          written = state.written;
          served = stands;
          read = inl (gives.4, goes_on-line command state.items state.bytes line item go gives.0.0 reads);
          handed = length-append state.bytes ended ∙ omega (arith, state.handed, gives.2, length-append line (newline ∷ []));
          within = h.4;
          few = omega (arith, state.few, gives.2, length-append state.items (item ∷ []));
          taken = subst P all took.consumes;
          added = state.added;
          answered = answered-more;
        }

    -- or the last
    state-last : (line : List ℕ) (new : LineInput) (h : AnswersOpen input left next (Ok line) new)
        → GoesOn command state.items state.bytes → GivesLastLine (with_taken input h.0) next line new
        → reading_of command state.items line ≡ Ok item
        → RunState command represents (streams_of (record { before = before; now = next }) sink) new served
    state-last line new h go gives reads =
        let took = open-taken (Ok line) new h in
        let all : state.bytes ++ (input.held ++ h.0) ≡ (state.bytes ++ line) ++ [] = ap (λ v. state.bytes ++ v) gives.3 ∙ sym (append-nil (state.bytes ++ line)) in
        let P : List ℕ → Type 0 = λ v. Consumes before next v in
        let Q : LineInput → Type 0 = λ i. RunState command represents (streams_of (record { before = before; now = next }) sink) i served in
        let R : LineInput → Type 0 = λ i. IsWithinLimit i in
        let clear = gives.0.2 in
        subst Q (sym gives.4) (record {
          items = state.items ++ item ∷ [];
          bytes = state.bytes ++ line;
          written = state.written;
          served = stands;
          read = inr (refl, gives.1, refl, all_read-last command state.items state.bytes line item go (clear_line line gives.3 clear) gives.2 reads);
          handed = length-append state.bytes line ∙ omega (arith, state.handed);
          within = subst R gives.4 h.4;
          few = omega (arith, state.few, gives.2, length-append state.items (item ∷ []));
          taken = subst P all took.consumes;
          added = state.added;
          answered = answered-more;
        })
      where
        clear_line : (line : List ℕ) → (with_taken input h.0).held ≡ line → IsLine (with_taken input h.0).held
            → HasNoNewline line
        clear_line line e part = let S : List ℕ → Type 0 = λ v. HasNoNewline v in subst S e part.0

    -- the run goes on after it
    pub state-line : (answer : Result (List ℕ) InputEnd) (new : LineInput)
        → AnswersNext input left next answer new → line_outcome command state.items answer ≡ Good item
        → RunState command represents (streams_of (record { before = before; now = next }) sink) new served
    state-line answer new answers turn = by_read state.read
      where
        by_answer : (a : Result (List ℕ) InputEnd) → GoesOn command state.items state.bytes
            → AnswersOpen input left next a new → line_outcome command state.items a ≡ Good item
            → RunState command represents (streams_of (record { before = before; now = next }) sink) new
            served
        by_answer (Ok line) go h t = by_reading (reading_of command state.items line) refl t
          where
            by_reading : (r : Result Item BadLine) → reading_of command state.items line ≡ r
                → line_outcome_by r ≡ Good item
                → RunState command represents (streams_of (record { before = before; now = next }) sink) new
                served
            by_reading (Ok x) e same = by_gives h.3
              where
                reads : reading_of command state.items line ≡ Ok item
                reads = e ∙ ap (λ (v : Item). Ok v) (good-is x item same)

                by_gives : Answers (with_taken input h.0) next (Ok line) new
                    → RunState command represents (streams_of (record { before = before; now = next }) sink)
                    new served
                by_gives (inl gives) = state-whole line new h go gives reads
                by_gives (inr gives) = state-last line new h go gives reads
            by_reading (Err bad) e same = absurd (cc)
        by_answer (Err input_end.TooLong) go h t = absurd (cc)
        by_answer (Err input_end.TooMuch) go h t = absurd (cc)
        by_answer (Err input_end.End) go h t = absurd (end-no_line command state.items (command.closing state.items) item t)
        by_answer (Err input_end.Fault) go h t = absurd (cc)

        by_read : IsReadSoFar command left state.items state.bytes input
            → RunState command represents (streams_of (record { before = before; now = next }) sink) new
            served
        by_read (inl runs) =
            let P : Option InputEnd → Type 0 = λ o. MatchOption o (AnswersOpen input left next answer new) (λ why. (answer ≡ Err why) × (new ≡ input)) in
            by_answer answer runs.1 (subst P runs.0 answers) turn
        by_read (inr over) =
            let P : Option InputEnd → Type 0 = λ o. MatchOption o (AnswersOpen input left next answer new) (λ why. (answer ≡ Err why) × (new ≡ input)) in
            let h : (answer ≡ Err input_end.End) × (new ≡ input) = subst P over.0 answers in
            let t : end_outcome command state.items (command.closing state.items) ≡ Good item = sym (ap (λ a. line_outcome command state.items a) h.0) ∙ turn in
            absurd (end-no_line command state.items (command.closing state.items) item t)

  -- a reader that hands out a line is open
  opened : (line : List ℕ) (new : LineInput) → AnswersNext input left next (Ok line) new
      → AnswersOpen input left next (Ok line) new
  opened line new answers = by_read state.read
    where
      P : Option InputEnd → Type 0
      P o = MatchOption o (AnswersOpen input left next (Ok line) new) (λ why. (Ok line ≡ Err why) × (new ≡ input))

      by_read : IsReadSoFar command left state.items state.bytes input
          → AnswersOpen input left next (Ok line) new
      by_read (inl runs) = subst P runs.0 answers
      by_read (inr over) =
          let h : (Ok line ≡ Err input_end.End) × (new ≡ input) = subst P over.0 answers in
          let e : Ok line ≡ Err input_end.End = h.0 in
          absurd (cc)

  -- it is not too long, and there are not too many before it
  pub line-fits : (answer : Result (List ℕ) InputEnd) (new : LineInput) → AnswersNext input left next answer new
      → IfOk answer (λ line. (length line ≤ line_limit) × (service.lines < input_limit))
  line-fits (Err why) new answers = tt
  line-fits (Ok line) new answers = by_gives (opened line new answers)
    where
      by : (h : AnswersOpen input left next (Ok line) new) → Answers (with_taken input h.0) next (Ok line) new
          → (length line ≤ line_limit) × (service.lines < input_limit)
      by h (inl gives) = (gives.0.1, omega (arith, state.served.count, state.few, gives.2, gives.3))
      by h (inr gives) =
          let size : length (input.held ++ h.0) ≡ length line = ap (λ (v : List ℕ). length v) gives.3 in (
            omega (arith, gives.0.2.1, size),
            omega (arith, state.served.count, state.few, gives.0.1, gives.2, size),
          )

      by_gives : AnswersOpen input left next (Ok line) new
          → (length line ≤ line_limit) × (service.lines < input_limit)
      by_gives h = by h h.3

  -- a good line hands out a byte more, and no more than the limit
  pub line-hands_out : (item : Item) (answer : Result (List ℕ) InputEnd) (new : LineInput)
      → AnswersNext input left next answer new → line_outcome command state.items answer ≡ Good item
      → input_limit - new.handed < input_limit - input.handed
  line-hands_out item (Ok line) new answers turn = by_gives (opened line new answers)
    where
      by : (h : AnswersOpen input left next (Ok line) new) → Answers (with_taken input h.0) next (Ok line) new
          → input_limit - new.handed < input_limit - input.handed
      by h (inl gives) = omega (arith, gives.2, gives.3)
      by h (inr gives) =
          let size : length (input.held ++ h.0) ≡ length line = ap (λ (v : List ℕ). length v) gives.3 in
          let more : new.handed ≡ input.handed + length line = ap (λ (i : LineInput). i.handed) gives.4 in
          omega (arith, more, size, gives.0.1, gives.2)

      by_gives : AnswersOpen input left next (Ok line) new
          → input_limit - new.handed < input_limit - input.handed
      by_gives h = by h h.3
  line-hands_out item (Err input_end.TooLong) new answers turn = absurd (cc)
  line-hands_out item (Err input_end.TooMuch) new answers turn = absurd (cc)
  line-hands_out item (Err input_end.End) new answers turn =
      absurd (end-no_line command state.items (command.closing state.items) item turn)
  line-hands_out item (Err input_end.Fault) new answers turn = absurd (cc)

  -- the run ends at this answer
  pub ends-after : (answer : Result (List ℕ) InputEnd) (new : LineInput) (status : Status) (closing : List ℕ)
      → AnswersNext input left next answer new → ((NeedsRead input → ⊥) → next ≡ left)
      → line_outcome command state.items answer ≡ Ends status closing
      → (all : List ℕ) × HasTaken (record { before = before; now = next }) all
      × EndsWith command next status all (answers_to command state.items ++ closing)
  ends-after answer new status closing answers still turn = by_read state.read
    where
      End_of : Status → List ℕ → Type 0
      End_of s text = (all : List ℕ) × HasTaken (record { before = before; now = next }) all × EndsWith command next s all (answers_to command state.items ++ text)

      by : (s : Status) (text : List ℕ) → ◌≡◌ {A = LineOutcome Item} (Ends s text) (Ends status closing)
          → End_of s text → End_of status closing
      by s text e h =
          let P : Status → Type 0 = λ v. End_of v closing in
          let Q : List ℕ → Type 0 = λ v. End_of s v in
          subst P (status-is s status text closing e) (subst Q (closing-is s status text closing e) h)

      by_line : (line : List ℕ) → GoesOn command state.items state.bytes
          → (h : AnswersOpen input left next (Ok line) new) → (r : Result Item BadLine)
          → reading_of command state.items line ≡ r → line_outcome_by r ≡ Ends status closing
          → End_of status closing
      by_line line go h (Ok x) e t = absurd (cc)
      by_line line go h (Err bad) e t = by Refused (bad_line bad) t (by_gives h.3)
        where
          by_gives : Answers (with_taken input h.0) next (Ok line) new → End_of Refused (bad_line bad)
          by_gives (inl gives) = (
            state.bytes ++ (input.held ++ h.0),
            open-taken (Ok line) new h,
            ends-line command state.items next state.bytes go handed-few (input.held ++ h.0) line new.held bad gives.1 (omega (arith, state.handed, gives.2, gives.3)) gives.0.0 e,
          )
          by_gives (inr gives) =
              let P : List ℕ → Type 0 = λ v. HasTaken (record { before = before; now = next }) (state.bytes ++ v) in
              let S : List ℕ → Type 0 = λ v. HasNoNewline v in (
                state.bytes ++ line,
                subst P gives.3 (open-taken (Ok line) new h),
                ends-last command state.items next state.bytes go handed-few line bad gives.1 gives.2 (subst S gives.3 gives.0.2.0) (omega (arith, length-append state.bytes line, state.handed, gives.0.1, ap (λ (v : List ℕ). length v) gives.3)) e,
              )

      by_answer : (a : Result (List ℕ) InputEnd) → GoesOn command state.items state.bytes
          → AnswersOpen input left next a new → line_outcome command state.items a ≡ Ends status closing
          → End_of status closing
      by_answer (Ok line) go h t = by_line line go h (reading_of command state.items line) refl t
      by_answer (Err input_end.TooLong) go h t = by Refused (bad_line (too_long_line (length state.items + 1))) t (
        state.bytes ++ (input.held ++ h.0),
        open-taken (Err input_end.TooLong) new h,
        ends-too_long command state.items next state.bytes go handed-few (input.held ++ h.0) (seen-long h.3.0),
      )
        where
          seen-long : BeginsTooLong (looked_at (with_taken input h.0))
              → BeginsTooLong (seen state.bytes (input.held ++ h.0))
          seen-long long =
              let P : ℕ → Type 0 = λ n. BeginsTooLong (take (input_limit - n) (input.held ++ h.0)) in subst P (sym state.handed) long
      by_answer (Err input_end.TooMuch) go h t = by Refused too_much_line t (
        state.bytes ++ (input.held ++ h.0),
        open-taken (Err input_end.TooMuch) new h,
        ends-too_much command state.items next state.bytes go handed-few (input.held ++ h.0) (seen-part h.3.0.0)
            (omega (arith, length-append state.bytes (input.held ++ h.0), state.handed, h.3.0.1)),
      )
        where
          seen-part : IsLine (looked_at (with_taken input h.0))
              → IsLine (seen state.bytes (input.held ++ h.0))
          seen-part part =
              let P : ℕ → Type 0 = λ n. IsLine (take (input_limit - n) (input.held ++ h.0)) in subst P (sym state.handed) part
      by_answer (Err input_end.End) go h t =
          let all : state.bytes ++ (input.held ++ h.0) ≡ state.bytes = ap (λ v. state.bytes ++ v) h.3.0.2 ∙ append-nil state.bytes in
          let P : List ℕ → Type 0 = λ v. HasTaken (record { before = before; now = next }) v in (
            state.bytes,
            subst P all (open-taken (Err input_end.End) new h),
            ends-closing command state.items next state.bytes (command.closing state.items) h.3.0.1 handed-few (all_read-none command state.items state.bytes go) refl status closing t,
          )
      by_answer (Err input_end.Fault) go h t = by ReadFault [] t (
        state.bytes ++ (input.held ++ h.0),
        open-taken (Err input_end.Fault) new h,
        ends-fault command state.items next state.bytes go handed-few (input.held ++ h.0) h.3.0.2
            (omega (arith, length-append state.bytes (input.held ++ h.0), state.handed, h.3.0.1)),
      )

      by_read : IsReadSoFar command left state.items state.bytes input → End_of status closing
      by_read (inl runs) =
          let Answered : Option InputEnd → Type 0 = λ o. MatchOption o (AnswersOpen input left next answer new) (λ why. (answer ≡ Err why) × (new ≡ input)) in
          by_answer answer runs.1 (subst Answered runs.0 answers) turn
      by_read (inr over) =
          let Answered : Option InputEnd → Type 0 = λ o. MatchOption o (AnswersOpen input left next answer new) (λ why. (answer ≡ Err why) × (new ≡ input)) in
          let h : (answer ≡ Err input_end.End) × (new ≡ input) = subst Answered over.0 answers in
          let t : end_outcome command state.items (command.closing state.items) ≡ Ends status closing = sym (ap (λ a. line_outcome command state.items a) h.0) ∙ turn in
          let same : next ≡ left = still (λ needs. let e : Some input_end.End ≡ None = sym over.0 ∙ needs.0 in absurd (cc)) in
          let Q : Option (List ℕ) → Type 0 = λ l. HasTaken (record { before = before; now = l }) state.bytes × EndsWith command l status state.bytes (answers_to command state.items ++ closing) in
          let R : List ℕ → Type 0 = λ v. HasTaken (record { before = before; now = left }) v in
          let all : state.bytes ++ input.held ≡ state.bytes = ap (λ v. state.bytes ++ v) over.2 ∙ append-nil state.bytes in
          let done = subst Q (sym same) (subst R all (reached command represents before left sink input service state).0, ends-closing command state.items left state.bytes (command.closing state.items) over.1 handed-few over.3 refl status closing t) in
          (state.bytes, done.0, done.1)
