use Rattle.std.proofs.Common.{◌<◌, length, refl, sym, arith}
use Rattle.std.specs.Prelude.{IsSome}
use Rattle.std.proofs.lemmas.List.{get_or_default, take_all}
use Rattle.std.proofs.lemmas.List.Elements.{All-same}
use Rattle.pool_books.specs.Notes.{blank_note, note_of}
use Rattle.pool_books.specs.declared.answer.Answer.{Answer}
use Rattle.pool_books.proofs.CallNotes.{kept-more, blank-more, has-more}
use Rattle.pool_books.proofs.notes.add_blank_notes.Goals as goal

pub loop-answer-preserved : goal.loop-answer-preserved
loop-answer-preserved c =
    let below : c.loop-answer.answer-index < length c.args.answers.now = omega arith in
    record {
      blank = blank-more _ blank_note (note_of c.loop-answer.notes) (note_of c.insert.new.self) c.in_ok-_before.ensures.updates.0 refl c.loop-answer.invariant.blank;
      kept = λ q had. kept-more _ blank_note (note_of c.loop-answer.notes) (note_of c.insert.new.self) c.in_ok-_before.ensures.updates.0 q (c.loop-answer.invariant.kept q had);
      has = has-more _ blank_note (note_of c.loop-answer.notes) (note_of c.insert.new.self) c.in_ok-_before.ensures.updates.0 c.args.answers.now c.loop-answer.answer-index _ below
          (get_or_default c.args.answers.now c.loop-answer.answer-index _ _ below) refl c.loop-answer.invariant.has;
    }

pub returns-clause-has : goal.returns-clause-has
returns-clause-has c =
    All-same (λ (a : Answer). IsSome (note_of c.loop-answer.notes a.call)) c.args.answers.now _ (sym (take_all c.loop-answer.answer-index c.args.answers.now (omega arith))) c.loop-answer.invariant.has
