use Rattle.std.proofs.lemmas.Result.{err_from_is_err_and}
use Rattle.line_words.specs.Heads.{fields_in}
use Rattle.line_words.specs.Readers.{words_after}
use Rattle.line_words.proofs.HeadWords.{fields_more, fields_stop, fields_done}
use Rattle.line_words.proofs.head.parse_fields.Goals as goal

pub returns-in_err-parse_field : goal.returns-in_err-parse_field
returns-in_err-parse_field c =
    let p = err_from_is_err_and c.from_residual.result c.from_residual.ensures.1 in
    rw (p.1, p.2) (fields_stop c.in_err-parse_field.field-0.0 c.loop-word.fields c.in-Some.word.now (words_after c.in-Some.after.now) (words_after c.loop-word.rest.now) (fields_in (words_after c.args.rest.now)) c.in-Some.ensures.words c.in_err-parse_field.ensures c.loop-word.invariant)

pub loop-word-preserved : goal.loop-word-preserved
loop-word-preserved c =
    rw c.in_ok-push.ensures.ok (fields_more c.loop-word.fields c.in-Some.word.now c.in_ok-parse_field.field-0 (words_after c.in-Some.after.now) (words_after c.loop-word.rest.now) (fields_in (words_after c.args.rest.now)) c.in-Some.ensures.words c.in_ok-parse_field.ensures c.loop-word.invariant)

pub returns : goal.returns
returns c = fields_done c.loop-word.fields (words_after c.loop-word.rest.now) (fields_in (words_after c.args.rest.now)) c.in_default.ensures.words c.loop-word.invariant
