use Rattle.std.proofs.Common.{◌≡◌, sym, ap, ◌∙◌, arith}
use Rattle.aws_profiles.specs.Settings.{settings_of, settings_texts}
use Rattle.aws_profiles.proofs.FileLemmas.{in_text, settings_of-long, settings_of-text, settings_of-no_text, read-ok, read-err}
use Rattle.aws_profiles.proofs.settings.read_settings.Goals as goal

pub returns-then-bytes-gt-MAX_LENGTH-clause-err : goal.returns-then-bytes-gt-MAX_LENGTH-clause-err
returns-then-bytes-gt-MAX_LENGTH-clause-err c = settings_of-long c.args.bytes.now (omega arith)

pub returns-in-Ok-clause-ok : goal.returns-in-Ok-clause-ok
returns-in-Ok-clause-ok c =
    let bytes = c.args.bytes.now in
    let text = c.in-Ok.text.now in
    let is : settings_of bytes ≡ in_text text = settings_of-text bytes (omega arith) c.in-Ok.ensures.cases.1 ∙ ap in_text (sym c.in-Ok.ensures.cases.0) in
    read-ok (λ s. settings_texts s.items) (settings_of bytes) text is c.text_settings.result c.text_settings.ensures.ok

pub returns-in-Ok-clause-err : goal.returns-in-Ok-clause-err
returns-in-Ok-clause-err c =
    let bytes = c.args.bytes.now in
    let text = c.in-Ok.text.now in
    let is : settings_of bytes ≡ in_text text = settings_of-text bytes (omega arith) c.in-Ok.ensures.cases.1 ∙ ap in_text (sym c.in-Ok.ensures.cases.0) in
    read-err (λ s. settings_texts s.items) (settings_of bytes) text is c.text_settings.result c.text_settings.ensures.err

pub returns-in-Err-clause-err : goal.returns-in-Err-clause-err
returns-in-Err-clause-err c = settings_of-no_text c.args.bytes.now (omega arith) c.in-Err.ensures.cases.0
