use Rattle.std.proofs.Common.{Ok, sym, ap, ◌∙◌}
use Rattle.aws_profiles.specs.Settings.{settings_texts}
use Rattle.aws_profiles.proofs.ProfileLemmas.{process-settings, process-fault}
use Rattle.aws_profiles.proofs.session.profile_process.Goals as goal

pub returns-in_ok-copied-in-Ok-clause-ok : goal.returns-in_ok-copied-in-Ok-clause-ok
returns-in_ok-copied-in-Ok-clause-ok c =
    process-settings c.args.file c.args.profile.now c.args.bytes.now (settings_texts c.as_slice.result.now) _
    (c.in-Ok.ensures.ok ∙ ap (λ settings. Ok (settings_texts settings)) (sym c.as_slice.ensures.value))
    (c.in_ok-copied-in-Ok.ensures ∙ c.value_of.ensures)

pub returns-in_ok-error_in-in-Err-clause-err : goal.returns-in_ok-error_in-in-Err-clause-err
returns-in_ok-error_in-in-Err-clause-err c =
    process-fault c.args.file c.args.profile.now c.args.bytes.now c.in-Err.fault c.place.result.now c.in_ok-error_in-in-Err.field-0
    c.place.ensures c.in-Err.ensures.err (c.in_ok-error_in-in-Err.ensures.memory, c.in_ok-error_in-in-Err.ensures.invalid)
