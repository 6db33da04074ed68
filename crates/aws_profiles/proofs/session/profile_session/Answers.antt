use Rattle.std.proofs.Common.{Ok, sym, ap, ◌∙◌}
use Rattle.aws_profiles.specs.Settings.{settings_texts}
use Rattle.aws_profiles.proofs.ProfileLemmas.{found-settings, found-fault}
use Rattle.aws_profiles.proofs.session.profile_session.Goals as goal

pub returns-in-Ok : goal.returns-in-Ok
returns-in-Ok c =
    found-settings c.args.file c.args.profile.now c.args.bytes.now (settings_texts c.as_slice.result.now) c.session_of.result
    (c.in-Ok.ensures.ok ∙ ap (λ settings. Ok (settings_texts settings)) (sym c.as_slice.ensures.value)) c.session_of.ensures

pub returns-in_ok-error_in-in-Err : goal.returns-in_ok-error_in-in-Err
returns-in_ok-error_in-in-Err c =
    found-fault c.args.file c.args.profile.now c.args.bytes.now c.in-Err.fault c.place.result.now c.in_ok-error_in-in-Err.field-0
    c.place.ensures c.in-Err.ensures.err (c.in_ok-error_in-in-Err.ensures.memory, c.in_ok-error_in-in-Err.ensures.invalid)
