use Rattle.std.proofs.Common.{◌≡◌, ◌∙◌}
use Rattle.aws_profiles.specs.declared.shared_file.SharedFile.TheVariants.{Credentials, Config}
use Rattle.aws_process.specs.declared.profile_load.ProfileProcessLoad.TheVariants as load
use Rattle.aws_process.proofs.ProfileLemmas.{read-begun, read-leads, run-stays, running-gives, started-as, starts-so}
use Rattle.aws_process.proofs.profile_steps.poll_stage.Goals as goal

pub returns-in-Reading-Credentials-default-clause-kept : goal.returns-in-Reading-Credentials-default-clause-kept
returns-in-Reading-Credentials-default-clause-kept g c = λ started.
    let same : load.Reading Credentials c.in-Reading-Credentials-default.open_read ≡ c.args.load.now = cc (c.replace.ensures.value, c.in-Reading-Credentials-default.is, c.in-Reading-Credentials-default.file-is) in
    let at = started-as _ _ _ _ _ _ _ (load.Reading Credentials c.in-Reading-Credentials-default.open_read) c.args.load.now same started in
    c.poll_credentials.ensures.kept (starts-so _ _ _ _ _ _ _ _ (c.replace.ensures.after ∙ c.at_start.ensures)) at

pub returns-in-Reading-Credentials-default-clause-gives : goal.returns-in-Reading-Credentials-default-clause-gives
returns-in-Reading-Credentials-default-clause-gives g c = λ started.
    let same : load.Reading Credentials c.in-Reading-Credentials-default.open_read ≡ c.args.load.now = cc (c.replace.ensures.value, c.in-Reading-Credentials-default.is, c.in-Reading-Credentials-default.file-is) in
    let at = started-as _ _ _ _ _ _ _ (load.Reading Credentials c.in-Reading-Credentials-default.open_read) c.args.load.now same started in
    c.poll_credentials.ensures.gives (read-begun _ _ _ _ _ _ _ Credentials _ at)

pub returns-in-Reading-Config-default-clause-kept : goal.returns-in-Reading-Config-default-clause-kept
returns-in-Reading-Config-default-clause-kept g c = λ started.
    let same : load.Reading Config c.in-Reading-Config-default.open_read ≡ c.args.load.now = cc (c.replace.ensures.value, c.in-Reading-Config-default.is, c.in-Reading-Config-default.file-is) in
    let at = started-as _ _ _ _ _ _ _ (load.Reading Config c.in-Reading-Config-default.open_read) c.args.load.now same started in
    c.poll_config.ensures.kept (starts-so _ _ _ _ _ _ _ _ (c.replace.ensures.after ∙ c.at_start.ensures)) at

pub returns-in-Reading-Config-default-clause-gives : goal.returns-in-Reading-Config-default-clause-gives
returns-in-Reading-Config-default-clause-gives g c = λ started.
    let same : load.Reading Config c.in-Reading-Config-default.open_read ≡ c.args.load.now = cc (c.replace.ensures.value, c.in-Reading-Config-default.is, c.in-Reading-Config-default.file-is) in
    let at = started-as _ _ _ _ _ _ _ (load.Reading Config c.in-Reading-Config-default.open_read) c.args.load.now same started in
    read-leads _ _ _ _ _ _ _ Config _ at c.poll_config.result (c.poll_config.ensures.gives (read-begun _ _ _ _ _ _ _ Config _ at))

pub returns-in-Running-clause-kept : goal.returns-in-Running-clause-kept
returns-in-Running-clause-kept g c = λ started.
    let same : load.Running c.in-Running.run' ≡ c.args.load.now = cc (c.replace.ensures.value, c.in-Running.is) in
    let at = started-as _ _ _ _ _ _ _ (load.Running c.in-Running.run') c.args.load.now same started in
    run-stays _ _ _ _ _ _ _ c.in-Running.run' _ c.poll_run.new.load c.poll_run.ensures.kept (starts-so _ _ _ _ _ _ _ _ (c.replace.ensures.after ∙ c.at_start.ensures)) at

pub returns-in-Running-clause-gives : goal.returns-in-Running-clause-gives
returns-in-Running-clause-gives g c = λ started.
    let same : load.Running c.in-Running.run' ≡ c.args.load.now = cc (c.replace.ensures.value, c.in-Running.is) in
    let at = started-as _ _ _ _ _ _ _ (load.Running c.in-Running.run') c.args.load.now same started in
    running-gives _ _ _ _ _ _ _ c.in-Running.run' c.poll_run.result c.poll_run.ensures.gives at
