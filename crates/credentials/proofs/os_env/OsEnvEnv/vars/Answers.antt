use Rattle.std.proofs.Common.{◌∙◌}
use Rattle.credentials.specs.Env.{no_variables}
use Rattle.credentials.proofs.Variables.{put-next}
use Rattle.credentials.proofs.os_env.OsEnvEnv.vars.Goals as goal

pub loop-name-preserved : goal.loop-name-preserved
loop-name-preserved c =
    put-next no_variables _ _ c.loop-name-item.result c.loop-name.vars c.insert.new.self c.in_ok-name.name c.in_ok-value.value c.loop-name-test.true c.loop-name-item.is
    (c.in_ok-name.ensures.ok ∙ c.as_str.ensures.value) (c.in_ok-value.ensures.ok ∙ c.as_str-in-loop-name.ensures.value)
    c.in_ok-insert.ensures.updates c.loop-name.invariant
