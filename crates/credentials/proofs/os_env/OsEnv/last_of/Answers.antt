use Rattle.std.proofs.Common.{◌∙◌, ap, sym, List, ℕ}
use Rattle.std.specs.Str.{bytes_eq}
use Rattle.credentials.specs.Env.{no_variables}
use Rattle.credentials.proofs.Variables.{last-here, last-before}
use Rattle.credentials.proofs.os_env.OsEnv.last_of.Goals.{then-eq, else-eq}
use Rattle.credentials.proofs.os_env.OsEnv.last_of.Goals as goal

pub loop-key-preserved : goal.loop-key-preserved
loop-key-preserved c =
    let named = ap (λ (bs : List ℕ). bytes_eq bs c.args.name.now) (sym c.as_str.ensures.value) ∙ sym c.eq.ensures in
    elim c.if-eq.branch [
      | then-eq w ↦ rw w.last-is (last-here no_variables _ _ c.loop-key-item.result c.args.name.now c.loop-key-test.true c.loop-key-item.is (named ∙ w.if-eq.true))
      | else-eq w ↦ rw w.last-is (c.loop-key.invariant
          ∙ last-before no_variables _ _ c.loop-key-item.result c.args.name.now c.loop-key-test.true c.loop-key-item.is (named ∙ w.if-eq.false))
    ]
