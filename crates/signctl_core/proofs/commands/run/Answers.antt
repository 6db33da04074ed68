use Rattle.std.proofs.Common.{◌≡◌, refl, sym, ◌∙◌}
use Rattle.signctl_core.proofs.commands.run.Goals as goal

pub returns-in-None : goal.returns-in-None
returns-in-None g c =
    let none = sym c.command_of.ensures ∙ c.in-None.is in
    record { usage = (λ u. none, λ n. refl); untouched = λ u. (refl, refl); bytes = rw none tt; reads = refl; writes = refl }
