use Rattle.std.proofs.Common.{[], ◌∷◌, sym, ◌∙◌, arith, length-append}
use Rattle.signctl_driver.specs.Serving.{HasServed}
use Rattle.signctl_driver.proofs.Refusing.{reading-good, refused-line, refused-stops}
use Rattle.signctl_driver.proofs.service.Service.serve.Goals as goal

pub returns-in-Err-clause-bad : goal.returns-in-Err-clause-bad
returns-in-Err-clause-bad g c =
    refused-line g.C.LineCommand.command c.args.line.now c.requires.fits
    (λ items. HasServed g.C.LineCommand.represents c.args.self.now items) c.in-Err.cause _ _
    (λ items served. sym c.in-Err.is ∙ c.in_ok-item.ensures items served.represented) c.refuse.result c.refuse.ensures

pub refuse-requires : goal.refuse-requires
refuse-requires g c = let served = c.requires.served in (served.0, served.1, omega (arith, served.2))

pub answer-requires : goal.answer-requires
answer-requires g c =
    let served = c.requires.served in
    let represented = served.1.represented in
    (served.0, represented, (c.args.line.now, sym (c.in_ok-item.ensures served.0 represented) ∙ c.in-Ok.is), served.2)

pub returns-in-Err-clause-good : goal.returns-in-Err-clause-good
returns-in-Err-clause-good g c = λ is items served. absurd (refused-stops _ c.refuse.result c.refuse.ensures is)

pub returns-in_ok-answer-in-Ok-clause-good : goal.returns-in_ok-answer-in-Ok-clause-good
returns-in_ok-answer-in-Ok-clause-good g c = λ is items served.
    let reads = sym (c.in_ok-item.ensures items served.represented) ∙ c.in-Ok.is in
    let answered = c.in_ok-answer-in-Ok.ensures items served.represented (c.args.line.now, reads) in (
      c.in-Ok.item,
      reading-good g.C.LineCommand.command c.args.line.now c.requires.fits items c.in-Ok.item reads,
      record {
        represented = answered.0;
        count = omega (arith, served.count, length-append items (c.in-Ok.item ∷ []));
      },
      answered.1,
    )
