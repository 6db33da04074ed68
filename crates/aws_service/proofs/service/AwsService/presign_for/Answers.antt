use Rattle.std.proofs.Common.{◌≡◌, ◌/◌, ap, sym, ◌∙◌, subst, Ok, Err}
use Rattle.std.specs.Prelude.{IfOk, IfErr, min}
use Rattle.std.specs.Duration.{as_nanos}
use Rattle.aws_service.specs.SessionLink.{link_signing}
use Rattle.aws_service.proofs.LongLinks.{long_links_alike}
use Rattle.aws_service.proofs.service.AwsService.presign_for.Goals as goal

pub returns-clause-ok : goal.returns-clause-ok
returns-clause-ok g c =
    let seconds = as_nanos c.args.duration / 1000000000 in
    let same : link_signing c.args.self.now c.args.session.now c.link_seconds.result c.args.now c.args.head.now
    ≡ link_signing c.args.self.now c.args.session.now seconds c.args.now c.args.head.now =
    ap (λ n. link_signing c.args.self.now c.args.session.now n c.args.now c.args.head.now) c.link_seconds.ensures
    ∙ long_links_alike c.args.self.now c.args.session.now seconds c.args.now c.args.head.now in
    rw (← same) c.presign.ensures.ok

pub returns-clause-err : goal.returns-clause-err
returns-clause-err g c =
    let seconds = as_nanos c.args.duration / 1000000000 in
    let same : link_signing c.args.self.now c.args.session.now c.link_seconds.result c.args.now c.args.head.now
    ≡ link_signing c.args.self.now c.args.session.now seconds c.args.now c.args.head.now =
    ap (λ n. link_signing c.args.self.now c.args.session.now n c.args.now c.args.head.now) c.link_seconds.ensures
    ∙ long_links_alike c.args.self.now c.args.session.now seconds c.args.now c.args.head.now in
    rw (← same) c.presign.ensures.err
