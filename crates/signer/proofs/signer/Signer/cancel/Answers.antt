use Rattle.std.proofs.Common.{IsSome, slice_get, refl, sym, ◌∙◌, ap, subst}
use Rattle.desk_driver.specs.CallAt.{IsLive}
use Rattle.desk_driver.specs.CallNumbers.{is_above_all}
use Rattle.desk_driver.proofs.Rows.{for-there}
use Rattle.signer.specs.IssuedBy.{IsStateIssued, IsIssuedBy}
use Rattle.signer.specs.SignerObjects.{meanings_of, objects_of}
use Rattle.desk_driver.specs.Meanings.{call_meaning}
use Rattle.signer.specs.SignerView.{signer_view}
use Rattle.signer.proofs.SignerObjectsAt.{has-objects}
use Rattle.signer.proofs.SignerOthers.{keeps-others, issued-live}
use Rattle.signer.proofs.SignerSetup.{signer-desk}
use Rattle.signer.proofs.signer.Signer.cancel.Goals as goal

pub cancel_call-wake-requires-clause-there : goal.cancel_call-wake-requires-clause-there
cancel_call-wake-requires-clause-there g c =
    let m = meanings_of g.P.ProvideCredential g.S.SignRequest in
    let handle = c.args.sign.begun.id.handle in
    let s = signer_view c.self.inside in
    for-there (objects_of s handle) (λ o. IsStateIssued (call_meaning m c.args.sign.begun o) c.args.sign.begun s.desk c.args.sign.state)
    (IsSome (slice_get s.desk.handles handle))
    (subst (λ x. IsIssuedBy m x c.args.sign) (sym c.self.view_is) c.requires)
    (λ o is state.
    let h = has-objects s handle o is in
    subst (λ x. IsSome x) (sym h.handle_is) refl)

pub cancel_call-wake-requires-clause-live : goal.cancel_call-wake-requires-clause-live
cancel_call-wake-requires-clause-live g c =
    let m = meanings_of g.P.ProvideCredential g.S.SignRequest in
    let handle = c.args.sign.begun.id.handle in
    let s = signer_view c.self.inside in
    for-there (objects_of s handle) (λ o. IsStateIssued (call_meaning m c.args.sign.begun o) c.args.sign.begun s.desk c.args.sign.state)
    (IsLive c.args.sign.begun s.desk)
    (subst (λ x. IsIssuedBy m x c.args.sign) (sym c.self.view_is) c.requires)
    (λ o is state.
    issued-live (call_meaning m c.args.sign.begun o) c.args.sign.begun s.desk c.args.sign.state state)

pub invariant_of-self : goal.invariant_of-self
invariant_of-self g c =
    let l = c.cancel_call-wake.ensures.others in
    let s = signer_view c.self.inside in
    signer-desk s c.self.invariant c.cancel_call-wake.new.desk s.begun l.loaders l.rules l.handles (ap (is_above_all s.begun) l.greatest ∙ c.self.invariant.numbers)

pub returns-clause-others : goal.returns-clause-others
returns-clause-others g c = λ other apart issued.
    let m = meanings_of g.P.ProvideCredential g.S.SignRequest in
    let handle = c.args.sign.begun.id.handle in
    let s = signer_view c.self.inside in
    keeps-others m c.args.sign.begun.id s c.cancel_call-wake.new.desk c.cancel_call-wake.ensures.others other apart (subst (λ x. IsIssuedBy m x other) (sym c.self.view_is) issued)
