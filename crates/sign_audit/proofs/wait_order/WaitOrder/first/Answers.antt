use Rattle.std.proofs.Common.{◌∙◌, ap, sym, option_map}
use Rattle.sign_base.specs.declared.call_id.CallId.{CallId}
use Rattle.sign_base.specs.Calls.{first_of}
use Rattle.sign_audit.proofs.OrderEntries.{first-key}
use Rattle.sign_audit.proofs.wait_order.WaitOrder.first.Goals as goal

pub returns-in-Some : goal.returns-in-Some
returns-in-Some c = ap (option_map (λ (e : CallId × Unit {0}). e.0)) c.in-Some.ensures ∙ sym (first-key c.self.inside.calls.entries) ∙ ap first_of c.self.view_is

pub returns-in-None : goal.returns-in-None
returns-in-None c = ap (option_map (λ (e : CallId × Unit {0}). e.0)) c.in-None.ensures ∙ sym (first-key c.self.inside.calls.entries) ∙ ap first_of c.self.view_is
