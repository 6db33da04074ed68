use Rattle.std.proofs.Common.{◌∙◌, ap, sym, subst, List, [], Option, ◌<◌, length, slice_index_or}
use Rattle.sign_base.specs.declared.call_id.CallId.{CallId}
use Rattle.sequential_signer.specs.Policy.{policy_for}
use Rattle.desk_parts.specs.Tables.{setup_of}
use Rattle.desk_parts.specs.declared.call_record.Stage.{Stage}
use Rattle.sign_audit.specs.AuditState.{AuditState}
use Rattle.sign_audit.specs.IsAudit.{IsAudit}
use Rattle.sign_audit.specs.OrderChange.{order_change, change_before, orders_of, MayCome}
use Rattle.sign_audit.specs.declared.order_change.OrderChange.{OrderChange}
use Rattle.sign_audit.proofs.Accepting.{where-ok, where-err, may-come, changed-there, unset-answer, unset-invariant, lost-answer, lost-invariant, happened-answer, happened-invariant}
use Rattle.sign_audit.proofs.Blocking.{queue-there, lines-count}
use Rattle.sign_audit.proofs.audit.Audit.accept.Goals as goal

pub invariant_of-self : goal.invariant_of-self
invariant_of-self g c =
    unset-invariant (policy_for g.K.SigningCredential g.D.DeadlineRule) c.self.inside.desk c.self.inside.counts.items c.args.self.now c.self.view_is c.self.inside.orders c.self.invariant
    c.args.event.now c.args.expected.now c.requires.expected c.requires.kind c.call-call.result c.call-call.ensures c.step-not_now.result c.step-not_now.new.self c.step-not_now.ensures.step c.step-not_now.ensures.transition
    (sym c.cache_of.ensures ∙ c.in_default.is)

pub returns-in_default-clause-answer : goal.returns-in_default-clause-answer
returns-in_default-clause-answer g c =
    unset-answer (policy_for g.K.SigningCredential g.D.DeadlineRule) c.self.inside.desk c.self.inside.counts.items c.args.self.now c.self.view_is c.self.inside.orders c.self.invariant
    c.args.event.now c.args.expected.now c.requires.expected c.requires.kind c.call-call.result c.call-call.ensures c.step-not_now.result c.step-not_now.new.self c.step-not_now.ensures.step c.step-not_now.ensures.transition
    (sym c.cache_of.ensures ∙ c.in_default.is)

pub returns-in_default-clause-setup : goal.returns-in_default-clause-setup
returns-in_default-clause-setup g c = c.step-not_now.ensures.step.setup ∙ ap (λ (a : AuditState g.row.K.Denot g.row.D.Denot). setup_of a.desk) c.self.view_is

pub before_step-requires-clause-there : goal.before_step-requires-clause-there
before_step-requires-clause-there g c =
    subst (λ n. c.in-Some.cache < n) (sym (ap length c.self.invariant.orders_are ∙ lines-count c.self.inside.desk.queues)) (queue-there c.self.inside.desk c.stage_of.ensures.sound c.call-call.result c.in-Some.cache (sym c.cache_of.ensures ∙ c.in-Some.is))

pub before_step-requires-clause-comes : goal.before_step-requires-clause-comes
before_step-requires-clause-comes g c =
    let may : MayCome (order_change c.stage_of.result c.args.expected.now) c.call-call.result (slice_index_or (orders_of c.self.inside.desk.queues) c.in-Some.cache []) =
    subst (λ (o : Option Stage). MayCome (order_change o c.args.expected.now) c.call-call.result (slice_index_or (orders_of c.self.inside.desk.queues) c.in-Some.cache [])) (sym c.stage_of.ensures.stage)
    (may-come (policy_for g.K.SigningCredential g.D.DeadlineRule) c.self.inside.desk c.stage_of.ensures.sound c.call-call.result c.in-Some.cache (sym c.cache_of.ensures ∙ c.in-Some.is) c.args.expected.now) in
    subst (λ (ls : List (List CallId)). MayCome c.order_change-change.result c.call-call.result (slice_index_or ls c.in-Some.cache [])) (sym c.self.invariant.orders_are)
    (subst (λ (ch : OrderChange). MayCome ch c.call-call.result (slice_index_or (orders_of c.self.inside.desk.queues) c.in-Some.cache [])) (sym c.order_change-change.ensures) may)

pub invariant_of-self-then-is_err : goal.invariant_of-self-then-is_err
invariant_of-self-then-is_err g c =
    subst (λ (ls : List (List CallId)). IsAudit (policy_for g.K.SigningCredential g.D.DeadlineRule) (record { desk = c.self.inside.desk; counts = c.self.inside.counts.items }) ls) (sym (where-err _ c.before_step.result (sym c.if-is_err.ensures.value) c.before_step.ensures.err)) c.self.invariant

pub returns-then-is_err-clause-answer : goal.returns-then-is_err-clause-answer
returns-then-is_err-clause-answer g c entries stood = c.self.view_is

pub returns-then-is_err-clause-setup : goal.returns-then-is_err-clause-setup
returns-then-is_err-clause-setup g c = ap (λ (a : AuditState g.row.K.Denot g.row.D.Denot). setup_of a.desk) c.self.view_is

pub invariant_of-self-then-is_out_of_memory : goal.invariant_of-self-then-is_out_of_memory
invariant_of-self-then-is_out_of_memory g c =
    lost-invariant (policy_for g.K.SigningCredential g.D.DeadlineRule) c.self.inside.desk c.self.inside.counts.items c.args.self.now c.self.view_is c.self.inside.orders c.self.invariant
    c.args.event.now c.args.expected.now c.requires.expected c.requires.kind c.call-call.result c.call-call.ensures c.step-reply.result c.step-reply.new.self c.step-reply.ensures.step c.step-reply.ensures.transition
    c.in-Some.cache (sym c.cache_of.ensures ∙ c.in-Some.is) c.order_change-change.result (c.order_change-change.ensures ∙ ap (λ (o : Option Stage). order_change o c.args.expected.now) c.stage_of.ensures.stage) c.before_step.new.self (where-ok _ c.before_step.result (sym c.if-is_err.ensures.value) c.before_step.ensures.ok)
    (sym c.is_out_of_memory.ensures ∙ c.if-is_out_of_memory.true)

pub returns-then-is_out_of_memory-clause-answer : goal.returns-then-is_out_of_memory-clause-answer
returns-then-is_out_of_memory-clause-answer g c entries stood =
    lost-answer (policy_for g.K.SigningCredential g.D.DeadlineRule) c.self.inside.desk c.self.inside.counts.items c.args.self.now c.self.view_is c.self.inside.orders c.self.invariant
    c.args.event.now c.args.expected.now c.requires.expected c.requires.kind c.call-call.result c.call-call.ensures c.step-reply.result c.step-reply.new.self c.step-reply.ensures.step c.step-reply.ensures.transition
    c.in-Some.cache (sym c.cache_of.ensures ∙ c.in-Some.is) c.order_change-change.result (c.order_change-change.ensures ∙ ap (λ (o : Option Stage). order_change o c.args.expected.now) c.stage_of.ensures.stage) c.before_step.new.self (where-ok _ c.before_step.result (sym c.if-is_err.ensures.value) c.before_step.ensures.ok)
    (sym c.is_out_of_memory.ensures ∙ c.if-is_out_of_memory.true)

pub returns-then-is_out_of_memory-clause-setup : goal.returns-then-is_out_of_memory-clause-setup
returns-then-is_out_of_memory-clause-setup g c = c.step-reply.ensures.step.setup ∙ ap (λ (a : AuditState g.row.K.Denot g.row.D.Denot). setup_of a.desk) c.self.view_is

pub after_step-requires : goal.after_step-requires
after_step-requires g c =
    changed-there (change_before c.order_change-change.result) c.in-Some.cache c.in-Some.cache c.call-call.result c.self.inside.orders c.before_step.new.self (where-ok _ c.before_step.result (sym c.if-is_err.ensures.value) c.before_step.ensures.ok)
    (subst (λ n. c.in-Some.cache < n) (sym (ap length c.self.invariant.orders_are ∙ lines-count c.self.inside.desk.queues)) (queue-there c.self.inside.desk c.stage_of.ensures.sound c.call-call.result c.in-Some.cache (sym c.cache_of.ensures ∙ c.in-Some.is)))

pub invariant_of-self-2 : goal.invariant_of-self-2
invariant_of-self-2 g c =
    happened-invariant (policy_for g.K.SigningCredential g.D.DeadlineRule) c.self.inside.desk c.self.inside.counts.items c.args.self.now c.self.view_is c.self.inside.orders c.self.invariant
    c.args.event.now c.args.expected.now c.requires.expected c.requires.kind c.call-call.result c.call-call.ensures c.step-reply.result c.step-reply.new.self c.step-reply.ensures.step c.step-reply.ensures.transition
    c.in-Some.cache (sym c.cache_of.ensures ∙ c.in-Some.is) c.order_change-change.result (c.order_change-change.ensures ∙ ap (λ (o : Option Stage). order_change o c.args.expected.now) c.stage_of.ensures.stage) c.before_step.new.self (where-ok _ c.before_step.result (sym c.if-is_err.ensures.value) c.before_step.ensures.ok)
    (sym c.is_out_of_memory.ensures ∙ c.if-is_out_of_memory.false) c.after_step.new.self c.after_step.ensures c.count.new.counts.items c.count.ensures

pub returns-clause-answer : goal.returns-clause-answer
returns-clause-answer g c =
    happened-answer (policy_for g.K.SigningCredential g.D.DeadlineRule) c.self.inside.desk c.self.inside.counts.items c.args.self.now c.self.view_is c.self.inside.orders c.self.invariant
    c.args.event.now c.args.expected.now c.requires.expected c.requires.kind c.call-call.result c.call-call.ensures c.step-reply.result c.step-reply.new.self c.step-reply.ensures.step c.step-reply.ensures.transition
    c.in-Some.cache (sym c.cache_of.ensures ∙ c.in-Some.is) c.order_change-change.result (c.order_change-change.ensures ∙ ap (λ (o : Option Stage). order_change o c.args.expected.now) c.stage_of.ensures.stage) c.before_step.new.self (where-ok _ c.before_step.result (sym c.if-is_err.ensures.value) c.before_step.ensures.ok)
    (sym c.is_out_of_memory.ensures ∙ c.if-is_out_of_memory.false) c.after_step.new.self c.after_step.ensures c.count.new.counts.items c.count.ensures

pub returns-clause-setup : goal.returns-clause-setup
returns-clause-setup g c = c.step-reply.ensures.step.setup ∙ ap (λ (a : AuditState g.row.K.Denot g.row.D.Denot). setup_of a.desk) c.self.view_is
