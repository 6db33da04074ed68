use Rattle.std.proofs.Common.{◌≡◌, ◌≤◌, ◌⊎◌, ◌∙◌, inr, sym, ap, subst, refl, length, arith, List, ℕ, Some, None}
use Rattle.std.specs.Prelude.{IfOk, IfErr}
use Rattle.sign_request.specs.PlainTarget.{plain_target, target_of}
use Rattle.sigv4_core.specs.declared.sig_error.SigError.TheVariants as refusal
use Rattle.sigv4_core.proofs.FewHeaders.{malformed_is_refused, target_accepts, target_refuses}
use Rattle.sigv4_core.proofs.accepted_target.accepted_target.Goals as goal

pub returns-then-not-is_well_formed_head-clause-err : goal.returns-then-not-is_well_formed_head-clause-err
returns-then-not-is_well_formed_head-clause-err c =
    let few : length c.args.head.now.headers ≤ 24576 =
    omega (arith, ap length c.as_slice.ensures, c.if-as_slice-gt-MAX_KEYS.false) in
    inr (refl, malformed_is_refused c.args.head.now few (sym c.is_well_formed_head.ensures ∙ c.if-not-is_well_formed_head.true))

pub returns-clause-accepted : goal.returns-clause-accepted
returns-clause-accepted c =
    let few : length c.args.head.now.headers ≤ 24576 =
    omega (arith, ap length c.as_slice.ensures, c.if-as_slice-gt-MAX_KEYS.false) in
    target_accepts c.args.head.now c.target_of.result few (sym c.is_well_formed_head.ensures ∙ c.if-not-is_well_formed_head.false)
    (subst (λ (text : List ℕ). IfOk c.target_of.result (λ uri. target_of text ≡ Some (plain_target uri))) c.as_slice-2.ensures c.target_of.ensures.ok)

pub returns-clause-err : goal.returns-clause-err
returns-clause-err c =
    target_refuses c.args.head.now c.target_of.result
    (subst (λ (text : List ℕ). IfErr c.target_of.result (λ why. (why ≡ refusal.OutOfMemory) ⊎ ((why ≡ refusal.Head) × (target_of text ≡ None))))
    c.as_slice-2.ensures c.target_of.ensures.err)
