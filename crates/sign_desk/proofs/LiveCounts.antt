-- How many calls are live after a step.
use Rattle.std.proofs.Common.{◌≡◌, ℕ, ◌+◌, Option, Some, None, length, refl, sym, ap, subst, inl, inr, arith}
use Rattle.sign_base.specs.declared.call_id.CallId.{CallId}
use Rattle.sequential_signer.specs.Policy.{Policy}
use Rattle.sequential_signer.specs.Transcript.{call_of}
use Rattle.sequential_signer.specs.declared.event.Event.{Event}
use Rattle.sequential_signer.specs.declared.event.Reply.{Reply}
use Rattle.sequential_signer.specs.declared.event.Reply.TheVariants.{Begun, Pending, NotNow, OutOfMemory, Ask, Sign, Refused, Done, Cancelled}
use Rattle.desk_parts.specs.Action.{Leaves, Does, Allocates, TakesEffect}
use Rattle.desk_parts.specs.Change.{one_if}
use Rattle.desk_parts.specs.Tables.{find_call}
use Rattle.sign_desk.specs.Action.{Action, Effect, Performs}
use Rattle.sign_desk.specs.DeskState.{DeskState}
use Rattle.sign_desk.specs.LiveCount.{LiveAfter}
use Rattle.sign_desk.specs.Records.{CallRecord}
use Rattle.sign_desk.specs.Transition.{action_of, Transition}
use Rattle.sign_desk.proofs.Actions.{RecordsBy, KeepsRecords, IsPlain, action-plain}

count_by : {K : Type 0} (reply : Reply K) (found live : Option CallRecord) (n m : ℕ)
    → RecordsBy reply found live → m + one_if found ≡ n + one_if live → LiveAfter reply n m
count_by Begun found None n m r c = omega (arith, c)
count_by Begun found (Some x) n m r c = omega (arith, c)
count_by (Refused why wake) found live n m r c = let k : one_if live ≡ 0 = ap one_if r.1 in omega (arith, c, k, r.0)
count_by (Done head) found live n m r c = let k : one_if live ≡ 0 = ap one_if r.1 in omega (arith, c, k, r.0)
count_by (Cancelled wake) found live n m r c = let k : one_if live ≡ 0 = ap one_if r.1 in omega (arith, c, k, r.0)
count_by Pending found live n m r c = omega (arith, c, r.0, r.1)
count_by NotNow found live n m r c = omega (arith, c, r.0, r.1)
count_by OutOfMemory found live n m r c = omega (arith, c, r.0, r.1)
count_by (Ask k) found live n m r c = omega (arith, c, r.0, r.1)
count_by (Sign k wake) found live n m r c = omega (arith, c, r.0, r.1)

module _ {K D : Type 0} (old : DeskState K D) (call : CallId) (reply : Reply K) (new : DeskState K D) where
  effect_count : (effect : Effect K D) → KeepsRecords old call effect → TakesEffect effect call reply new
      → LiveAfter reply (length old.calls) (length new.calls)
  effect_count effect k m =
      let c : length new.calls + one_if (find_call call effect.desk.calls) ≡ length effect.desk.calls + one_if effect.live = m.1.count in
      let same : one_if (find_call call effect.desk.calls) ≡ one_if (find_call call old.calls) = ap (λ cs. one_if (find_call call cs)) k.0 in
      let as_many : length effect.desk.calls ≡ length old.calls = ap length k.0 in
      let counted : length new.calls + one_if (find_call call old.calls) ≡ length old.calls + one_if effect.live = omega (arith, c, same, as_many) in
      subst (λ x. LiveAfter x (length old.calls) (length new.calls)) (sym m.0) (count_by effect.reply (find_call call old.calls) effect.live (length old.calls) (length new.calls) k.1 counted)

  performed_count : (action : Action K D) → IsPlain old call action → Performs action call old reply new
      → LiveAfter reply (length old.calls) (length new.calls)
  performed_count (Leaves given) k m = rw (m.0, m.1) k
  performed_count (Does effect) k m = effect_count effect k m
  performed_count (Allocates effect) k (inl m) = effect_count effect k.0 m
  performed_count (Allocates effect) k (inr m) = rw (m.0, m.1) refl

-- how many calls are live after a step
pub live-after : {K D : Type 0} (policy : Policy K D) (old : DeskState K D) (reply : Reply K)
    (new : DeskState K D) (event : Event K) → Transition policy event old reply new
    → LiveAfter reply (length old.calls) (length new.calls)
live-after policy old reply new event m = performed_count old (call_of event) reply new (action_of policy old event) (action-plain old policy event) m
