use Rattle.std.proofs.Common.{ℕ, ap, sym, ◌∙◌, subst, arith}
use Rattle.wake_lock.specs.declared.wait_list.WaitList.TheInside.{Inside}
use Rattle.wake_lock.specs.WaitList.{Waiting}
use Rattle.wake_lock.specs.WaitListView.{IsWaitList, waiting_places, vacant_places, waiters_at}
use Rattle.wake_lock.proofs.WaitLists.{wait-list, waiting-found}
use Rattle.wake_lock.proofs.Grown.{list_larger, larger-is, Larger, larger}
use Rattle.wake_lock.proofs.wait_list.WaitList.reserve.Goals as goal

pub invariant_of-self-2 : goal.invariant_of-self-2
invariant_of-self-2 c =
    let list : Inside = c.self.inside in
    let missing : ℕ = c.saturating_sub-missing.result in
    let grown = c.in_ok-self-inside.ensures {u = tt} in
    let same = larger-is list missing c.grow_linked.new.self c.in_ok-self-inside.field-0 grown.slots grown.start in
    let l : Larger list (waiting_places list) (vacant_places list) (list_larger list missing) =
    larger missing list (waiting_places list) (vacant_places list) c.self.invariant (omega arith) in
    subst IsWaitList (sym same) (wait-list (list_larger list missing) (waiting_places list) l.places l.stands)

pub returns-clause-waiters : goal.returns-clause-waiters
returns-clause-waiters c =
    let list : Inside = c.self.inside in
    let missing : ℕ = c.saturating_sub-missing.result in
    let grown = c.in_ok-self-inside.ensures {u = tt} in
    let same = larger-is list missing c.grow_linked.new.self c.in_ok-self-inside.field-0 grown.slots grown.start in
    let l : Larger list (waiting_places list) (vacant_places list) (list_larger list missing) =
    larger missing list (waiting_places list) (vacant_places list) c.self.invariant (omega arith) in
    ap (λ (i : Inside). waiters_at i.slots (waiting_places i)) same
    ∙ ap (waiters_at (list_larger list missing).slots) (waiting-found (list_larger list missing) (waiting_places list) l.places l.stands)
    ∙ l.waiters
    ∙ ap (λ (w : Waiting). w.waiters) c.self.view_is
