use Rattle.std.proofs.Common.{◌≡◌, ℕ, ◌-◌, [], ◌∷◌, ◌++◌, Some, ap, sym, ◌∙◌, subst}
use Rattle.std.proofs.lemmas.List.{length-set}
use Rattle.wake_lock.specs.declared.wait_list.WaitList.TheInside.{Inside}
use Rattle.wake_lock.specs.WaitList.{Waiting}
use Rattle.wake_lock.specs.WaitListView.{IsWaitList, waiting_places, vacant_places, waiters_at}
use Rattle.wake_lock.proofs.WaitLists.{tail-below, vacant-split, wait-list, waiting-found}
use Rattle.wake_lock.proofs.Pushed.{list_pushed, list_pushed-is, first-vacant, pushed, pushed-waiters}
use Rattle.wake_lock.proofs.wait_list.WaitList.push.Goals as goal

pub read-requires : goal.read-requires
read-requires g c =
    let split = vacant-split c.self.inside c.in-Some.place c.self.invariant c.in-Some.is in
    (first-vacant c.self.inside c.in-Some.place (waiting_places c.self.inside) split.0 split.1).below

pub write-requires : goal.write-requires
write-requires g c =
    let split = vacant-split c.self.inside c.in-Some.place c.self.invariant c.in-Some.is in
    (first-vacant c.self.inside c.in-Some.place (waiting_places c.self.inside) split.0 split.1).below

pub link_after-requires : goal.link_after-requires
link_after-requires g c = λ x is.
    rw (c.write.ensures.slots, length-set) (tail-below c.self.inside (waiting_places c.self.inside) (vacant_places c.self.inside) c.self.invariant x is)

pub invariant_of-self : goal.invariant_of-self
invariant_of-self g c =
    let list : Inside = c.self.inside in
    let place : ℕ = c.in-Some.place in
    let split = vacant-split list place c.self.invariant c.in-Some.is in
    let new : Inside = record { slots = c.link_after.new.slots; head = c.link_after.new.head; tail = Some place; free = c.read.result.after; vacant = list.vacant - 1 } in
    let same : new ≡ list_pushed list place c.args.id =
    list_pushed-is list place c.args.id c.read.result c.write.new.self c.link_after.new.slots c.link_after.new.head
    c.read.ensures.slot c.write.ensures.slots c.link_after.ensures.slots c.link_after.ensures.head in
    subst IsWaitList (sym same) (wait-list (list_pushed list place c.args.id) (waiting_places list ++ place ∷ []) split.0 (pushed list place c.args.id (waiting_places list) split.0 split.1))

pub returns-clause-waiters : goal.returns-clause-waiters
returns-clause-waiters g c =
    let list : Inside = c.self.inside in
    let place : ℕ = c.in-Some.place in
    let split = vacant-split list place c.self.invariant c.in-Some.is in
    let new : Inside = record { slots = c.link_after.new.slots; head = c.link_after.new.head; tail = Some place; free = c.read.result.after; vacant = list.vacant - 1 } in
    let same : new ≡ list_pushed list place c.args.id =
    list_pushed-is list place c.args.id c.read.result c.write.new.self c.link_after.new.slots c.link_after.new.head
    c.read.ensures.slot c.write.ensures.slots c.link_after.ensures.slots c.link_after.ensures.head in
    let found : waiting_places (list_pushed list place c.args.id) ≡ waiting_places list ++ place ∷ [] =
    waiting-found (list_pushed list place c.args.id) (waiting_places list ++ place ∷ []) split.0 (pushed list place c.args.id (waiting_places list) split.0 split.1) in
    ap (λ (l : Inside). waiters_at l.slots (waiting_places l)) same
    ∙ ap (waiters_at (list_pushed list place c.args.id).slots) found
    ∙ pushed-waiters list place c.args.id (waiting_places list) split.0 split.1
    ∙ ap (λ (w : Waiting). w.waiters ++ (c.args.id, place) ∷ []) c.self.view_is
