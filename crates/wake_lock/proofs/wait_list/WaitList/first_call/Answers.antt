use Rattle.wake_lock.specs.WaitListView.{waiting_places, vacant_places}
use Rattle.wake_lock.proofs.WaitLists.{head-below}
use Rattle.wake_lock.proofs.wait_list.WaitList.first_call.Goals as goal

pub read-requires : goal.read-requires
read-requires g c = head-below c.self.inside (waiting_places c.self.inside) (vacant_places c.self.inside) c.self.invariant c.in-Some.place c.in-Some.is
