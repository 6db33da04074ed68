use Rattle.std.proofs.Common.{◌≡◌, List, sym, ◌∙◌, ap, subst, rules}
use Rattle.crossbeam_queue.specs.Passes.{ruled_capacity}
use Rattle.signctl_format.specs.declared.credential.ScriptCredential.{ScriptCredential}
use Rattle.signer_shared.proofs.SlotLemmas.{written_back}
use Rattle.sign_pool.specs.declared.seats.Submitter.{Submitter}
use Rattle.sign_pool.specs.declared.seats.Worker.{Worker}
use Rattle.signctl_threads.specs.Slots.{AreServedSeats}
use Rattle.signctl_threads.specs.declared.slots.Slot.{Slot}
use Rattle.signctl_threads.proofs.RunSlots.{are_served, submitters_of, workers_of}
use Rattle.signctl_threads.proofs.seats.served_pool.Goals as goal

pub returns-clause-capacity : goal.returns-clause-capacity
returns-clause-capacity g c = ap ruled_capacity c.in_ok-slots.ensures.queue ∙ c.in_ok-pool.ensures.capacity

pub returns-clause-seats : goal.returns-clause-seats
returns-clause-seats g c =
    let slots : List Slot = c.serve_slots.new.slots in
    let back = written_back c.in_ok-slots.slots.items slots c.in_ok-slots.slots.len (search rules) (search rules) in
    let submitters : c.in_ok-submitters.submitters.items ≡ submitters_of slots = c.in_ok-submitters.ensures.submitters ∙ ap submitters_of back in
    let workers : c.in_ok-submitters.workers.items ≡ workers_of slots = c.in_ok-submitters.ensures.workers ∙ ap workers_of back in
    let P : List Submitter → List (Worker ScriptCredential) → Type 0 =
    λ ss ws. AreServedSeats c.new_slots.new.pool.queue (g.G.Gate.meaning c.args.gate.now) c.args.workers c.args.jobs ss ws in
    subst (λ ss. P ss c.in_ok-submitters.workers.items) (sym submitters)
    (subst (λ ws. P (submitters_of slots) ws) (sym workers)
    (are_served c.new_slots.new.pool.queue (g.G.Gate.meaning c.args.gate.now) c.args.workers c.args.jobs c.requires.some slots c.in_ok-serve_slots.ensures))
