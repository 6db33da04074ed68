use Rattle.std.proofs.Common.{sym, ◌∙◌}
use Rattle.signctl_threads.specs.declared.slots.Slot.{Slot}
use Rattle.signctl_threads.proofs.Checks.{none-any, none-ran_out}
use Rattle.signctl_threads.proofs.seats.serve_slots.Goals as goal

pub work_on_rest-requires-clause-stopped : goal.work_on_rest-requires-clause-stopped
work_on_rest-requires-clause-stopped g c =
    none-any (λ (s : Slot). s.out_of_memory) c.run_submitters.new.slots (sym c.any_stopped.ensures ∙ c.if-any_stopped.false)

pub returns : goal.returns
returns g c = record {
  run = c.in_ok-work_on_rest.ensures.slots;
  none_stopped = c.in_ok-work_on_rest.ensures.stopped;
  answered = c.in_ok-work_on_rest.ensures.answered;
  none_ran_out = none-ran_out _ (sym c.any_ran_out.ensures ∙ c.if-any_ran_out.false);
}
