use Rattle.std.proofs.Common.{refl, inl, inr}
use Rattle.sequential_signer.specs.Transcript.{committed_entries, entries_of}
use Rattle.sequential_signer.specs.Phase.{phase_of, phase_in, is_new_number}
use Rattle.sequential_signer.specs.Turn.{poll_order, hold_is_finished, is_served, has_turn}
use Rattle.sequential_signer.specs.Hold.{begin_in, turn_moment, answers_in}
use Rattle.sequential_signer.specs.SequentialCache.{sequential_cache}
use Rattle.sequential_signer.specs.Wake.{call_to_wake}
use Rattle.sequential_signer.specs.ExpectedReply.{expected_reply}
use Rattle.sequential_signer.specs.Legal.{IsLegal}
use Rattle.worked_scripts.proofs.out_of_memory.events_that_allocate_may_run_out.Goals as goal

pub returns : goal.returns
unfolding committed_entries entries_of phase_of phase_in is_new_number poll_order hold_is_finished is_served has_turn begin_in turn_moment answers_in sequential_cache call_to_wake expected_reply IsLegal
returns c = (
  (inr (refl, refl), (inl refl, tt)),
  (inl refl, (inl refl, (inl refl, (inl refl, (inr (refl, refl), (inl refl, tt)))))),
  (inl refl, (inl refl, (inr (refl, refl), (inl refl, tt)))),
  (inl refl, (inl refl, (inr (refl, refl), (inl refl, tt)))),
  (inl refl, (inl refl, (inl refl, (inr (refl, refl), (inl refl, tt))))),
)
