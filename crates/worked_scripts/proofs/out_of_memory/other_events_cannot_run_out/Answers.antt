use Rattle.std.proofs.Common.{◌≡◌, false, true, List, [], ◌∷◌, ◌++◌, refl, sym, ◌∙◌, inl}
use Rattle.sequential_signer.specs.Transcript.{committed_entries, entries_of}
use Rattle.sequential_signer.specs.Phase.{phase_of, phase_in, is_new_number}
use Rattle.sequential_signer.specs.Turn.{poll_order, hold_is_finished, is_served, has_turn}
use Rattle.sequential_signer.specs.Hold.{begin_in, turn_moment, answers_in}
use Rattle.sequential_signer.specs.SequentialCache.{sequential_cache}
use Rattle.sequential_signer.specs.Wake.{call_to_wake}
use Rattle.sequential_signer.specs.ExpectedReply.{expected_reply}
use Rattle.sequential_signer.specs.Legal.{IsLegal, allocates}
use Rattle.sequential_signer.specs.declared.event.Entry.{Entry}
use Rattle.sequential_signer.specs.declared.event.Event.{Event}
use Rattle.sequential_signer.specs.declared.event.Reply.TheVariants.{Begun}
use Rattle.sequential_signer.proofs.ExpectedReplies.{lost_allocates}
use Rattle.worked_scripts.specs.WorkedPolicy.{Credential, Now, worked_policy}
use Rattle.worked_scripts.specs.Words.{◌gets◌, lasting, longest, begin, begin_for, poll, found, missing, failed, reject, cancel, one_cache}
use Rattle.worked_scripts.specs.OutOfMemory.{CannotRunOut, asking, signing}
use Rattle.worked_scripts.proofs.out_of_memory.other_events_cannot_run_out.Goals as goal

-- an event that does not allocate cannot run out of memory
cannot_run_out : (entries : List (Entry Credential)) (event : Event Credential)
    → IsLegal worked_policy (one_cache Now) entries
    → allocates worked_policy (one_cache Now) (committed_entries entries) event ≡ false
    → CannotRunOut entries event
cannot_run_out entries event before none =
    (before, λ legal. let some : false ≡ true = sym none ∙ lost_allocates worked_policy (one_cache Now) entries event legal in cc)

pub returns : goal.returns
unfolding committed_entries entries_of phase_of phase_in is_new_number poll_order hold_is_finished is_served has_turn begin_in turn_moment answers_in sequential_cache call_to_wake expected_reply IsLegal
returns c = (
  cannot_run_out (begin 0 1 gets Begun ∷ []) (poll 0 1 5) (inl refl, tt) refl,
  cannot_run_out asking (poll 0 1 6) (inl refl, (inl refl, tt)) refl,
  cannot_run_out (signing ++ begin_for 0 2 longest gets Begun ∷ []) (poll 0 2 7) (inl refl, (inl refl, (inl refl, (inl refl, tt)))) refl,
  cannot_run_out asking (missing 0 1 6) (inl refl, (inl refl, tt)) refl,
  cannot_run_out asking (failed 0 1 6 42) (inl refl, (inl refl, tt)) refl,
  cannot_run_out asking (cancel 0 1) (inl refl, (inl refl, tt)) refl,
  cannot_run_out asking (begin 0 1) (inl refl, (inl refl, tt)) refl,
  cannot_run_out [] (found 0 1 6 (lasting 1)) tt refl,
  cannot_run_out signing (reject 0 1 9) (inl refl, (inl refl, (inl refl, tt))) refl,
)
