use Rattle.std.proofs.Common.{◌≡◌, false, true, List, [], ◌∷◌, ◌++◌, refl, sym, ◌∙◌, inl}
use Rattle.sequential_signer.specs.Transcript.{entries_of}
use Rattle.sequential_signer.specs.Phase.{phase_of, phase_in, is_new_number}
use Rattle.sequential_signer.specs.Hold.{begin_in, answers_in}
use Rattle.sequential_signer.specs.GrantTranscript.{committed_grants}
use Rattle.sequential_signer.specs.GrantSource.{grant_source}
use Rattle.sequential_signer.specs.ExpectedGrantReply.{expected_grant_reply}
use Rattle.sequential_signer.specs.GrantLegal.{IsLegalGrant, grant_allocates}
use Rattle.sequential_signer.specs.declared.grant_event.GrantEntry.{GrantEntry}
use Rattle.sequential_signer.specs.declared.grant_event.GrantEvent.{GrantEvent}
use Rattle.sequential_signer.specs.declared.grant_event.GrantReply.TheVariants.{Begun}
use Rattle.sequential_signer.proofs.GrantReplies.{lost_grant_allocates}
use Rattle.worked_scripts.specs.WorkedPolicy.{Credential, Now, worked_policy}
use Rattle.worked_scripts.specs.Words.{lasting, longest, one_cache}
use Rattle.worked_scripts.specs.GrantWords.{◌gets◌, begin, begin_for, poll, found, missing, failed, made, fail, cancel}
use Rattle.worked_scripts.specs.GrantOutOfMemory.{CannotRunOutGrant, asking, granting}
use Rattle.worked_scripts.proofs.grant_out_of_memory.other_events_of_granters_cannot_run_out.Goals as goal

-- an event that does not allocate cannot run out of memory
cannot_run_out : (entries : List (GrantEntry Credential)) (event : GrantEvent Credential)
    → IsLegalGrant worked_policy (one_cache Now) entries
    → grant_allocates worked_policy (one_cache Now) (committed_grants entries) event ≡ false
    → CannotRunOutGrant entries event
cannot_run_out entries event before none =
    (before, λ legal. let some : false ≡ true = sym none ∙ lost_grant_allocates worked_policy (one_cache Now) entries event legal in cc)

pub returns : goal.returns
unfolding committed_grants entries_of phase_of phase_in is_new_number begin_in answers_in grant_source expected_grant_reply IsLegalGrant
returns c = (
  cannot_run_out (begin 0 1 gets Begun ∷ []) (poll 0 1 5) (inl refl, tt) refl,
  cannot_run_out asking (poll 0 1 6) (inl refl, (inl refl, tt)) refl,
  cannot_run_out granting (poll 0 1 7) (inl refl, (inl refl, (inl refl, tt))) refl,
  cannot_run_out (granting ++ begin_for 0 2 longest gets Begun ∷ []) (poll 0 2 7) (inl refl, (inl refl, (inl refl, (inl refl, tt)))) refl,
  cannot_run_out asking (missing 0 1 6) (inl refl, (inl refl, tt)) refl,
  cannot_run_out asking (failed 0 1 6 42) (inl refl, (inl refl, tt)) refl,
  cannot_run_out granting (fail 0 1 7 9) (inl refl, (inl refl, (inl refl, tt))) refl,
  cannot_run_out granting (cancel 0 1) (inl refl, (inl refl, (inl refl, tt))) refl,
  cannot_run_out asking (begin 0 1) (inl refl, (inl refl, tt)) refl,
  cannot_run_out asking (made 0 1 6 (lasting 701)) (inl refl, (inl refl, tt)) refl,
  cannot_run_out [] (found 0 1 6 (lasting 1)) tt refl,
)
