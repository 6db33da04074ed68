use Rattle.std.proofs.Common.{refl, inl, inr}
use Rattle.sequential_signer.specs.Transcript.{entries_of}
use Rattle.sequential_signer.specs.Phase.{phase_of, phase_in, is_new_number}
use Rattle.sequential_signer.specs.Hold.{begin_in, answers_in}
use Rattle.sequential_signer.specs.GrantTranscript.{committed_grants}
use Rattle.sequential_signer.specs.GrantSource.{grant_source}
use Rattle.sequential_signer.specs.ExpectedGrantReply.{expected_grant_reply}
use Rattle.sequential_signer.specs.GrantLegal.{IsLegalGrant}
use Rattle.worked_scripts.proofs.grant_out_of_memory.events_of_granters_may_run_out.Goals as goal

pub returns : goal.returns
unfolding committed_grants entries_of phase_of phase_in is_new_number begin_in answers_in grant_source expected_grant_reply IsLegalGrant
returns c = (
  (inr (refl, refl), (inl refl, tt)),
  (inl refl, (inl refl, (inl refl, (inl refl, (inr (refl, refl), (inl refl, tt)))))),
  (inl refl, (inl refl, (inr (refl, refl), (inl refl, tt)))),
  (inl refl, (inl refl, (inr (refl, refl), (inl refl, tt)))),
  (inl refl, (inl refl, (inl refl, (inr (refl, refl), (inl refl, tt))))),
  (inl refl, (inl refl, (inl refl, (inr (refl, refl), (inl refl, tt))))),
)
