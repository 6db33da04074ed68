-- A granter's transcripts in which each reply is the expected one: how they grow, and that all their entries
-- are committed.
use Rattle.std.proofs.Common.{◌≡◌, List, [], ◌∷◌, ◌++◌}
use Rattle.std.proofs.lemmas.List.Sums.{fold-append}
use Rattle.sequential_signer.specs.Policy.{Policy}
use Rattle.sequential_signer.specs.Setup.{Setup}
use Rattle.sequential_signer.specs.GrantTranscript.{committed_grants}
use Rattle.sequential_signer.specs.ExpectedGrantReply.{expected_grant_reply}
use Rattle.sequential_signer.specs.GrantLegal.{with_expected_grant_reply, expected_grant_entries}
use Rattle.sequential_signer.specs.LawsOfGrants.{grant_entry}
use Rattle.sequential_signer.specs.declared.grant_event.GrantEvent.{GrantEvent}
use Rattle.sequential_signer.proofs.GrantRuns.{expected_grant_replies_are_legal}

module _ {K D : Type 0} (policy : Policy K D) (setup : Setup D) where
  -- one more event has the expected reply after those before it
  pub expected_grant_entries-more : (events : List (GrantEvent K)) (event : GrantEvent K)
      → expected_grant_entries policy setup (events ++ event ∷ [])
      ≡ expected_grant_entries policy setup events ++ grant_entry event (expected_grant_reply policy setup (expected_grant_entries policy setup events) event) ∷ []
  unfolding expected_grant_entries
  expected_grant_entries-more events event = fold-append (with_expected_grant_reply policy setup) [] events (event ∷ [])

  -- all entries are committed
  pub committed_grants-expected : (events : List (GrantEvent K))
      → committed_grants (expected_grant_entries policy setup events)
      ≡ expected_grant_entries policy setup events
  committed_grants-expected events = (expected_grant_replies_are_legal K D policy setup events).2
