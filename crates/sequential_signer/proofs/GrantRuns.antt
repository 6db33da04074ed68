-- Legal transcripts of a granter: at most one for events and a choice of those that run out of memory, and
-- one without any.
use Rattle.std.proofs.Common.{◌≡◌, true, false, not, List, [], ◌∷◌, ◌++◌, refl, ◌∙◌, ap, subst, inl, IsTrue}
use Rattle.sequential_signer.specs.Policy.{Policy}
use Rattle.sequential_signer.specs.Setup.{Setup}
use Rattle.sequential_signer.specs.Transcript.{is_out_of_memory}
use Rattle.sequential_signer.specs.GrantTranscript.{as_reply, committed_grants}
use Rattle.sequential_signer.specs.ExpectedGrantReply.{expected_grant_reply}
use Rattle.sequential_signer.specs.GrantLegal.{grant_allocates, IsLegalGrantEntry, IsLegalGrant, expected_grant_entries}
use Rattle.sequential_signer.specs.LawsOfGrants.{grant_entry, OneLegalGrantTranscript, ExpectedGrantRepliesAreLegal}
use Rattle.sequential_signer.specs.declared.grant_event.GrantEntry.{GrantEntry}
use Rattle.sequential_signer.specs.declared.grant_event.GrantEvent.{GrantEvent}
use Rattle.sequential_signer.specs.declared.grant_event.GrantReply.{GrantReply}
use Rattle.sequential_signer.specs.declared.grant_event.GrantReply.TheVariants.{OutOfMemory}
use Rattle.sequential_signer.proofs.Lists.{filter-more_yes, filter-more_no}
use Rattle.sequential_signer.proofs.LegalAfter.{legal_reply-same, legal_after-same, IsNext, next_entries-legal}
use Rattle.sequential_signer.proofs.GrantReplies.{expected_grant_in_memory}

module _ {K : Type 0} where
  -- an entry is committed unless it ran out of memory
  pub committed_grants-more : (entries : List (GrantEntry K)) (e : GrantEntry K)
      → is_out_of_memory (as_reply e.reply) ≡ false
      → committed_grants (entries ++ e ∷ []) ≡ committed_grants entries ++ e ∷ []
  unfolding committed_grants
  committed_grants-more entries e h = filter-more_yes (λ (x : GrantEntry K). not (is_out_of_memory (as_reply x.reply))) entries e (ap not h)

  pub committed_grants-lost : (entries : List (GrantEntry K)) (e : GrantEntry K)
      → is_out_of_memory (as_reply e.reply) ≡ true
      → committed_grants (entries ++ e ∷ []) ≡ committed_grants entries
  unfolding committed_grants
  committed_grants-lost entries e h = filter-more_no (λ (x : GrantEntry K). not (is_out_of_memory (as_reply x.reply))) entries e (ap not h)

  -- where there are no entries, none are committed
  pub committed_grants-none : committed_grants {K = K} [] ≡ []
  unfolding committed_grants
  committed_grants-none = refl

module _ {K D : Type 0} (policy : Policy K D) (setup : Setup D) where
  entry_same : (entries : List (GrantEntry K)) (a b : GrantEntry K) → a.event ≡ b.event
      → is_out_of_memory (as_reply a.reply) ≡ is_out_of_memory (as_reply b.reply)
      → IsLegalGrantEntry policy setup entries a → IsLegalGrantEntry policy setup entries b → a ≡ b
  entry_same entries a b same lost l m =
      let r : a.reply ≡ b.reply =
      legal_reply-same (λ (v : GrantReply K). is_out_of_memory (as_reply v)) (expected_grant_reply policy setup entries b.event) OutOfMemory (IsTrue (grant_allocates policy setup entries b.event))
      (expected_grant_in_memory policy setup entries b.event) refl a.reply b.reply lost (subst (λ (v : GrantEvent K). IsLegalGrantEntry policy setup entries (grant_entry v a.reply)) same l) m in
      ap (λ (v : GrantEvent K). grant_entry v a.reply) same ∙ ap (λ (v : GrantReply K). grant_entry b.event v) r

  -- an event's entry with the expected reply
  abbrev expected_entry : List (GrantEntry K) → GrantEvent K → GrantEntry K
  expected_entry entries event = grant_entry event (expected_grant_reply policy setup entries event)

  expected_next : IsNext committed_grants (IsLegalGrantEntry policy setup) (λ (x : GrantEntry K). x.event)
      expected_entry
  expected_next = record {
    none = committed_grants-none;
    kept = λ before entries event. committed_grants-more before (expected_entry entries event) (expected_grant_in_memory policy setup entries event);
    of_event = λ entries event. refl;
    is_legal = λ entries event. inl refl;
  }

-- for events, and a choice of those that run out of memory, there is at most one legal transcript
pub one_legal_grant_transcript : (K D : Type 0) → OneLegalGrantTranscript K D
unfolding IsLegalGrant
one_legal_grant_transcript K D policy setup a b l m e o =
    legal_after-same committed_grants (IsLegalGrantEntry policy setup) (λ (x : GrantEntry K). x.event) (λ x. is_out_of_memory (as_reply x.reply)) (entry_same policy setup) [] a b l m e o

-- the expected replies are legal
pub expected_grant_replies_are_legal : (K D : Type 0) → ExpectedGrantRepliesAreLegal K D
unfolding expected_grant_entries IsLegalGrant
expected_grant_replies_are_legal K D policy setup events =
    next_entries-legal committed_grants (IsLegalGrantEntry policy setup) (λ (x : GrantEntry K). x.event) (expected_entry policy setup) (expected_next policy setup) events
