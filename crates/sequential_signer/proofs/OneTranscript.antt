-- Replies leave nothing to choose: two legal transcripts of the same events and the same allocation failures
-- are one.
use Rattle.std.proofs.Common.{IsTrue, ◌≡◌, List, [], refl, ◌∙◌, ap, subst}
use Rattle.sequential_signer.specs.Policy.{Policy}
use Rattle.sequential_signer.specs.Setup.{Setup}
use Rattle.sequential_signer.specs.Transcript.{committed_entries, is_out_of_memory}
use Rattle.sequential_signer.specs.Legal.{IsLegal, IsLegalEntry, allocates}
use Rattle.sequential_signer.specs.ExpectedReply.{expected_reply}
use Rattle.sequential_signer.specs.LawsOfReplies.{OneLegalTranscript}
use Rattle.sequential_signer.specs.declared.event.Entry.{Entry}
use Rattle.sequential_signer.specs.declared.event.Event.{Event}
use Rattle.sequential_signer.specs.declared.event.Reply.{Reply}
use Rattle.sequential_signer.specs.declared.event.Reply.TheVariants.{OutOfMemory}
use Rattle.sequential_signer.proofs.LegalAfter.{legal_reply-same, legal_after-same}
use Rattle.sequential_signer.proofs.Run.{expected_in_memory}

module _ {K D : Type 0} (policy : Policy K D) (setup : Setup D) where
  -- an event that runs out of memory in both or in neither has one legal reply
  reply_same : (entries : List (Entry K)) (event : Event K) (r s : Reply K)
      → is_out_of_memory r ≡ is_out_of_memory s
      → IsLegalEntry policy setup entries (record { event = event; reply = r })
      → IsLegalEntry policy setup entries (record { event = event; reply = s }) → r ≡ s
  reply_same entries event = legal_reply-same is_out_of_memory (expected_reply policy setup entries event) OutOfMemory (IsTrue (allocates policy setup entries event)) (expected_in_memory policy setup entries event) refl

  entry_same : (entries : List (Entry K)) (a b : Entry K) → a.event ≡ b.event
      → is_out_of_memory a.reply ≡ is_out_of_memory b.reply → IsLegalEntry policy setup entries a
      → IsLegalEntry policy setup entries b → a ≡ b
  entry_same entries a b same lost l m =
      let r : a.reply ≡ b.reply = reply_same entries b.event a.reply b.reply lost (subst (λ (v : Event K). IsLegalEntry policy setup entries (record { event = v; reply = a.reply })) same l) m in
      ap (λ (v : Event K). let e : Entry K = record { event = v; reply = a.reply } in e) same
      ∙ ap (λ (v : Reply K). let e : Entry K = record { event = b.event; reply = v } in e) r

-- for events, and a choice of those that run out of memory, there is at most one legal transcript
pub one_legal_transcript : (K D : Type 0) → OneLegalTranscript K D
unfolding IsLegal
one_legal_transcript K D policy setup a b l m e o =
    legal_after-same committed_entries (IsLegalEntry policy setup) (λ (x : Entry K). x.event) (λ x. is_out_of_memory x.reply) (entry_same policy setup) [] a b l m e o
