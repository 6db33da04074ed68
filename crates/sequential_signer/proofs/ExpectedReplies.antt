-- Transcripts in which each reply is the expected one: how they grow, that all their entries are committed,
-- and that they are the
-- legal ones without an allocation failure.
use Rattle.std.proofs.Common.{refl, ◌≡◌, List, [], ◌∷◌, ◌++◌, sym, ◌∙◌, ap, map, inl, inr, true, false}
use Rattle.std.proofs.lemmas.List.{map-append}
use Rattle.std.proofs.lemmas.List.Sums.{fold-append}
use Rattle.sequential_signer.specs.Policy.{Policy}
use Rattle.sequential_signer.specs.Setup.{Setup}
use Rattle.sequential_signer.specs.Transcript.{committed_entries, is_out_of_memory}
use Rattle.sequential_signer.specs.ExpectedReply.{expected_reply}
use Rattle.sequential_signer.specs.Legal.{IsLegal, IsLegalEntry, allocates, with_expected_reply, expected_entries}
use Rattle.sequential_signer.specs.LawsOfReplies.{ExpectedRepliesAreLegal, LegalRepliesAreExpected}
use Rattle.sequential_signer.specs.declared.event.Entry.{Entry}
use Rattle.sequential_signer.specs.declared.event.Event.{Event}
use Rattle.sequential_signer.specs.declared.event.Reply.TheVariants.{OutOfMemory}
use Rattle.sequential_signer.proofs.LegalAfter.{legal_split, IsNext, next_entries-legal}
use Rattle.sequential_signer.proofs.Run.{expected_in_memory, committed_entries-none, committed_entries-more, legal_keeps}

module _ {K D : Type 0} (policy : Policy K D) (setup : Setup D) where
  -- one more event has the expected reply after those before it
  pub expected_entries-more : (events : List (Event K)) (event : Event K)
      → expected_entries policy setup (events ++ event ∷ [])
      ≡ expected_entries policy setup events
      ++ record { event = event; reply = expected_reply policy setup (expected_entries policy setup events) event }
      ∷ []
  unfolding expected_entries
  expected_entries-more events event = fold-append (with_expected_reply policy setup) [] events (event ∷ [])

  expected_entries-none : [] ≡ expected_entries policy setup []
  unfolding expected_entries
  expected_entries-none = refl

  -- an event's entry with the expected reply
  abbrev expected_entry : List (Entry K) → Event K → Entry K
  expected_entry entries event = record { event = event; reply = expected_reply policy setup entries event }

  expected_next : IsNext committed_entries (IsLegalEntry policy setup) (λ (x : Entry K). x.event)
      expected_entry
  expected_next = record {
    none = committed_entries-none;
    kept = λ before entries event. committed_entries-more before (expected_entry entries event) (expected_in_memory policy setup entries event);
    of_event = λ entries event. refl;
    is_legal = λ entries event. inl refl;
  }

  -- the transcript is legal, of these events, and all its entries are committed
  expected_is_legal : (events : List (Event K))
      → IsLegal policy setup (expected_entries policy setup events)
      × (map (λ (e : Entry K). e.event) (expected_entries policy setup events) ≡ events)
      × (committed_entries (expected_entries policy setup events) ≡ expected_entries policy setup events)
  unfolding expected_entries IsLegal
  expected_is_legal events = next_entries-legal committed_entries (IsLegalEntry policy setup) (λ (x : Entry K). x.event) expected_entry expected_next events

  -- all its entries are committed
  pub committed_entries-expected : (events : List (Event K))
      → committed_entries (expected_entries policy setup events) ≡ expected_entries policy setup events
  committed_entries-expected events = (expected_is_legal events).2

  -- a legal transcript without its last entry is legal
  pub legal_before : (entries : List (Entry K)) (e : Entry K) → IsLegal policy setup (entries ++ e ∷ [])
      → IsLegal policy setup entries
  unfolding IsLegal
  legal_before entries e l = (legal_split committed_entries (IsLegalEntry policy setup) [] entries (e ∷ []) l).0

  -- and its last entry is legal after those before it
  pub legal_last : (entries : List (Entry K)) (e : Entry K) → IsLegal policy setup (entries ++ e ∷ [])
      → IsLegalEntry policy setup (committed_entries entries) e
  unfolding IsLegal
  legal_last entries e l = (legal_split committed_entries (IsLegalEntry policy setup) [] entries (e ∷ []) l).1.0

  -- an event that is answered `OutOfMemory` in a legal transcript allocates
  pub lost_allocates : (entries : List (Entry K)) (event : Event K)
      → IsLegal policy setup (entries ++ record { event = event; reply = OutOfMemory } ∷ [])
      → allocates policy setup (committed_entries entries) event ≡ true
  lost_allocates entries event l = by_entry (legal_last entries (record { event = event; reply = OutOfMemory }) l)
    where
      by_entry : IsLegalEntry policy setup (committed_entries entries)
          (record { event = event; reply = OutOfMemory })
          → allocates policy setup (committed_entries entries) event ≡ true
      by_entry (inl due) =
          let bad : is_out_of_memory {K = K} OutOfMemory ≡ false = ap is_out_of_memory due ∙ expected_in_memory policy setup (committed_entries entries) event in
          absurd (cc)
      by_entry (inr lost) = lost.1

  -- the committed entries of a legal transcript are the expected ones for their events
  committed_is_expected : (entries : List (Entry K)) → IsLegal policy setup entries
      → committed_entries entries
      ≡ expected_entries policy setup (map (λ (e : Entry K). e.event) (committed_entries entries))
  committed_is_expected entries l =
      legal_keeps policy setup (λ before. before ≡ expected_entries policy setup (map (λ (e : Entry K). e.event) before))
      (λ before event h.
      let e : Entry K = record { event = event; reply = expected_reply policy setup before event } in
      ap (λ (v : List (Entry K)). v ++ record { event = event; reply = expected_reply policy setup v event } ∷ []) h
      ∙ sym (expected_entries-more (map (λ (x : Entry K). x.event) before) event)
      ∙ ap (expected_entries policy setup) (sym (map-append (λ (x : Entry K). x.event) before (e ∷ []))))
      expected_entries-none entries l

-- the expected replies are legal, and legal replies are the expected ones
pub expected_replies_are_legal : (K D : Type 0) → ExpectedRepliesAreLegal K D
expected_replies_are_legal K D policy setup events = expected_is_legal policy setup events

pub legal_replies_are_expected : (K D : Type 0) → LegalRepliesAreExpected K D
legal_replies_are_expected K D policy setup entries l = ap (map (λ (e : Entry K). e.reply)) (committed_is_expected policy setup entries l)
