-- How the duration of a granter's begin is stored makes no difference: events that differ in nothing else get
-- the same replies,
-- and leave the same sources.
use Rattle.std.proofs.Common.{◌≡◌, ℕ, List, [], ◌∷◌, ◌++◌, Option, Some, None, option_map, refl, sym, ◌∙◌, ap, fold, map}
use Rattle.std.specs.Duration.{as_nanos}
use Rattle.std.specs.declared.time.Duration.{Duration}
use Rattle.std.proofs.lemmas.List.{map-append}
use Rattle.sign_base.specs.declared.call_id.CallId.{CallId}
use Rattle.sequential_signer.specs.Policy.{Policy}
use Rattle.sequential_signer.specs.Setup.{Setup, cache_of, is_of_cache}
use Rattle.sequential_signer.specs.Transcript.{last_of}
use Rattle.sequential_signer.specs.GrantTranscript.{no_head, as_event, as_reply, as_signer, grant_call_of}
use Rattle.sequential_signer.specs.GrantSource.{stored_by, grant_source}
use Rattle.sequential_signer.specs.ExpectedGrantReply.{grant_reply_at, expected_grant_reply}
use Rattle.sequential_signer.specs.GrantLegal.{with_expected_grant_reply, expected_grant_entries}
use Rattle.sequential_signer.specs.LawsOfGrants.{grant_entry}
use Rattle.sequential_signer.specs.declared.grant_event.GrantEntry.{GrantEntry}
use Rattle.sequential_signer.specs.declared.grant_event.GrantEvent.{GrantEvent}
use Rattle.sequential_signer.specs.declared.grant_event.GrantEvent.TheVariants.{Begin, Poll, Provided, Granted, Cancel}
use Rattle.sequential_signer.specs.declared.grant_event.GrantReply.{GrantReply}
use Rattle.sequential_signer.specs.declared.grant_event.Made.TheVariants.{Made, Failed}
use Rattle.sequential_signer.proofs.Pairwise.{Pairwise, none, more, filter_map-pairwise, filter-pairwise}
use Rattle.sequential_signer.proofs.StoredDurations.{AreAlike, AlikeTranscripts, begins, equal, phase_of-alike, is_new_number-alike, begin_of-alike, answers_of-alike}

-- the events differ at most in how the duration of a begin is stored
pub data AreAlikeGrants {K : Type 0} : GrantEvent K → GrantEvent K → Type 0 where
  begins_so : (call : CallId) (a b : Option Duration) → option_map as_nanos a ≡ option_map as_nanos b
      → AreAlikeGrants (Begin call a) (Begin call b)
  the_same : (event : GrantEvent K) → AreAlikeGrants event event

-- the entries have alike events, and one reply
pub record AlikeGrantEntries {K : Type 0} (a b : GrantEntry K) : Type 0 where
  pub event : AreAlikeGrants a.event b.event
  pub reply : a.reply ≡ b.reply

-- the transcripts are alike, entry by entry
abbrev pub AlikeGrants : {K : Type 0} → List (GrantEntry K) → List (GrantEntry K) → Type 0
AlikeGrants a b = Pairwise AlikeGrantEntries a b

-- the entries, with each event changed by f
abbrev pub with_grant_events : {K : Type 0} → (GrantEvent K → GrantEvent K) → List (GrantEntry K)
    → List (GrantEntry K)
with_grant_events f entries = map (λ e. grant_entry (f e.event) e.reply) entries

module _ {K : Type 0} where
  as_event-alike : {a b : GrantEvent K} → AreAlikeGrants a b → AreAlike (as_event a) (as_event b)
  as_event-alike (begins_so call a b same) = begins call no_head a b same
  as_event-alike (the_same event) = equal (as_event event)

  -- alike transcripts are alike as a signer's
  as_signer-alike : {a b : List (GrantEntry K)} → AlikeGrants a b
      → AlikeTranscripts (as_signer a) (as_signer b)
  as_signer-alike none = none
  as_signer-alike (more h rest) = more (record { event = as_event-alike h.event; reply = ap as_reply h.reply }) (as_signer-alike rest)

  call-alike : {a b : GrantEvent K} → AreAlikeGrants a b → grant_call_of a ≡ grant_call_of b
  call-alike (begins_so _ _ _ _) = refl
  call-alike (the_same _) = refl

  stored-alike : {a b : GrantEvent K} → AreAlikeGrants a b → (r : GrantReply K)
      → stored_by a r ≡ stored_by b r
  stored-alike (begins_so _ _ _ _) r = refl
  stored-alike (the_same _) r = refl

module _ {K D : Type 0} (policy : Policy K D) (setup : Setup D) where
  -- alike transcripts leave the same sources
  pub grant_source-alike : {a b : List (GrantEntry K)} → AlikeGrants a b → (i : ℕ)
      → grant_source {K = K} setup a i ≡ grant_source setup b i
  unfolding grant_source
  grant_source-alike alike i =
      ap last_of
      (filter_map-pairwise (λ (e : GrantEntry K). stored_by e.event e.reply) (λ x y h. stored-alike h.event x.reply ∙ ap (stored_by y.event) h.reply)
      (filter-pairwise (λ (e : GrantEntry K). is_of_cache setup i (grant_call_of e.event)) (λ x y h. ap (is_of_cache setup i) (call-alike h.event)) alike))

  reply_at-alike : {a b : List (GrantEntry K)} → AlikeGrants a b → (event : GrantEvent K) (o : Option ℕ)
      → grant_reply_at policy setup a event o ≡ grant_reply_at policy setup b event o
  reply_at-alike alike event None = refl
  reply_at-alike alike (Begin call expires_in) (Some i) = rw (is_new_number-alike (as_signer-alike alike) call) refl
  reply_at-alike alike (Poll call now) (Some i) =
      rw (phase_of-alike (as_signer-alike alike) call, begin_of-alike (as_signer-alike alike) call, grant_source-alike alike i) refl
  reply_at-alike alike (Provided call now answer) (Some i) =
      rw (phase_of-alike (as_signer-alike alike) call, begin_of-alike (as_signer-alike alike) call, answers_of-alike (as_signer-alike alike) call) refl
  reply_at-alike alike (Granted call now (Made c)) (Some i) = rw (phase_of-alike (as_signer-alike alike) call) refl
  reply_at-alike alike (Granted call now (Failed e)) (Some i) = rw (phase_of-alike (as_signer-alike alike) call) refl
  reply_at-alike alike (Cancel call) (Some i) = rw (phase_of-alike (as_signer-alike alike) call) refl

  -- alike events get the same reply after one transcript
  reply_to-alike : (entries : List (GrantEntry K)) {x y : GrantEvent K} → AreAlikeGrants x y
      → expected_grant_reply policy setup entries x ≡ expected_grant_reply policy setup entries y
  unfolding expected_grant_reply
  reply_to-alike entries (begins_so _ _ _ _) = refl
  reply_to-alike entries (the_same _) = refl

  -- and an event gets the same reply after alike transcripts
  reply_after-alike : {a b : List (GrantEntry K)} → AlikeGrants a b → (event : GrantEvent K)
      → expected_grant_reply policy setup a event ≡ expected_grant_reply policy setup b event
  unfolding expected_grant_reply
  reply_after-alike alike event = reply_at-alike alike event (cache_of setup (grant_call_of event))

-- where each event is changed into one that is alike
module _ {K D : Type 0} (policy : Policy K D) (setup : Setup D) (f : GrantEvent K → GrantEvent K)
    (alike : (event : GrantEvent K) → AreAlikeGrants (f event) event) where
  -- the changed transcript is alike
  with_events-alike : (entries : List (GrantEntry K)) → AlikeGrants (with_grant_events f entries) entries
  with_events-alike [] = none
  with_events-alike (e ∷ rest) = more (record { event = alike e.event; reply = refl }) (with_events-alike rest)

  -- the reply is the same
  with_events-reply : (entries : List (GrantEntry K)) (event : GrantEvent K)
      → expected_grant_reply policy setup (with_grant_events f entries) (f event)
      ≡ expected_grant_reply policy setup entries event
  with_events-reply entries event =
      reply_to-alike policy setup (with_grant_events f entries) (alike event)
      ∙ reply_after-alike policy setup (with_events-alike entries) event

  -- the changed events lead from the changed entries to the changed transcript
  entries_from : (events : List (GrantEvent K)) (entries : List (GrantEntry K))
      → fold (with_expected_grant_reply policy setup) (with_grant_events f entries) (map f events)
      ≡ with_grant_events f (fold (with_expected_grant_reply policy setup) entries events)
  entries_from [] entries = refl
  entries_from (event ∷ rest) entries = ap (λ v. fold (with_expected_grant_reply policy setup) v (map f rest)) step ∙ entries_from rest (with_expected_grant_reply policy setup entries event)
    where
      step : with_expected_grant_reply policy setup (with_grant_events f entries) (f event)
          ≡ with_grant_events f (with_expected_grant_reply policy setup entries event)
      step =
          ap (λ v. with_grant_events f entries ++ grant_entry (f event) v ∷ []) (with_events-reply entries event)
          ∙ sym (map-append (λ (e : GrantEntry K). grant_entry (f e.event) e.reply) entries (grant_entry event (expected_grant_reply policy setup entries event) ∷ []))

  -- the changed events make the changed transcript
  made_entries : (events : List (GrantEvent K))
      → expected_grant_entries policy setup (map f events)
      ≡ with_grant_events f (expected_grant_entries policy setup events)
  unfolding expected_grant_entries
  made_entries events = entries_from events []

  -- after them the reply is the same
  pub expected_grant_reply-map : (events : List (GrantEvent K)) (event : GrantEvent K)
      → expected_grant_reply policy setup (expected_grant_entries policy setup (map f events)) (f event)
      ≡ expected_grant_reply policy setup (expected_grant_entries policy setup events) event
  expected_grant_reply-map events event =
      ap (λ v. expected_grant_reply policy setup v (f event)) (made_entries events)
      ∙ with_events-reply (expected_grant_entries policy setup events) event

  -- and so is each source
  pub grant_source-map : (events : List (GrantEvent K)) (i : ℕ)
      → grant_source setup (expected_grant_entries policy setup (map f events)) i
      ≡ grant_source setup (expected_grant_entries policy setup events) i
  grant_source-map events i =
      ap (λ v. grant_source setup v i) (made_entries events)
      ∙ grant_source-alike policy setup (with_events-alike (expected_grant_entries policy setup events)) i
