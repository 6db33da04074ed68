-- A granter's desk that represents a transcript represents it with one more entry, where what it keeps
-- follows the entry.
use Rattle.std.proofs.Common.{◌≡◌, ◌<◌, ℕ, true, false, cond, ◌&&◌, ◌||◌, ◌+◌, ◌==◌, List, [], ◌∷◌, ◌++◌, Option, Some, None, option_map, slice_get, slice_set, length, refl, sym, ◌∙◌, ap, subst, inl, inr, IsTrue, arith}
use Rattle.sign_base.specs.declared.call_id.CallId.{CallId}
use Rattle.sign_base.specs.Calls.{same_call}
use Rattle.sequential_signer.specs.Policy.{Policy}
use Rattle.sequential_signer.specs.Setup.{cache_of, is_number}
use Rattle.sequential_signer.specs.Transcript.{is_out_of_memory}
use Rattle.sequential_signer.specs.Phase.{is_live, is_begun, is_not_now}
use Rattle.sequential_signer.specs.LiveCall.{live_call, live_calls, greatest_begun, greater}
use Rattle.sequential_signer.specs.GrantTranscript.{as_entry, as_reply, as_signer, committed_grants, grant_call_of, grant_phase_of}
use Rattle.sequential_signer.specs.GrantSource.{stored_by, grant_source}
use Rattle.sequential_signer.specs.ExpectedGrantReply.{expected_grant_reply}
use Rattle.sequential_signer.specs.GrantLegal.{IsLegalGrant, is_grant, grant_allocates}
use Rattle.sequential_signer.specs.declared.event.Answer.TheVariants.{Found}
use Rattle.sequential_signer.specs.declared.event.Entry.{Entry}
use Rattle.sequential_signer.specs.declared.grant_event.GrantEntry.{GrantEntry}
use Rattle.sequential_signer.specs.declared.grant_event.GrantEvent.{GrantEvent}
use Rattle.sequential_signer.specs.declared.grant_event.GrantEvent.TheVariants.{Provided}
use Rattle.sequential_signer.specs.declared.grant_event.GrantReply.{GrantReply}
use Rattle.sequential_signer.specs.declared.grant_event.GrantReply.TheVariants.{Begun, Pending, NotNow, OutOfMemory, Ask, Grant, Refused, Given, Cancelled}
use Rattle.sign_base.proofs.Calls.{same_call-refl}
use Rattle.sign_base.proofs.Truth.{number_comm, number_refl}
use Rattle.sequential_signer.proofs.Lists.{list_any-more, or_false}
use Rattle.sequential_signer.proofs.GrantEntries.{as_signer-more, grant_greatest-more, live_grant-other, phase_after-not_now, live_after-not_now}
use Rattle.sequential_signer.proofs.GrantSteps.{IsGrantRun, legal_grant_run, legal_grant-more}
use Rattle.sequential_signer.proofs.GrantBegun.{live_grants-same, live_grants-fewer}
use Rattle.sequential_signer.proofs.GrantRows.{stored_by-no_grant}
use Rattle.sequential_signer.proofs.GrantRuns.{committed_grants-more, committed_grants-lost}
use Rattle.sequential_signer.proofs.GrantSources.{source-elsewhere, source-kept, source-stored}
use Rattle.desk_parts.specs.Change.{ChangesOnlyCall, one_if}
use Rattle.desk_parts.specs.Tables.{setup_of, find_call, was_begun}
use Rattle.desk_parts.proofs.ListPlaces.{stored-at}
use Rattle.desk_parts.proofs.OneChange.{keeps-all, setup-same, caches-alike, live-counted, calls-after}
use Rattle.grant_desk.specs.GrantDeskState.{GrantState, GrantRecord, granted_view, GrantRepresents}
use Rattle.grant_desk.specs.GrantSteps.{SourcesAfter, GrantUnchangedBy}

module _ {K D : Type 0} where
  -- a reply that took effect, or that waits, says nothing of what stays
  unchanged-effect : (reply : GrantReply K) (old new : GrantState K D)
      → is_out_of_memory (as_reply reply) ≡ false → is_not_now (as_reply reply) ≡ false
      → GrantUnchangedBy reply old new
  unchanged-effect NotNow old new m n = absurd (cc)
  unchanged-effect OutOfMemory old new m n = absurd (cc)
  unchanged-effect Begun old new m n = tt
  unchanged-effect Pending old new m n = tt
  unchanged-effect (Ask k) old new m n = tt
  unchanged-effect (Grant c) old new m n = tt
  unchanged-effect (Refused cause) old new m n = tt
  unchanged-effect (Given c) old new m n = tt
  unchanged-effect Cancelled old new m n = tt

  -- where no source is handed out, all caches stay
  sources_after-same : (event : GrantEvent K) (reply : GrantReply K) (old new : GrantState K D)
      → is_grant reply ≡ false → new.caches ≡ old.caches → SourcesAfter event reply old new
  sources_after-same (Provided call now (Found c)) (Grant d) old new r h = absurd (cc)
  sources_after-same event reply old new r h = h

  -- what is done to the caches is known by the caches alone
  sources_after-alike : (event : GrantEvent K) (reply : GrantReply K) (old base new : GrantState K D)
      → new.caches ≡ base.caches → SourcesAfter event reply old base → SourcesAfter event reply old new
  sources_after-alike (Provided call now (Found c)) (Grant d) old base new h k = (k.0, caches-alike call c old base new h k.1)
  sources_after-alike event reply old base new h k = h ∙ k

module _ {K D : Type 0} (policy : Policy K D) where
  -- what a desk keeps beside the calls follows the entry
  pub record GrantFollows (old : GrantState K D) (entries : List (GrantEntry K)) (base : GrantState K D) (e : GrantEntry K) : Type 0 where
    pub loaders : base.loaders ≡ old.loaders
    pub rules : base.rules ≡ old.rules
    pub handles : base.handles ≡ old.handles
    pub calls : base.calls ≡ old.calls
    pub caches : SourcesAfter e.event e.reply old base
    pub sources : (j : ℕ)
        → slice_get base.caches j
        ≡ option_map (λ _. grant_source (setup_of old) (committed_grants entries ++ e ∷ []) j)
        (slice_get old.loaders j)
    pub greatest : (h : ℕ)
        → slice_get base.greatest h
        ≡ option_map (λ _. greatest_begun h (as_signer (committed_grants entries ++ e ∷ [])))
        (slice_get old.handles h)
    pub started : base.started ≡ was_begun (as_signer (committed_grants entries ++ e ∷ []))

  -- the new desk is the old one after the entry
  pub record GrantRefines (old : GrantState K D) (entries : List (GrantEntry K)) (e : GrantEntry K) (new : GrantState K D) : Type 0 where
    pub represents : GrantRepresents policy new (entries ++ e ∷ [])
    pub setup : setup_of new ≡ setup_of old
    pub caches : SourcesAfter e.event e.reply old new
    pub unchanged : GrantUnchangedBy e.reply old new

  module _ (old : GrantState K D) (entries : List (GrantEntry K))
      (stood : GrantRepresents policy old entries) where
    abbrev before : List (GrantEntry K)
    before = committed_grants entries

    abbrev after : GrantEntry K → List (GrantEntry K)
    after e = committed_grants entries ++ e ∷ []

    -- the committed entries are a run
    pub grants_ran : IsGrantRun policy (setup_of old) (committed_grants entries)
    grants_ran = legal_grant_run policy (setup_of old) entries stood.legal

    -- an entry with the expected reply, where what is kept follows it
    module _ (e : GrantEntry K)
        (expected : e.reply ≡ expected_grant_reply policy (setup_of old) before e.event)
        (committed : is_out_of_memory (as_reply e.reply) ≡ false) where
      represents-more : (base new : GrantState K D) → GrantFollows old entries base e
          → (r : Option GrantRecord) → ChangesOnlyCall base (grant_call_of e.event) r new
          → option_map granted_view r ≡ live_call (as_signer (after e)) (grant_call_of e.event)
          → length (live_calls (as_signer before)) + one_if r
          ≡ length (live_calls (as_signer (after e))) + one_if (find_call (grant_call_of e.event) old.calls)
          → GrantRepresents policy new (entries ++ e ∷ [])
      represents-more base new follows r changes own live =
          let same : setup_of new ≡ setup_of old = setup-same old new (changes.loaders ∙ follows.loaders) (changes.rules ∙ follows.rules) (changes.handles ∙ follows.handles) in
          let k : committed_grants (entries ++ e ∷ []) ≡ committed_grants entries ++ e ∷ [] = committed_grants-more entries e committed in
          record {
            legal = subst (λ s. IsLegalGrant policy s (entries ++ e ∷ [])) (sym same) (legal_grant-more policy (setup_of old) entries e stood.legal (inl expected));
            caches = λ i. rw (changes.loaders, changes.rules, changes.handles, changes.caches, follows.loaders, follows.rules, follows.handles, k) (follows.sources i);
            greatest = λ h. rw (changes.greatest, changes.handles, follows.handles, k) (follows.greatest h);
            started = rw (changes.started, k) follows.started;
            calls = λ call. rw k (calls-after old base new (grant_call_of e.event) r follows.calls changes granted_view (live_call (as_signer before)) (live_call (as_signer (after e))) stood.calls own (λ c s. live_grant-other before e c s) call);
            live = rw k (live-counted old base new (grant_call_of e.event) r follows.calls changes (length (live_calls (as_signer before))) (length (live_calls (as_signer (after e)))) stood.live live);
          }

      -- and the new desk is the old one after it
      pub grant_refines-more : is_not_now (as_reply e.reply) ≡ false → (base new : GrantState K D)
          → GrantFollows old entries base e → (r : Option GrantRecord)
          → ChangesOnlyCall base (grant_call_of e.event) r new
          → option_map granted_view r ≡ live_call (as_signer (after e)) (grant_call_of e.event)
          → length (live_calls (as_signer before)) + one_if r
          ≡ length (live_calls (as_signer (after e))) + one_if (find_call (grant_call_of e.event) old.calls)
          → GrantRefines old entries e new
      grant_refines-more fits base new follows r changes own live = record {
        represents = represents-more base new follows r changes own live;
        setup = setup-same old new (changes.loaders ∙ follows.loaders) (changes.rules ∙ follows.rules) (changes.handles ∙ follows.handles);
        caches = sources_after-alike e.event e.reply old base new changes.caches follows.caches;
        unchanged = unchanged-effect e.reply old new committed fits;
      }

    -- an event that ran out of memory changes nothing
    pub grant_refines-lost : (event : GrantEvent K)
        → IsTrue (grant_allocates policy (setup_of old) before event)
        → GrantRefines old entries (record { event = event; reply = OutOfMemory }) old
    grant_refines-lost event takes =
        let e : GrantEntry K = record { event = event; reply = OutOfMemory } in
        let k : committed_grants (entries ++ record { event = event; reply = OutOfMemory } ∷ []) ≡ committed_grants entries = committed_grants-lost entries e refl in
        record {
          represents = record {
            legal = legal_grant-more policy (setup_of old) entries e stood.legal (inr (refl, takes));
            caches = λ i. rw k (stood.caches i);
            greatest = λ h. rw k (stood.greatest h);
            started = rw k stood.started;
            calls = λ call. rw k (stood.calls call);
            live = rw k stood.live;
          };
          setup = refl;
          caches = sources_after-same event OutOfMemory old old refl refl;
          unchanged = refl;
        }

    -- the greatest numbers stay, but at a begin
    greatest_same : (e : GrantEntry K) → is_begun (as_reply e.reply) ≡ false → (h : ℕ)
        → slice_get old.greatest h
        ≡ option_map (λ _. greatest_begun h (as_signer (after e))) (slice_get old.handles h)
    greatest_same e b h =
        stood.greatest h
        ∙ ap (λ c. option_map (λ _. c) (slice_get old.handles h))
        (sym (grant_greatest-more h before e ∙ ap (λ v. cond (v && (grant_call_of e.event).handle == h) (greater (grant_call_of e.event).number (greatest_begun h (as_signer before))) (greatest_begun h (as_signer before))) b))

    -- whether a begin was accepted stays, but at a begin
    started_same : (e : GrantEntry K) → is_begun (as_reply e.reply) ≡ false
        → old.started ≡ was_begun (as_signer (after e))
    started_same e b =
        stood.started
        ∙ sym (ap was_begun (as_signer-more before e) ∙ list_any-more (λ (x : Entry K). is_begun x.reply) (as_signer before) (as_entry e) ∙ ap (λ v. was_begun (as_signer before) || v) b ∙ or_false (was_begun (as_signer before)))

    -- what is kept beside the calls, where the caches change with the entry
    pub grant_follows-cached : (e : GrantEntry K) (caches : List (Option K))
        → is_begun (as_reply e.reply) ≡ false
        → SourcesAfter e.event e.reply old (record old { caches = caches })
        → ((j : ℕ)
        → slice_get caches j ≡ option_map (λ _. grant_source (setup_of old) (after e) j) (slice_get
        old.loaders j))
        → GrantFollows old entries (record old { caches = caches }) e
    grant_follows-cached e caches b after sources = record {
      loaders = refl;
      rules = refl;
      handles = refl;
      calls = refl;
      caches = after;
      sources = sources;
      greatest = greatest_same e b;
      started = started_same e b;
    }

    -- the sources of the caches, where the entry stores nothing
    pub sources_same : (e : GrantEntry K) → stored_by e.event e.reply ≡ None → (j : ℕ)
        → slice_get old.caches j
        ≡ option_map (λ _. grant_source (setup_of old) (after e) j) (slice_get old.loaders j)
    sources_same e n j = stood.caches j ∙ ap (λ c. option_map (λ _. c) (slice_get old.loaders j)) (sym (source-kept (setup_of old) before e j n))

    -- an entry that hands out no source, and begins no call, leaves all beside the calls
    pub grant_follows-same : (e : GrantEntry K) → is_begun (as_reply e.reply) ≡ false
        → is_grant e.reply ≡ false → GrantFollows old entries old e
    grant_follows-same e b g = grant_follows-cached e old.caches b (sources_after-same e.event e.reply old old g refl) (sources_same e (stored_by-no_grant e.event e.reply g))

    -- the sources of the caches, where the entry stores a credential at its call's cache
    module _ (e : GrantEntry K) (c : K) (i : ℕ)
        (at : cache_of (setup_of old) (grant_call_of e.event) ≡ Some i)
        (stores : stored_by e.event e.reply ≡ Some c) (within : i < length old.caches) where
      pub sources_stored : (j : ℕ)
          → slice_get (slice_set old.caches i (Some c)) j
          ≡ option_map (λ _. grant_source (setup_of old) (after e) j) (slice_get old.loaders j)
      sources_stored =
          stored-at old.caches old.loaders (grant_source (setup_of old) before) (grant_source (setup_of old) (after e)) i c stood.caches within
          (source-stored (setup_of old) before e i c (ap (is_number i) at ∙ number_refl i) stores)
          (λ j n. source-elsewhere (setup_of old) before e j (ap (is_number j) at ∙ number_comm j i ∙ n))

    -- as many calls are live, where the entry's call stays live
    pub grants_stay : (e : GrantEntry K) (r s : GrantRecord) → is_begun (as_reply e.reply) ≡ false
        → is_live (grant_phase_of before (grant_call_of e.event))
        ≡ is_live (grant_phase_of (after e) (grant_call_of e.event))
        → find_call (grant_call_of e.event) old.calls ≡ Some r
        → length (live_calls (as_signer before)) + one_if (Some s)
        ≡ length (live_calls (as_signer (after e))) + one_if (find_call (grant_call_of e.event) old.calls)
    grants_stay e r s b h f = rw (f, live_grants-same policy (setup_of old) before e b h) refl

    -- and one fewer, where it ends
    pub grants_end : (e : GrantEntry K) (r : GrantRecord) → is_begun (as_reply e.reply) ≡ false
        → is_live (grant_phase_of before (grant_call_of e.event)) ≡ true
        → is_live (grant_phase_of (after e) (grant_call_of e.event)) ≡ false
        → find_call (grant_call_of e.event) old.calls ≡ Some r
        → length (live_calls (as_signer before)) + 0
        ≡ length (live_calls (as_signer (after e))) + one_if (find_call (grant_call_of e.event) old.calls)
    grants_end e r b lives ended f =
        let fewer : length (live_calls (as_signer before)) ≡ length (live_calls (as_signer (after e))) + 1 = live_grants-fewer policy (setup_of old) before e grants_ran b lives ended in
        rw f (omega (arith, fewer))

    -- an event that does not fit changes nothing
    pub grant_refines-not_now : (event : GrantEvent K)
        → expected_grant_reply policy (setup_of old) before event ≡ NotNow
        → GrantRefines old entries (record { event = event; reply = NotNow }) old
    grant_refines-not_now event expected =
        let e : GrantEntry K = record { event = event; reply = NotNow } in
        let own : same_call (grant_call_of event) (grant_call_of event) ≡ true = same_call-refl (grant_call_of event) in
        let p : is_live (grant_phase_of before (grant_call_of event)) ≡ is_live (grant_phase_of (after (record { event = event; reply = NotNow })) (grant_call_of event)) = ap is_live (sym (phase_after-not_now before event (grant_call_of event) own)) in
        let l : live_calls (as_signer (after (record { event = event; reply = NotNow }))) ≡ live_calls (as_signer before) = live_grants-same policy (setup_of old) before e refl p in
        record {
          represents = represents-more e (sym expected) refl old old (grant_follows-same e refl refl) (find_call (grant_call_of event) old.calls) (keeps-all old (grant_call_of event))
              (stood.calls (grant_call_of event) ∙ sym (live_after-not_now before event (grant_call_of event) own))
              (ap (λ (xs : List CallId). length xs + one_if (find_call (grant_call_of event) old.calls)) (sym l));
          setup = refl;
          caches = sources_after-same event NotNow old old refl refl;
          unchanged = refl;
        }
