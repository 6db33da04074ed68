-- What holds of every granter's desk holds of a new one, after an adding call and after a step.
use Rattle.std.proofs.Common.{◌≡◌, ℕ, ◌<◌, Bool, true, false, cond, ◌||◌, List, [], ◌∷◌, ◌++◌, length, Option, Some, None, refl, sym, ◌∙◌, ap, subst, inl, inr, arith}
use Rattle.sequential_signer.specs.Policy.{Policy}
use Rattle.sequential_signer.specs.Setup.{Setup, cache_of}
use Rattle.sequential_signer.specs.Transcript.{is_out_of_memory, entries_of}
use Rattle.sequential_signer.specs.Phase.{phase_of, phase_in, begin_fits, is_begun, is_not_now}
use Rattle.sequential_signer.specs.GrantTranscript.{as_entry, as_reply, as_signer, committed_grants, grant_call_of}
use Rattle.sequential_signer.specs.ExpectedGrantReply.{expected_grant_reply, grant_reply_at}
use Rattle.sequential_signer.specs.GrantLegal.{IsLegalGrantEntry}
use Rattle.sequential_signer.specs.declared.event.Entry.{Entry}
use Rattle.sequential_signer.specs.declared.event.Loader.{Loader}
use Rattle.sequential_signer.specs.declared.grant_event.GrantEntry.{GrantEntry}
use Rattle.sequential_signer.specs.declared.grant_event.GrantEvent.{GrantEvent}
use Rattle.sequential_signer.specs.declared.grant_event.GrantEvent.TheVariants.{Begin, Poll, Provided, Granted, Cancel}
use Rattle.sequential_signer.specs.declared.grant_event.GrantReply.{GrantReply}
use Rattle.sequential_signer.specs.declared.grant_event.GrantReply.TheVariants.{Begun, Pending, NotNow, OutOfMemory, Ask, Grant, Refused, Given, Cancelled}
use Rattle.sign_base.proofs.Truth.{or_left, or_right}
use Rattle.sequential_signer.proofs.Lists.{list_any-more, or_false}
use Rattle.sequential_signer.proofs.GrantEntries.{as_signer-more}
use Rattle.sequential_signer.proofs.GrantRuns.{committed_grants-more}
use Rattle.sequential_signer.proofs.GrantSteps.{legal_grant_entry}
use Rattle.desk_parts.specs.Adding.{with_rule, with_handle}
use Rattle.desk_parts.specs.WellFormedSetup.{IsWellFormedSetup}
use Rattle.desk_parts.specs.Tables.{setup_of, was_begun}
use Rattle.desk_parts.proofs.IsWellFormedSetup.{set_up-cache, set_up-rule, set_up-handle}
use Rattle.grant_desk.specs.GrantDeskState.{GrantState, with_source, GrantRepresents}
use Rattle.grant_desk.specs.GrantSteps.{GrantUnchangedBy}
use Rattle.grant_desk.specs.IsGrantDesk.{IsGrantDesk}
use Rattle.grant_desk.proofs.GrantEmpty.{grant_empty, grant_represents-empty, grant_represents-with_source, grant_represents-with_rule, grant_represents-with_handle}
use Rattle.desk_parts.specs.declared.limits.TheConstants.{MOST_ROWS}

module _ {K D : Type 0} (policy : Policy K D) where
  -- an empty desk is a desk
  pub grant_desk-empty : IsGrantDesk policy (grant_empty policy)
  grant_desk-empty = record {
    set_up = record { caches_few = omega arith; rules_few = omega arith; handles_few = omega arith; handles = λ _. tt };
    entries = [];
    represents = grant_represents-empty policy;
    empty = λ _. refl;
  }

  -- a desk that is not started represents the empty transcript
  pub grant_not_started : (old : GrantState K D) → IsGrantDesk policy old → old.started ≡ false
      → GrantRepresents policy old []
  grant_not_started old d h = subst (GrantRepresents policy old) (d.empty h) d.represents

  module _ (old : GrantState K D) (d : IsGrantDesk policy old) (h : old.started ≡ false) where
    -- one more cache leaves a desk
    pub grant_desk-with_source : (loader : Loader) → length old.loaders < MOST_ROWS
        → IsGrantDesk policy (with_source loader old)
    grant_desk-with_source loader few = record {
      set_up = set_up-cache (setup_of old) d.set_up loader few;
      entries = [];
      represents = grant_represents-with_source policy old (grant_not_started old d h) loader;
      empty = λ _. refl;
    }

    -- one more rule leaves a desk
    pub grant_desk-with_rule : (rule : D) → length old.rules < MOST_ROWS
        → IsGrantDesk policy (with_rule rule old)
    grant_desk-with_rule rule few = record {
      set_up = set_up-rule (setup_of old) d.set_up rule few;
      entries = [];
      represents = grant_represents-with_rule policy old (grant_not_started old d h) rule;
      empty = λ _. refl;
    }

    -- one more handle leaves a desk
    pub grant_desk-with_handle : (cache rule : ℕ) → length old.handles < MOST_ROWS
        → cache < length old.loaders → rule < length old.rules
        → IsGrantDesk policy (with_handle cache rule old)
    grant_desk-with_handle cache rule few c r = record {
      set_up = set_up-handle (setup_of old) d.set_up (record { cache = cache; rule = rule }) few c r;
      entries = [];
      represents = grant_represents-with_handle policy old (grant_not_started old d h) cache rule;
      empty = λ _. refl;
    }

  -- the reply is the expected one, or it allocates and ran out of memory
  pub grant_entry-legal : (old new : GrantState K D) (entries : List (GrantEntry K)) (e : GrantEntry K)
      → setup_of new ≡ setup_of old → GrantRepresents policy new (entries ++ e ∷ [])
      → IsLegalGrantEntry policy (setup_of old) (committed_grants entries) e
  grant_entry-legal old new entries e same next = subst (λ s. IsLegalGrantEntry policy s (committed_grants entries) e) same (legal_grant_entry policy (setup_of new) entries e next.legal)

  -- whether a reply accepts a begin, or the event did not fit
  abbrev is_first : GrantReply K → Bool
  is_first reply = is_begun (as_reply reply) || is_not_now (as_reply reply)

  -- the expected reply to a first event is such a one
  begin_first : (b : Bool) → is_first (cond b (let r : GrantReply K = Begun in r) NotNow) ≡ true
  begin_first true = refl
  begin_first false = refl

  first_at : (setup : Setup D) (event : GrantEvent K) (o : Option ℕ)
      → is_first (grant_reply_at policy setup (committed_grants []) event o) ≡ true
  unfolding committed_grants phase_of phase_in entries_of
  first_at setup event None = refl
  first_at setup (Begin call expires_in) (Some i) = begin_first (begin_fits setup (as_signer (committed_grants {K = K} [])) call)
  first_at setup (Poll call now) (Some i) = refl
  first_at setup (Provided call now answer) (Some i) = refl
  first_at setup (Granted call now answer) (Some i) = refl
  first_at setup (Cancel call) (Some i) = refl

  first_expected : (setup : Setup D) (event : GrantEvent K)
      → is_first (expected_grant_reply policy setup (committed_grants []) event) ≡ true
  unfolding expected_grant_reply
  first_expected setup event = first_at setup event (cache_of setup (grant_call_of event))

  -- a committed step of a desk that represents the empty transcript is a begin
  committed_begun : (setup : Setup D) (event : GrantEvent K) (reply : GrantReply K)
      → is_out_of_memory (as_reply reply) ≡ false → is_not_now (as_reply reply) ≡ false
      → IsLegalGrantEntry policy setup (committed_grants []) (record { event = event; reply = reply })
      → is_begun (as_reply reply) ≡ true
  committed_begun setup event reply m n (inr l) = let c : is_out_of_memory (as_reply reply) ≡ true = ap (λ (r : GrantReply K). is_out_of_memory (as_reply r)) l.0 in absurd (cc)
  committed_begun setup event reply m n (inl l) =
      let either : is_first reply ≡ true = ap is_first l ∙ first_expected setup event in
      sym (or_false (is_begun (as_reply reply))) ∙ ap (λ v. is_begun (as_reply reply) || v) (sym n) ∙ either

  module _ (old new : GrantState K D) (event : GrantEvent K) (reply : GrantReply K)
      (d : IsGrantDesk policy old) (setup : setup_of new ≡ setup_of old)
      (next : GrantRepresents policy new (d.entries ++ record { event = event; reply = reply } ∷ [])) where
    committed_begins : is_out_of_memory (as_reply reply) ≡ false → is_not_now (as_reply reply) ≡ false
        → new.started ≡ false → ⊥
    committed_begins m n h =
        let e : GrantEntry K = record { event = event; reply = reply } in
        let before : List (GrantEntry K) = committed_grants d.entries in
        let begun : (was_begun (as_signer (committed_grants d.entries)) || is_begun (as_reply reply)) ≡ false =
        sym (ap was_begun (as_signer-more before e) ∙ list_any-more (λ (x : Entry K). is_begun x.reply) (as_signer before) (as_entry e))
        ∙ ap (λ (es : List (GrantEntry K)). was_begun (as_signer es)) (sym (committed_grants-more d.entries e m))
        ∙ sym next.started ∙ h in
        let none : d.entries ≡ [] = d.empty (d.represents.started ∙ or_left _ _ begun) in
        let legal : IsLegalGrantEntry policy (setup_of new) (committed_grants []) (record { event = event; reply = reply }) = subst (λ es. IsLegalGrantEntry policy (setup_of new) (committed_grants es) (record { event = event; reply = reply })) none (legal_grant_entry policy (setup_of new) d.entries e next.legal) in
        let yes : is_begun (as_reply reply) ≡ true = committed_begun (setup_of new) event reply m n legal in
        let no : is_begun (as_reply reply) ≡ false = or_right (was_begun (as_signer (committed_grants d.entries))) (is_begun (as_reply reply)) begun in
        absurd (cc)

    desk-committed : is_out_of_memory (as_reply reply) ≡ false → is_not_now (as_reply reply) ≡ false
        → IsGrantDesk policy new
    desk-committed m n = record {
      set_up = subst IsWellFormedSetup (sym setup) d.set_up;
      entries = d.entries ++ record { event = event; reply = reply } ∷ [];
      represents = next;
      empty = λ h. absurd (committed_begins m n h);
    }

  -- a step keeps what holds of every desk
  pub grant_desk-step : (old new : GrantState K D) (event : GrantEvent K) (reply : GrantReply K)
      (d : IsGrantDesk policy old) → setup_of new ≡ setup_of old → GrantUnchangedBy reply old new
      → GrantRepresents policy new (d.entries ++ record { event = event; reply = reply } ∷ [])
      → IsGrantDesk policy new
  grant_desk-step old new event NotNow d s u next = subst (IsGrantDesk policy) (sym u) d
  grant_desk-step old new event OutOfMemory d s u next = subst (IsGrantDesk policy) (sym u) d
  grant_desk-step old new event Begun d s u next = desk-committed old new event Begun d s next refl refl
  grant_desk-step old new event Pending d s u next = desk-committed old new event Pending d s next refl refl
  grant_desk-step old new event (Ask k) d s u next = desk-committed old new event (Ask k) d s next refl refl
  grant_desk-step old new event (Grant c) d s u next = desk-committed old new event (Grant c) d s next refl refl
  grant_desk-step old new event (Refused y) d s u next = desk-committed old new event (Refused y) d s next refl refl
  grant_desk-step old new event (Given c) d s u next = desk-committed old new event (Given c) d s next refl refl
  grant_desk-step old new event Cancelled d s u next = desk-committed old new event Cancelled d s next refl refl
