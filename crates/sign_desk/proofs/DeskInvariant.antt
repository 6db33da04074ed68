-- What holds of every desk holds of a new one, after an adding call and after a step.
use Rattle.std.proofs.Common.{◌≡◌, ℕ, ◌<◌, Bool, true, false, cond, ◌||◌, [], ◌∷◌, ◌++◌, length, Option, Some, None, refl, sym, ◌∙◌, ap, subst, inl, inr, arith}
use Rattle.sequential_signer.specs.Policy.{Policy}
use Rattle.sequential_signer.specs.Setup.{Setup, cache_of}
use Rattle.sequential_signer.specs.Transcript.{committed_entries, call_of, entries_of, is_out_of_memory}
use Rattle.sequential_signer.specs.Phase.{phase_of, phase_in, begin_fits, is_begun, is_not_now}
use Rattle.sequential_signer.specs.ExpectedReply.{expected_reply, reply_at}
use Rattle.sequential_signer.specs.Legal.{IsLegal, IsLegalEntry}
use Rattle.sequential_signer.specs.declared.event.Entry.{Entry}
use Rattle.sequential_signer.specs.declared.event.Event.{Event}
use Rattle.sequential_signer.specs.declared.event.Event.TheVariants.{Begin, Poll, Provided, Signed, Cancel}
use Rattle.sequential_signer.specs.declared.event.Loader.{Loader}
use Rattle.sequential_signer.specs.declared.event.Reply.{Reply}
use Rattle.sequential_signer.specs.declared.event.Reply.TheVariants.{Begun, Pending, NotNow, OutOfMemory, Ask, Sign, Refused, Done, Cancelled}
use Rattle.sequential_signer.proofs.Lists.{list_any-more, or_false}
use Rattle.sign_base.proofs.Truth.{or_left, or_right}
use Rattle.sequential_signer.proofs.Run.{committed_entries-more}
use Rattle.sign_desk.specs.DeskState.{DeskState, Represents}
use Rattle.desk_parts.specs.Tables.{setup_of, was_begun}
use Rattle.sign_desk.specs.DeskState.{with_cache}
use Rattle.desk_parts.specs.Adding.{with_rule, with_handle}
use Rattle.desk_parts.specs.WellFormedSetup.{IsWellFormedSetup}
use Rattle.sign_desk.specs.IsDesk.{IsDesk}
use Rattle.sign_desk.specs.Change.{UnchangedBy}
use Rattle.desk_parts.proofs.IsWellFormedSetup.{set_up-cache, set_up-rule, set_up-handle}
use Rattle.sign_desk.proofs.NewDesk.{empty, represents-empty, represents-with_cache, represents-with_rule, represents-with_handle}
use Rattle.desk_parts.specs.declared.limits.TheConstants.{MOST_ROWS}

module _ {K D : Type 0} (policy : Policy K D) where
  -- an empty desk is a desk
  pub desk-empty : IsDesk policy (empty policy)
  desk-empty = record {
    set_up = record { caches_few = omega arith; rules_few = omega arith; handles_few = omega arith; handles = λ _. tt };
    entries = [];
    represents = represents-empty policy;
    empty = λ _. refl;
  }

  -- a desk that is not started represents the empty transcript
  pub not_started : (old : DeskState K D) → IsDesk policy old → old.started ≡ false → Represents policy old []
  not_started old d h = subst (Represents policy old) (d.empty h) d.represents

  -- one more cache leaves a desk
  pub desk-with_cache : (old : DeskState K D) → IsDesk policy old → old.started ≡ false → (loader : Loader)
      → length old.loaders < MOST_ROWS → IsDesk policy (with_cache loader old)
  desk-with_cache old d h loader few = record {
    set_up = set_up-cache (setup_of old) d.set_up loader few;
    entries = [];
    represents = represents-with_cache policy old (not_started old d h) loader;
    empty = λ _. refl;
  }

  -- one more rule leaves a desk
  pub desk-with_rule : (old : DeskState K D) → IsDesk policy old → old.started ≡ false → (rule : D)
      → length old.rules < MOST_ROWS → IsDesk policy (with_rule rule old)
  desk-with_rule old d h rule few = record {
    set_up = set_up-rule (setup_of old) d.set_up rule few;
    entries = [];
    represents = represents-with_rule policy old (not_started old d h) rule;
    empty = λ _. refl;
  }

  -- one more handle leaves a desk
  pub desk-with_handle : (old : DeskState K D) → IsDesk policy old → old.started ≡ false → (cache rule : ℕ)
      → length old.handles < MOST_ROWS → cache < length old.loaders → rule < length old.rules
      → IsDesk policy (with_handle cache rule old)
  desk-with_handle old d h cache rule few c r = record {
    set_up = set_up-handle (setup_of old) d.set_up (record { cache = cache; rule = rule }) few c r;
    entries = [];
    represents = represents-with_handle policy old (not_started old d h) cache rule;
    empty = λ _. refl;
  }

  -- the expected reply to a first event accepts a begin, or it does not fit
  begin_first : (b : Bool)
      → (is_begun (cond b (let r : Reply K = Begun in r) NotNow) || is_not_now
      (cond b (let r : Reply K = Begun in r) NotNow))
      ≡ true
  begin_first true = refl
  begin_first false = refl

  first_at : (setup : Setup D) (event : Event K) (o : Option ℕ)
      → (is_begun (reply_at policy setup (committed_entries []) event o) || is_not_now
      (reply_at policy setup (committed_entries []) event o))
      ≡ true
  unfolding committed_entries phase_of phase_in entries_of
  first_at setup event None = refl
  first_at setup (Begin call head expires_in) (Some i) = begin_first (begin_fits setup (committed_entries {K = K} []) call)
  first_at setup (Poll call now) (Some i) = refl
  first_at setup (Provided call now answer) (Some i) = refl
  first_at setup (Signed call answer) (Some i) = refl
  first_at setup (Cancel call) (Some i) = refl

  first_expected : (setup : Setup D) (event : Event K)
      → (is_begun (expected_reply policy setup (committed_entries []) event) || is_not_now
      (expected_reply policy setup (committed_entries []) event))
      ≡ true
  unfolding expected_reply
  first_expected setup event = first_at setup event (cache_of setup (call_of event))

  legal_first : (setup : Setup D) (e : Entry K) → IsLegal policy setup ([] ++ e ∷ [])
      → IsLegalEntry policy setup (committed_entries []) e
  unfolding IsLegal
  legal_first setup e l = l.0

  -- a committed step of a desk that represents the empty transcript, is a begin
  committed_begun : (setup : Setup D) (event : Event K) (reply : Reply K) → is_out_of_memory reply ≡ false
      → is_not_now reply ≡ false
      → IsLegalEntry policy setup (committed_entries []) (record { event = event; reply = reply })
      → is_begun reply ≡ true
  committed_begun setup event reply m n (inr l) = let o : reply ≡ OutOfMemory = l.0 in let c : is_out_of_memory reply ≡ true = ap is_out_of_memory o in absurd (cc)
  committed_begun setup event reply m n (inl l) =
      let either : (is_begun reply || is_not_now reply) ≡ true = ap (λ (r : Reply K). is_begun r || is_not_now r) l ∙ first_expected setup event in
      sym (or_false (is_begun reply)) ∙ ap (λ v. is_begun reply || v) (sym n) ∙ either

  module _ (old new : DeskState K D) (event : Event K) (reply : Reply K) (d : IsDesk policy old)
      (setup : setup_of new ≡ setup_of old)
      (next : Represents policy new (d.entries ++ record { event = event; reply = reply } ∷ [])) where
    committed_begins : is_out_of_memory reply ≡ false → is_not_now reply ≡ false → new.started ≡ false → ⊥
    committed_begins m n h =
        let e : Entry K = record { event = event; reply = reply } in
        let begun : (was_begun (committed_entries d.entries) || is_begun reply) ≡ false =
        sym (list_any-more (λ (x : Entry K). is_begun x.reply) (committed_entries d.entries) e) ∙ ap was_begun (sym (committed_entries-more d.entries e m)) ∙ sym next.started ∙ h in
        let none : d.entries ≡ [] = d.empty (d.represents.started ∙ or_left _ _ begun) in
        let legal : IsLegalEntry policy (setup_of new) (committed_entries []) (record { event = event; reply = reply }) = legal_first (setup_of new) e (subst (λ es. IsLegal policy (setup_of new) (es ++ record { event = event; reply = reply } ∷ [])) none next.legal) in
        let yes : is_begun reply ≡ true = committed_begun (setup_of new) event reply m n legal in
        let no : is_begun reply ≡ false = or_right (was_begun (committed_entries d.entries)) (is_begun reply) begun in
        absurd (cc)

    desk-committed : is_out_of_memory reply ≡ false → is_not_now reply ≡ false → IsDesk policy new
    desk-committed m n = record {
      set_up = subst IsWellFormedSetup (sym setup) d.set_up;
      entries = d.entries ++ record { event = event; reply = reply } ∷ [];
      represents = next;
      empty = λ h. absurd (committed_begins m n h);
    }

  -- a step keeps what holds of every desk
  pub desk-step : (old new : DeskState K D) (event : Event K) (reply : Reply K) (d : IsDesk policy old)
      → setup_of new ≡ setup_of old → UnchangedBy reply old new
      → Represents policy new (d.entries ++ record { event = event; reply = reply } ∷ []) → IsDesk policy new
  desk-step old new event NotNow d s u next = subst (IsDesk policy) (sym u) d
  desk-step old new event OutOfMemory d s u next = subst (IsDesk policy) (sym u) d
  desk-step old new event Begun d s u next = desk-committed old new event Begun d s next refl refl
  desk-step old new event Pending d s u next = desk-committed old new event Pending d s next refl refl
  desk-step old new event (Ask k) d s u next = desk-committed old new event (Ask k) d s next refl refl
  desk-step old new event (Sign c w) d s u next = desk-committed old new event (Sign c w) d s next refl refl
  desk-step old new event (Refused y w) d s u next = desk-committed old new event (Refused y w) d s next refl refl
  desk-step old new event (Done h) d s u next = desk-committed old new event (Done h) d s next refl refl
  desk-step old new event (Cancelled w) d s u next = desk-committed old new event (Cancelled w) d s next refl refl
