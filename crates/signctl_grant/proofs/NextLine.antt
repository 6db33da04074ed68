-- A session after one more item represents the items with this one after them.
use Rattle.std.proofs.Common.{◌≡◌, ◌<◌, ℕ, arith, None, Result, Ok, Err, nat_lt, Bool, true, false, not, List, [], ◌∷◌, ◌++◌, length, refl, sym, ap, ◌∙◌, subst, inl, inr, map}
use Rattle.std.proofs.lemmas.List.{append-nil, map-append}
use Rattle.sequential_signer.specs.Setup.{Setup, Handle}
use Rattle.sequential_signer.specs.Transcript.{is_out_of_memory}
use Rattle.sequential_signer.specs.GrantTranscript.{as_reply, as_signer, committed_grants}
use Rattle.sequential_signer.specs.ExpectedGrantReply.{expected_grant_reply}
use Rattle.sequential_signer.specs.GrantLegal.{IsLegalGrantEntry, expected_grant_entries}
use Rattle.sequential_signer.specs.declared.grant_event.GrantEntry.{GrantEntry}
use Rattle.sequential_signer.specs.declared.grant_event.GrantEvent.{GrantEvent}
use Rattle.sequential_signer.specs.declared.event.Loader.{Loader}
use Rattle.sequential_signer.specs.declared.grant_event.GrantReply.{GrantReply}
use Rattle.sequential_signer.specs.declared.grant_event.GrantReply.TheVariants.{OutOfMemory}
use Rattle.sequential_signer.proofs.ExpectedGrants.{committed_grants-expected, expected_grant_entries-more}
use Rattle.desk_parts.specs.Tables.{setup_of, was_begun}
use Rattle.grant_desk.specs.GrantDeskState.{GrantState, GrantRepresents, with_source}
use Rattle.desk_parts.specs.Adding.{with_handle, AddAnswer, late_refusal, handle_refusal}
use Rattle.desk_parts.specs.declared.adding.AddError.{AddError}
use Rattle.desk_parts.specs.declared.limits.TheConstants.{MOST_ROWS}
use Rattle.desk_parts.proofs.AddAnswers.{cache-allowed, handle-allowed}
use Rattle.signctl_format.specs.declared.credential.ScriptCredential.{ScriptCredential}
use Rattle.signctl_format.specs.declared.credential.ScriptRule.{ScriptRule}
use Rattle.signctl_format.specs.declared.credential.ScriptRule.TheVariants.{Now, Cred}
use Rattle.signctl_format.specs.declared.item.Item.TheVariants as item
use Rattle.signctl_format.specs.Policy.{script_policy}
use Rattle.signctl_format.specs.ScriptSetup.{is_empty, place_of_rule, setup_in, events_in, item_error}
use Rattle.signctl_grant.specs.GrantEvents.{GrantItem, plain_grant_event}
use Rattle.sign_io.specs.Lines.{input_limit}
use Rattle.signctl_grant.specs.GrantOutput.{transcript_of}
use Rattle.signctl_grant.specs.GrantSessionState.{GrantSessionState, GrantSessionRepresents}
use Rattle.signctl_format.proofs.SetupIn.{setup_in-silent, setup_in-cache, setup_in-handle, setup_in-event, events_in-more, rule-placed, caches-few, handles-few, cache-no_event, handle-no_event, handle-cache, one-more}
use Rattle.signctl_grant.proofs.PlainGrants.{plain-reply}

-- a session that is seen so represents what it is seen as
pub as_seen : (inside session : GrantSessionState) (items : List GrantItem) → inside ≡ session
    → GrantSessionRepresents session items → GrantSessionRepresents inside items
as_seen inside session items seen stands = let P : GrantSessionState → Type 0 = λ s. GrantSessionRepresents s items in subst P (sym seen) stands

-- a session with this desk and this note
abbrev with_desk : GrantState ScriptCredential ScriptRule → Bool → GrantSessionState → GrantSessionState
with_desk desk had_event session = record session { desk = desk; had_event = had_event }

-- nothing came before the first event
stepped-none : (stepped events : List (GrantEvent ScriptCredential)) → map plain_grant_event stepped ≡ events
    → is_empty events ≡ true → stepped ≡ []
stepped-none [] events e h = refl
stepped-none (x ∷ rest) [] e h = absurd (cc)
stepped-none (x ∷ rest) (y ∷ more) e h = absurd (cc)

module _ (session : GrantSessionState) (items : List GrantItem) (stands : GrantSessionRepresents session items) where
  -- before the first event the desk has taken none
  no_steps : is_empty (events_in items) ≡ true → stands.stepped ≡ []
  no_steps h = stepped-none stands.stepped (events_in items) stands.events h

  -- so it represents the empty transcript
  no_transcript : is_empty (events_in items) ≡ true
      → expected_grant_entries script_policy (setup_in items) stands.stepped ≡ []
  unfolding expected_grant_entries
  no_transcript h = ap (λ (v : List (GrantEvent ScriptCredential)). expected_grant_entries script_policy (setup_in items) v) (no_steps h)

  -- and no begin was accepted
  pub not_started : is_empty (events_in items) ≡ true → session.desk.started ≡ false
  unfolding committed_grants
  not_started h =
      stands.represents.started
      ∙ ap (λ (t : List (GrantEntry ScriptCredential)). was_begun (as_signer (committed_grants t))) (no_transcript h)

  -- a line that leaves setup and events
  pub next-silent : GrantSessionRepresents session (items ++ item.Silent ∷ [])
  next-silent = record {
    setup = stands.setup ∙ sym (setup_in-silent items);
    stepped = stands.stepped;
    events = stands.events ∙ sym (events_in-more items item.Silent ∙ append-nil (events_in items));
    represents =
        let P : Setup ScriptRule → Type 0 = λ s. GrantRepresents script_policy session.desk (expected_grant_entries script_policy s stands.stepped) in
        subst P (sym (setup_in-silent items)) stands.represents;
    note = stands.note ∙ ap (λ (v : List (GrantEvent ScriptCredential)). not (is_empty v)) (sym (events_in-more items item.Silent ∙ append-nil (events_in items)));
  }

  -- a desk that is set up further, before the first event
  next-setup : (new : GrantState ScriptCredential ScriptRule) (x : GrantItem)
      → is_empty (events_in items) ≡ true → events_in (items ++ x ∷ []) ≡ events_in items
      → setup_of new ≡ setup_in (items ++ x ∷ []) → GrantRepresents script_policy new []
      → GrantSessionRepresents (with_desk new session.had_event session) (items ++ x ∷ [])
  unfolding expected_grant_entries
  next-setup new x none same setup fresh = record {
    setup = setup;
    stepped = [];
    events = ap (λ (v : List (GrantEvent ScriptCredential)). map plain_grant_event v) (sym (no_steps none)) ∙ stands.events ∙ sym same;
    represents = fresh;
    note = stands.note ∙ ap (λ (v : List (GrantEvent ScriptCredential)). not (is_empty v)) (sym same);
  }

  -- one cache more
  pub next-cache : (new : GrantState ScriptCredential ScriptRule) (loader : Loader)
      → item_error items (item.Cache loader) ≡ None → new ≡ with_source loader session.desk
      → GrantRepresents script_policy new []
      → GrantSessionRepresents (with_desk new session.had_event session) (items ++ item.Cache loader ∷ [])
  next-cache new loader good added fresh =
      next-setup new (item.Cache loader) (cache-no_event items loader good)
      (events_in-more items (item.Cache loader) ∙ append-nil (events_in items))
      (ap (λ (d : GrantState ScriptCredential ScriptRule). setup_of d) added
      ∙ ap (λ (s : Setup ScriptRule). record s { loaders = s.loaders ++ loader ∷ [] }) stands.setup
      ∙ sym (setup_in-cache items loader))
      fresh

  -- one handle more
  pub next-handle : (new : GrantState ScriptCredential ScriptRule) (cache : ℕ) (rule : ScriptRule)
      → item_error items (item.Handle cache rule) ≡ None
      → new ≡ with_handle cache (place_of_rule rule) session.desk → GrantRepresents script_policy new []
      → GrantSessionRepresents (with_desk new session.had_event session)
      (items ++ item.Handle cache rule ∷ [])
  next-handle new cache rule good added fresh =
      next-setup new (item.Handle cache rule) (handle-no_event items cache rule good)
      (events_in-more items (item.Handle cache rule) ∙ append-nil (events_in items))
      (ap (λ (d : GrantState ScriptCredential ScriptRule). setup_of d) added
      ∙ ap (λ (s : Setup ScriptRule). record s { handles = s.handles ++ record { cache = cache; rule = place_of_rule rule } ∷ [] }) stands.setup
      ∙ sym (setup_in-handle items cache rule))
      fresh

  -- all entries are committed, so the legal reply other than out of memory is the expected one, also to the
  -- event as the
  -- line has it
  pub reply-expected : (event : GrantEvent ScriptCredential) (reply : GrantReply ScriptCredential)
      → IsLegalGrantEntry script_policy (setup_of session.desk)
      (committed_grants (expected_grant_entries script_policy (setup_in items) stands.stepped))
      (record { event = event; reply = reply })
      → (reply ≡ OutOfMemory → ⊥)
      → reply
      ≡ expected_grant_reply script_policy (setup_in items)
      (expected_grant_entries script_policy (setup_in items) stands.stepped) event
  reply-expected event reply (inl expected) in_memory =
      expected
      ∙ ap (λ (s : Setup ScriptRule). expected_grant_reply script_policy s (committed_grants (expected_grant_entries script_policy (setup_in items) stands.stepped)) event) stands.setup
      ∙ ap (λ (t : List (GrantEntry ScriptCredential)). expected_grant_reply script_policy (setup_in items) t event) (committed_grants-expected script_policy (setup_in items) stands.stepped)
  reply-expected event reply (inr lost) in_memory = absurd (in_memory lost.0)

  -- the expected reply to an event as the line has it
  pub reply-plain : (event : GrantEvent ScriptCredential)
      → expected_grant_reply script_policy (setup_in items)
      (expected_grant_entries script_policy (setup_in items) stands.stepped) event
      ≡ expected_grant_reply script_policy (setup_in items) (transcript_of items) (plain_grant_event event)
  reply-plain event =
      sym (plain-reply (setup_in items) stands.stepped event)
      ∙ ap (λ (v : List (GrantEvent ScriptCredential)). expected_grant_reply script_policy (setup_in items) (expected_grant_entries script_policy (setup_in items) v) (plain_grant_event event)) stands.events

  -- one event more
  pub next-event : (new : GrantState ScriptCredential ScriptRule) (event : GrantEvent ScriptCredential)
      (reply : GrantReply ScriptCredential) → setup_of new ≡ setup_of session.desk
      → GrantRepresents script_policy new
      (expected_grant_entries script_policy (setup_in items) stands.stepped
      ++ record { event = event; reply = reply } ∷ [])
      → reply
      ≡ expected_grant_reply script_policy (setup_in items)
      (expected_grant_entries script_policy (setup_in items) stands.stepped) event
      → GrantSessionRepresents (with_desk new true session)
      (items ++ item.Event (plain_grant_event event) ∷ [])
  next-event new event reply setup represents expected = record {
    setup = setup ∙ stands.setup ∙ sym (setup_in-event items (plain_grant_event event));
    stepped = stands.stepped ++ event ∷ [];
    events = map-append plain_grant_event stands.stepped (event ∷ []) ∙ ap (λ (v : List (GrantEvent ScriptCredential)). v ++ plain_grant_event event ∷ []) stands.events ∙ sym (events_in-more items (item.Event (plain_grant_event event)));
    represents =
        let P : List (GrantEntry ScriptCredential) → Type 0 = λ t. GrantRepresents script_policy new t in
        let Q : Setup ScriptRule → Type 0 = λ s. GrantRepresents script_policy new (expected_grant_entries script_policy s (stands.stepped ++ event ∷ [])) in
        subst Q (sym (setup_in-event items (plain_grant_event event)))
        (subst P (ap (λ (r : GrantReply ScriptCredential). expected_grant_entries script_policy (setup_in items) stands.stepped ++ record { event = event; reply = r } ∷ []) expected ∙ sym (expected_grant_entries-more script_policy (setup_in items) stands.stepped event)) represents);
    note = sym (ap (λ (v : List (GrantEvent ScriptCredential)). not (is_empty v)) (events_in-more items (item.Event (plain_grant_event event))) ∙ one-more (events_in items) (plain_grant_event event));
  }

  -- the caches of the desk are those of the lines
  pub loaders-same : session.desk.loaders ≡ (setup_in items).loaders
  loaders-same = ap (λ (s : Setup ScriptRule). s.loaders) stands.setup

  -- so are its handles
  pub handles-same : session.desk.handles ≡ (setup_in items).handles
  handles-same = ap (λ (s : Setup ScriptRule). s.handles) stands.setup

  -- there is a number for one cache more
  pub caches-fit : length items < input_limit → length session.desk.loaders < MOST_ROWS
  caches-fit few = omega (arith, few, caches-few items, ap (λ (v : List Loader). length v) loaders-same)

  -- and for one handle more
  pub handles-fit : length items < input_limit → length session.desk.handles < MOST_ROWS
  handles-fit few = omega (arith, few, handles-few items, ap (λ (v : List Handle). length v) handles-same)

  -- the one refusal of a new cache is out of memory, and its number counts those before it
  cache-answer : (loader : Loader) → item_error items (item.Cache loader) ≡ None
      → (answer : Result ℕ AddError)
      → AddAnswer (late_refusal session.desk) (length session.desk.loaders) answer
      → AddAnswer None (length session.desk.loaders) answer
  cache-answer loader good answer h = cache-allowed session.desk _ answer (not_started (cache-no_event items loader good)) h

  pub cache-out_of_memory : (loader : Loader) (e : AddError) → item_error items (item.Cache loader) ≡ None
      → AddAnswer (late_refusal session.desk) (length session.desk.loaders) (Err e) → e ≡ AddError.OutOfMemory
  cache-out_of_memory loader e good h = cache-answer loader good (Err e) h

  pub cache-number : (loader : Loader) (n : ℕ) → item_error items (item.Cache loader) ≡ None
      → AddAnswer (late_refusal session.desk) (length session.desk.loaders) (Ok n)
      → n ≡ length (setup_in items).loaders
  cache-number loader n good h = cache-answer loader good (Ok n) h ∙ ap (λ (v : List Loader). length v) loaders-same

  -- so it is with a new handle, whose cache and whose rule are there
  handle-answer : (cache : ℕ) (rule : ScriptRule) → item_error items (item.Handle cache rule) ≡ None
      → (answer : Result ℕ AddError)
      → AddAnswer (handle_refusal session.desk cache (place_of_rule rule)) (length session.desk.handles)
      answer
      → AddAnswer None (length session.desk.handles) answer
  handle-answer cache rule good answer h =
      handle-allowed session.desk _ answer cache (place_of_rule rule) (not_started (handle-no_event items cache rule good))
      (ap (λ (v : List Loader). nat_lt cache (length v)) loaders-same ∙ handle-cache items cache rule good)
      (ap (λ (s : Setup ScriptRule). nat_lt (place_of_rule rule) (length s.rules)) stands.setup ∙ rule-placed items rule)
      h

  pub handle-out_of_memory : (cache : ℕ) (rule : ScriptRule) (e : AddError)
      → item_error items (item.Handle cache rule) ≡ None
      → AddAnswer (handle_refusal session.desk cache (place_of_rule rule)) (length session.desk.handles)
      (Err e)
      → e ≡ AddError.OutOfMemory
  handle-out_of_memory cache rule e good h = handle-answer cache rule good (Err e) h

  pub handle-number : (cache : ℕ) (rule : ScriptRule) (n : ℕ)
      → item_error items (item.Handle cache rule) ≡ None
      → AddAnswer (handle_refusal session.desk cache (place_of_rule rule)) (length session.desk.handles)
      (Ok n)
      → n ≡ length (setup_in items).handles
  handle-number cache rule n good h = handle-answer cache rule good (Ok n) h ∙ ap (λ (v : List Handle). length v) handles-same

first-line : (session : GrantSessionState)
    → setup_of session.desk ≡ record { loaders = []; rules = Now ∷ Cred ∷ []; handles = [] }
    → GrantRepresents script_policy session.desk [] → session.had_event ≡ false
    → GrantSessionRepresents session []
unfolding setup_in events_in expected_grant_entries
first-line session setup fresh none = record { setup = setup; stepped = []; events = refl; represents = fresh; note = none }

-- a reply that isn't out of memory
pub not-out_of_memory : (reply : GrantReply ScriptCredential) → is_out_of_memory (as_reply reply) ≡ false
    → reply ≡ OutOfMemory → ⊥
not-out_of_memory reply good lost = let e : is_out_of_memory (as_reply reply) ≡ true = ap (λ (r : GrantReply ScriptCredential). is_out_of_memory (as_reply r)) lost in absurd (cc)

-- a session before the first line
pub first_session : (desk : GrantState ScriptCredential ScriptRule)
    → setup_of desk ≡ record { loaders = []; rules = Now ∷ Cred ∷ []; handles = [] }
    → GrantRepresents script_policy desk []
    → GrantSessionRepresents (record { desk = desk; had_event = false }) []
first_session desk setup fresh = first-line (record { desk = desk; had_event = false }) setup fresh refl
