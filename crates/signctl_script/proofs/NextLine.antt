-- A session after one more item represents the items with this one after them.
use Rattle.std.proofs.Common.{◌≡◌, ◌<◌, ℕ, arith, Option, Some, None, Result, Ok, Err, nat_lt, Bool, true, false, not, List, [], ◌∷◌, ◌++◌, length, refl, sym, ap, ◌∙◌, subst, inl, inr, map}
use Rattle.std.proofs.lemmas.List.{append-nil, map-append}
use Rattle.sequential_signer.specs.Setup.{Setup, Handle}
use Rattle.sequential_signer.specs.Transcript.{committed_entries, is_out_of_memory}
use Rattle.sequential_signer.specs.ExpectedReply.{expected_reply}
use Rattle.sequential_signer.specs.Legal.{IsLegalEntry, expected_entries}
use Rattle.sequential_signer.specs.declared.event.Entry.{Entry}
use Rattle.sequential_signer.specs.declared.event.Event.{Event}
use Rattle.sequential_signer.specs.declared.event.Loader.{Loader}
use Rattle.sequential_signer.specs.declared.event.Reply.{Reply}
use Rattle.sequential_signer.specs.declared.event.Reply.TheVariants.{OutOfMemory}
use Rattle.sequential_signer.proofs.ExpectedReplies.{committed_entries-expected, expected_entries-more}
use Rattle.sign_desk.specs.DeskState.{DeskState, Represents, with_cache}
use Rattle.desk_parts.specs.Tables.{setup_of, was_begun}
use Rattle.desk_parts.specs.Adding.{with_handle, AddAnswer, late_refusal, handle_refusal}
use Rattle.desk_parts.specs.declared.adding.AddError.{AddError}
use Rattle.desk_parts.specs.declared.limits.TheConstants.{MOST_ROWS}
use Rattle.desk_parts.proofs.AddAnswers.{cache-allowed, handle-allowed}
use Rattle.line_words.specs.declared.moment.ScriptVersion.{ScriptVersion}
use Rattle.line_words.specs.declared.moment.ScriptVersion.TheVariants.{Two}
use Rattle.signctl_format.specs.declared.credential.ScriptCredential.{ScriptCredential}
use Rattle.signctl_format.specs.declared.credential.ScriptRule.{ScriptRule}
use Rattle.signctl_format.specs.declared.credential.ScriptRule.TheVariants.{Now, Cred}
use Rattle.signctl_format.specs.declared.item.Item.TheVariants as item
use Rattle.signctl_format.specs.Policy.{script_policy}
use Rattle.signctl_format.specs.ScriptEvents.{ScriptItem, plain_event}
use Rattle.sign_io.specs.Lines.{input_limit}
use Rattle.signctl_format.specs.ScriptSetup.{is_empty, place_of_rule, setup_in, events_in, item_error}
use Rattle.signctl_script.specs.Script.{items_in, version_in}
use Rattle.signctl_script.specs.ScriptOutput.{transcript_of}
use Rattle.signctl_script.specs.SessionState.{SessionState, RepresentsItems, SessionRepresents}
use Rattle.signctl_script.specs.declared.session.ScriptLine.{ScriptLine}
use Rattle.signctl_script.specs.declared.session.ScriptLine.TheVariants.{VersionTwo, Says}
use Rattle.signctl_format.proofs.SetupIn.{setup_in-silent, setup_in-cache, setup_in-handle, setup_in-event, events_in-more, rule-placed, caches-few, handles-few, cache-no_event, handle-no_event, handle-cache, one-more}
use Rattle.signctl_script.proofs.PlainEvents.{plain-reply}
use Rattle.signctl_script.proofs.ItemsIn.{items_in-says, version_after-says}

-- a session that is seen so represents what it is seen as
pub as_seen : (inside session : SessionState) (items : List ScriptItem) → inside ≡ session
    → RepresentsItems session items → RepresentsItems inside items
as_seen inside session items seen stands = let P : SessionState → Type 0 = λ s. RepresentsItems s items in subst P (sym seen) stands

-- a session with this desk and this note
abbrev with_desk : DeskState ScriptCredential ScriptRule → Bool → SessionState → SessionState
with_desk desk had_event session = record session { desk = desk; had_event = had_event }

-- nothing came before the first event
stepped-none : (stepped events : List (Event ScriptCredential)) → map plain_event stepped ≡ events
    → is_empty events ≡ true → stepped ≡ []
stepped-none [] events e h = refl
stepped-none (x ∷ rest) [] e h = absurd (cc)
stepped-none (x ∷ rest) (y ∷ more) e h = absurd (cc)

module _ (session : SessionState) (items : List ScriptItem) (stands : RepresentsItems session items) where
  -- before the first event the desk has taken none
  no_steps : is_empty (events_in items) ≡ true → stands.stepped ≡ []
  no_steps h = stepped-none stands.stepped (events_in items) stands.events h

  -- so it represents the empty transcript
  no_transcript : is_empty (events_in items) ≡ true
      → expected_entries script_policy (setup_in items) stands.stepped ≡ []
  unfolding expected_entries
  no_transcript h = ap (λ (v : List (Event ScriptCredential)). expected_entries script_policy (setup_in items) v) (no_steps h)

  -- and no begin was accepted
  pub not_started : is_empty (events_in items) ≡ true → session.desk.started ≡ false
  unfolding committed_entries
  not_started h =
      stands.represents.started
      ∙ ap (λ (t : List (Entry ScriptCredential)). was_begun (committed_entries t)) (no_transcript h)

  -- a line that leaves setup and events
  pub next-silent : RepresentsItems session (items ++ item.Silent ∷ [])
  next-silent = record {
    setup = stands.setup ∙ sym (setup_in-silent items);
    stepped = stands.stepped;
    events = stands.events ∙ sym (events_in-more items item.Silent ∙ append-nil (events_in items));
    represents =
        let P : Setup ScriptRule → Type 0 = λ s. Represents script_policy session.desk (expected_entries script_policy s stands.stepped) in
        subst P (sym (setup_in-silent items)) stands.represents;
    note = stands.note ∙ ap (λ (v : List (Event ScriptCredential)). not (is_empty v)) (sym (events_in-more items item.Silent ∙ append-nil (events_in items)));
  }

  -- a desk that is set up further, before the first event
  next-setup : (new : DeskState ScriptCredential ScriptRule) (x : ScriptItem)
      → is_empty (events_in items) ≡ true → events_in (items ++ x ∷ []) ≡ events_in items
      → setup_of new ≡ setup_in (items ++ x ∷ []) → Represents script_policy new []
      → RepresentsItems (with_desk new session.had_event session) (items ++ x ∷ [])
  unfolding expected_entries
  next-setup new x none same setup fresh = record {
    setup = setup;
    stepped = [];
    events = ap (λ (v : List (Event ScriptCredential)). map plain_event v) (sym (no_steps none)) ∙ stands.events ∙ sym same;
    represents = fresh;
    note = stands.note ∙ ap (λ (v : List (Event ScriptCredential)). not (is_empty v)) (sym same);
  }

  -- one cache more
  pub next-cache : (new : DeskState ScriptCredential ScriptRule) (loader : Loader)
      → item_error items (item.Cache loader) ≡ None → new ≡ with_cache loader session.desk
      → Represents script_policy new []
      → RepresentsItems (with_desk new session.had_event session) (items ++ item.Cache loader ∷ [])
  next-cache new loader good added fresh =
      next-setup new (item.Cache loader) (cache-no_event items loader good)
      (events_in-more items (item.Cache loader) ∙ append-nil (events_in items))
      (ap (λ (d : DeskState ScriptCredential ScriptRule). setup_of d) added
      ∙ ap (λ (s : Setup ScriptRule). record s { loaders = s.loaders ++ loader ∷ [] }) stands.setup
      ∙ sym (setup_in-cache items loader))
      fresh

  -- one handle more
  pub next-handle : (new : DeskState ScriptCredential ScriptRule) (cache : ℕ) (rule : ScriptRule)
      → item_error items (item.Handle cache rule) ≡ None
      → new ≡ with_handle cache (place_of_rule rule) session.desk → Represents script_policy new []
      → RepresentsItems (with_desk new session.had_event session) (items ++ item.Handle cache rule ∷ [])
  next-handle new cache rule good added fresh =
      next-setup new (item.Handle cache rule) (handle-no_event items cache rule good)
      (events_in-more items (item.Handle cache rule) ∙ append-nil (events_in items))
      (ap (λ (d : DeskState ScriptCredential ScriptRule). setup_of d) added
      ∙ ap (λ (s : Setup ScriptRule). record s { handles = s.handles ++ record { cache = cache; rule = place_of_rule rule } ∷ [] }) stands.setup
      ∙ sym (setup_in-handle items cache rule))
      fresh

  -- all entries are committed, so the legal reply other than out of memory is the expected one, also to the
  -- event as the
  -- line has it
  pub reply-expected : (event : Event ScriptCredential) (reply : Reply ScriptCredential)
      → IsLegalEntry script_policy (setup_of session.desk)
      (committed_entries (expected_entries script_policy (setup_in items) stands.stepped))
      (record { event = event; reply = reply })
      → (reply ≡ OutOfMemory → ⊥)
      → reply
      ≡ expected_reply script_policy (setup_in items)
      (expected_entries script_policy (setup_in items) stands.stepped) event
  reply-expected event reply (inl expected) in_memory =
      expected
      ∙ ap (λ (s : Setup ScriptRule). expected_reply script_policy s (committed_entries (expected_entries script_policy (setup_in items) stands.stepped)) event) stands.setup
      ∙ ap (λ (t : List (Entry ScriptCredential)). expected_reply script_policy (setup_in items) t event) (committed_entries-expected script_policy (setup_in items) stands.stepped)
  reply-expected event reply (inr lost) in_memory = absurd (in_memory lost.0)

  -- the expected reply to an event as the line has it
  pub reply-plain : (event : Event ScriptCredential)
      → expected_reply script_policy (setup_in items)
      (expected_entries script_policy (setup_in items) stands.stepped) event
      ≡ expected_reply script_policy (setup_in items) (transcript_of items) (plain_event event)
  reply-plain event =
      sym (plain-reply (setup_in items) stands.stepped event)
      ∙ ap (λ (v : List (Event ScriptCredential)). expected_reply script_policy (setup_in items) (expected_entries script_policy (setup_in items) v) (plain_event event)) stands.events

  -- one event more
  pub next-event : (new : DeskState ScriptCredential ScriptRule) (event : Event ScriptCredential)
      (reply : Reply ScriptCredential) → setup_of new ≡ setup_of session.desk
      → Represents script_policy new
      (expected_entries script_policy (setup_in items) stands.stepped
      ++ record { event = event; reply = reply } ∷ [])
      → reply
      ≡ expected_reply script_policy (setup_in items)
      (expected_entries script_policy (setup_in items) stands.stepped) event
      → RepresentsItems (with_desk new true session) (items ++ item.Event (plain_event event) ∷ [])
  next-event new event reply setup represents expected = record {
    setup = setup ∙ stands.setup ∙ sym (setup_in-event items (plain_event event));
    stepped = stands.stepped ++ event ∷ [];
    events = map-append plain_event stands.stepped (event ∷ []) ∙ ap (λ (v : List (Event ScriptCredential)). v ++ plain_event event ∷ []) stands.events ∙ sym (events_in-more items (item.Event (plain_event event)));
    represents =
        let P : List (Entry ScriptCredential) → Type 0 = λ t. Represents script_policy new t in
        let Q : Setup ScriptRule → Type 0 = λ s. Represents script_policy new (expected_entries script_policy s (stands.stepped ++ event ∷ [])) in
        subst Q (sym (setup_in-event items (plain_event event)))
        (subst P (ap (λ (r : Reply ScriptCredential). expected_entries script_policy (setup_in items) stands.stepped ++ record { event = event; reply = r } ∷ []) expected ∙ sym (expected_entries-more script_policy (setup_in items) stands.stepped event)) represents);
    note = sym (ap (λ (v : List (Event ScriptCredential)). not (is_empty v)) (events_in-more items (item.Event (plain_event event))) ∙ one-more (events_in items) (plain_event event));
  }

  -- the caches of the desk are those of the lines
  pub loaders-same : session.desk.loaders ≡ (setup_in items).loaders
  loaders-same = ap (λ (s : Setup ScriptRule). s.loaders) stands.setup

  -- so are its handles
  pub handles-same : session.desk.handles ≡ (setup_in items).handles
  handles-same = ap (λ (s : Setup ScriptRule). s.handles) stands.setup

  -- there is a number for one cache more
  pub caches-fit : length items < input_limit → length session.desk.loaders < MOST_ROWS
  caches-fit few = omega (arith, few, caches-few items, ap (λ (v : List Loader). length v) loaders-same)

  -- and for one handle more
  pub handles-fit : length items < input_limit → length session.desk.handles < MOST_ROWS
  handles-fit few = omega (arith, few, handles-few items, ap (λ (v : List Handle). length v) handles-same)

  -- the one refusal of a new cache is out of memory, and its number counts those before it
  cache-answer : (loader : Loader) → item_error items (item.Cache loader) ≡ None
      → (answer : Result ℕ AddError)
      → AddAnswer (late_refusal session.desk) (length session.desk.loaders) answer
      → AddAnswer None (length session.desk.loaders) answer
  cache-answer loader good answer h = cache-allowed session.desk _ answer (not_started (cache-no_event items loader good)) h

  pub cache-out_of_memory : (loader : Loader) (e : AddError) → item_error items (item.Cache loader) ≡ None
      → AddAnswer (late_refusal session.desk) (length session.desk.loaders) (Err e) → e ≡ AddError.OutOfMemory
  cache-out_of_memory loader e good h = cache-answer loader good (Err e) h

  pub cache-number : (loader : Loader) (n : ℕ) → item_error items (item.Cache loader) ≡ None
      → AddAnswer (late_refusal session.desk) (length session.desk.loaders) (Ok n)
      → n ≡ length (setup_in items).loaders
  cache-number loader n good h = cache-answer loader good (Ok n) h ∙ ap (λ (v : List Loader). length v) loaders-same

  -- so it is with a new handle, whose cache and whose rule are there
  handle-answer : (cache : ℕ) (rule : ScriptRule) → item_error items (item.Handle cache rule) ≡ None
      → (answer : Result ℕ AddError)
      → AddAnswer (handle_refusal session.desk cache (place_of_rule rule)) (length session.desk.handles)
      answer
      → AddAnswer None (length session.desk.handles) answer
  handle-answer cache rule good answer h =
      handle-allowed session.desk _ answer cache (place_of_rule rule) (not_started (handle-no_event items cache rule good))
      (ap (λ (v : List Loader). nat_lt cache (length v)) loaders-same ∙ handle-cache items cache rule good)
      (ap (λ (s : Setup ScriptRule). nat_lt (place_of_rule rule) (length s.rules)) stands.setup ∙ rule-placed items rule)
      h

  pub handle-out_of_memory : (cache : ℕ) (rule : ScriptRule) (e : AddError)
      → item_error items (item.Handle cache rule) ≡ None
      → AddAnswer (handle_refusal session.desk cache (place_of_rule rule)) (length session.desk.handles)
      (Err e)
      → e ≡ AddError.OutOfMemory
  handle-out_of_memory cache rule e good h = handle-answer cache rule good (Err e) h

  pub handle-number : (cache : ℕ) (rule : ScriptRule) (n : ℕ)
      → item_error items (item.Handle cache rule) ≡ None
      → AddAnswer (handle_refusal session.desk cache (place_of_rule rule)) (length session.desk.handles)
      (Ok n)
      → n ≡ length (setup_in items).handles
  handle-number cache rule n good h = handle-answer cache rule good (Ok n) h ∙ ap (λ (v : List Handle). length v) handles-same

-- a desk with the two rules alone stands before the first line
pub first-line : (session : SessionState)
    → setup_of session.desk ≡ record { loaders = []; rules = Now ∷ Cred ∷ []; handles = [] }
    → Represents script_policy session.desk [] → session.had_event ≡ false → RepresentsItems session []
unfolding setup_in events_in expected_entries
first-line session setup fresh none = record { setup = setup; stepped = []; events = refl; represents = fresh; note = none }

-- a reply that isn't out of memory
pub not-out_of_memory : (reply : Reply ScriptCredential) → is_out_of_memory reply ≡ false
    → reply ≡ OutOfMemory → ⊥
not-out_of_memory reply good lost = let e : is_out_of_memory reply ≡ true = ap (λ (r : Reply ScriptCredential). is_out_of_memory r) lost in absurd (cc)

-- the note of a version leaves what a session represents
noted : (session : SessionState) (items : List ScriptItem) (version : Option ScriptVersion)
    → RepresentsItems session items → RepresentsItems (record session { version = version }) items
noted session items version r = record { setup = r.setup; stepped = r.stepped; events = r.events; represents = r.represents; note = r.note }

-- after the version line
pub next-version : (inside session : SessionState) → inside ≡ session → SessionRepresents session []
    → SessionRepresents (record inside { version = Some Two }) (VersionTwo ∷ [])
unfolding items_in
next-version inside session seen r = record { items = noted inside [] (Some Two) (as_seen inside session [] seen r.items); version = refl }

-- after a line that says something
pub next-says : (inside session : SessionState) (lines : List ScriptLine) (item : ScriptItem)
    (version : ScriptVersion) → inside ≡ session → RepresentsItems session (items_in lines ++ item ∷ [])
    → Some version ≡ Some (version_in lines)
    → SessionRepresents (record inside { version = Some version }) (lines ++ Says item ∷ [])
next-says inside session lines item version seen r v =
    let P : List ScriptItem → Type 0 = λ items. RepresentsItems (record inside { version = Some version }) items in record {
      items = subst P (sym (items_in-says lines item)) (noted inside _ (Some version) (as_seen inside session _ seen r));
      version = v ∙ sym (version_after-says lines item);
    }

-- a session before the first line
pub first_session : (desk : DeskState ScriptCredential ScriptRule)
    → setup_of desk ≡ record { loaders = []; rules = Now ∷ Cred ∷ []; handles = [] }
    → Represents script_policy desk []
    → SessionRepresents (record { desk = desk; had_event = false; version = None }) []
unfolding items_in
first_session desk setup fresh = record { items = first-line (record { desk = desk; had_event = false; version = None }) setup fresh refl; version = refl }
