-- A session after one more line represents the account with this line.
use Rattle.std.proofs.Common.{◌≡◌, ◌<◌, ◌+◌, ℕ, arith, Bool, true, false, nat_lt, List, [], ◌∷◌, ◌++◌, length, Option, Some, None, option_map, Result, Ok, Err, if◌then◌else◌, refl, sym, ap, ◌∙◌, subst}
use Rattle.std.proofs.lemmas.List.{append-nil, map-append, length-append}
use Rattle.sign_io.specs.Lines.{input_limit}
use Rattle.sequential_signer.specs.Setup.{Setup, Handle}
use Rattle.sequential_signer.specs.Transcript.{committed_entries}
use Rattle.sequential_signer.specs.ExpectedReply.{expected_reply}
use Rattle.sequential_signer.specs.declared.event.Entry.{Entry}
use Rattle.sequential_signer.specs.declared.event.Event.{Event}
use Rattle.sequential_signer.specs.declared.event.Loader.{Loader}
use Rattle.sequential_signer.specs.declared.event.Reply.{Reply}
use Rattle.sequential_signer.specs.declared.event.Reply.TheVariants as reply
use Rattle.sign_desk.specs.DeskState.{DeskState, Represents, with_cache}
use Rattle.desk_parts.specs.Tables.{setup_of}
use Rattle.desk_parts.specs.Adding.{with_handle, AddAnswer, late_refusal, handle_refusal}
use Rattle.desk_parts.specs.declared.adding.AddError.{AddError}
use Rattle.desk_parts.specs.declared.limits.TheConstants.{MOST_ROWS}
use Rattle.desk_parts.proofs.AddAnswers.{cache-allowed, handle-allowed}
use Rattle.sign_audit.specs.AuditState.{AuditState, AuditRepresents}
use Rattle.line_words.specs.declared.read_error.LineError.{LineError}
use Rattle.line_words.specs.declared.moment.ScriptVersion.{ScriptVersion}
use Rattle.signctl_format.specs.declared.credential.ScriptCredential.{ScriptCredential}
use Rattle.signctl_format.specs.declared.credential.ScriptRule.{ScriptRule}
use Rattle.signctl_format.specs.declared.item.Item.TheVariants as item
use Rattle.signctl_format.specs.Policy.{script_policy}
use Rattle.signctl_format.specs.ScriptEvents.{ScriptItem, plain_event}
use Rattle.signctl_format.specs.ScriptSetup.{is_empty, place_of_rule, setup_in, events_in, item_error}
use Rattle.signctl_format.proofs.SetupIn.{setup_in-silent, setup_in-cache, setup_in-handle, setup_in-event, events_in-more, rule-placed, caches-few, handles-few, cache-no_event, handle-no_event, handle-cache}
use Rattle.signctl_audit.specs.Account.{Account, reply_due, subject_of, unclaimed_with, subject_in, is_missed, claimed_entry, entries_with, with_item, with_claim, counted}
use Rattle.signctl_audit.specs.AuditReading.{overdue, missing_claim, script_error, audit_item_error}
use Rattle.signctl_audit.specs.SessionState.{SessionState, plain_entries, IsNoEvent, IsSetUp, IsAudited, HasSigner, RepresentsAccount}
use Rattle.signctl_audit.specs.declared.audit_error.AuditError.{AuditError}
use Rattle.signctl_audit.specs.declared.audit_line.Subject.{Subject}
use Rattle.signctl_audit.specs.declared.audit_line.Subject.TheVariants.{Cache, Handle as MadeHandle, Event as Happened}
use Rattle.signctl_audit.specs.declared.audit_line.Unclaimed.{Unclaimed}
use Rattle.signctl_audit.specs.declared.claimed_reply.ClaimedReply.{ClaimedReply}
use Rattle.signctl_audit.specs.declared.log_stage.LogStage.{LogStage}
use Rattle.signctl_audit.specs.declared.log_stage.LogStage.TheVariants as log
use Rattle.signctl_audit.proofs.PlainEntries.{reply-plain}

-- a session that is seen so represents what it is seen as
pub as_seen : (inside session : SessionState) (a : Account) → inside ≡ session → RepresentsAccount session a
    → RepresentsAccount inside a
as_seen inside session a seen stands = let P : SessionState → Type 0 = λ s. RepresentsAccount s a in subst P (sym seen) stands

-- and so it has the signer of what it is seen as
pub signer-seen : (inside session : SessionState) (a : Account) → inside ≡ session
    → HasSigner session.stage a → HasSigner inside.stage a
signer-seen inside session a seen signer = subst (λ (s : SessionState). HasSigner s.stage a) (sym seen) signer

-- ---- what a good item says

none_before : (error : Option LineError) (missing : Option AuditError) → script_error error missing ≡ None
    → (error ≡ None) × (missing ≡ None)
none_before None missing h = (refl, h)
none_before (Some why) missing h = absurd cc

-- a good item is good in a script
pub good-item : (a : Account) (x : ScriptItem) → audit_item_error a x ≡ None → item_error a.items x ≡ None
good-item a x h = (none_before (item_error a.items x) _ h).0

-- no line wants its claim any more
not_overdue : (unclaimed : Option Unclaimed) → overdue unclaimed ≡ None → unclaimed ≡ None
not_overdue None h = refl
not_overdue (Some unclaimed) h = absurd cc

-- so it is where a good item makes something
pub none-wanted : (a : Account) (x : ScriptItem) (subject : Subject) → subject_of a.items x ≡ Some subject
    → audit_item_error a x ≡ None → a.unclaimed ≡ None
none-wanted a x subject makes h =
    let P : Option Subject → Type 0 = λ made. missing_claim made a.unclaimed ≡ None in
    not_overdue a.unclaimed (subst P makes (none_before (item_error a.items x) _ h).1)

empty_is : {A : Type 0} (xs : List A) → is_empty xs ≡ true → xs ≡ []
empty_is [] h = refl
empty_is (x ∷ rest) h = absurd cc

-- a good cache or handle line comes before the first event
pub cache-first : (a : Account) (loader : Loader) → audit_item_error a (item.Cache loader) ≡ None
    → events_in a.items ≡ []
cache-first a loader h = empty_is (events_in a.items) (cache-no_event a.items loader (good-item a (item.Cache loader) h))

pub handle-first : (a : Account) (cache : ℕ) (rule : ScriptRule)
    → audit_item_error a (item.Handle cache rule) ≡ None → events_in a.items ≡ []
handle-first a cache rule h = empty_is (events_in a.items) (handle-no_event a.items cache rule (good-item a (item.Handle cache rule) h))

-- the signer of a session at either stage
pub set_up : (desk : DeskState ScriptCredential ScriptRule) (stage : LogStage) (a : Account)
    → HasSigner stage a → stage ≡ log.Setup desk → IsSetUp desk a
set_up desk stage a h e = subst (λ (s : LogStage). HasSigner s a) e h

pub audited : (audit : AuditState ScriptCredential ScriptRule) (stage : LogStage) (a : Account)
    → HasSigner stage a → stage ≡ log.Judging audit → IsAudited audit a
audited audit stage a h e = subst (λ (s : LogStage). HasSigner s a) e h

-- ---- a silent line

silent-signer : (a : Account) (stage : LogStage) → HasSigner stage a
    → HasSigner stage (with_item a item.Silent)
silent-signer a (log.Setup desk) h = record {
  setup = h.setup ∙ sym (setup_in-silent a.items);
  fresh = h.fresh;
  no_event = events_in-more a.items item.Silent ∙ append-nil (events_in a.items) ∙ h.no_event;
  no_entries = h.no_entries;
  no_claim = h.no_claim;
}
silent-signer a (log.Judging audit) h = record {
  setup = h.setup ∙ sym (setup_in-silent a.items);
  begun = ap (λ (v : List (Event ScriptCredential)). is_empty v) (events_in-more a.items item.Silent ∙ append-nil (events_in a.items)) ∙ h.begun;
  stepped = h.stepped;
  entries = h.entries;
  represents = h.represents;
}

pub next-silent : (session : SessionState) (a : Account) → RepresentsAccount session a
    → RepresentsAccount session (with_item a item.Silent)
next-silent session a stands = record {
  lines = stands.lines;
  caches = stands.caches ∙ ap (λ (s : Setup ScriptRule). length s.loaders) (sym (setup_in-silent a.items));
  events = stands.events ∙ ap (λ (v : List (Event ScriptCredential)). length v) (sym (events_in-more a.items item.Silent ∙ append-nil (events_in a.items)));
  version = stands.version;
  unclaimed = stands.unclaimed;
  signer = silent-signer a session.stage stands.signer;
}

-- ---- caches and handles

-- a desk that is set up further, before the first event
more_set_up : (new : DeskState ScriptCredential ScriptRule) (a : Account) (x : ScriptItem) (subject : Subject)
    → subject_of a.items x ≡ Some subject → IsNoEvent (Some subject) → a.entries ≡ []
    → events_in (a.items ++ x ∷ []) ≡ [] → setup_of new ≡ setup_in (a.items ++ x ∷ [])
    → Represents script_policy new [] → IsSetUp new (with_item a x)
more_set_up new a x subject makes no_event entries events setup fresh = record {
  setup = setup;
  fresh = fresh;
  no_event = events;
  no_entries = entries;
  no_claim =
      let P : Option Subject → Type 0 = λ made. IsNoEvent (option_map (λ (u : Unclaimed). u.subject) (unclaimed_with (a.lines + 1) a.unclaimed made)) in
      subst P (sym makes) no_event;
}

silent_events : (a : Account) (x : ScriptItem) → events_in (a.items ++ x ∷ []) ≡ events_in a.items ++ []
    → events_in (a.items ++ x ∷ []) ≡ events_in a.items
silent_events a x e = e ∙ append-nil (events_in a.items)

-- a line that is answered wants its claim about this
abbrev pub IsWanted : Unclaimed → ℕ → Subject → Type 0
IsWanted wanted lines subject = wanted ≡ record { line = lines + 1; subject = subject }

wants : (wanted : Unclaimed) (lines : ℕ) (a : Account) (x : ScriptItem) (subject due : Subject)
    → IsWanted wanted lines subject → lines ≡ a.lines → subject ≡ due → subject_of a.items x ≡ Some due
    → Some wanted ≡ (with_item a x).unclaimed
wants wanted lines a x subject due is counts same makes =
    ap (λ (u : Unclaimed). Some u) is
    ∙ ap (λ (n : ℕ). let u : Unclaimed = record { line = n + 1; subject = subject } in Some u) counts
    ∙ ap (λ (s : Subject). let u : Unclaimed = record { line = a.lines + 1; subject = s } in Some u) same
    ∙ ap (λ (made : Option Subject). unclaimed_with (a.lines + 1) a.unclaimed made) (sym makes)

-- one cache more
pub next-cache : (session : SessionState) (a : Account) (loader : Loader)
    (desk new : DeskState ScriptCredential ScriptRule) (n : ℕ) (wanted : Unclaimed)
    → RepresentsAccount session a → audit_item_error a (item.Cache loader) ≡ None → session.stage ≡ log.Setup desk
    → new ≡ with_cache loader desk → Represents script_policy new [] → n ≡ length (setup_in a.items).loaders
    → IsWanted wanted session.lines (Cache n)
    → RepresentsAccount
    (record session { stage = log.Setup new; caches = session.caches + 1; unclaimed = Some wanted })
    (with_item a (item.Cache loader))
next-cache session a loader desk new n wanted stands good kept added fresh number is_wanted =
    let none = cache-first a loader good in
    let was = set_up desk session.stage a stands.signer kept in
    let same = silent_events a (item.Cache loader) (events_in-more a.items (item.Cache loader)) in
    let grown : setup_in (a.items ++ item.Cache loader ∷ []) ≡ record (setup_in a.items) { loaders = (setup_in a.items).loaders ++ loader ∷ [] } = setup_in-cache a.items loader in
    let is : IsSetUp new (with_item a (item.Cache loader)) =
    more_set_up new a (item.Cache loader) (Cache (length (setup_in a.items).loaders)) refl tt was.no_entries (same ∙ none)
    (ap (λ (d : DeskState ScriptCredential ScriptRule). setup_of d) added
    ∙ ap (λ (s : Setup ScriptRule). record s { loaders = s.loaders ++ loader ∷ [] }) was.setup
    ∙ sym grown)
    fresh in
    let longer : length (setup_in (a.items ++ item.Cache loader ∷ [])).loaders ≡ length (setup_in a.items).loaders + 1 =
    ap (λ (s : Setup ScriptRule). length s.loaders) grown ∙ length-append (setup_in a.items).loaders (loader ∷ []) in record {
      lines = stands.lines;
      caches = omega (arith, stands.caches, longer);
      events = stands.events ∙ ap (λ (v : List (Event ScriptCredential)). length v) (sym same);
      version = stands.version;
      unclaimed = wants wanted session.lines a (item.Cache loader) (Cache n) (Cache (length (setup_in a.items).loaders)) is_wanted stands.lines (ap (λ k. Cache k) number) refl;
      signer = is;
    }

-- one handle more
pub next-handle : (session : SessionState) (a : Account) (cache : ℕ) (rule : ScriptRule)
    (desk new : DeskState ScriptCredential ScriptRule) (n : ℕ) (wanted : Unclaimed)
    → RepresentsAccount session a → audit_item_error a (item.Handle cache rule) ≡ None
    → session.stage ≡ log.Setup desk → new ≡ with_handle cache (place_of_rule rule) desk
    → Represents script_policy new [] → n ≡ length (setup_in a.items).handles
    → IsWanted wanted session.lines (MadeHandle n)
    → RepresentsAccount (record session { stage = log.Setup new; unclaimed = Some wanted })
    (with_item a (item.Handle cache rule))
next-handle session a cache rule desk new n wanted stands good kept added fresh number is_wanted =
    let none = handle-first a cache rule good in
    let was = set_up desk session.stage a stands.signer kept in
    let same = silent_events a (item.Handle cache rule) (events_in-more a.items (item.Handle cache rule)) in
    let handle : Handle = record { cache = cache; rule = place_of_rule rule } in
    let grown : setup_in (a.items ++ item.Handle cache rule ∷ []) ≡ record (setup_in a.items) { handles = (setup_in a.items).handles ++ handle ∷ [] } = setup_in-handle a.items cache rule in
    let is : IsSetUp new (with_item a (item.Handle cache rule)) =
    more_set_up new a (item.Handle cache rule) (MadeHandle (length (setup_in a.items).handles)) refl tt was.no_entries (same ∙ none)
    (ap (λ (d : DeskState ScriptCredential ScriptRule). setup_of d) added
    ∙ ap (λ (s : Setup ScriptRule). record s { handles = s.handles ++ handle ∷ [] }) was.setup
    ∙ sym grown)
    fresh in record {
      lines = stands.lines;
      caches = stands.caches ∙ ap (λ (s : Setup ScriptRule). length s.loaders) (sym grown);
      events = stands.events ∙ ap (λ (v : List (Event ScriptCredential)). length v) (sym same);
      version = stands.version;
      unclaimed = wants wanted session.lines a (item.Handle cache rule) (MadeHandle n) (MadeHandle (length (setup_in a.items).handles)) is_wanted stands.lines (ap (λ k. MadeHandle k) number) refl;
      signer = is;
    }

-- the caches of a desk that is set up are those of the lines, and so are its handles
pub loaders-same : (desk : DeskState ScriptCredential ScriptRule) (a : Account) → IsSetUp desk a
    → desk.loaders ≡ (setup_in a.items).loaders
loaders-same desk a stands = ap (λ (s : Setup ScriptRule). s.loaders) stands.setup

handles-same : (desk : DeskState ScriptCredential ScriptRule) (a : Account) → IsSetUp desk a
    → desk.handles ≡ (setup_in a.items).handles
handles-same desk a stands = ap (λ (s : Setup ScriptRule). s.handles) stands.setup

-- there is a number for one cache more
pub caches-fit : (desk : DeskState ScriptCredential ScriptRule) (a : Account) → IsSetUp desk a
    → length a.items < input_limit → length desk.loaders < MOST_ROWS
caches-fit desk a stands few = omega (arith, few, caches-few a.items, ap (λ (v : List Loader). length v) (loaders-same desk a stands))

-- and for one handle more
pub handles-fit : (desk : DeskState ScriptCredential ScriptRule) (a : Account) → IsSetUp desk a
    → length a.items < input_limit → length desk.handles < MOST_ROWS
handles-fit desk a stands few = omega (arith, few, handles-few a.items, ap (λ (v : List Handle). length v) (handles-same desk a stands))

not_started : (desk : DeskState ScriptCredential ScriptRule) (a : Account) → IsSetUp desk a
    → desk.started ≡ false
unfolding committed_entries
not_started desk a stands = stands.fresh.started

-- the one refusal of a new cache is out of memory, and its number counts those before it
cache-answer : (desk : DeskState ScriptCredential ScriptRule) (a : Account) → IsSetUp desk a
    → (answer : Result ℕ AddError) → AddAnswer (late_refusal desk) (length desk.loaders) answer
    → AddAnswer None (length desk.loaders) answer
cache-answer desk a stands answer h = cache-allowed desk _ answer (not_started desk a stands) h

pub cache-out_of_memory : (desk : DeskState ScriptCredential ScriptRule) (a : Account) (e : AddError)
    → IsSetUp desk a → AddAnswer (late_refusal desk) (length desk.loaders) (Err e) → e ≡ AddError.OutOfMemory
cache-out_of_memory desk a e stands h = cache-answer desk a stands (Err e) h

pub cache-number : (desk : DeskState ScriptCredential ScriptRule) (a : Account) (n : ℕ) → IsSetUp desk a
    → AddAnswer (late_refusal desk) (length desk.loaders) (Ok n) → n ≡ length (setup_in a.items).loaders
cache-number desk a n stands h = cache-answer desk a stands (Ok n) h ∙ ap (λ (v : List Loader). length v) (loaders-same desk a stands)

-- so it is with a new handle, whose cache and whose rule are there
handle-answer : (desk : DeskState ScriptCredential ScriptRule) (a : Account) (cache : ℕ) (rule : ScriptRule)
    → audit_item_error a (item.Handle cache rule) ≡ None → IsSetUp desk a → (answer : Result ℕ AddError)
    → AddAnswer (handle_refusal desk cache (place_of_rule rule)) (length desk.handles) answer
    → AddAnswer None (length desk.handles) answer
handle-answer desk a cache rule good stands answer h =
    handle-allowed desk _ answer cache (place_of_rule rule) (not_started desk a stands)
    (ap (λ (v : List Loader). nat_lt cache (length v)) (loaders-same desk a stands) ∙ handle-cache a.items cache rule (good-item a (item.Handle cache rule) good))
    (ap (λ (s : Setup ScriptRule). nat_lt (place_of_rule rule) (length s.rules)) stands.setup ∙ rule-placed a.items rule)
    h

pub handle-out_of_memory : (desk : DeskState ScriptCredential ScriptRule) (a : Account) (cache : ℕ)
    (rule : ScriptRule) (e : AddError) → audit_item_error a (item.Handle cache rule) ≡ None → IsSetUp desk a
    → AddAnswer (handle_refusal desk cache (place_of_rule rule)) (length desk.handles) (Err e)
    → e ≡ AddError.OutOfMemory
handle-out_of_memory desk a cache rule e good stands h = handle-answer desk a cache rule good stands (Err e) h

pub handle-number : (desk : DeskState ScriptCredential ScriptRule) (a : Account) (cache : ℕ)
    (rule : ScriptRule) (n : ℕ) → audit_item_error a (item.Handle cache rule) ≡ None → IsSetUp desk a
    → AddAnswer (handle_refusal desk cache (place_of_rule rule)) (length desk.handles) (Ok n)
    → n ≡ length (setup_in a.items).handles
handle-number desk a cache rule n good stands h = handle-answer desk a cache rule good stands (Ok n) h ∙ ap (λ (v : List Handle). length v) (handles-same desk a stands)

-- ---- events

-- an event has happened
begun_by : (a : Account) (event : Event ScriptCredential)
    → is_empty (events_in (a.items ++ item.Event event ∷ [])) ≡ false
begun_by a event = ap (λ (v : List (Event ScriptCredential)). is_empty v) (events_in-more a.items (item.Event event)) ∙ not_empty (events_in a.items) event
  where
    not_empty : (xs : List (Event ScriptCredential)) (x : Event ScriptCredential)
        → is_empty (xs ++ x ∷ []) ≡ false
    not_empty [] x = refl
    not_empty (y ∷ rest) x = refl

-- the first event begins the audit
pub first-signer : (desk : DeskState ScriptCredential ScriptRule)
    (audit : AuditState ScriptCredential ScriptRule) (a : Account) (event : Event ScriptCredential)
    → IsSetUp desk a → audit.desk ≡ desk → AuditRepresents script_policy audit []
    → IsAudited audit (with_item a (item.Event event))
first-signer desk audit a event stands same fresh = record {
  setup = ap (λ (d : DeskState ScriptCredential ScriptRule). setup_of d) same ∙ stands.setup ∙ sym (setup_in-event a.items event);
  begun = begun_by a event;
  stepped = [];
  entries = sym stands.no_entries;
  represents = fresh;
}

-- a later one leaves it
later-signer : (audit : AuditState ScriptCredential ScriptRule) (a : Account)
    (event : Event ScriptCredential) → IsAudited audit a → IsAudited audit (with_item a (item.Event event))
later-signer audit a event stands = record {
  setup = stands.setup ∙ sym (setup_in-event a.items event);
  begun = begun_by a event;
  stepped = stands.stepped;
  entries = stands.entries;
  represents = stands.represents;
}

pub later-stage : (audit : AuditState ScriptCredential ScriptRule) (stage : LogStage) (a : Account)
    (event : Event ScriptCredential) → stage ≡ log.Judging audit → HasSigner stage a
    → HasSigner stage (with_item a (item.Event event))
later-stage audit stage a event e h = subst (λ (s : LogStage). HasSigner s (with_item a (item.Event event))) (sym e) (later-signer audit a event (audited audit stage a h e))

-- one event more, which waits for its claim
pub next-event : (session : SessionState) (a : Account) (event : Event ScriptCredential)
    (stage : LogStage) (wanted : Unclaimed) → RepresentsAccount session a
    → HasSigner stage (with_item a (item.Event event)) → IsWanted wanted session.lines (Happened event)
    → RepresentsAccount
    (record session { stage = stage; events = session.events + 1; unclaimed = Some wanted })
    (with_item a (item.Event event))
next-event session a event stage wanted stands signer is_wanted =
    let more : length (events_in (a.items ++ item.Event event ∷ [])) ≡ length (events_in a.items) + 1 =
    ap (λ (v : List (Event ScriptCredential)). length v) (events_in-more a.items (item.Event event)) ∙ length-append (events_in a.items) (event ∷ []) in record {
      lines = stands.lines;
      caches = stands.caches ∙ ap (λ (s : Setup ScriptRule). length s.loaders) (sym (setup_in-event a.items event));
      events = omega (arith, stands.events, more);
      version = stands.version;
      unclaimed = wants wanted session.lines a (item.Event event) (Happened event) (Happened event) is_wanted stands.lines refl refl;
      signer = signer;
    }

-- ---- claims

-- the entry that was claimed, as the audit has it and as the lines have it
entry-plain : (setup : Setup ScriptRule) (a : Account) (stepped : List (Entry ScriptCredential))
    (event : Event ScriptCredential) (claimed : ClaimedReply) (missed : Bool) → setup ≡ setup_in a.items
    → plain_entries stepped ≡ a.entries → missed ≡ is_missed claimed
    → plain_entries
    (record { event = event; reply = if missed then reply.OutOfMemory else expected_reply script_policy setup (committed_entries stepped) event }
    ∷ [])
    ≡ claimed_entry a (plain_event event) claimed ∷ []
entry-plain setup a stepped event claimed missed is_setup are says =
    ap (λ (r : Reply ScriptCredential). plain (if missed then reply.OutOfMemory else r)) due
    ∙ ap (λ (b : Bool). plain (if b then reply.OutOfMemory else reply_due a (plain_event event))) says
  where
    due : expected_reply script_policy setup (committed_entries stepped) event
        ≡ reply_due a (plain_event event)
    due =
        sym (reply-plain setup stepped event)
        ∙ ap (λ (s : Setup ScriptRule). expected_reply script_policy s (committed_entries (plain_entries stepped)) (plain_event event)) is_setup
        ∙ ap (λ (t : List (Entry ScriptCredential)). expected_reply script_policy (setup_in a.items) (committed_entries t) (plain_event event)) are

    plain : Reply ScriptCredential → List (Entry ScriptCredential)
    plain r = record { event = plain_event event; reply = r } ∷ []

-- one claim of an event more
pub next-entry : (audit new : AuditState ScriptCredential ScriptRule) (a : Account)
    (event : Event ScriptCredential) (claimed : ClaimedReply) (missed : Bool) (stands : IsAudited audit a)
    → subject_in a ≡ Some (Happened (plain_event event)) → missed ≡ is_missed claimed
    → setup_of new.desk ≡ setup_of audit.desk
    → AuditRepresents script_policy new
    (stands.stepped
    ++ record { event = event; reply = if missed then reply.OutOfMemory else expected_reply script_policy (setup_of audit.desk) (committed_entries stands.stepped) event }
    ∷ [])
    → IsAudited new (with_claim a claimed)
next-entry audit new a event claimed missed stands about says setup represents =
    let entry : Entry ScriptCredential = record { event = event; reply = if missed then reply.OutOfMemory else expected_reply script_policy (setup_of audit.desk) (committed_entries stands.stepped) event } in record {
      setup = setup ∙ stands.setup;
      begun = stands.begun;
      stepped = stands.stepped ++ entry ∷ [];
      entries =
          map-append (λ (e : Entry ScriptCredential). let x : Entry ScriptCredential = record { event = plain_event e.event; reply = e.reply } in x) stands.stepped (entry ∷ [])
          ∙ ap (λ (v : List (Entry ScriptCredential)). v ++ plain_entries (entry ∷ [])) stands.entries
          ∙ ap (λ (v : List (Entry ScriptCredential)). a.entries ++ v) (entry-plain (setup_of audit.desk) a stands.stepped event claimed missed stands.setup stands.entries says)
          ∙ ap (λ (s : Option Subject). entries_with a claimed s) (sym about);
      represents = represents;
    }

-- ---- the line counts

counted-signer : (a : Account) (version : ScriptVersion) (stage : LogStage) → HasSigner stage a
    → HasSigner stage (counted version a)
counted-signer a version (log.Setup desk) h = record { setup = h.setup; fresh = h.fresh; no_event = h.no_event; no_entries = h.no_entries; no_claim = h.no_claim }
counted-signer a version (log.Judging audit) h = record { setup = h.setup; begun = h.begun; stepped = h.stepped; entries = h.entries; represents = h.represents }

pub next-counted : (session : SessionState) (a : Account) (version : ScriptVersion)
    → RepresentsAccount session a
    → RepresentsAccount (record session { lines = session.lines + 1; version = Some version })
    (counted version a)
next-counted session a version stands = record {
  lines = ap (λ (n : ℕ). n + 1) stands.lines;
  caches = stands.caches;
  events = stands.events;
  version = refl;
  unclaimed = stands.unclaimed;
  signer = counted-signer a version session.stage stands.signer;
}
