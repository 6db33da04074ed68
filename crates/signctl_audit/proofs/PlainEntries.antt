-- Entries as lines have them, and those that the audit was given, are alike: they differ in how durations are
-- stored alone.
use Rattle.std.proofs.Common.{◌≡◌, ℕ, suc, Bool, true, false, not, List, [], ◌∷◌, length, filter, Option, Some, None, refl, ap, ◌∙◌}
use Rattle.sign_base.specs.declared.call_id.CallId.{CallId}
use Rattle.sign_base.specs.Calls.{same_call}
use Rattle.sequential_signer.specs.Replies.{is_ask, is_sign, is_refused, is_cancelled}
use Rattle.sequential_signer.specs.Setup.{Setup, cache_of}
use Rattle.sequential_signer.specs.Transcript.{call_of, is_about, is_out_of_memory, entries_of, committed_entries}
use Rattle.sequential_signer.specs.Phase.{is_poll}
use Rattle.sequential_signer.specs.Turn.{first_of_each, before_call, is_poll_at, ends_hold, poll_order, calls_ahead, hold_is_finished}
use Rattle.sequential_signer.specs.ExpectedReply.{expected_reply}
use Rattle.sequential_signer.specs.Legal.{allocates}
use Rattle.sequential_signer.specs.declared.event.Answer.TheVariants as answer
use Rattle.sequential_signer.specs.declared.event.Entry.{Entry}
use Rattle.sequential_signer.specs.declared.event.Event.{Event}
use Rattle.sequential_signer.specs.declared.event.Event.TheVariants.{Begin, Poll, Provided, Signed, Cancel}
use Rattle.sequential_signer.specs.declared.event.Reply.{Reply}
use Rattle.sequential_signer.specs.declared.event.Verdict.TheVariants as verdict
use Rattle.sequential_signer.proofs.Lists.{filter-same}
use Rattle.sequential_signer.proofs.Pairwise.{Pairwise, none, more, map-pairwise, filter-pairwise, list_any-pairwise}
use Rattle.sequential_signer.proofs.StoredDurations.{AreAlike, begins, equal, AlikeTranscripts, phase_of-alike, is_new_number-alike, expected_reply-alike, expected_reply-with_events}
use Rattle.sign_audit.specs.Blockers.{open_ahead, blockers_of}
use Rattle.sign_audit.specs.Counts.{is_kind_at, number_at, counts_of}
use Rattle.signctl_format.specs.declared.credential.ScriptCredential.{ScriptCredential}
use Rattle.signctl_format.specs.declared.credential.ScriptRule.{ScriptRule}
use Rattle.signctl_format.specs.Policy.{script_policy}
use Rattle.signctl_format.specs.ScriptEvents.{plain_event}
use Rattle.signctl_format.proofs.PlainEvents.{plain_event-alike}
use Rattle.signctl_audit.specs.SessionState.{plain_entries}

-- ---- events

-- the call is the same
pub call_of-plain : (event : Event ScriptCredential) → call_of (plain_event event) ≡ call_of event
call_of-plain (Begin call head d) = refl
call_of-plain (Poll call now) = refl
call_of-plain (Provided call now given) = refl
call_of-plain (Signed call given) = refl
call_of-plain (Cancel call) = refl

-- ---- entries

plain-alike : (entries : List (Entry ScriptCredential)) → AlikeTranscripts (plain_entries entries) entries
plain-alike [] = none
plain-alike (e ∷ rest) = more (record { event = plain_event-alike e.event; reply = refl }) (plain-alike rest)

committed-more : (e : Entry ScriptCredential) (rest : List (Entry ScriptCredential)) (b : Bool)
    → not (is_out_of_memory e.reply) ≡ b
    → committed_entries (plain_entries rest) ≡ plain_entries (committed_entries rest)
    → committed_entries (plain_entries (e ∷ rest)) ≡ plain_entries (committed_entries (e ∷ rest))
unfolding committed_entries
committed-more e rest true h so_far = rw (h, so_far) refl
committed-more e rest false h so_far = rw (h, so_far) refl

-- the same entries are committed
pub committed-plain : (entries : List (Entry ScriptCredential))
    → committed_entries (plain_entries entries) ≡ plain_entries (committed_entries entries)
unfolding committed_entries
committed-plain [] = refl
committed-plain (e ∷ rest) = committed-more e rest (not (is_out_of_memory e.reply)) refl (committed-plain rest)

-- ---- replies

-- an event has the same expected reply
pub reply-plain : (setup : Setup ScriptRule) (entries : List (Entry ScriptCredential))
    (event : Event ScriptCredential)
    → expected_reply script_policy setup (committed_entries (plain_entries entries)) (plain_event event)
    ≡ expected_reply script_policy setup (committed_entries entries) event
reply-plain setup entries event =
    ap (λ (t : List (Entry ScriptCredential)). expected_reply script_policy setup t (plain_event event)) (committed-plain entries)
    ∙ expected_reply-with_events script_policy setup plain_event plain_event-alike (committed_entries entries) event

allocates-alike : (setup : Setup ScriptRule) (a b : List (Entry ScriptCredential)) → AlikeTranscripts a b
    → (event : Event ScriptCredential)
    → allocates script_policy setup a (plain_event event) ≡ allocates script_policy setup b event
allocates-alike setup a b alike (Begin call head d) = rw (is_new_number-alike alike call) refl
allocates-alike setup a b alike (Poll call now) = rw (phase_of-alike alike call, expected_reply-alike script_policy setup alike (equal (Poll call now))) refl
allocates-alike setup a b alike (Provided call now (answer.Found c)) = rw (phase_of-alike alike call) refl
allocates-alike setup a b alike (Provided call now answer.Missing) = rw (phase_of-alike alike call) refl
allocates-alike setup a b alike (Provided call now (answer.Failed e)) = rw (phase_of-alike alike call) refl
allocates-alike setup a b alike (Signed call (verdict.Accepted head)) = rw (phase_of-alike alike call) refl
allocates-alike setup a b alike (Signed call (verdict.Failed e)) = rw (phase_of-alike alike call) refl
allocates-alike setup a b alike (Cancel call) = rw (phase_of-alike alike call) refl

-- it may run out of memory alike
pub allocates-plain : (setup : Setup ScriptRule) (entries : List (Entry ScriptCredential))
    (event : Event ScriptCredential)
    → allocates script_policy setup (committed_entries (plain_entries entries)) (plain_event event)
    ≡ allocates script_policy setup (committed_entries entries) event
allocates-plain setup entries event =
    ap (λ (t : List (Entry ScriptCredential)). allocates script_policy setup t (plain_event event)) (committed-plain entries)
    ∙ allocates-alike setup (plain_entries (committed_entries entries)) (committed_entries entries) (plain-alike (committed_entries entries)) event

-- ---- blockers

calls-alike : {p q : Event ScriptCredential} → AreAlike p q → call_of p ≡ call_of q
calls-alike (begins _ _ _ _ _) = refl
calls-alike (equal _) = refl

is_poll-alike : {p q : Event ScriptCredential} → AreAlike p q → is_poll p ≡ is_poll q
is_poll-alike (begins _ _ _ _ _) = refl
is_poll-alike (equal _) = refl

module _ (setup : Setup ScriptRule) (a b : List (Entry ScriptCredential)) (alike : AlikeTranscripts a b) where
  finished-alike : (call : CallId) → hold_is_finished a call ≡ hold_is_finished b call
  unfolding hold_is_finished entries_of
  finished-alike call =
      list_any-pairwise (λ (e : Entry ScriptCredential). ends_hold e.reply) (λ x y h. ap ends_hold h.reply)
      (filter-pairwise (is_about call) (λ x y h. ap (same_call call) (calls-alike h.event)) alike)

  order-alike : (i : ℕ) → poll_order setup a i ≡ poll_order setup b i
  unfolding poll_order
  order-alike i =
      ap first_of_each
      (map-pairwise (λ (e : Entry ScriptCredential). call_of e.event) (λ x y h. calls-alike h.event)
      (filter-pairwise (is_poll_at setup i) (λ x y h. rw (is_poll-alike h.event, h.reply, calls-alike h.event) refl) alike))

  ahead-alike : (call : CallId) (cache : Option ℕ)
      → open_ahead setup a call cache ≡ open_ahead setup b call cache
  ahead-alike call None = refl
  ahead-alike call (Some i) =
      ap (λ (order : List CallId). filter (λ other. not (hold_is_finished a other)) (before_call call order)) (order-alike i)
      ∙ filter-same (λ other. not (hold_is_finished a other)) (λ other. not (hold_is_finished b other))
      (λ other. ap not (finished-alike other)) (calls_ahead setup b i call)

  blockers-alike : (call : CallId) → blockers_of setup a call ≡ blockers_of setup b call
  blockers-alike call = rw (phase_of-alike alike call, ahead-alike call (cache_of setup call)) refl

-- a call waits for the same calls
pub blockers-plain : (setup : Setup ScriptRule) (entries : List (Entry ScriptCredential)) (call : CallId)
    → blockers_of setup (committed_entries (plain_entries entries)) call
    ≡ blockers_of setup (committed_entries entries) call
blockers-plain setup entries call =
    ap (λ (t : List (Entry ScriptCredential)). blockers_of setup t call) (committed-plain entries)
    ∙ blockers-alike setup (plain_entries (committed_entries entries)) (committed_entries entries) (plain-alike (committed_entries entries)) call

-- ---- counts

same_length : {R : Entry ScriptCredential → Entry ScriptCredential → Type 0}
    {xs ys : List (Entry ScriptCredential)} → Pairwise R xs ys → length xs ≡ length ys
same_length none = refl
same_length (more r rest) = ap (λ (n : ℕ). suc n) (same_length rest)

number-plain : (setup : Setup ScriptRule) (i : ℕ) (kind : Reply ScriptCredential → Bool)
    (entries : List (Entry ScriptCredential))
    → number_at setup i kind (plain_entries entries) ≡ number_at setup i kind entries
number-plain setup i kind entries =
    same_length (filter-pairwise (is_kind_at setup i kind) (λ x y h. rw (calls-alike h.event, h.reply) refl) (plain-alike entries))

-- replies are counted alike
pub counts-plain : (setup : Setup ScriptRule) (entries : List (Entry ScriptCredential)) (i : ℕ)
    → counts_of setup (plain_entries entries) i ≡ counts_of setup entries i
counts-plain setup entries i =
    rw (
      number-plain setup i is_ask entries,
      number-plain setup i is_sign entries,
      number-plain setup i is_refused entries,
      number-plain setup i is_cancelled entries,
      number-plain setup i is_out_of_memory entries,
    ) refl
