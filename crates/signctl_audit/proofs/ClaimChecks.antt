-- What an audit says of an event is what the account of the lines says of it.
use Rattle.std.proofs.Common.{◌≡◌, ◌<◌, ◌≤◌, ◌^◌, ℕ, true, false, List, length, sym, ap, ◌∙◌, inl, inr, arith}
use Rattle.std.proofs.lemmas.List.{length-map}
use Rattle.sign_io.specs.Lines.{input_limit}
use Rattle.sign_base.specs.declared.call_id.CallId.{CallId}
use Rattle.sign_base.specs.Calls.{first_of}
use Rattle.sequential_signer.specs.Setup.{Setup}
use Rattle.sequential_signer.specs.Transcript.{call_of, committed_entries, is_out_of_memory}
use Rattle.sequential_signer.specs.Phase.{is_pending}
use Rattle.sequential_signer.specs.ExpectedReply.{expected_reply}
use Rattle.sequential_signer.specs.Legal.{allocates, IsLegalEntry}
use Rattle.sequential_signer.specs.declared.event.Entry.{Entry}
use Rattle.sequential_signer.specs.declared.event.Event.{Event}
use Rattle.sequential_signer.specs.declared.event.Reply.{Reply}
use Rattle.desk_parts.specs.Tables.{setup_of}
use Rattle.sign_audit.specs.AuditState.{AuditState}
use Rattle.sign_audit.specs.Blockers.{blockers_of}
use Rattle.sign_audit.specs.Counts.{counts_of}
use Rattle.signctl_format.specs.declared.credential.ScriptCredential.{ScriptCredential}
use Rattle.signctl_format.specs.declared.credential.ScriptRule.{ScriptRule}
use Rattle.signctl_format.specs.Policy.{script_policy}
use Rattle.signctl_format.specs.ScriptEvents.{plain_event}
use Rattle.signctl_format.specs.ScriptSetup.{setup_in}
use Rattle.signctl_audit.specs.Account.{Account, reply_due}
use Rattle.signctl_audit.specs.AuditReading.{may_miss, behind_of}
use Rattle.signctl_audit.specs.SessionState.{plain_entries, IsAudited}
use Rattle.signctl_audit.specs.declared.audit_line.Subject.TheVariants.{Event as Happened}
use Rattle.signctl_audit.proofs.PlainEntries.{call_of-plain, reply-plain, allocates-plain, blockers-plain, counts-plain}

module _ (audit : AuditState ScriptCredential ScriptRule) (a : Account) (stands : IsAudited audit a) where
  -- the expected reply
  reply-is : (event : Event ScriptCredential)
      → expected_reply script_policy (setup_of audit.desk) (committed_entries stands.stepped) event
      ≡ reply_due a (plain_event event)
  reply-is event =
      sym (reply-plain (setup_of audit.desk) stands.stepped event)
      ∙ ap (λ (s : Setup ScriptRule). expected_reply script_policy s (committed_entries (plain_entries stands.stepped)) (plain_event event)) stands.setup
      ∙ ap (λ (t : List (Entry ScriptCredential)). expected_reply script_policy (setup_in a.items) (committed_entries t) (plain_event event)) stands.entries

  -- a legal reply other than out of memory is the expected one
  pub due-is : (event seen : Event ScriptCredential) (reply : Reply ScriptCredential)
      → plain_event event ≡ seen
      → IsLegalEntry script_policy (setup_of audit.desk) (committed_entries stands.stepped)
      (record { event = event; reply = reply })
      → is_out_of_memory reply ≡ false → reply ≡ reply_due a seen
  due-is event seen reply is_seen (inl expected) in_memory = expected ∙ reply-is event ∙ ap (λ (e : Event ScriptCredential). reply_due a e) is_seen
  due-is event seen reply is_seen (inr lost) in_memory =
      let e : is_out_of_memory reply ≡ true = ap (λ (r : Reply ScriptCredential). is_out_of_memory r) lost.0 in absurd cc

  -- whether it may run out of memory
  pub may-is : (event seen : Event ScriptCredential) → plain_event event ≡ seen
      → allocates script_policy (setup_of audit.desk) (committed_entries stands.stepped) event
      ≡ may_miss a (Happened seen)
  may-is event seen is_seen =
      sym (allocates-plain (setup_of audit.desk) stands.stepped event)
      ∙ ap (λ (s : Setup ScriptRule). allocates script_policy s (committed_entries (plain_entries stands.stepped)) (plain_event event)) stands.setup
      ∙ ap (λ (t : List (Entry ScriptCredential)). allocates script_policy (setup_in a.items) (committed_entries t) (plain_event event)) stands.entries
      ∙ ap (λ (e : Event ScriptCredential). may_miss a (Happened e)) is_seen

  -- whom its call waits for
  blockers-are : (call : CallId)
      → blockers_of (setup_of audit.desk) (committed_entries stands.stepped) call
      ≡ blockers_of (setup_in a.items) (committed_entries a.entries) call
  blockers-are call =
      sym (blockers-plain (setup_of audit.desk) stands.stepped call)
      ∙ ap (λ (s : Setup ScriptRule). blockers_of s (committed_entries (plain_entries stands.stepped)) call) stands.setup
      ∙ ap (λ (t : List (Entry ScriptCredential)). blockers_of (setup_in a.items) (committed_entries t) call) stands.entries

  -- of a call that is to wait, the first of those
  pub behind-is : (event seen : Event ScriptCredential) (reply : Reply ScriptCredential)
      → plain_event event ≡ seen → reply ≡ reply_due a seen → is_pending reply ≡ true
      → first_of (blockers_of (setup_of audit.desk) (committed_entries stands.stepped) (call_of event))
      ≡ behind_of a (Happened seen)
  behind-is event seen reply is_seen due waits =
      let pending : is_pending (reply_due a seen) ≡ true = ap (λ (r : Reply ScriptCredential). is_pending r) (sym due) ∙ waits in
      let same : call_of event ≡ call_of seen = sym (call_of-plain event) ∙ ap (λ (e : Event ScriptCredential). call_of e) is_seen in
      let first = ap (λ (calls : List CallId). first_of calls) (blockers-are (call_of event) ∙ ap (λ (call : CallId). blockers_of (setup_in a.items) (committed_entries a.entries) call) same) in
      rw pending first

  -- how often a cache was answered what
  pub counts-are : (cache : ℕ)
      → counts_of (setup_of audit.desk) stands.stepped cache ≡ counts_of (setup_in a.items) a.entries cache
  counts-are cache =
      sym (counts-plain (setup_of audit.desk) stands.stepped cache)
      ∙ ap (λ (s : Setup ScriptRule). counts_of s (plain_entries stands.stepped) cache) stands.setup
      ∙ ap (λ (t : List (Entry ScriptCredential)). counts_of (setup_in a.items) t cache) stands.entries

  -- there are not more entries than an input has room for
  pub stepped-few : length a.entries ≤ input_limit → length stands.stepped < 2 ^ 64
  stepped-few few =
      let same : length (plain_entries stands.stepped) ≡ length stands.stepped = length-map stands.stepped (λ (e : Entry ScriptCredential). let x : Entry ScriptCredential = record { event = plain_event e.event; reply = e.reply } in x) in
      omega (arith, few, same, ap (λ (t : List (Entry ScriptCredential)). length t) stands.entries)
