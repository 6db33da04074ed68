use Rattle.std.proofs.Common.{◌≡◌, ◌<◌, ◌++◌, ℕ, length, ap, ◌∙◌, add-one, sym, subst, arith}
use Rattle.sign_audit.specs.Counts.{counts_of}
use Rattle.sign_audit.specs.declared.counts.Counts.{Counts}
use Rattle.line_words.specs.Words.{with_newline}
use Rattle.line_words.proofs.LineWords.{line-with_newline}
use Rattle.signctl_format.specs.ScriptSetup.{setup_in, events_in}
use Rattle.signctl_audit.specs.Account.{account_of}
use Rattle.signctl_audit.specs.AuditOutput.{legal_line, count_line, count_lines}
use Rattle.signctl_audit.specs.SessionState.{SessionState}
use Rattle.signctl_audit.proofs.CountLines.{counts-none, counts-more}
use Rattle.signctl_audit.proofs.NextLine.{as_seen}
use Rattle.signctl_audit.proofs.audit_session.AuditSession.push_closing.Goals as goal

pub loop-cache-init : goal.loop-cache-init
loop-cache-init c = λ lines stands.
    let a = account_of lines in
    let here = as_seen _ _ a c.self.view_is stands.account in
    counts-none a c.args.text.now.items _ _
    (line-with_newline _ _ _ (legal_line (length (events_in a.items)))
    (c.in_ok-push_legal.ensures ∙ ap (λ (n : ℕ). c.args.text.now.items ++ legal_line n) here.events) c.in_ok-end_line.ensures)

pub loop-cache-preserved : goal.loop-cache-preserved
loop-cache-preserved c = λ lines stands.
    let a = account_of lines in
    let cache = c.loop-cache.cache in
    let P : ℕ → Type 0 = λ n. c.end_line-in-loop-cache.new.text.items ≡ c.args.text.now.items ++ (with_newline (legal_line (length (events_in a.items))) ++ count_lines a n) in
    let within : cache < c.args.self.now.caches = omega (arith, c.loop-cache-test.true, ap (λ (s : SessionState). s.caches) c.self.view_is) in
    let counts = c.counts.ensures lines stands within in
    let line = count_line cache (counts_of (setup_in a.items) a.entries cache) in
    let pushed = c.in_ok-push_counts.ensures ∙ ap (λ (k : Counts). c.loop-cache.text.items ++ count_line cache k) counts in
    let ended = line-with_newline c.loop-cache.text.items c.push_counts.new.text.items c.end_line-in-loop-cache.new.text.items line pushed c.in_ok-end_line-2.ensures in
    subst P (sym (add-one cache))
    (counts-more a c.args.text.now.items c.loop-cache.text.items c.end_line-in-loop-cache.new.text.items (with_newline (legal_line (length (events_in a.items)))) cache (c.loop-cache.invariant lines stands) ended)
