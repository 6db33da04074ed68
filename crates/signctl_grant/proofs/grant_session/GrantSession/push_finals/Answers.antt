use Rattle.std.proofs.Common.{◌≡◌, ◌<◌, ◌++◌, ℕ, List, Option, length, sym, ap, ◌∙◌, append_assoc, add-one, arith}
use Rattle.std.proofs.lemmas.List.{append-nil}
use Rattle.sequential_signer.specs.GrantSource.{grant_source}
use Rattle.line_words.specs.declared.moment.ScriptVersion.TheVariants.{One}
use Rattle.line_words.proofs.LineWords.{line-with_newline}
use Rattle.signctl_format.specs.declared.credential.ScriptCredential.{ScriptCredential}
use Rattle.signctl_format.specs.Lines.{final_line}
use Rattle.signctl_format.specs.ScriptSetup.{setup_in}
use Rattle.signctl_grant.specs.GrantOutput.{final_lines_of, final_line_of, transcript_of}
use Rattle.signctl_grant.proofs.Closing.{finals-none, finals-more, cached-is}
use Rattle.signctl_grant.proofs.NextLine.{as_seen}
use Rattle.signctl_grant.proofs.grant_session.GrantSession.push_finals.Goals as goal

pub loop-cache-init : goal.loop-cache-init
loop-cache-init c = λ items stands. sym (ap (λ (v : List ℕ). c.args.text.now.items ++ v) (finals-none items) ∙ append-nil _)

pub loop-cache-preserved : goal.loop-cache-preserved
loop-cache-preserved c = λ items stands.
    let cache = c.loop-cache.cache in
    let here = as_seen _ _ items c.self.view_is stands in
    let left = grant_source (setup_in items) (transcript_of items) cache in
    let within : cache < length c.self.inside.desk.loaders = omega (arith, c.loop-cache-test.true, c.caches-cache-end.ensures) in
    let cached : c.copied.result ≡ left = c.copied.ensures ∙ c.cached.ensures ∙ cached-is _ items here cache within in
    let line : c.push_final.new.text.items ≡ c.loop-cache.text.items ++ final_line One cache left =
    c.in_ok-push_final.ensures.ok
    ∙ ap (λ (n : ℕ). c.loop-cache.text.items ++ final_line One n c.copied.result) c.from.ensures
    ∙ ap (λ (o : Option ScriptCredential). c.loop-cache.text.items ++ final_line One cache o) cached in
    line-with_newline c.loop-cache.text.items c.push_final.new.text.items c.end_line.new.text.items (final_line One cache left) line c.in_ok-end_line.ensures
    ∙ ap (λ (v : List ℕ). v ++ final_line_of items cache) (c.loop-cache.invariant items stands)
    ∙ append_assoc c.args.text.now.items (final_lines_of items cache) (final_line_of items cache)
    ∙ ap (λ (v : List ℕ). c.args.text.now.items ++ v) (sym (finals-more items cache) ∙ ap (λ (n : ℕ). final_lines_of items n) (sym (add-one cache)))
