use Rattle.std.proofs.Common.{◌≡◌, ◌<◌, ◌++◌, ℕ, List, Option, length, sym, ap, ◌∙◌, append_assoc, add-one, arith}
use Rattle.std.proofs.lemmas.List.{append-nil}
use Rattle.std.specs.Prelude.{unwrap_or}
use Rattle.sequential_signer.specs.SequentialCache.{sequential_cache}
use Rattle.line_words.specs.declared.moment.ScriptVersion.{ScriptVersion}
use Rattle.line_words.specs.declared.moment.ScriptVersion.TheVariants.{One}
use Rattle.line_words.proofs.LineWords.{line-with_newline}
use Rattle.signctl_format.specs.declared.credential.ScriptCredential.{ScriptCredential}
use Rattle.signctl_format.specs.Policy.{script_policy}
use Rattle.signctl_format.specs.Lines.{final_line}
use Rattle.signctl_format.specs.ScriptSetup.{setup_in}
use Rattle.signctl_script.specs.Script.{items_in, version_in}
use Rattle.signctl_script.specs.ScriptOutput.{final_lines_of, final_line_of, transcript_of}
use Rattle.signctl_script.proofs.Closing.{finals-none, finals-more, cached-is}
use Rattle.signctl_script.proofs.NextLine.{as_seen}
use Rattle.signctl_script.proofs.session.Session.push_finals.Goals as goal

pub loop-cache-init : goal.loop-cache-init
loop-cache-init c = λ lines stands. sym (ap (λ (v : List ℕ). c.args.text.now.items ++ v) (finals-none lines) ∙ append-nil _)

pub loop-cache-preserved : goal.loop-cache-preserved
loop-cache-preserved c = λ lines stands.
    let cache = c.loop-cache.cache in
    let items = items_in lines in
    let here = as_seen _ _ items c.self.view_is stands.items in
    let left = sequential_cache script_policy (setup_in items) (transcript_of items) cache in
    let within : cache < length c.self.inside.desk.loaders = omega (arith, c.loop-cache-test.true, c.caches-cache-end.ensures) in
    let cached : c.copied.result ≡ left = c.copied.ensures ∙ c.cached.ensures ∙ cached-is _ items here cache within in
    let version : c.script_version-version.result ≡ version_in lines = c.script_version-version.ensures ∙ ap (λ v. unwrap_or v One) stands.version in
    let line : c.push_final.new.text.items ≡ c.loop-cache.text.items ++ final_line (version_in lines) cache left =
    c.in_ok-push_final.ensures.ok
    ∙ ap (λ (n : ℕ). c.loop-cache.text.items ++ final_line c.script_version-version.result n c.copied.result) c.from.ensures
    ∙ ap (λ (o : Option ScriptCredential). c.loop-cache.text.items ++ final_line c.script_version-version.result cache o) cached
    ∙ ap (λ (v : ScriptVersion). c.loop-cache.text.items ++ final_line v cache left) version in
    line-with_newline c.loop-cache.text.items c.push_final.new.text.items c.end_line.new.text.items (final_line (version_in lines) cache left) line c.in_ok-end_line.ensures
    ∙ ap (λ (v : List ℕ). v ++ final_line_of lines cache) (c.loop-cache.invariant lines stands)
    ∙ append_assoc c.args.text.now.items (final_lines_of lines cache) (final_line_of lines cache)
    ∙ ap (λ (v : List ℕ). c.args.text.now.items ++ v) (sym (finals-more lines cache) ∙ ap (λ (n : ℕ). final_lines_of lines n) (sym (add-one cache)))
