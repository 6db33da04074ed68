use Rattle.std.proofs.Common.{ℕ, [], ◌∷◌, ◌++◌, ap, ◌∙◌}
use Rattle.std.proofs.lemmas.Result.{on_ok_weaker}
use Rattle.std.specs.Prelude.{codes}
use Rattle.std.specs.Fmt.{decimal}
use Rattle.line_words.proofs.LineWords.{more-words}
use Rattle.signctl_format.specs.Lines.{cache_line}
use Rattle.signctl_audit.specs.AuditOutput.{count_words}
use Rattle.signctl_audit.proofs.closing.push_counts.Goals as goal

pub returns : goal.returns
returns c =
    let old = c.args.text.now.items in
    let counts = c.args.counts.now in
    let number = decimal c.args.cache ∷ [] in
    let asks = count_words (codes "asks") counts.asks in
    let signs = count_words (codes "signs") counts.signs in
    let refused = count_words (codes "refused") counts.refused in
    let cancelled = count_words (codes "cancelled") counts.cancelled in
    let missed = count_words (codes "missed") counts.missed in
    let first = c.in_ok-push_cache.ensures.ok ∙ ap (λ (n : ℕ). old ++ cache_line n) c.from.ensures in
    let a = more-words old _ _ (codes "cache") number asks first c.in_ok-push_count.ensures in
    let b = more-words old _ _ (codes "cache") (number ++ asks) signs a c.in_ok-push_count-2.ensures in
    let d = more-words old _ _ (codes "cache") (number ++ (asks ++ signs)) refused b c.in_ok-push_count-3.ensures in
    let e = more-words old _ _ (codes "cache") (number ++ (asks ++ (signs ++ refused))) cancelled d c.in_ok-push_count-4.ensures in
    on_ok_weaker c.push_count-5.result (λ last. more-words old _ _ (codes "cache") (number ++ (asks ++ (signs ++ (refused ++ cancelled)))) missed e last) c.push_count-5.ensures
