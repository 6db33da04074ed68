use Rattle.std.proofs.Common.{◌≡◌, ◌++◌, [], ℕ, List, ap, ◌∙◌, rules}
use Rattle.line_words.specs.Words.{with_newline}
use Rattle.signctl_load.specs.Load.{counts_of, counts_line, load_transcript, load_output}
use Rattle.signctl_load.specs.declared.counts.Counts.{Counts}
use Rattle.signctl_load.proofs.LoadLengths.{transcript-fits}
use Rattle.signctl_load.proofs.run.load_line.Goals as goal

pub returns : goal.returns
unfolding load_output
returns c =
    let calls = c.args.calls in
    let played = c.in_ok-play_all.ensures c.in_ok-rounds.ensures in
    let counts : c.play_all.new.self.counts ≡ counts_of (load_transcript calls) = played.counts (transcript-fits calls c.requires) in
    let none : c.new-text.result.items ≡ [] = search rules in
    c.in_ok-push_counts.ensures
    ∙ ap (λ (v : List ℕ). v ++ with_newline (counts_line c.play_all.new.self.counts)) none
    ∙ ap (λ (x : Counts). with_newline (counts_line x)) counts
