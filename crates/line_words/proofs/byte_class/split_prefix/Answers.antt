use Rattle.std.proofs.Common.{ap, ◌∙◌, ℕ, take, drop}
use Rattle.std.specs.List.{list_all}
use Rattle.std.proofs.lemmas.List.Sums.{prefix_len-le-length}
use Rattle.line_words.specs.Classes.{has, begins_with}
use Rattle.line_words.proofs.Runs.{run_passes, run_stops}
use Rattle.line_words.proofs.byte_class.split_prefix.Goals as goal

pub split_at-requires : goal.split_at-requires
split_at-requires c = rw c.prefix_len.ensures (prefix_len-le-length (has c.args.class) c.args.bytes.now)

pub returns-clause-class : goal.returns-clause-class
returns-clause-class c =
    ap (list_all (has c.args.class)) c.split_at.ensures.front ∙ ap (λ (n : ℕ). list_all (has c.args.class) (take n c.args.bytes.now)) c.prefix_len.ensures
    ∙ run_passes (has c.args.class) c.args.bytes.now

pub returns-clause-stops : goal.returns-clause-stops
returns-clause-stops c =
    ap (begins_with (has c.args.class)) c.split_at.ensures.back ∙ ap (λ (n : ℕ). begins_with (has c.args.class) (drop n c.args.bytes.now)) c.prefix_len.ensures
    ∙ run_stops (has c.args.class) c.args.bytes.now
