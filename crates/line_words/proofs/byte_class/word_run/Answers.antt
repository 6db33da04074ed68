use Rattle.std.proofs.Common.{refl}
use Rattle.std.proofs.lemmas.Simd.{zip2_splat, length-chunk}
use lib.Lanes.{chunk}
use Rattle.line_words.specs.Classes.{is_no_space}
use Rattle.line_words.proofs.Runs.{run_in}
use Rattle.line_words.proofs.byte_class.word_run.Goals as goal

pub returns : goal.returns
returns c =
    let v = chunk c.args.at 16 c.args.bytes.now in
    let long = length-chunk c.args.at 16 c.args.bytes.now c.requires in
    run_in is_no_space c.args.bytes.now c.args.at _ _ _ c.requires c.type_inv.bytes c.first_set.ensures
    (zip2_splat _ v 16 32 long) refl
