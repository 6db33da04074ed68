use Rattle.std.proofs.Common.{ℕ, cond, ltb, refl}
use Rattle.std.proofs.lemmas.Simd.{zip2_of_maps, zip2_splat, zip2_splat_left, length-chunk}
use lib.Lanes.{chunk}
use Rattle.line_words.specs.Bytes.{is_visible}
use Rattle.line_words.proofs.Runs.{run_in}
use Rattle.line_words.proofs.byte_class.visible_run.Goals as goal

pub returns : goal.returns
returns c =
    let v = chunk c.args.at 16 c.args.bytes.now in
    let long = length-chunk c.args.at 16 c.args.bytes.now c.requires in
    run_in is_visible c.args.bytes.now c.args.at _ _ _ c.requires c.type_inv.bytes c.first_set.ensures
    (zip2_of_maps _ _ _ v (zip2_splat _ v 16 33 long) (zip2_splat_left (λ (a b : ℕ). cond (ltb a b) 255 0) 126 16 v long)) refl
