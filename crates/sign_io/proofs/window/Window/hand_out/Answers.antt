use Rattle.std.proofs.Common.{◌≡◌, ◌+◌, ◌≤◌, length, ap, arith}
use Rattle.std.specs.List.{slice_range}
use Rattle.sign_io.proofs.WindowLemmas.{length-slice_range, slice_range-front, slice_range-behind}
use Rattle.sign_io.proofs.window.Window.hand_out.Goals as goal

pub returns : goal.returns
returns c =
    let w = c.self.inside in
    let held_is : slice_range w.bytes.items w.start w.end ≡ c.args.self.now.held = ap (λ v. v.held) c.self.view_is in
    let fits : w.start + c.args.all ≤ w.end =
    omega (arith, length-slice_range w.bytes.items w.start w.end (omega arith), ap length held_is) in
    let line = slice_range-front w.bytes.items w.start w.end c.args.len (omega arith) in
    let held = slice_range-behind w.bytes.items w.start w.end c.args.all fits in
    cc
