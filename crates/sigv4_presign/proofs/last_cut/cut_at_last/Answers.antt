use Rattle.std.proofs.Common.{rules}
use Rattle.std.proofs.lemmas.List.{take_rest}
use Rattle.sigv4_presign.proofs.LastCuts.{cut_at_place}
use Rattle.sigv4_presign.proofs.last_cut.cut_at_last.Goals as goal

pub returns-in-Some : goal.returns-in-Some
returns-in-Some c = rw take_rest (cut_at_place c.args.mark c.args.text.now c.in-Some.place (search rules) (search rules) (search rules))
