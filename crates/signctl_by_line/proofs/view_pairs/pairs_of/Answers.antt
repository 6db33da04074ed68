use Rattle.std.proofs.Common.{lit<, rules}
use Rattle.std.proofs.lemmas.Iterator.Consumers.{YieldsList-end}
use Rattle.std.proofs.lemmas.Iterator.Splits.{YieldsList-from_str_split}
use Rattle.sign_base.specs.Bytes.{ampersand}
use Rattle.sign_request.specs.Query.{query_pairs}
use Rattle.signctl_by_line.proofs.view_pairs.pairs_of.Goals as goal

-- the pieces that were yielded are all pieces
pub returns : goal.returns
unfolding query_pairs
returns c =
    let all = YieldsList-end (YieldsList-from_str_split {s = c.into_iter-piece-iterator.result} ampersand c.args.query.now (lit< tt) (search rules) (search rules) (search rules))
    c.loop-piece.yielded c.loop-piece.piece-iterator c.loop-piece.yielded_by c.next.result c.next.new.self c.in-None.is c.next.ensures.steps in
    rw (← all.0) c.loop-piece.invariant
