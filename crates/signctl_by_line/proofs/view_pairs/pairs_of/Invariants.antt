use Rattle.std.proofs.Common.{◌≡◌, map, filter, not, length, ◌==◌}
use Rattle.sign_request.specs.Query.{read_pair}
use Rattle.signctl_by_line.specs.LentPairs.{lent_pairs}
use Rattle.signctl_by_line.proofs.view_pairs.pairs_of.Given as goal

-- the pairs so far are read from the pieces so far
abbrev pub invariant-loop-piece : goal.invariant-loop-piece
invariant-loop-piece l =
    lent_pairs l.pairs.items ≡ map read_pair (filter (λ piece. not (length piece == 0)) (map (λ piece. piece.now) l.yielded))
