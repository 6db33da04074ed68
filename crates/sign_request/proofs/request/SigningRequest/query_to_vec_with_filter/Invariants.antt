use Rattle.std.proofs.Common.{◌≡◌, Bool, List, take}
use Rattle.std.specs.Fn.{FnReturnsAt}
use Rattle.std.specs.List.{AllZip, items_where_true}
use Rattle.sign_request.specs.Query.{text_pairs}
use Rattle.sign_request.proofs.request.SigningRequest.query_to_vec_with_filter.Given as goal

-- the filter answered for each pair so far, and what it passed is kept
abbrev pub invariant-loop-key : goal.invariant-loop-key
invariant-loop-key g l =
    (answers : List Bool)
    × AllZip (λ pair answer. FnReturnsAt g.F.Fn l.filter pair.0 answer) (text_pairs (take l.key-index l.key-items)) answers
    × (text_pairs l.kept.items ≡ items_where_true answers (text_pairs (take l.key-index l.key-items)))
