use Rattle.std.proofs.Common.{◌≡◌, take}
use Rattle.sign_request.specs.Query.{text_pairs, query_length}
use Rattle.sign_request.proofs.request.SigningRequest.query_size.Given as goal

-- the size is that of the pairs so far
abbrev pub invariant-loop-key : goal.invariant-loop-key
invariant-loop-key l = l.size ≡ query_length (text_pairs (take l.key-index l.key-items))
