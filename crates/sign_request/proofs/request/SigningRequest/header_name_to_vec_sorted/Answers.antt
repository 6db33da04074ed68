use Rattle.std.proofs.Common.{◌≡◌, ◌++◌, ◌∙◌, sym, ap, map, append-nil}
use Rattle.http_header.specs.HeaderMap.{keys}
use Rattle.sign_request.proofs.TextOrder.{sorted_names-from_sort}
use Rattle.sign_request.proofs.request.SigningRequest.header_name_to_vec_sorted.Goals as goal

pub returns : goal.returns
returns c =
    let all : map (λ name. name.now) c.loop-name.names.items ≡ keys c.args.self.now.headers =
    sym (append-nil _) ∙ (ap (λ rest. map (λ name. name.now) c.loop-name.names.items ++ rest) (sym (c.in-None.ensures {u = tt}).steps.0) ∙ c.loop-name.invariant) in
    sorted_names-from_sort c.args.self.now.headers _ _ all c.sort_unstable.ensures.permutation c.sort_unstable.ensures.sorted
