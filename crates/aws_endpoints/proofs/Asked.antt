-- What holds of a send that was begun with what the environment asks for.
use Rattle.std.proofs.Common.{ℕ, List, Option}
use Rattle.http.specs.declared.request.Request.{Request}
use Rattle.sign_base.specs.declared.head.Head.{Head}
use Rattle.aws_json.specs.Reading.{Reading}
use Rattle.aws_endpoints.specs.Container.{IsAskedSend}

-- it is ready, where each send that is begun is
pub asked_is_ready : {S : Type 0} (Begun : Request (List ℕ) → S → Type 0) (Ready : S → Type 0)
    (asked : Reading (Option Head)) (send : S) → ((req : Request (List ℕ)) (send : S) → Begun req send → Ready send)
    → IsAskedSend Begun asked send → Ready send
unfolding IsAskedSend
asked_is_ready Begun Ready asked send ready (head, is, (req, of, begun)) = ready req send begun
