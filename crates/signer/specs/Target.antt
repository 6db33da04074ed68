-- The URI and the headers of a signed head, and a request that gets them.
use Rattle.std.specs.Prelude.{◌≡◌}
use Rattle.http.specs.declared.request.Parts.{Parts}
use Rattle.http_uri.specs.Uri.{Spells}
use Rattle.sign_base.specs.declared.head.Head.{Head}
use Rattle.sign_base.specs.declared.call_id.CallId.{CallId}
use Rattle.sequential_signer.specs.Policy.{Policy}
use Rattle.sequential_signer.specs.declared.event.Event.TheVariants.{Signed}
use Rattle.sequential_signer.specs.declared.event.Reply.TheVariants.{Done, OutOfMemory}
use Rattle.sequential_signer.specs.declared.event.Verdict.TheVariants.{Accepted}
use Rattle.sign_request.specs.PlainHead.{Commits, header_map}
use Rattle.desk_driver.specs.CallAt.{IsSigning}
use Rattle.signer.specs.BegunCall.{BegunCall}
use Rattle.sign_desk.specs.Steps.{IsStep}
use Rattle.signer.specs.StepOutcome.{StepChange}

-- the head of `http` has the URI and the headers of the plain one
pub record IsTargetOf (candidate : Head) (target : Parts) : Type 0 where
  pub uri : Spells candidate.uri target.uri
  pub headers : target.headers ≡ header_map candidate.headers

-- the desk took the head, and the request has its URI and headers
pub record IsHandedIn {K D : Type 0} (policy : Policy K D) (call : CallId) (candidate : Head)
    (change : StepChange K D) : Type 0 where
  pub commits : Commits candidate change.before change.after
  pub head : Head
  pub step : IsStep policy (Signed call (Accepted candidate)) change.old (Done head) change.new

-- the desk had no memory for the head, which came back, and the request is as it was
pub record IsKept {K D : Type 0} (policy : Policy K D) (begun : BegunCall) (candidate head : Head)
    (change : StepChange K D) : Type 0 where
  pub back : head ≡ candidate
  pub step : IsStep policy (Signed begun.id (Accepted candidate)) change.old OutOfMemory change.new
  pub signing : IsSigning begun change.new
  pub request : change.after ≡ change.before
