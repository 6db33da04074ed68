-- A work that was begun, and what its polls leave and give.
use Rattle.std.proofs.Common.{◌≡◌, ℕ, ℤ, List, inr, subst}
use Rattle.http.specs.declared.request.Request.{Request}
use Rattle.http.specs.declared.response.Response.{Response}
use Rattle.credentials.specs.Operation.{Operation}
use Rattle.credentials.specs.Polled.{CanBePolledAgain}
use Rattle.credentials.specs.declared.polled.Polled.{Polled}
use Rattle.credentials.specs.declared.polled.Polled.TheVariants as polled
use Rattle.aws_credentials.specs.Session.{Session}
use Rattle.aws_sts.specs.Role.{RoleView}
use Rattle.aws_sts.specs.RoleGrant.{IsRoleWork, IsReadAs, GivesRole}
use Rattle.aws_sts.specs.declared.role_work.RoleWork.{RoleWork}
use Rattle.aws_sts.specs.declared.role_work.RoleWork.TheVariants.{Sent, Answered}

module _ {S : Type 0} (Tells : ℤ → Type 0) (asked : RoleView)
    (Gives : Request (List ℕ) → Polled (Response (List ℕ)) → Type 0) (Started : Request (List ℕ) → S → Type 0)
    (operation : Operation Session) where
  abbrev Is : RoleWork S → Type 0
  Is work = IsRoleWork Tells asked operation Gives Started work

  answer_gives-it : (response : Response (List ℕ)) (answer : Polled Session) → Is (Answered response)
      → IsReadAs (polled.Ready response) answer → GivesRole Tells asked operation Gives answer
  answer_gives-it response answer (request, told, given) read =
      inr (inr (request, polled.Ready response, told, given, read))

  -- what is given where the answer has come
  pub answer_gives : (work : RoleWork S) (response : Response (List ℕ)) (answer : Polled Session)
      → work ≡ Answered response → IsReadAs (polled.Ready response) answer → Is work
      → GivesRole Tells asked operation Gives answer
  answer_gives work response answer e read is =
      answer_gives-it response answer (subst (λ (w : RoleWork S). Is w) e is) read

  send_gives-it : (send : S) (sent : Polled (Response (List ℕ))) (answer : Polled Session) → Is (Sent send)
      → ((request : Request (List ℕ)) → Started request send → Gives request sent) → IsReadAs sent answer
      → GivesRole Tells asked operation Gives answer
  send_gives-it send sent answer (request, told, started) gives read =
      inr (inr (request, sent, told, gives request started, read))

  -- what is given where the HTTP object was polled
  pub send_gives : (work : RoleWork S) (send : S) (sent : Polled (Response (List ℕ))) (answer : Polled Session)
      → work ≡ Sent send → ((request : Request (List ℕ)) → Started request send → Gives request sent)
      → IsReadAs sent answer → Is work → GivesRole Tells asked operation Gives answer
  send_gives work send sent answer e gives read is =
      send_gives-it send sent answer (subst (λ (w : RoleWork S). Is w) e is) gives read

  send_stays-one : (old new : S) (sent : Polled (Response (List ℕ))) → Is (Sent old)
      → ((request : Request (List ℕ)) → Started request old → CanBePolledAgain sent → Started request new)
      → CanBePolledAgain sent → Is (Sent new)
  send_stays-one old new sent (request, told, started) kept again = (request, told, kept request started again)

  -- a send that can be polled again stays one
  pub send_stays : (work : RoleWork S) (old new : S) (sent : Polled (Response (List ℕ))) → work ≡ Sent old
      → ((request : Request (List ℕ)) → Started request old → CanBePolledAgain sent → Started request new)
      → CanBePolledAgain sent → Is work → Is (Sent new)
  send_stays work old new sent e kept again is =
      send_stays-one old new sent (subst (λ (w : RoleWork S). Is w) e is) kept again

  answer_stays : (send : S) (response : Response (List ℕ)) → Is (Sent send)
      → ((request : Request (List ℕ)) → Started request send → Gives request (polled.Ready response))
      → Is (Answered response)
  answer_stays send response (request, told, started) gives = (request, told, gives request started)

  -- an answer that came is kept
  pub answer_is_kept : (work : RoleWork S) (send : S) (response : Response (List ℕ)) → work ≡ Sent send
      → ((request : Request (List ℕ)) → Started request send → Gives request (polled.Ready response))
      → Is work → Is (Answered response)
  answer_is_kept work send response e gives is =
      answer_stays send response (subst (λ (w : RoleWork S). Is w) e is) gives
