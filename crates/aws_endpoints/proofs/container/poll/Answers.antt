use Rattle.std.proofs.Common.{◌≡◌, ◌⊎◌, ℕ, List, inl, inr, Option, subst, sym}
use Rattle.http.specs.declared.request.Request.{Request}
use Rattle.http.specs.declared.response.Response.{Response}
use Rattle.credentials.specs.declared.polled.Polled.{Polled}
use Rattle.credentials.specs.declared.polled.Polled.TheVariants.{Pending, Ready, Failed, OutOfMemory}
use Rattle.credentials.specs.Polled.{CanBePolledAgain}
use Rattle.sign_base.specs.declared.head.Head.{Head}
use Rattle.aws_credentials.specs.Session.{Session}
use Rattle.aws_json.specs.Reading.{Reading}
use Rattle.aws_endpoints.specs.Asking.{GivesPolled}
use Rattle.aws_endpoints.specs.Answer.{session_in_answer, EndsWith}
use Rattle.aws_endpoints.specs.Container.{container_place, IsAskedSend, GivesRequested, ContainerGives}
use Rattle.aws_endpoints.proofs.container.poll.Goals as goal

module _ {S : Type 0} (Begun : Request (List ℕ) → S → Type 0)
    (Answers : Request (List ℕ) → Polled (Response (List ℕ)) → Type 0) (asked : Reading (Option Head)) (send : S) where
  -- an answer to the request gives what is given to one that asks so
  given : (polled : Polled (Response (List ℕ))) (answer : Polled (Option Session)) → IsAskedSend Begun asked send
      → ((req : Request (List ℕ)) → Begun req send → Answers req polled)
      → GivesPolled (session_in_answer container_place) EndsWith polled answer ⊎ (answer ≡ OutOfMemory)
      → GivesRequested Answers asked answer ⊎ (answer ≡ OutOfMemory)
  unfolding IsAskedSend
  given polled answer (head, is, (req, of, begun)) answers (inl gives) =
      inl (subst (λ a. GivesRequested Answers a answer) (sym is) (inl (req, of, (polled, answers req begun, gives))))
  given polled answer started answers (inr memory) = inr memory

-- what is pending can be polled again
again : {T : Type 0} (polled : Polled T) → polled ≡ Pending → CanBePolledAgain polled
again Pending e = tt
again OutOfMemory e = tt
again (Ready value) e = absurd cc
again (Failed error) e = absurd cc

pub returns-clause-kept : goal.returns-clause-kept
unfolding IsAskedSend
returns-clause-kept g c = λ (head, is, (req, of, begun)) pending. (
  head,
  is,
  (req, of, c.poll_http_send-polled.ensures.kept req begun (again _ (c.session_polled.ensures.pending.0 pending))),
)

pub returns-clause-gives : goal.returns-clause-gives
unfolding IsAskedSend ContainerGives
returns-clause-gives g c = λ started.
    given (g.X.HasSender.begun c.args.ctx.now) (g.X.HasSender.answers c.args.ctx.now) _ c.args.send.now _ _ started
    c.poll_http_send-polled.ensures.gives c.session_polled.ensures.gives
