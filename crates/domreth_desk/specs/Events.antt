-- What is told of calls, each as an event, and what a desk does at it.
use Rattle.std.specs.Prelude.{◌≡◌, ℕ, [], Option, Some, None, option_map, option_and_then}
use Rattle.sign_base.specs.declared.call_id.CallId.{CallId}
use Rattle.sign_base.specs.declared.head.Head.{Head}
use Rattle.sign_base.specs.declared.head.Version.TheVariants.{V11}
use Rattle.sequential_signer.specs.declared.event.Answer.{Answer}
use Rattle.sequential_signer.specs.declared.event.Answer.TheVariants.{Found}
use Rattle.sequential_signer.specs.declared.event.Event.{Event}
use Rattle.sequential_signer.specs.declared.event.Event.TheVariants.{Poll, Provided}
use Rattle.sequential_signer.specs.declared.event.Reply.{Reply}
use Rattle.sign_desk.specs.DeskState.{DeskState}
use Rattle.sign_desk.specs.Memory.{RunsOutAtBegins}
use Rattle.sign_desk.specs.Steps.{IsStep}
use Rattle.domreth_desk.specs.Crossing.{moment_given, ticket_given}
use Rattle.domreth_desk.specs.ReplyOut.{reply_out}
use Rattle.domreth_desk.specs.TicketPolicy.{ticket_policy}
use Rattle.domreth_desk.specs.declared.crossing.DeskReply.{DeskReply}
use Rattle.domreth_desk.specs.declared.crossing.GivenMoment.{GivenMoment}
use Rattle.domreth_desk.specs.declared.crossing.GivenTicket.{GivenTicket}
use Rattle.domreth_desk.specs.declared.ticket.Margin.{Margin}
use Rattle.domreth_desk.specs.declared.ticket.Ticket.{Ticket}

-- the head of a desk that keeps none
abbrev pub no_head : Head
no_head = record { method = []; uri = []; version = V11; headers = [] }

-- a poll, where its moment is one
abbrev pub poll_given : CallId → GivenMoment → Option (Event Ticket)
poll_given call now = option_map (λ t. Poll call t) (moment_given now)

-- a provider's answer, where its moment is one
abbrev pub provided_given : CallId → GivenMoment → Answer Ticket → Option (Event Ticket)
provided_given call now answer = option_map (λ t. Provided call t answer) (moment_given now)

-- a credential that a provider has, where its moments are ones
abbrev pub found_given : CallId → GivenMoment → GivenTicket → Option (Event Ticket)
found_given call now ticket =
    option_and_then (λ found. provided_given call now (Found found)) (ticket_given ticket)

-- the desk was stepped with the event, and the reply is handed out; memory runs out at a begin alone
abbrev pub IsTold : Event Ticket → DeskState Ticket Margin → DeskReply → DeskState Ticket Margin → Type 0
IsTold event old out new =
    (reply : Reply Ticket) × IsStep ticket_policy event old reply new × RunsOutAtBegins event reply
    × (out ≡ reply_out reply)

-- an event that is given is told, and of none there is no reply
abbrev pub AnswersGiven : Option (Event Ticket) → DeskState Ticket Margin → Option DeskReply
    → DeskState Ticket Margin → Type 0
AnswersGiven None old out new = (out ≡ None) × (new ≡ old)
AnswersGiven (Some event) old None new = ⊥
AnswersGiven (Some event) old (Some out) new = IsTold event old out new
