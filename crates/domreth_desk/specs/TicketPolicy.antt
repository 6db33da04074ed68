-- When a credential is good that somebody else keeps, and how long one has to last.
use Rattle.std.specs.Prelude.{ℕ, ℤ, int_lt, Bool, Option, option_and_then}
use Rattle.std.specs.Duration.{as_nanos}
use Rattle.sign_base.specs.Moment.{add_moment}
use Rattle.sequential_signer.specs.Deadline.{operation_end}
use Rattle.sequential_signer.specs.Policy.{Policy, policy_of}
use Rattle.domreth_desk.specs.declared.ticket.Margin.{Margin}
use Rattle.domreth_desk.specs.declared.ticket.Ticket.{Ticket}

-- it is handed out before its moment `fresh`
abbrev pub ticket_valid : Ticket → ℤ → Bool
ticket_valid ticket now = int_lt now ticket.fresh

-- it lasts to every moment before `lasts`, whatever the time is
abbrev pub ticket_valid_at : Ticket → ℤ → ℤ → Bool
ticket_valid_at ticket moment now = int_lt moment ticket.lasts

-- it has to last so much longer than to the end of the operation, where these are moments
abbrev pub margin_deadline : Margin → Ticket → Option ℕ → ℤ → Option ℤ
margin_deadline rule ticket duration now =
    option_and_then (λ end. add_moment end (as_nanos rule.margin)) (operation_end duration now)

-- both
abbrev pub ticket_policy : Policy Ticket Margin
ticket_policy = policy_of ticket_valid ticket_valid_at margin_deadline
