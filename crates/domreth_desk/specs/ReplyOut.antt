-- A reply as plain numbers.
use Rattle.std.specs.Prelude.{ℕ, pos, true, false, Option, Some, None}
use Rattle.sign_base.specs.declared.call_id.CallId.{CallId}
use Rattle.sequential_signer.specs.declared.event.Reply.{Reply}
use Rattle.sequential_signer.specs.declared.event.Reply.TheVariants.{Begun, Pending, NotNow, OutOfMemory, Ask}
use Rattle.sequential_signer.specs.declared.event.Reply.TheVariants.{Sign, Refused, Done, Cancelled}
use Rattle.sequential_signer.specs.declared.event.Why.{Why}
use Rattle.sequential_signer.specs.declared.event.Why.TheVariants.{Missing, Short, Range, Loader, Service}
use Rattle.domreth_desk.specs.Crossing.{moment_out}
use Rattle.domreth_desk.specs.declared.crossing.DeskReply.{DeskReply}
use Rattle.domreth_desk.specs.declared.ticket.Ticket.{Ticket}

-- a reply of this kind that says no more
abbrev pub plain_out : ℕ → DeskReply
plain_out kind =
    record {
      kind = kind;
      cause = 0;
      wakes = false;
      provider = 0;
      wake_handle = 0;
      wake_number = 0;
      number = 0;
      deadline = record { second = pos 0; nanos = pos 0 };
    }

-- a refusal for this cause
abbrev pub refused_out : Why → DeskReply
refused_out Missing = record (plain_out 6) { cause = 1 }
refused_out (Short deadline) = record (plain_out 6) { cause = 2; deadline = moment_out deadline }
refused_out Range = record (plain_out 6) { cause = 3 }
refused_out (Loader number) = record (plain_out 6) { cause = 4; number = number }
refused_out (Service number) = record (plain_out 6) { cause = 5; number = number }

-- the reply, and the call that it wakes
abbrev pub waking_out : Option CallId → DeskReply → DeskReply
waking_out None out = out
waking_out (Some call) out =
    record out { wakes = true; wake_handle = call.handle; wake_number = call.number }

-- the reply, as it crosses
abbrev pub reply_out : Reply Ticket → DeskReply
reply_out Begun = plain_out 0
reply_out Pending = plain_out 1
reply_out NotNow = plain_out 2
reply_out OutOfMemory = plain_out 3
reply_out (Ask provider) = record (plain_out 4) { provider = provider }
reply_out (Sign credential wake) = waking_out wake (record (plain_out 5) { number = credential.number })
reply_out (Refused why wake) = waking_out wake (refused_out why)
reply_out (Done head) = plain_out 7
reply_out (Cancelled wake) = waking_out wake (plain_out 8)
