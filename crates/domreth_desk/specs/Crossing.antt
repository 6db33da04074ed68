-- What crosses, and what it says.
use Rattle.std.specs.Prelude.{ℤ, pos, ◌+ℤ◌, int_div, int_rem, Option, Some, None, option_map, option_and_then}
use Rattle.std.specs.Prelude.{if◌then◌else◌}
use Rattle.sign_base.specs.Moment.{is_moment, moment_of_second}
use Rattle.domreth_desk.specs.declared.crossing.GivenMoment.{GivenMoment}
use Rattle.domreth_desk.specs.declared.crossing.GivenTicket.{GivenTicket}
use Rattle.domreth_desk.specs.declared.ticket.Ticket.{Ticket}

-- an instant, where it is in the range of moments
abbrev pub if_moment : ℤ → Option ℤ
if_moment t = if is_moment t then Some t else None

-- the moment that is given, if it is one
abbrev pub moment_given : GivenMoment → Option ℤ
moment_given m = if_moment (moment_of_second m.second +ℤ m.nanos)

-- a moment in whole seconds, cut towards 1970, and the rest
abbrev pub moment_out : ℤ → GivenMoment
moment_out t = record { second = int_div t (pos 1000000000); nanos = int_rem t (pos 1000000000) }

-- the credential that is given, if its moments are ones
abbrev pub ticket_given : GivenTicket → Option Ticket
ticket_given t =
    option_and_then (λ fresh. option_map (λ lasts. record { number = t.number; fresh = fresh; lasts = lasts })
    (moment_given t.lasts)) (moment_given t.fresh)

-- a credential that is handed out
abbrev pub ticket_out : Ticket → GivenTicket
ticket_out t = record { number = t.number; fresh = moment_out t.fresh; lasts = moment_out t.lasts }
