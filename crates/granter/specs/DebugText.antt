-- What debug forms show.
use Rattle.std.specs.Prelude.{ℕ, List, Option, Some, None, codes}
use Rattle.granter.specs.declared.grant_poll.GrantPoll.{GrantPoll}
use Rattle.granter.specs.declared.grant_poll.GrantPoll.TheVariants.{Pending, Given, Refused, OutOfMemory}

-- of an answer its name alone, and of a refusal its cause
abbrev pub answer_text : {P G K C L D W J : Type 0} → GrantPoll P G K C L D W J → Option (List ℕ)
answer_text (Pending grant) = Some (codes "Pending(***)")
answer_text (Given credential) = Some (codes "Given(***)")
answer_text (Refused why) = None
answer_text (OutOfMemory grant) = Some (codes "OutOfMemory(***)")
