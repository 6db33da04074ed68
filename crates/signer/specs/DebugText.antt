-- What debug forms show.
use Rattle.std.specs.Prelude.{ℕ, List, Option, Some, None, codes}
use Rattle.signer.specs.declared.sign_poll.SignAnswer.{SignAnswer}
use Rattle.signer.specs.declared.sign_poll.SignAnswer.TheVariants.{Pending, Done, Refused, OutOfMemory}

-- of an answer its name alone, and of a refusal its cause
abbrev pub answer_text : {P S K C L D W J : Type 0} → SignAnswer P S K C L D W J → Option (List ℕ)
answer_text (Pending sign) = Some (codes "Pending(***)")
answer_text Done = Some (codes "Done")
answer_text (Refused why) = None
answer_text (OutOfMemory sign) = Some (codes "OutOfMemory(***)")
