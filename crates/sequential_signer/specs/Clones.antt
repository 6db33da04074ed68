-- Events of which a copy takes no memory.
use Rattle.sequential_signer.specs.declared.event.Answer.{Answer}
use Rattle.sequential_signer.specs.declared.event.Answer.TheVariants.{Found}
use Rattle.sequential_signer.specs.declared.event.Event.{Event}
use Rattle.sequential_signer.specs.declared.event.Event.TheVariants.{Begin, Provided, Signed}
use Rattle.sequential_signer.specs.declared.event.Verdict.{Verdict}
use Rattle.sequential_signer.specs.declared.event.Verdict.TheVariants.{Accepted}

-- the answer carries no credential
abbrev pub AnswerNeedsNoMemory : {K : Type 0} → Answer K → Type 0
AnswerNeedsNoMemory (Found c) = ⊥
AnswerNeedsNoMemory _ = Unit {0}

-- the answer carries no head
abbrev pub VerdictNeedsNoMemory : Verdict → Type 0
VerdictNeedsNoMemory (Accepted candidate) = ⊥
VerdictNeedsNoMemory _ = Unit {0}

-- the event carries neither a head nor a credential
abbrev pub NeedsNoMemory : {K : Type 0} → Event K → Type 0
NeedsNoMemory (Begin call head expires_in) = ⊥
NeedsNoMemory (Provided call now answer) = AnswerNeedsNoMemory answer
NeedsNoMemory (Signed call answer) = VerdictNeedsNoMemory answer
NeedsNoMemory _ = Unit {0}
