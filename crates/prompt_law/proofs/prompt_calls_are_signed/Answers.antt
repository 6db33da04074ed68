use Rattle.prompt_law.proofs.PromptLaw.{prompt_calls_are_signed}
use Rattle.prompt_law.proofs.prompt_calls_are_signed.Goals as goal

pub returns : goal.returns
returns g c = λ gate. prompt_calls_are_signed _ _
