-- Which calls are those of answers.
use Rattle.std.specs.Prelude.{Bool, List, map}
use Rattle.std.specs.List.{list_all}
use Rattle.sign_base.specs.declared.call_id.CallId.{CallId}
use Rattle.sign_base.specs.Calls.{is_among}
use Rattle.sequential_signer.specs.Transcript.{call_of}
use Rattle.signer_book.specs.declared.pass.Receipt.{Receipt}
use Rattle.pool_books.specs.declared.answer.Answer.{Answer}

-- the calls of answers
abbrev pub calls_of : List Answer → List CallId
calls_of answers = map (λ answer. answer.call) answers

-- whether each receipt is about a call of these answers
abbrev pub has_only_calls_of : {K : Type 0} → List Answer → List (Receipt K) → Bool
has_only_calls_of answers receipts =
    list_all (λ r. is_among (call_of r.entry.event) (calls_of answers)) receipts
