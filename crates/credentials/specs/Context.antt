-- What a context is seen as, and what its polls make of bytes that are read as text.
use Rattle.std.specs.Prelude.{◌≡◌, ◌⊎◌, ℕ, List}
use Rattle.std.specs.Str.Lossy.{utf8_lossy}
use Rattle.std.specs.String.{string_bytes}
use Rattle.std.specs.declared.string.String.{String}
use Rattle.http.specs.declared.response.Response.{Response}
use Rattle.http.specs.Response.{head_of, body_of}
use Rattle.credentials.specs.declared.polled.Polled.{Polled}
use Rattle.credentials.specs.declared.polled.Polled.TheVariants.{Pending, Ready, Failed, OutOfMemory}

-- the four objects of a context
pub record Objects (F H E C : Type 0) : Type 0 where
  pub file_read : F
  pub http_send : H
  pub env : E
  pub command_execute : C

module _ {Z : Type 0} where
  -- the text of some bytes, with U+FFFD for each sequence that is not UTF-8
  abbrev pub IsTextOf : List ℕ → String Z → Type 0
  IsTextOf bytes text = string_bytes text ≡ utf8_lossy bytes

  -- a response with the text of its body
  abbrev pub IsTextResponse : Response (List ℕ) → Response (String Z) → Type 0
  IsTextResponse response read =
      (head_of read ≡ head_of response) × IsTextOf (body_of response) (body_of read)

-- what a poll answers that reads the value of an object's answer as text, for which it may have no memory
abbrev pub AnswersText : {A B : Type 0} → (A → B → Type 0) → Polled A → Polled B → Type 0
AnswersText Reads Pending answer = answer ≡ Pending
AnswersText Reads (Ready value) answer =
    (answer ≡ OutOfMemory) ⊎ ((text : _) × (answer ≡ Ready text) × Reads value text)
AnswersText Reads (Failed error) answer = answer ≡ Failed error
AnswersText Reads OutOfMemory answer = answer ≡ OutOfMemory
