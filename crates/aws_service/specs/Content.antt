-- What a head says of its content, and the word that it is signed with.
use Rattle.std.specs.Prelude.{ℕ, Bool, not, ◌||◌, List, [], ◌∷◌, ◌++◌, codes, bytes_eq}
use Rattle.std.specs.Prelude.{Option, Some, None, Result, Ok, Err, if◌then◌else◌}
use Rattle.std.specs.List.{list_all, list_any, find}
use Rattle.sign_base.specs.declared.head.Field.{Field}
use Rattle.sigv4_core.specs.PayloadWord.{unsigned_payload, is_digest}
use Rattle.sigv4_core.specs.SignedHead.{field, is_named}
use Rattle.aws_service.specs.declared.aws_error.AwsError.{AwsError}
use Rattle.aws_service.specs.declared.aws_error.AwsError.TheVariants as refusal
use Rattle.aws_service.specs.declared.content_rule.ContentRule.{ContentRule}
use Rattle.aws_service.specs.declared.content_rule.ContentRule.TheVariants.{Unstated, Stated, OfHead}

-- the header says what the content is
abbrev pub is_content : Field → Bool
is_content f = is_named (codes "x-amz-content-sha256") f

-- a payload's word: a digest, or that it is not signed
abbrev pub is_payload_word : List ℕ → Bool
is_payload_word word = bytes_eq word unsigned_payload || is_digest word

-- the word of the head, by a rule that takes it, or else the service's
abbrev pub chosen_word : ContentRule → List ℕ → Option Field → Result (List ℕ) AwsError
chosen_word Unstated word own = Ok word
chosen_word Stated word own = Ok word
chosen_word OfHead word None = Ok word
chosen_word OfHead word (Some own) = if is_payload_word own.value then Ok own.value else Err refusal.Content

-- no header says another word than this one
abbrev pub says_no_other : List ℕ → List Field → Bool
says_no_other word headers = list_all (λ f. not (is_content f) || bytes_eq f.value word) headers

-- the word, where no header says another
abbrev pub unless_another : List Field → Result (List ℕ) AwsError → Result (List ℕ) AwsError
unless_another headers (Err why) = Err why
unless_another headers (Ok word) = if says_no_other word headers then Ok word else Err refusal.Content

-- the word that a head with these headers is signed with
abbrev pub word_to_sign : ContentRule → List ℕ → List Field → Result (List ℕ) AwsError
word_to_sign rule word headers = unless_another headers (chosen_word rule word (find is_content headers))

-- the headers, one of which says this word
abbrev pub stating : List ℕ → List Field → List Field
stating word headers =
    if list_any is_content headers then headers else headers ++ field (codes "x-amz-content-sha256") word ∷ []

-- the headers as the rule wants them
abbrev pub with_word : ContentRule → List ℕ → List Field → List Field
with_word Unstated word headers = headers
with_word Stated word headers = stating word headers
with_word OfHead word headers = stating word headers
