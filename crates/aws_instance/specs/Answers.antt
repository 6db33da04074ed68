-- What is read of the answers of an instance's metadata service that are one word: a token, and the name of a
-- role.
use Rattle.std.specs.Prelude.{ℕ, Bool, ◌&&◌, ◌-◌, ◌==◌, nat_lt, List, ◌++◌, codes, length, take, drop}
use Rattle.std.specs.Prelude.{Option, Some, None, Ok, Err, if◌then◌else◌}
use Rattle.std.specs.Char.{is_ascii_graphic, is_ascii_whitespace}
use Rattle.std.specs.List.{list_all, prefix_len, suffix_len}
use Rattle.http.specs.declared.response.Response.{Response}
use Rattle.http.specs.Response.{head_of}
use Rattle.aws_json.specs.Reading.{Reading, ◌>>=◌}
use Rattle.aws_endpoints.specs.Answer.{body_in}
use Rattle.aws_instance.specs.declared.asked_word.AskedWord.{AskedWord}
use Rattle.aws_instance.specs.declared.asked_word.AskedWord.TheVariants.{Token, Role}

-- the text without white space at its end
abbrev pub trimmed_end : List ℕ → List ℕ
trimmed_end text = take (length text - suffix_len is_ascii_whitespace text) text

-- the text without white space at either end
unfoldable pub trimmed : List ℕ → List ℕ
trimmed text = trimmed_end (drop (prefix_len is_ascii_whitespace text) text)

-- the text is not empty and has visible bytes alone, `!` to `~`
abbrev pub is_word : List ℕ → Bool
is_word text = nat_lt 0 (length text) && list_all is_ascii_graphic text

-- the one word that a body has, between white space
abbrev pub word_in : List ℕ → List ℕ → Reading (Option (List ℕ))
word_in place body =
    if is_word (trimmed body) then Ok (Some (trimmed body)) else Err (codes "no single word in " ++ place)

-- what messages call an answer
abbrev pub word_place : AskedWord → List ℕ
word_place Token = codes "the token answer of the instance's endpoint"
word_place Role = codes "the role answer of the instance's endpoint"

-- the word of a response of status 200
abbrev pub word_in_body : AskedWord → Response (List ℕ) → Reading (Option (List ℕ))
word_in_body asked response = body_in (word_place asked) response >>= word_in (word_place asked)

-- the same, where an instance has no role if it is not found
abbrev pub word_in_answer : AskedWord → Response (List ℕ) → Reading (Option (List ℕ))
word_in_answer Token response = word_in_body Token response
word_in_answer Role response =
    if (head_of response).status == 404 then Ok None else word_in_body Role response
