-- The pieces of a request target as tests: which bytes `http` takes for a scheme,
-- an authority, a path and query.
use Rattle.std.specs.Prelude.{ℕ, ◌-◌, Bool, true, not, ◌&&◌, ◌||◌, List, length, take, drop}
use Rattle.std.specs.Prelude.{slice_index, codes, bytes_eq, ◌==◌, nat_lt, nat_le}
use Rattle.std.specs.List.{list_all, range_with_len}
use Rattle.std.specs.Option.{option_map_or}
use Rattle.std.specs.Str.{is_utf8}
use Rattle.http_uri.specs.ByteClasses.{is_scheme_byte, is_authority_byte, is_path_byte, is_query_byte}
use Rattle.http_uri.specs.ByteClasses.{is_delimiter, count_of, split_once_front, split_once_back}
use Rattle.http_uri.specs.ByteClasses.{at_sign, colon, left_bracket, percent_sign, question_mark}
use Rattle.http_uri.specs.ByteClasses.{right_bracket, slash}
use Rattle.http_uri.specs.Grammar.{last_piece, scheme_len, without_fragment}

-- the most bytes that a scheme, and that a whole target, may have
abbrev pub most_scheme_bytes : ℕ
most_scheme_bytes = 64

abbrev pub most_target_bytes : ℕ
most_target_bytes = 65534

-- bytes of a scheme, not too many
unfoldable pub is_scheme : List ℕ → Bool
is_scheme text = list_all is_scheme_byte text && nat_le (length text) most_scheme_bytes

-- the bytes of a scheme run up to `://`
unfoldable pub has_scheme : List ℕ → Bool
has_scheme text = nat_lt 3 (length text) && bytes_eq (take 3 (drop (scheme_len text) text)) (codes "://")

-- fewer than eight colons stand before one more
abbrev pub may_add_colon : List ℕ → Bool
may_add_colon front = nat_lt (count_of colon (last_piece front)) 8

-- no bracket was opened yet, and no `%` stands where the host would begin
abbrev pub may_open_bracket : List ℕ → Bool
may_open_bracket front = (count_of left_bracket front == 0) && (count_of percent_sign (last_piece front) == 0)

-- a bracket was opened, and none was closed
abbrev pub may_close_bracket : List ℕ → Bool
may_close_bracket front = nat_lt 0 (count_of left_bracket front) && (count_of right_bracket front == 0)

-- the byte may follow this front of an authority
unfoldable pub may_follow : List ℕ → ℕ → Bool
may_follow front b =
    is_authority_byte b
    && ((not (b == colon) || may_add_colon front)
    && ((not (b == left_bracket) || may_open_bracket front)
    && (not (b == right_bracket) || may_close_bracket front)))

-- each byte may follow those before it
unfoldable pub each_may_follow : List ℕ → Bool
each_may_follow text =
    list_all (λ i. may_follow (take i text) (slice_index text i)) (range_with_len 0 (length text))

-- userinfo, host and port, of which a host is needed
unfoldable pub is_authority : List ℕ → Bool
is_authority text =
    nat_lt 0 (length text)
    && (each_may_follow text
    && ((count_of left_bracket text == count_of right_bracket text)
    && (nat_le (count_of colon (last_piece text)) 1
    && ((count_of percent_sign (last_piece text) == 0)
    && not (slice_index text (length text - 1) == at_sign)))))

-- the text is `*`
abbrev pub is_asterisk : List ℕ → Bool
is_asterisk text = bytes_eq text (codes "*")

-- empty, `*`, or a first byte `/` or `?`
unfoldable pub may_start_path : List ℕ → Bool
may_start_path text =
    (length text == 0)
    || (is_asterisk text || ((slice_index text 0 == slash) || (slice_index text 0 == question_mark)))

-- a path, and a query after the first `?`
unfoldable pub is_path_and_query : List ℕ → Bool
is_path_and_query text =
    may_start_path text
    && (list_all is_path_byte (split_once_front question_mark text)
    && (option_map_or (list_all is_query_byte) (split_once_back question_mark text) true
    && (is_utf8 text && nat_le (length text) most_target_bytes)))

-- the same with a fragment after it, which may hold anything
unfoldable pub is_path_input : List ℕ → Bool
is_path_input text =
    (is_asterisk text || is_delimiter (slice_index text 0))
    && (nat_le (length text) most_target_bytes && is_path_and_query (without_fragment text))

-- `/` first, or `*`
unfoldable pub starts_origin : List ℕ → Bool
starts_origin text = is_asterisk text || (slice_index text 0 == slash)
