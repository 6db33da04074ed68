-- Reading the text of a request target (RFC 9112, 3.2).
use Rattle.std.specs.Prelude.{ℕ, ◌+◌, ◌&&◌, ◌||◌, List, [], codes, length, take, drop}
use Rattle.std.specs.Prelude.{Option, Some, None, ◌==◌, nat_lt, if◌then◌else◌}
use Rattle.std.specs.Bool.{then_some}
use Rattle.http_uri.specs.Grammar.{scheme_len, authority_len, normal_scheme, without_fragment}
use Rattle.http_uri.specs.Uri.{uri_scheme, uri_authority, uri_data}
use Rattle.http_uri.specs.declared.uri.Uri.{Uri}
use Rattle.sign_request.specs.TargetTests.{most_target_bytes, is_scheme, has_scheme, is_authority}
use Rattle.sign_request.specs.TargetTests.{is_path_input, starts_origin}

-- a request target in its parts
pub record PlainTarget : Type 0 where
  pub scheme : Option (List ℕ)
  pub authority : Option (List ℕ)
  pub path_and_query : List ℕ

-- the parts that a URI of `http` has
abbrev pub plain_target : Uri → PlainTarget
plain_target uri =
    record { scheme = uri_scheme uri; authority = uri_authority uri; path_and_query = uri_data uri }

-- the origin form, `/path?query`, or the asterisk form, `*`; a fragment is not kept
abbrev pub origin_form : List ℕ → Option PlainTarget
origin_form text =
    then_some (is_path_input text)
    (record { scheme = None; authority = None; path_and_query = without_fragment text })

-- the authority form, `example.com:443`
abbrev pub authority_form : List ℕ → Option PlainTarget
authority_form text =
    then_some (is_authority text) (record { scheme = None; authority = Some text; path_and_query = [] })

-- what is kept of a path and query after an authority: `/` where there are none
abbrev pub kept_tail : List ℕ → List ℕ
kept_tail tail = if length tail == 0 then codes "/" else without_fragment tail

-- the absolute form, `scheme://authority` and then a path and query or nothing
unfoldable pub absolute_form : List ℕ → Option PlainTarget
absolute_form text =
    let name = take (scheme_len text) text in
    let rest = drop (scheme_len text + 3) text in
    let authority = take (authority_len rest) rest in
    let tail = drop (authority_len rest) rest in
    then_some (is_scheme name && (is_authority authority && ((length tail == 0) || is_path_input tail)))
    (record {
      scheme = Some (normal_scheme name);
      authority = Some authority;
      path_and_query = kept_tail tail;
    })

-- a text in its form
unfoldable pub form_of : List ℕ → Option PlainTarget
form_of text =
    if starts_origin text then origin_form text
    else (if has_scheme text then absolute_form text else authority_form text)

-- the target that a text spells, if it spells one
unfoldable pub target_of : List ℕ → Option PlainTarget
target_of text = if nat_lt most_target_bytes (length text) then None else form_of text
