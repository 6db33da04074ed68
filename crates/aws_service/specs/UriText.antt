-- The text of a URI, and where agents or AWS read it otherwise than a signature does.
use Rattle.std.specs.Prelude.{ℕ, Bool, ◌||◌, ◌==◌, List, drop, codes, bytes_eq, nat_eq, if◌then◌else◌}
use Rattle.std.specs.Char.{is_ascii_uppercase}
use Rattle.std.specs.List.{list_any, before_first, after_first, ends_with}
use Rattle.sigv4_canonical.specs.CanonicalTarget.{is_slash}

-- the byte is `#`
abbrev pub is_hash : ℕ → Bool
is_hash b = b == 35

-- the byte is `?`
abbrev pub is_question_mark : ℕ → Bool
is_question_mark b = b == 63

-- the byte is `+`
abbrev pub is_plus : ℕ → Bool
is_plus b = b == 43

-- the byte is `:`
abbrev pub is_colon : ℕ → Bool
is_colon b = b == 58

-- a URI without its fragment (RFC 3986, 3.5), which is never sent
abbrev pub without_fragment : List ℕ → List ℕ
without_fragment uri = before_first is_hash uri

-- the query has a `+`: a plus sign to a signature, a space to servers that read it as a form
abbrev pub has_plus : List ℕ → Bool
has_plus uri = list_any is_plus (after_first is_question_mark (without_fragment uri))

-- the authority of a link: what stands between its `://` and its path
abbrev pub link_authority : List ℕ → List ℕ
link_authority link = before_first is_slash (drop 2 (after_first is_colon link))

-- the port of a scheme, which agents leave out of `host` (RFC 9110, 4.2.1 and 4.2.2)
abbrev pub default_port : List ℕ → List ℕ
default_port scheme = if bytes_eq scheme (codes "https") then codes ":443" else codes ":80"

-- agents write the byte otherwise in `host`, or leave it out: an upper-case letter, or the `@` behind a user
abbrev pub is_changed_in_host : ℕ → Bool
is_changed_in_host b = is_ascii_uppercase b || (b == 64)

-- agents send another `host` for a link than it was signed for: its authority has such a byte, or the port of
-- its scheme
abbrev pub has_other_host : List ℕ → Bool
has_other_host link =
    list_any is_changed_in_host (link_authority link)
    || ends_with nat_eq (link_authority link) (default_port (before_first is_colon link))
