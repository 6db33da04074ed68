-- Each test on the pieces of a request target decides its fact.
use Rattle.std.proofs.Common.{◌≡◌, ℕ, ◌-◌, ◌<◌, ◌⊎◌, true, eqb, List, [], ◌∷◌, length, take, get_or, Option, Some, None, Decides, refl, ap, arith}
use Rattle.std.specs.Prelude.{IsUtf8, IfSome}
use Rattle.std.specs.List.{list_all}
use Rattle.std.specs.Option.{option_map_or}
use Rattle.std.specs.Str.{is_utf8}
use Rattle.std.proofs.lemmas.Bool.Decides.{Decides-eqb, Decides-ltb, Decides-like, Decides-not, Decides-and, Decides-or}
use Rattle.std.proofs.lemmas.Slice.Eq.{bytes_eq-Decides}
use Rattle.std.proofs.lemmas.Str.{IsUtf8-from_is_utf8, is_utf8-from_IsUtf8}
use Rattle.http_uri.specs.ByteClasses.{is_scheme_byte, is_authority_byte, is_path_byte, is_query_byte, is_delimiter, count_of, split_once_front, split_once_back}
use Rattle.http_uri.specs.Grammar.{AllPass, IsScheme, HasScheme, MayFollow, IsAuthority, IsPathAndQuery, IsPathInput, StartsOrigin, last_piece, without_fragment}
use Rattle.sign_request.proofs.Deciding.{Decides-leb, Decides-implies, Decides-list_all, Decides-below, Decides-itself}
use Rattle.sign_request.specs.TargetTests.{is_scheme, has_scheme, may_add_colon, may_open_bracket, may_close_bracket, may_follow, each_may_follow, is_authority, is_asterisk, may_start_path, is_path_and_query, is_path_input, starts_origin}

pub is_scheme-Decides : (text : List ℕ) → Decides (is_scheme text) (IsScheme text)
unfolding is_scheme
is_scheme-Decides text = Decides-and _ _ (Decides-list_all is_scheme_byte text) (Decides-leb _ _)

pub has_scheme-Decides : (text : List ℕ) → Decides (has_scheme text) (HasScheme text)
unfolding has_scheme
has_scheme-Decides text = Decides-and _ _ (Decides-ltb _ _) (bytes_eq-Decides _ _)

may_follow-Decides : (front : List ℕ) (b : ℕ) → Decides (may_follow front b) (MayFollow front b)
unfolding may_follow
may_follow-Decides front b =
    let colon = Decides-implies (eqb b 58) (may_add_colon front) (Decides-eqb b 58) (Decides-ltb _ _) in
    let opens = Decides-and _ _ (Decides-eqb (count_of 91 front) 0) (Decides-eqb (count_of 37 (last_piece front)) 0) in
    let closes = Decides-and _ _ (Decides-ltb 0 (count_of 91 front)) (Decides-eqb (count_of 93 front) 0) in
    let opening = Decides-implies (eqb b 91) (may_open_bracket front) (Decides-eqb b 91) opens in
    let closing = Decides-implies (eqb b 93) (may_close_bracket front) (Decides-eqb b 93) closes in
    let all = Decides-and _ _ (Decides-itself (is_authority_byte b)) (Decides-and _ _ colon (Decides-and _ _ opening closing)) in
    Decides-like _ (λ h. record { byte = h.0; colons = h.1.0; opening = h.1.1.0; closing = h.1.1.1 })
    (λ h. (h.byte, (h.colons, (h.opening, h.closing)))) all

each_may_follow-Decides : (text : List ℕ)
    → Decides (each_may_follow text) ((i : ℕ) → i < length text → MayFollow (take i text) (get_or text i 0))
unfolding each_may_follow
each_may_follow-Decides text =
    let step : (i : ℕ) → Decides (may_follow (take i text) (get_or text i 0)) (MayFollow (take i text) (get_or text i 0)) = λ i. may_follow-Decides _ _ in
    Decides-like _ (λ all i within. (step i).0 (all i within)) (λ all i within. (step i).1 (all i within))
    (Decides-below (λ i. may_follow (take i text) (get_or text i 0)) (length text))

pub is_authority-Decides : (text : List ℕ) → Decides (is_authority text) (IsAuthority text)
unfolding is_authority
is_authority-Decides text =
    let host = Decides-not _ (Decides-eqb (get_or text (length text - 1) 0) 64) in
    let percent = Decides-and _ _ (Decides-eqb (count_of 37 (last_piece text)) 0) host in
    let colon = Decides-and _ _ (Decides-leb (count_of 58 (last_piece text)) 1) percent in
    let closed = Decides-and _ _ (Decides-eqb (count_of 91 text) (count_of 93 text)) colon in
    let all = Decides-and _ _ (Decides-ltb 0 (length text)) (Decides-and _ _ (each_may_follow-Decides text) closed) in
    Decides-like _ (λ h. record {
      nonempty = h.0;
      bytes = h.1.0;
      closed = h.1.1.0;
      one_colon = h.1.1.1.0;
      no_percent = h.1.1.1.1.0;
      has_host = h.1.1.1.1.1;
    })
    (λ h. (h.nonempty, (h.bytes, (h.closed, (h.one_colon, (h.no_percent, h.has_host))))))
    all

is_asterisk-Decides : (text : List ℕ) → Decides (is_asterisk text) (text ≡ 42 ∷ [])
is_asterisk-Decides text = bytes_eq-Decides text (42 ∷ [])

empty-Decides : (text : List ℕ) → Decides (eqb (length text) 0) (text ≡ [])
empty-Decides [] = (λ _. refl, λ _. refl)
empty-Decides (b ∷ text) = (λ yes. absurd (let none = (Decides-eqb (length (b ∷ text)) 0).0 yes in omega (arith, none)), λ e. absurd (let none = ap length e in omega (arith, none)))

may_start_path-Decides : (text : List ℕ)
    → Decides (may_start_path text)
    ((text ≡ []) ⊎ ((text ≡ 42 ∷ []) ⊎ ((get_or text 0 0 ≡ 47) ⊎ (get_or text 0 0 ≡ 63))))
unfolding may_start_path
may_start_path-Decides text =
    Decides-or _ _ (empty-Decides text)
    (Decides-or _ _ (is_asterisk-Decides text) (Decides-or _ _ (Decides-eqb (get_or text 0 0) 47) (Decides-eqb (get_or text 0 0) 63)))

query-Decides : (query : Option (List ℕ))
    → Decides (option_map_or (list_all is_query_byte) query true) (IfSome query (AllPass is_query_byte))
query-Decides None = (λ _. tt, λ _. refl)
query-Decides (Some query) = Decides-list_all is_query_byte query

is_path_and_query-Decides : (text : List ℕ) → Decides (is_path_and_query text) (IsPathAndQuery text)
unfolding is_path_and_query
is_path_and_query-Decides text =
    let utf8 : Decides (is_utf8 text) (IsUtf8 text) = (IsUtf8-from_is_utf8 text, is_utf8-from_IsUtf8 text) in
    let rest = Decides-and _ _ (query-Decides (split_once_back 63 text)) (Decides-and _ _ utf8 (Decides-leb (length text) 65534)) in
    let all = Decides-and _ _ (may_start_path-Decides text) (Decides-and _ _ (Decides-list_all is_path_byte (split_once_front 63 text)) rest) in
    Decides-like _ (λ h. record { start = h.0; path = h.1.0; query = h.1.1.0; utf8 = h.1.1.1.0; short = h.1.1.1.1 })
    (λ h. (h.start, (h.path, (h.query, (h.utf8, h.short)))))
    all

pub is_path_input-Decides : (text : List ℕ) → Decides (is_path_input text) (IsPathInput text)
unfolding is_path_input
is_path_input-Decides text =
    let start = Decides-or _ _ (is_asterisk-Decides text) (Decides-itself (is_delimiter (get_or text 0 0))) in
    let kept = Decides-and _ _ (Decides-leb (length text) 65534) (is_path_and_query-Decides (without_fragment text)) in
    Decides-like _ (λ h. record { start = h.0; short = h.1.0; kept = h.1.1 }) (λ h. (h.start, (h.short, h.kept)))
    (Decides-and _ _ start kept)

pub starts_origin-Decides : (text : List ℕ) → Decides (starts_origin text) (StartsOrigin text)
unfolding starts_origin
starts_origin-Decides text = Decides-or _ _ (is_asterisk-Decides text) (Decides-eqb (get_or text 0 0) 47)
