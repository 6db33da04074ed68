-- The parts of a target that can be signed are parts of which a link can be made.
use Rattle.std.proofs.Common.{◌≡◌, ℕ, suc, ◌+◌, ◌<◌, ◌⊎◌, inl, inr, false, ◌==◌, ltb, List, [], ◌∷◌, length, get_or, codes, IsUtf8, IsTrue, IfSome, Option, Some, None, refl, sym, ap, ◌∙◌, subst, arith}
use Rattle.std.specs.Prelude.{bytes_eq, unwrap_or, slice_index}
use Rattle.std.proofs.lemmas.Bool.{cases_Bool, cases_lt, ltb-true}
use Rattle.std.proofs.lemmas.Bool.Decides.{nat_tests}
use Rattle.std.proofs.lemmas.List.{take_all}
use Rattle.std.proofs.lemmas.List.Elements.{All-nil, All-cons}
use Rattle.std.proofs.lemmas.List.Sums.{AllPass-from_list_all}
use Rattle.std.proofs.lemmas.Str.{IsUtf8-nil, IsUtf8-take, IsUtf8-drop, IsUtf8-from_ascii, IsCharBoundary-before_ascii, IsCharBoundary-after_ascii}
use Rattle.std.proofs.lemmas.Str.Ascii.{IsAscii-from_all}
use Rattle.http_uri.specs.ByteClasses.{is_scheme_byte, is_path_byte, is_query_byte, is_delimiter, lowercase, index_of, split_once_front, split_once_back}
use Rattle.http_uri.specs.Grammar.{AllPass, IsScheme, IsAuthority, IsPathAndQuery, IsTail, IsForm, normal_scheme, without_fragment, or_slash, path_of, query_of}
use Rattle.http_uri.proofs.RunLemmas.{index_of_found}
use Rattle.sign_request.specs.PlainTarget.{PlainTarget}

-- ---- schemes
normal_twice : (name : List ℕ) → normal_scheme (normal_scheme name) ≡ normal_scheme name
normal_twice name =
    elim (cases_Bool (bytes_eq (lowercase name) (codes "http"))) [
      | inl http ↦ rw http refl
      | inr other ↦ elim (cases_Bool (bytes_eq (lowercase name) (codes "https"))) [
        | inl https ↦ rw (other, https) refl
        | inr neither ↦ rw (other, neither) (rw (other, neither) refl)
      ]
    ]

http_IsScheme : IsScheme (codes "http")
http_IsScheme = (AllPass-from_list_all is_scheme_byte (codes "http") refl, omega arith)

https_IsScheme : IsScheme (codes "https")
https_IsScheme = (AllPass-from_list_all is_scheme_byte (codes "https") refl, omega arith)

normal_IsScheme : (name : List ℕ) → IsScheme name → IsScheme (normal_scheme name)
normal_IsScheme name h =
    elim (cases_Bool (bytes_eq (lowercase name) (codes "http"))) [
      | inl http ↦ rw http http_IsScheme
      | inr other ↦ elim (cases_Bool (bytes_eq (lowercase name) (codes "https"))) [
        | inl https ↦ rw (other, https) https_IsScheme
        | inr neither ↦ rw (other, neither) h
      ]
    ]

-- ---- paths and queries
-- nothing, or a first byte `/` or `?`
abbrev pub StartsTail : List ℕ → Type 0
StartsTail kept = (kept ≡ []) ⊎ ((slice_index kept 0 ≡ 47) ⊎ (slice_index kept 0 ≡ 63))

-- what a target has of which a link can be made
pub record IsLinkable (target : PlainTarget) : Type 0 where
  pub scheme : IsScheme (unwrap_or target.scheme (codes "http"))
  pub normal : normal_scheme (unwrap_or target.scheme (codes "http")) ≡ unwrap_or target.scheme (codes "http")
  pub authority : IsAuthority (unwrap_or target.authority [])
  pub kept : IsPathAndQuery target.path_and_query
  pub start : StartsTail target.path_and_query

empty_path : IsPathAndQuery []
empty_path = record { start = inl refl; path = All-nil (λ b. IsTrue (is_path_byte b)); query = tt; utf8 = IsUtf8-nil; short = omega arith }

only_slash : IsUtf8 (47 ∷ [])
only_slash = IsUtf8-from_ascii (47 ∷ []) (IsAscii-from_all (47 ∷ []) (All-cons (λ b. b < 128) 47 [] (omega arith) (All-nil (λ b. b < 128))))

slash_path : IsPathAndQuery (47 ∷ [])
slash_path = record { start = inr (inr (inl refl)); path = AllPass-from_list_all is_path_byte (47 ∷ []) refl; query = tt; utf8 = only_slash; short = omega arith }

-- the first byte of a text before its fragment is that of the text, or there is none
first_kept : (tail : List ℕ) → IsTrue (is_delimiter (slice_index tail 0)) → StartsTail (without_fragment tail)
first_kept [] delimits = inl refl
first_kept (b ∷ bs) delimits =
    elim (cases_Bool (b == 35)) [
      | inl mark ↦ inl (rw mark refl)
      | inr other ↦
          let longer : 1 + index_of 35 bs ≡ suc (index_of 35 bs) = omega arith in
          let which : (b ≡ 47) ⊎ (b ≡ 63) = grind (arith, nat_tests) in
          inr (rw (other, longer) which)
    ]

linkable_tail : (tail kept : List ℕ) → IsTail tail kept → IsPathAndQuery kept × StartsTail kept
linkable_tail tail kept (inl h) = (subst IsPathAndQuery (sym h.1) slash_path, subst StartsTail (sym h.1) (inr (inl refl)))
linkable_tail tail kept (inr h) = (subst IsPathAndQuery (sym h.2) h.1.kept, subst StartsTail (sym h.2) (first_kept tail h.0))

linkable_form : (text : List ℕ) (scheme : Option (List ℕ)) (authority kept : List ℕ)
    → IsForm text scheme (Some authority) kept
    → IsLinkable (record { scheme = scheme; authority = Some authority; path_and_query = kept })
linkable_form text None authority kept h = record {
  scheme = http_IsScheme;
  normal = refl;
  authority = subst IsAuthority (sym h.2) h.0;
  kept = subst IsPathAndQuery (sym h.3) empty_path;
  start = inl h.3;
}
linkable_form text (Some scheme) authority kept h =
    let tail = linkable_tail h.tail kept h.is_tail in
    record {
      scheme = subst IsScheme (sym h.normal) (normal_IsScheme h.name h.is_scheme);
      normal = ap normal_scheme h.normal ∙ (normal_twice h.name ∙ sym h.normal);
      authority = h.is_authority;
      kept = tail.0;
      start = tail.1;
    }

pub linkable : (text : List ℕ) (target : PlainTarget) (authority : List ℕ)
    → IsForm text target.scheme target.authority target.path_and_query → target.authority ≡ Some authority
    → IsLinkable target
linkable text target authority h named =
    let form : IsForm text target.scheme (Some authority) target.path_and_query = subst (λ o. IsForm text target.scheme o target.path_and_query) named h in
    let with_authority : Option (List ℕ) → PlainTarget = λ o. record { scheme = target.scheme; authority = o; path_and_query = target.path_and_query } in
    subst IsLinkable (ap with_authority (sym named)) (linkable_form text target.scheme authority target.path_and_query form)

-- the path begins with `/`
pub record StartsSlash (path : List ℕ) : Type 0 where
  pub rest : List ℕ
  pub is : path ≡ 47 ∷ rest
  pub bytes : AllPass is_path_byte (47 ∷ rest)

slashed : (front : List ℕ) → AllPass is_path_byte front → (front ≡ []) ⊎ (slice_index front 0 ≡ 47)
    → StartsSlash (or_slash front)
slashed [] bytes start = record { rest = []; is = refl; bytes = AllPass-from_list_all is_path_byte (47 ∷ []) refl }
slashed (b ∷ bs) bytes (inl none) = absurd (cc)
slashed (b ∷ bs) bytes (inr slash) =
    let first : b ≡ 47 = slash in
    let some : (length (b ∷ bs) == 0) ≡ false = grind (arith, nat_tests) in
    record { rest = bs; is = rw some (ap (λ c. c ∷ bs) first); bytes = subst (λ c. AllPass is_path_byte (c ∷ bs)) first bytes }

front_start : (kept : List ℕ) → StartsTail kept
    → (split_once_front 63 kept ≡ []) ⊎ (slice_index (split_once_front 63 kept) 0 ≡ 47)
front_start [] start = inl refl
front_start (b ∷ bs) (inl none) = absurd (cc)
front_start (b ∷ bs) (inr (inl slash)) =
    let first : b ≡ 47 = slash in
    let longer : 1 + index_of 63 bs ≡ suc (index_of 63 bs) = omega arith in
    inr (subst (λ c. slice_index (split_once_front 63 (c ∷ bs)) 0 ≡ 47) (sym first) (rw longer refl))
front_start (b ∷ bs) (inr (inr mark)) = let first : b ≡ 63 = mark in inl (subst (λ c. split_once_front 63 (c ∷ bs) ≡ []) (sym first) refl)

pub path_of-StartsSlash : (kept : List ℕ) → IsPathAndQuery kept → StartsTail kept → StartsSlash (path_of kept)
path_of-StartsSlash kept h start = slashed (split_once_front 63 kept) h.path (front_start kept start)

query_bytes : (query : Option (List ℕ)) → IfSome query (AllPass is_query_byte)
    → AllPass is_query_byte (unwrap_or query [])
query_bytes None h = All-nil (λ b. IsTrue (is_query_byte b))
query_bytes (Some query) h = h

pub query_of-bytes : (kept : List ℕ) → IsPathAndQuery kept
    → AllPass is_query_byte (unwrap_or (query_of kept) [])
query_of-bytes kept h = query_bytes (split_once_back 63 kept) h.query

-- both are text, as a text is cut at an ASCII byte
mark_found : (kept : List ℕ) → index_of 63 kept < length kept → get_or kept (index_of 63 kept) 0 < 128
mark_found kept within = let found = index_of_found 63 kept within in omega (arith, found)

front_utf8 : (kept : List ℕ) → IsUtf8 kept → IsUtf8 (split_once_front 63 kept)
front_utf8 kept h =
    elim (cases_lt (index_of 63 kept) (length kept)) [
      | inl within ↦ IsUtf8-take kept (index_of 63 kept) h (IsCharBoundary-before_ascii kept (index_of 63 kept) within (mark_found kept within))
      | inr past ↦ subst IsUtf8 (sym (take_all (index_of 63 kept) kept past)) h
    ]

slashed_utf8 : (front : List ℕ) → IsUtf8 front → IsUtf8 (or_slash front)
slashed_utf8 [] h = only_slash
slashed_utf8 (b ∷ bs) h = let some : (length (b ∷ bs) == 0) ≡ false = grind (arith, nat_tests) in rw some h

pub path_of-IsUtf8 : (kept : List ℕ) → IsUtf8 kept → IsUtf8 (path_of kept)
path_of-IsUtf8 kept h = slashed_utf8 (split_once_front 63 kept) (front_utf8 kept h)

pub query_of-IsUtf8 : (kept : List ℕ) → IsUtf8 kept → IsUtf8 (unwrap_or (query_of kept) [])
query_of-IsUtf8 kept h =
    elim (cases_Bool (ltb (index_of 63 kept) (length kept))) [
      | inl within ↦
          let lt = ltb-true (index_of 63 kept) (length kept) within in
          rw within (IsUtf8-drop kept (index_of 63 kept + 1) h (IsCharBoundary-after_ascii kept (index_of 63 kept) h lt (mark_found kept lt)))
      | inr none ↦ rw none IsUtf8-nil
    ]
