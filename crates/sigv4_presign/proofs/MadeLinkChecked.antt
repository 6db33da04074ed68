-- A link that was made is read back with the values of which it was made, so its check is a matter of time
-- alone.
use Rattle.std.proofs.Common.{◌≡◌, ℕ, ◌↔◌, ℤ, pos, ◌+ℤ◌, ◌-ℤ◌, ◌≤ℤ◌, ◌<ℤ◌, ◌*◌, ◌≤◌, ◌<◌, false, ◌==◌, List, [], ◌∷◌, ◌++◌, length, codes, All, IsUtf8, Some, Ok, refl, sym, ap, ap₂, ◌∙◌, subst, arith}
use Rattle.std.specs.Prelude.{unwrap_or}
use Rattle.std.proofs.lemmas.Bool.Decides.{nat_tests}
use Rattle.std.proofs.lemmas.List.Elements.{All-nil, All-cons}
use Rattle.std.proofs.lemmas.Str.{IsUtf8-append, IsUtf8-from_ascii}
use Rattle.std.proofs.lemmas.Str.Ascii.{IsAscii-from_all}
use Rattle.http_uri.specs.ByteClasses.{is_query_byte}
use Rattle.http_uri.specs.Grammar.{AllPass, or_slash, path_of}
use Rattle.jiff_core.proofs.SignedLemmas.{signed_arith}
use Rattle.sign_time.specs.Calendar.{civil_of, second_nanos}
use Rattle.sign_time.specs.MomentRead.{whole_second}
use Rattle.sign_base.specs.declared.head.Head.{Head}
use Rattle.sign_time.proofs.WholeSecond.{civil_of-whole_second}
use Rattle.sign_request.specs.PlainTarget.{PlainTarget, target_of}
use Rattle.sign_request.proofs.TargetOf.{target_of-sound}
use Rattle.sigv4_canonical.specs.CanonicalHeaders.{canonical_headers, signed_headers}
use Rattle.sigv4_canonical.specs.CanonicalRequest.{canonical_request, joined_lines}
use Rattle.sigv4_canonical.specs.CanonicalTarget.{canonical_path}
use Rattle.sigv4_core.specs.Credential.{Credential as Keys}
use Rattle.sigv4_core.specs.PayloadWord.{unsigned_payload}
use Rattle.sigv4_core.specs.Scope.{Scope}
use Rattle.sigv4_core.specs.Signature.{signature_of}
use Rattle.sigv4_core.specs.SignedHead.{field, target_to_sign, is_refused_path}
use Rattle.sigv4_presign.specs.CheckedLink.{unsigned_query, checked, checked_at, checked_within}
use Rattle.sigv4_presign.specs.LinkDate.{moment_of_text, expires_of_text}
use Rattle.sigv4_presign.specs.LinkLaw.{WasMade, IsGood, IsGoodWithin, expiry_of}
use Rattle.sigv4_presign.specs.LinkPairs.{signature_name, signed_pairs, query_to_sign}
use Rattle.sigv4_presign.specs.PresignedLink.{link_signature, raw_query, presigned_link}
use Rattle.sigv4_presign.specs.declared.checked.Checked.TheVariants.{Early, Late, Valid}
use Rattle.sigv4_presign.proofs.LinkChecked.{HasValues, found_between, found_between-Early, found_between-Late, found_between-Valid, checked_at-HasValues}
use Rattle.sigv4_presign.proofs.LinkQuery.{shaped, credential_value, date_value, expires_value, signature_value, canonical_query-unsigned}
use Rattle.sigv4_presign.proofs.LinkReadBack.{front, back, link-target}
use Rattle.sigv4_presign.proofs.LinkTarget.{IsLinkable, linkable, StartsSlash, path_of-StartsSlash, path_of-IsUtf8, query_of-bytes, query_of-IsUtf8}
use Rattle.sigv4_presign.proofs.LinkText.{signature, whole_query, link_query-bytes, link_query-IsUtf8, link_signature-AreUnreserved, presigned_link-parts}
use Rattle.sigv4_presign.proofs.LinkTimes.{moment_of_text-printed, expires_of_text-decimal}
use Rattle.sigv4_presign.proofs.LinkValues.{signed_pairs-IsPlainPair, signature_pair-IsPlainPair}
use Rattle.sigv4_presign.proofs.MadeLink.{link_head, IsMadeOf, made_of}
use Rattle.sigv4_presign.proofs.PairPieces.{IsPlainPair}
use Rattle.sigv4_presign.proofs.SameSecond.{signature_of-same, credential_text-same}
use Rattle.sigv4_presign.proofs.SignedTarget.{IsTargetOf, target_to_sign-IsTargetOf, target_to_sign-Ok, accepted_short}

-- a path that is not empty is itself
or_slash-cons : (rest : List ℕ) → or_slash (47 ∷ rest) ≡ 47 ∷ rest
or_slash-cons rest = let some : (length (47 ∷ rest) == 0) ≡ false = grind (arith, nat_tests) in rw some refl

module _ (keys : Keys) (scope : Scope) (expires : ℕ) (now : ℤ) (head link : Head) (target : PlainTarget)
    (was : WasMade keys scope expires now head link)
    (made : IsMadeOf keys scope expires now head link target) where
  abbrev old : List ℕ
  old = raw_query target

  abbrev t : ℤ
  t = whole_second now

  abbrev query : List ℕ
  query = whole_query keys scope expires now head target

  abbrev scheme : List ℕ
  scheme = unwrap_or target.scheme (codes "http")

  abbrev authority : List ℕ
  authority = unwrap_or target.authority []

  plain : All IsPlainPair (signed_pairs keys scope now expires)
  plain = signed_pairs-IsPlainPair keys scope now expires was.credential was.scoped was.moment made.low made.most

  last : IsPlainPair (signature_name, signature keys scope expires now head target)
  last = signature_pair-IsPlainPair (signature keys scope expires now head target) (link_signature-AreUnreserved keys scope now head target (query_to_sign keys scope now expires old))

  of_head : IsTargetOf scope head target
  of_head = target_to_sign-IsTargetOf scope head target made.signed

  parts : IsLinkable target
  parts = linkable head.uri target of_head.authority (target_of-sound head.uri target of_head.read).1 of_head.named

  slash : StartsSlash (path_of target.path_and_query)
  slash = path_of-StartsSlash target.path_and_query parts.kept parts.start

  of_query : AllPass is_query_byte query
  of_query = link_query-bytes keys scope now expires old (signature keys scope expires now head target) plain last (query_of-bytes target.path_and_query parts.kept)

  abbrev tail : List ℕ
  tail = (47 ∷ slash.rest) ++ 63 ∷ query

  one_mark : IsUtf8 (63 ∷ [])
  one_mark = IsUtf8-from_ascii (63 ∷ []) (IsAscii-from_all (63 ∷ []) (All-cons (λ b. b < 128) 63 [] (omega arith) (All-nil (λ b. b < 128))))

  tail_utf8 : IsUtf8 tail
  tail_utf8 =
      let path = subst IsUtf8 slash.is (path_of-IsUtf8 target.path_and_query parts.kept.utf8) in
      let query_text = link_query-IsUtf8 keys scope now expires old (signature keys scope expires now head target) plain last (query_of-IsUtf8 target.path_and_query parts.kept.utf8) in
      IsUtf8-append (47 ∷ slash.rest) (63 ∷ query) path (IsUtf8-append (63 ∷ []) query one_mark query_text)

  spelled : presigned_link keys scope expires now head target ≡ scheme ++ codes "://" ++ authority ++ tail
  spelled = presigned_link-parts keys scope expires now head target ∙ ap (λ path. scheme ++ codes "://" ++ authority ++ (path ++ 63 ∷ query)) slash.is

  short : length (scheme ++ codes "://" ++ authority ++ tail) ≤ 65534
  short = subst (λ text. length text ≤ 65534) spelled (accepted_short (link_head keys scope expires now head target) made.accepted)

  -- the target of the link
  abbrev link_target : PlainTarget
  link_target = record { scheme = Some scheme; authority = Some authority; path_and_query = tail }

  read : target_of (presigned_link keys scope expires now head target) ≡ Some link_target
  read = ap target_of spelled ∙ link-target slash.rest query slash.bytes of_query scheme authority parts.scheme parts.normal parts.authority tail_utf8 short

  same_path : path_of tail ≡ path_of target.path_and_query
  same_path = ap or_slash (front slash.rest query slash.bytes of_query) ∙ (or_slash-cons slash.rest ∙ sym slash.is)

  same_query : raw_query link_target ≡ query
  same_query = ap (λ o. unwrap_or o []) (back slash.rest query slash.bytes of_query)

  link_signed : target_to_sign scope (link_head keys scope expires now head target) ≡ Ok link_target
  link_signed =
      target_to_sign-Ok scope (link_head keys scope expires now head target) link_target made.accepted
      (record { read = read; authority = authority; named = refl; path = ap (is_refused_path scope) same_path ∙ of_head.path })

  same_civil : civil_of t ≡ civil_of now
  same_civil = civil_of-whole_second now made.low

  same_request : canonical_request head.method (path_of tail) (unsigned_query query)
      (field (codes "host") authority ∷ []) unsigned_payload
      ≡ canonical_request head.method (path_of target.path_and_query)
      (query_to_sign keys scope now expires old) (field (codes "host") authority ∷ []) unsigned_payload
  unfolding canonical_request
  same_request =
      let host = field (codes "host") authority ∷ [] in
      ap₂ (λ (path query : List ℕ). joined_lines (head.method ∷ path ∷ query ∷ canonical_headers host ∷ signed_headers host ∷ unsigned_payload ∷ []))
      (ap canonical_path same_path)
      (canonical_query-unsigned keys scope now expires old (signature keys scope expires now head target) made.fresh plain last)

  same_signature : link_signature keys scope t (link_head keys scope expires now head target) link_target
      (unsigned_query query)
      ≡ signature keys scope expires now head target
  unfolding link_signature
  same_signature = signature_of-same scope t now same_civil keys.secret _ ∙ ap (signature_of keys.secret scope now) same_request

  values : HasValues keys scope (link_head keys scope expires now head target) link_target query t expires
  values =
      let signed = signature keys scope expires now head target in
      record {
        read = same_query;
        shaped = shaped keys scope now expires old signed made.fresh plain last;
        date = ap moment_of_text (date_value keys scope now expires old signed made.fresh plain last) ∙ moment_of_text-printed now was.moment made.low;
        expiry = ap expires_of_text (expires_value keys scope now expires old signed made.fresh plain last) ∙ expires_of_text-decimal expires made.some made.most;
        credential = credential_value keys scope now expires old signed made.fresh plain last ∙ sym (credential_text-same scope t now same_civil keys);
        signature = signature_value keys scope now expires old signed made.fresh plain last ∙ sym same_signature;
      }

  found : (soonest latest : ℤ)
      → checked_at keys scope soonest latest (link_head keys scope expires now head target)
      (target_to_sign scope (link_head keys scope expires now head target))
      ≡ found_between t (expiry_of now expires) soonest latest
  found soonest latest =
      ap (checked_at keys scope soonest latest (link_head keys scope expires now head target)) link_signed
      ∙ checked_at-HasValues keys scope (link_head keys scope expires now head target) link_target query t expires values soonest latest

-- what is found at a link that was made
found-WasMade : (keys : Keys) (scope : Scope) (expires : ℕ) (now soonest latest : ℤ) (head link : Head)
    → WasMade keys scope expires now head link
    → checked_at keys scope soonest latest link (target_to_sign scope link)
    ≡ found_between (whole_second now) (expiry_of now expires) soonest latest
found-WasMade keys scope expires now soonest latest head link was =
    let made = made_of keys scope expires now head link was.made in
    subst (λ h. checked_at keys scope soonest latest h (target_to_sign scope h) ≡ found_between (whole_second now) (expiry_of now expires) soonest latest) made.1.is
    (found keys scope expires now head link made.0 was made.1 soonest latest)

from_end : (date : ℤ) (n : ℕ) (u : ℤ) → (date +ℤ pos n) ≤ℤ u → date ≤ℤ u
from_end date n u h = omega (arith, signed_arith, h)

widened : (date : ℤ) (n tolerance : ℕ) (u : ℤ) → (date +ℤ pos n) ≤ℤ (u -ℤ pos tolerance)
    → date ≤ℤ (u +ℤ pos tolerance)
widened date n tolerance u h = omega (arith, signed_arith, h)

module _ (keys : Keys) (scope : Scope) (expires : ℕ) (now u : ℤ) (head link : Head)
    (was : WasMade keys scope expires now head link) where
  checked-WasMade : checked keys scope u link ≡ found_between (whole_second now) (expiry_of now expires) u u
  unfolding checked
  checked-WasMade = found-WasMade keys scope expires now u u head link was

  pub checked-Valid : (checked keys scope u link ≡ Valid) ↔ IsGood now expires u
  checked-Valid =
      subst (λ c. (c ≡ Valid) ↔ IsGood now expires u) (sym checked-WasMade)
      (found_between-Valid (whole_second now) (expiry_of now expires) u u)

  pub checked-Early : u <ℤ whole_second now → checked keys scope u link ≡ Early
  checked-Early early = checked-WasMade ∙ found_between-Early (whole_second now) (expiry_of now expires) u u early

  pub checked-Late : expiry_of now expires ≤ℤ u → checked keys scope u link ≡ Late
  checked-Late past =
      let from : whole_second now ≤ℤ u = from_end (whole_second now) (expires * second_nanos) u past in
      checked-WasMade ∙ found_between-Late (whole_second now) (expiry_of now expires) u u from past

  -- and by a clock that may be wrong
  module _ (tolerance : ℕ) where
    abbrev soonest : ℤ
    soonest = u -ℤ pos tolerance

    abbrev latest : ℤ
    latest = u +ℤ pos tolerance

    within-WasMade : checked_within keys scope u tolerance link
        ≡ found_between (whole_second now) (expiry_of now expires) soonest latest
    unfolding checked_within
    within-WasMade = found-WasMade keys scope expires now soonest latest head link was

    pub within-Valid : (checked_within keys scope u tolerance link ≡ Valid) ↔ IsGoodWithin now expires tolerance u
    within-Valid =
        subst (λ c. (c ≡ Valid) ↔ IsGoodWithin now expires tolerance u) (sym within-WasMade)
        (found_between-Valid (whole_second now) (expiry_of now expires) soonest latest)

    pub within-Early : latest <ℤ whole_second now → checked_within keys scope u tolerance link ≡ Early
    within-Early early = within-WasMade ∙ found_between-Early (whole_second now) (expiry_of now expires) soonest latest early

    pub within-Late : expiry_of now expires ≤ℤ soonest → checked_within keys scope u tolerance link ≡ Late
    within-Late past =
        let from : whole_second now ≤ℤ latest = widened (whole_second now) (expires * second_nanos) tolerance u past in
        within-WasMade ∙ found_between-Late (whole_second now) (expiry_of now expires) soonest latest from past
