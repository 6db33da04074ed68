-- The bytes of a link's query, and the link as one text of its parts.
use Rattle.std.proofs.Common.{◌≡◌, ℕ, ℤ, ◌<◌, true, ◌==◌, inl, inr, List, [], ◌∷◌, ◌++◌, length, map, codes, All, IsAscii, IsUtf8, refl, sym, ap, ◌∙◌, arith, append_assoc}
use Rattle.std.specs.Prelude.{unwrap_or}
use Rattle.std.proofs.lemmas.Bool.{cases_Bool}
use Rattle.std.proofs.lemmas.List.Elements.{All-nil, All-cons, All-append, All-head, All-tail}
use Rattle.std.proofs.lemmas.Str.{IsUtf8-append, IsUtf8-from_ascii}
use Rattle.std.proofs.lemmas.Str.Ascii.{IsAscii-from_all}
use Rattle.http_uri.specs.ByteClasses.{is_query_byte}
use Rattle.http_uri.specs.Grammar.{AllPass, path_of}
use Rattle.sign_base.specs.declared.head.Head.{Head}
use Rattle.sign_request.specs.CanonicalText.{joined_texts}
use Rattle.sign_request.specs.PlainTarget.{PlainTarget}
use Rattle.sign_request.specs.Query.{Pair}
use Rattle.sigv4_core.specs.Credential.{Credential as Keys}
use Rattle.sigv4_core.specs.Scope.{Scope}
use Rattle.sigv4_presign.specs.LinkPairs.{signature_name, signed_pairs, pair_piece, query_to_sign}
use Rattle.sigv4_presign.specs.PresignedLink.{link_signature, raw_query, presigned_link}
use Rattle.sigv4_presign.proofs.EncodedBytes.{is_encoded_byte, AreUnreserved, encoded_is_query, encoded_small, percent_encoded-AreUnreserved}
use Rattle.sigv4_presign.proofs.LinkQuery.{link_query}
use Rattle.sigv4_presign.proofs.PairPieces.{IsPlainPair, pair_piece-is, All-pair_piece}
use Rattle.sigv4_presign.proofs.SignatureBytes.{signature_under-AreUnreserved}

-- what holds of each encoded byte, of `=` and of `&` holds of each byte of joined pieces
module _ (P : ℕ → Type 0) (encoded : (b : ℕ) → is_encoded_byte b ≡ true → P b) (equals : P 61)
    (mark : P 38) where
  pub All-joined : (pairs : List Pair) → All IsPlainPair pairs
      → All P (joined_texts (codes "&") (map pair_piece pairs))
  All-joined [] h = All-nil P
  All-joined (p ∷ []) h = All-pair_piece P encoded equals p (All-head IsPlainPair p [] h)
  All-joined (p ∷ q ∷ ps) h =
      let rest = joined_texts (codes "&") (map pair_piece (q ∷ ps)) in
      All-append P (pair_piece p ++ 38 ∷ []) rest
      (All-append P (pair_piece p) (38 ∷ []) (All-pair_piece P encoded equals p (All-head IsPlainPair p (q ∷ ps) h)) (All-cons P 38 [] mark (All-nil P)))
      (All-joined (q ∷ ps) (All-tail IsPlainPair p (q ∷ ps) h))

  pub All-query_to_sign : (keys : Keys) (scope : Scope) (now : ℤ) (expires : ℕ) (old : List ℕ)
      → All IsPlainPair (signed_pairs keys scope now expires) → All P old
      → All P (query_to_sign keys scope now expires old)
  unfolding query_to_sign
  All-query_to_sign keys scope now expires old plain h =
      let joined = joined_texts (codes "&") (map pair_piece (signed_pairs keys scope now expires)) in
      elim (cases_Bool (length old == 0)) [
        | inl none ↦ rw none (All-joined (signed_pairs keys scope now expires) plain)
        | inr some ↦ rw some (All-append P old (38 ∷ joined) h (All-cons P 38 joined mark (All-joined (signed_pairs keys scope now expires) plain)))
      ]

module _ (keys : Keys) (scope : Scope) (now : ℤ) (expires : ℕ) (old signature : List ℕ)
    (plain : All IsPlainPair (signed_pairs keys scope now expires))
    (last : IsPlainPair (signature_name, signature)) where
  abbrev query : List ℕ
  query = link_query keys scope now expires old signature

  abbrev sixth : List ℕ
  sixth = pair_piece (signature_name, signature)

  -- a link's query has bytes of a query
  pub link_query-bytes : AllPass is_query_byte old → AllPass is_query_byte query
  link_query-bytes h =
      let Query : ℕ → Type 0 = λ b. is_query_byte b ≡ true in
      All-append Query (query_to_sign keys scope now expires old) (38 ∷ sixth) (All-query_to_sign Query encoded_is_query refl refl keys scope now expires old plain h)
      (All-cons Query 38 sixth refl (All-pair_piece Query encoded_is_query refl (signature_name, signature) last))

  small_joined : IsAscii (joined_texts (codes "&") (map pair_piece (signed_pairs keys scope now expires)))
  small_joined = IsAscii-from_all (joined_texts (codes "&") (map pair_piece (signed_pairs keys scope now expires))) (All-joined (λ b. b < 128) encoded_small (omega arith) (omega arith) (signed_pairs keys scope now expires) plain)

  small_sixth : IsAscii (38 ∷ sixth)
  small_sixth = IsAscii-from_all (38 ∷ sixth) (All-cons (λ b. b < 128) 38 sixth (omega arith) (All-pair_piece (λ b. b < 128) encoded_small (omega arith) (signature_name, signature) last))

  query_to_sign-IsUtf8 : IsUtf8 old → IsUtf8 (query_to_sign keys scope now expires old)
  unfolding query_to_sign
  query_to_sign-IsUtf8 h =
      let joined = joined_texts (codes "&") (map pair_piece (signed_pairs keys scope now expires)) in
      elim (cases_Bool (length old == 0)) [
        | inl none ↦ rw none (IsUtf8-from_ascii joined small_joined)
        | inr some ↦ rw some (IsUtf8-append old (38 ∷ joined) h (IsUtf8-append (38 ∷ []) joined (IsUtf8-from_ascii (38 ∷ []) one_mark) (IsUtf8-from_ascii joined small_joined)))
      ]
    where
      one_mark : IsAscii (38 ∷ [])
      one_mark = IsAscii-from_all (38 ∷ []) (All-cons (λ b. b < 128) 38 [] (omega arith) (All-nil (λ b. b < 128)))

  -- and is text where the old one is
  pub link_query-IsUtf8 : IsUtf8 old → IsUtf8 query
  link_query-IsUtf8 h = IsUtf8-append (query_to_sign keys scope now expires old) (38 ∷ sixth) (query_to_sign-IsUtf8 h) (IsUtf8-from_ascii (38 ∷ sixth) small_sixth)

-- a signature needs no encoding
pub link_signature-AreUnreserved : (keys : Keys) (scope : Scope) (now : ℤ) (head : Head)
    (target : PlainTarget) (signed : List ℕ)
    → AreUnreserved (link_signature keys scope now head target signed)
unfolding link_signature
link_signature-AreUnreserved keys scope now head target signed = signature_under-AreUnreserved _ scope now _

module _ (keys : Keys) (scope : Scope) (expires : ℕ) (now : ℤ) (head : Head) (target : PlainTarget) where
  abbrev signed_query : List ℕ
  signed_query = query_to_sign keys scope now expires (raw_query target)

  abbrev pub signature : List ℕ
  signature = link_signature keys scope now head target signed_query

  abbrev pub whole_query : List ℕ
  whole_query = link_query keys scope now expires (raw_query target) signature

  abbrev scheme : List ℕ
  scheme = unwrap_or target.scheme (codes "http")

  abbrev authority : List ℕ
  authority = unwrap_or target.authority []

  abbrev path : List ℕ
  path = path_of target.path_and_query

  last_piece : pair_piece (signature_name, signature) ≡ signature_name ++ 61 ∷ signature
  last_piece =
      pair_piece-is (signature_name, signature)
      ∙ ap (λ text. signature_name ++ 61 ∷ text) (percent_encoded-AreUnreserved signature (link_signature-AreUnreserved keys scope now head target signed_query))

  -- the link is scheme, authority, path and query
  pub presigned_link-parts : presigned_link keys scope expires now head target
      ≡ scheme ++ codes "://" ++ authority ++ (path ++ 63 ∷ whole_query)
  unfolding presigned_link
  presigned_link-parts =
      ap (λ last. scheme ++ (codes "://" ++ (authority ++ (path ++ 63 ∷ (signed_query ++ 38 ∷ last))))) (sym last_piece)
      ∙ sym (append_assoc (scheme ++ codes "://") authority (path ++ 63 ∷ whole_query) ∙ append_assoc scheme (codes "://") (authority ++ (path ++ 63 ∷ whole_query)))
