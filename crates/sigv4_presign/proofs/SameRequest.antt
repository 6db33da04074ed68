-- What the check reads of a head: its method, its URI, and of its headers whether `http` accepts them.
use Rattle.std.proofs.Common.{◌≡◌, ℕ, ℤ, true, not, List, [], ◌∷◌, Option, Some, None, Result, Ok, Err, codes, bytes_eq, refl, sym, ap, ap₂, ◌∙◌}
use Rattle.std.specs.Prelude.{pos, ◌+ℤ◌, ◌-ℤ◌, ◌*◌, int_le, unwrap_or, is_some, if◌then◌else◌}
use Rattle.std.proofs.lemmas.Bool.{and_parts}
use Rattle.http_uri.specs.Grammar.{path_of}
use Rattle.sign_time.specs.Calendar.{second_nanos}
use Rattle.sign_base.specs.declared.head.Head.{Head}
use Rattle.sign_request.specs.AcceptedHead.{is_token, is_accepted_head}
use Rattle.sign_request.specs.PlainTarget.{PlainTarget, target_of}
use Rattle.sigv4_canonical.specs.CanonicalRequest.{canonical_request}
use Rattle.sigv4_core.specs.Credential.{Credential as Keys}
use Rattle.sigv4_core.specs.PayloadWord.{unsigned_payload}
use Rattle.sigv4_core.specs.Scope.{Scope}
use Rattle.sigv4_core.specs.Signature.{signature_of}
use Rattle.sigv4_core.specs.SignedHead.{field, by_target, target_to_sign}
use Rattle.sigv4_core.specs.declared.sig_error.SigError.{SigError}
use Rattle.sigv4_core.specs.declared.sig_error.SigError.TheVariants as refusal
use Rattle.sigv4_presign.specs.CheckedLink.{value_of, is_shaped, unsigned_query, checked_between, checked_shape, checked_at, checked, checked_within}
use Rattle.sigv4_presign.specs.LinkDate.{moment_of_text, expires_of_text}
use Rattle.sigv4_presign.specs.LinkLaw.{WasMade, AskTheSame, IsRequestBy, bare_request}
use Rattle.sigv4_presign.specs.LinkPairs.{credential_name, date_name, expires_name, signature_name, credential_text}
use Rattle.sigv4_presign.specs.PresignedLink.{link_signature, raw_query}
use Rattle.sigv4_presign.specs.declared.checked.Checked.{Checked}
use Rattle.sigv4_presign.specs.declared.checked.Checked.TheVariants.{Shape, Credential, Early, Late, Signature, Valid}
use Rattle.sigv4_presign.proofs.MadeLink.{made_of}

module _ (keys : Keys) (scope : Scope) (head other : Head) (same : AskTheSame head other) where
  same_target : target_to_sign scope head ≡ target_to_sign scope other
  unfolding target_to_sign
  same_target = ap₂ (λ accepted uri. if accepted then by_target scope (target_of uri) else Err refusal.Head) same.accepted same.uri

  same_signature : (t : ℤ) (target : PlainTarget) (query : List ℕ)
      → link_signature keys scope t head target query ≡ link_signature keys scope t other target query
  unfolding link_signature
  same_signature t target query =
      ap (λ method. signature_of keys.secret scope t (canonical_request method (path_of target.path_and_query) query (field (codes "host") (unwrap_or target.authority []) ∷ []) unsigned_payload)) same.method

  module _ (soonest latest : ℤ) where
    same_between : (target : PlainTarget) (t : ℤ) (expires : ℕ)
        → checked_between keys scope soonest latest head target t expires
        ≡ checked_between keys scope soonest latest other target t expires
    same_between target t expires =
        let query = raw_query target in
        ap (λ signature. if not (bytes_eq (value_of query credential_name) (credential_text keys scope t)) then Credential
        else (if not (int_le t latest) then Early
        else (if int_le (t +ℤ pos (expires * second_nanos)) soonest then Late
        else (if not (bytes_eq (value_of query signature_name) signature) then Signature else Valid))))
        (same_signature t target (unsigned_query query))

    same_shape : (target : PlainTarget) (moment : Option ℤ) (expires : Option ℕ)
        → checked_shape keys scope soonest latest head target moment expires
        ≡ checked_shape keys scope soonest latest other target moment expires
    same_shape target None expires = refl
    same_shape target (Some t) None = refl
    same_shape target (Some t) (Some expires) = same_between target t expires

    same_at : (answer : Result PlainTarget SigError)
        → checked_at keys scope soonest latest head answer ≡ checked_at keys scope soonest latest other answer
    same_at (Err refusal.Head) = refl
    same_at (Err refusal.Authority) = refl
    same_at (Err refusal.Path) = refl
    same_at (Err refusal.Moment) = refl
    same_at (Err refusal.OutOfMemory) = refl
    same_at (Ok target) =
        ap (λ found. if is_shaped (raw_query target) then found else Shape)
        (same_shape target (moment_of_text (value_of (raw_query target) date_name)) (expires_of_text (value_of (raw_query target) expires_name)))

    found_same : checked_at keys scope soonest latest head (target_to_sign scope head)
        ≡ checked_at keys scope soonest latest other (target_to_sign scope other)
    found_same = same_at (target_to_sign scope head) ∙ ap (checked_at keys scope soonest latest other) same_target

  pub checked-AskTheSame : (u : ℤ) → checked keys scope u head ≡ checked keys scope u other
  unfolding checked
  checked-AskTheSame u = found_same u u

  pub within-AskTheSame : (u : ℤ) (tolerance : ℕ)
      → checked_within keys scope u tolerance head ≡ checked_within keys scope u tolerance other
  unfolding checked_within
  within-AskTheSame u tolerance = found_same (u -ℤ pos tolerance) (u +ℤ pos tolerance)

-- a link that was made is accepted, so a request by it asks the same
pub checked-IsRequestBy : (keys : Keys) (scope : Scope) (expires : ℕ) (now u : ℤ) (head link request : Head)
    → WasMade keys scope expires now head link → IsRequestBy link request
    → checked keys scope u request ≡ checked keys scope u link
checked-IsRequestBy keys scope expires now u head link request was by =
    let made = made_of keys scope expires now head link was.made in
    let accepted : is_accepted_head link ≡ true = ap is_accepted_head (sym made.1.is) ∙ made.1.accepted in
    checked-AskTheSame keys scope request link (record { method = by.method; uri = by.uri; accepted = by.accepted ∙ sym accepted }) u

-- the bare request of a link is a request by it
pub bare_request-IsRequestBy : (keys : Keys) (scope : Scope) (expires : ℕ) (now : ℤ) (head link : Head)
    → WasMade keys scope expires now head link → IsRequestBy link (bare_request link)
unfolding is_accepted_head
bare_request-IsRequestBy keys scope expires now head link was =
    let made = made_of keys scope expires now head link was.made in
    let accepted : is_accepted_head link ≡ true = ap is_accepted_head (sym made.1.is) ∙ made.1.accepted in
    let method = and_parts (is_token link.method) _ accepted in
    let target = and_parts (is_some (target_of link.uri)) _ method.1 in
    record { method = refl; uri = refl; accepted = rw (method.0, target.0) refl }

-- so what is found at the bare request of a link is what is found at the link
pub found-bare : (keys : Keys) (scope : Scope) (expires : ℕ) (now u : ℤ) (head link request : Head)
    (found : Checked) → WasMade keys scope expires now head link → request ≡ bare_request link
    → found ≡ checked keys scope u request → found ≡ checked keys scope u link
found-bare keys scope expires now u head link request found was bare is =
    is ∙ (ap (checked keys scope u) bare
    ∙ checked-IsRequestBy keys scope expires now u head link (bare_request link) was (bare_request-IsRequestBy keys scope expires now head link was))
