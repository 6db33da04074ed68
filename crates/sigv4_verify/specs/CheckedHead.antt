-- What the check of a head that is signed in its headers finds: the first case that holds.
use Rattle.std.specs.Prelude.{◌≡◌, ◌⊎◌, ℕ, ℤ, Bool, not, ◌||◌, List, codes, bytes_eq, int_le}
use Rattle.std.specs.Prelude.{Result, Ok, Err, if◌then◌else◌}
use Rattle.std.specs.List.{list_all}
use Rattle.sign_base.specs.declared.head.Field.{Field}
use Rattle.sign_base.specs.declared.head.Head.{Head}
use Rattle.sign_request.specs.PlainTarget.{PlainTarget}
use Rattle.sigv4_core.specs.Credential.{Credential as Keys}
use Rattle.sigv4_core.specs.Scope.{Scope}
use Rattle.sigv4_core.specs.Signature.{signature_of}
use Rattle.sigv4_core.specs.SignedHead.{is_named, request_to_sign, target_to_sign}
use Rattle.sigv4_core.specs.declared.sig_error.SigError.{SigError}
use Rattle.sigv4_core.specs.declared.sig_error.SigError.TheVariants as refusal
use Rattle.sigv4_presign.specs.LinkPairs.{credential_text}
use Rattle.sigv4_verify.specs.SignedForm.{HasForm, listed}
use Rattle.sigv4_verify.specs.declared.checked_head.CheckedHead.{CheckedHead}
use Rattle.sigv4_verify.specs.declared.checked_head.CheckedHead.TheVariants.{Head as HeadRefused, Authority}
use Rattle.sigv4_verify.specs.declared.checked_head.CheckedHead.TheVariants.{Path, Shape, Credential, Early}
use Rattle.sigv4_verify.specs.declared.checked_head.CheckedHead.TheVariants.{Late, Content, Signature, Valid}
use Rattle.sigv4_verify.specs.declared.signed_form.SignedForm.{SignedForm}

-- the header says what the content is
abbrev pub is_content : Field → Bool
is_content f = is_named (codes "x-amz-content-sha256") f

-- no header says another word than this one
abbrev pub says_no_other : List ℕ → List Field → Bool
says_no_other word headers = list_all (λ f. not (is_content f) || bytes_eq f.value word) headers

-- what is found at a head with a signature of this form, where it is some moment from the soonest to the
-- latest
abbrev pub found_by : Keys → Scope → List ℕ → ℤ → ℤ → Head → PlainTarget → SignedForm → CheckedHead
found_by keys scope word soonest latest head target form =
    if not (bytes_eq form.credential (credential_text keys scope form.date)) then Credential
    else (if not (int_le form.date latest) then Early
    else (if not (int_le soonest form.date) then Late
    else (if not (says_no_other word head.headers) then Content
    else (if not (bytes_eq form.signature (signature_of keys.secret scope form.date
    (request_to_sign head target (listed form.names head.headers) word))) then Signature
    else Valid))))

-- what is found at a head with this target: by the form of its signature, or that it has none
abbrev pub FoundIn : Keys → Scope → List ℕ → ℤ → ℤ → Head → PlainTarget → CheckedHead → Type 0
FoundIn keys scope word soonest latest head target found =
    ((found ≡ Shape) × ((form : SignedForm) → ¬ (HasForm head.headers form)))
    ⊎ ((form : SignedForm) × HasForm head.headers form
    × (found ≡ found_by keys scope word soonest latest head target form))

-- what is found at a head that could be signed, or could not
abbrev pub FoundAt : Keys → Scope → List ℕ → ℤ → ℤ → Head → Result PlainTarget SigError → CheckedHead
    → Type 0
FoundAt keys scope word soonest latest head (Err refusal.Authority) found = found ≡ Authority
FoundAt keys scope word soonest latest head (Err refusal.Path) found = found ≡ Path
FoundAt keys scope word soonest latest head (Err why) found = found ≡ HeadRefused
FoundAt keys scope word soonest latest head (Ok target) found =
    FoundIn keys scope word soonest latest head target found

-- what the check of a head finds by a clock that shows some moment from the soonest to the latest
abbrev pub IsFound : Keys → Scope → List ℕ → ℤ → ℤ → Head → CheckedHead → Type 0
IsFound keys scope word soonest latest head found =
    FoundAt keys scope word soonest latest head (target_to_sign scope head) found
