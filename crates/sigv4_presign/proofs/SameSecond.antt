-- Moments at which calendar and clock show the same are signed alike.
use Rattle.std.proofs.Common.{◌≡◌, ℕ, ℤ, List, [], ◌∷◌, ◌++◌, codes, ap, ap₂}
use Rattle.hex.specs.Hex.{encode_lower}
use Rattle.sha2.specs.Sha256.{sha256}
use Rattle.sign_time.specs.Calendar.{civil_of}
use Rattle.sign_time.specs.MomentText.{date_text, iso8601_text}
use Rattle.sign_request.specs.CanonicalText.{joined_texts}
use Rattle.sigv4_canonical.specs.CanonicalRequest.{joined_lines}
use Rattle.sigv4_core.specs.Credential.{Credential as Keys}
use Rattle.sigv4_core.specs.Scope.{Scope}
use Rattle.sigv4_core.specs.Signature.{algorithm, terminator, mac, date_of, scope_text, string_to_sign, signing_key, signature_under, signature_of}
use Rattle.sigv4_presign.specs.LinkPairs.{credential_text}

module _ (scope : Scope) (s t : ℤ) (same : civil_of s ≡ civil_of t) where
  date_of-same : date_of s ≡ date_of t
  date_of-same = ap date_text same

  scope_text-same : scope_text scope s ≡ scope_text scope t
  unfolding scope_text
  scope_text-same = ap (λ date. joined_texts (codes "/") (date ∷ scope.region ∷ scope.service ∷ terminator ∷ [])) date_of-same

  string_to_sign-same : (request : List ℕ) → string_to_sign scope s request ≡ string_to_sign scope t request
  unfolding string_to_sign
  string_to_sign-same request =
      ap₂ (λ (moment scoped : List ℕ). joined_lines (algorithm ∷ moment ∷ scoped ∷ encode_lower (sha256 request) ∷ [])) (ap iso8601_text same) scope_text-same

  pub signature_of-same : (secret request : List ℕ)
      → signature_of secret scope s request ≡ signature_of secret scope t request
  unfolding signature_under
  signature_of-same secret request =
      ap₂ (λ (date text : List ℕ). encode_lower (mac (signing_key secret scope date) text)) date_of-same (string_to_sign-same request)

  pub credential_text-same : (keys : Keys) → credential_text keys scope s ≡ credential_text keys scope t
  credential_text-same keys = ap (λ scoped. keys.access ++ (codes "/" ++ scoped)) scope_text-same
