-- The signature of a canonical request, by its date, its moment and its digest as texts.
use Rattle.std.proofs.Common.{◌≡◌, ℕ, ℤ, List, [], ◌∷◌, ◌++◌, codes, ap, ap₂, ◌∙◌}
use Rattle.hex.specs.Hex.{encode_lower}
use Rattle.sha2.specs.Sha256.{sha256}
use Rattle.sign_time.specs.Calendar.{civil_of}
use Rattle.sign_time.specs.MomentText.{iso8601_text}
use Rattle.sign_request.specs.CanonicalText.{joined_texts}
use Rattle.sigv4_canonical.specs.CanonicalRequest.{joined_lines}
use Rattle.sigv4_core.specs.Scope.{Scope}
use Rattle.sigv4_core.specs.Signature.{algorithm, terminator, mac, date_of, scope_text, string_to_sign, signing_key, signature_under, signature_of}

-- a scope on a date
abbrev pub dated_scope : Scope → List ℕ → List ℕ
dated_scope scope date = joined_texts (codes "/") (date ∷ scope.region ∷ scope.service ∷ terminator ∷ [])

-- the string to sign of these texts
abbrev pub string_of : Scope → List ℕ → List ℕ → List ℕ → List ℕ
string_of scope date time digest = joined_lines (algorithm ∷ time ∷ dated_scope scope date ∷ digest ∷ [])

module _ (secret : List ℕ) (scope : Scope) (t : ℤ) (request date time digest : List ℕ) (on : date_of t ≡ date)
    (at : iso8601_text (civil_of t) ≡ time) (digested : encode_lower (sha256 request) ≡ digest) where
  pub scope_text-dated : scope_text scope t ≡ dated_scope scope date
  unfolding scope_text
  scope_text-dated = ap (dated_scope scope) on

  text-dated : string_to_sign scope t request ≡ string_of scope date time digest
  unfolding string_to_sign
  text-dated =
      ap₂ (λ scoped digest. joined_lines (algorithm ∷ iso8601_text (civil_of t) ∷ scoped ∷ digest ∷ [])) scope_text-dated digested
      ∙ ap (λ time. joined_lines (algorithm ∷ time ∷ dated_scope scope date ∷ digest ∷ [])) at

  key-dated : signing_key secret scope (date_of t)
      ≡ mac (mac (mac (mac (codes "AWS4" ++ secret) date) scope.region) scope.service) terminator
  unfolding signing_key
  key-dated = ap (λ date. mac (mac (mac (mac (codes "AWS4" ++ secret) date) scope.region) scope.service) terminator) on

  pub signature_of-dated : signature_of secret scope t request
      ≡ encode_lower
      (mac (mac (mac (mac (mac (codes "AWS4" ++ secret) date) scope.region) scope.service) terminator)
      (string_of scope date time digest))
  unfolding signature_under
  signature_of-dated = ap₂ (λ key text. encode_lower (mac key text)) key-dated text-dated
