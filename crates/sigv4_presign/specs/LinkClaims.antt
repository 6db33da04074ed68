-- What a link names, which is read of it before any secret is looked up.
use Rattle.std.specs.Prelude.{◌≡◌, ◌≢◌, ℕ, ℤ, Bool, true, false, ◌&&◌, List, ◌∷◌, ◌++◌, All, codes}
use Rattle.std.specs.Prelude.{length, nat_lt, Option, Some, None, Ok, Err}
use Rattle.std.specs.Char.{is_ascii_graphic}
use Rattle.std.specs.List.{list_all}
use Rattle.http_uri.specs.ByteClasses.{slash}
use Rattle.sign_base.specs.declared.head.Head.{Head}
use Rattle.sign_request.specs.PlainTarget.{PlainTarget}
use Rattle.sigv4_core.specs.Scope.{Scope, is_scope}
use Rattle.sigv4_core.specs.Signature.{scope_text, terminator}
use Rattle.sigv4_core.specs.SignedHead.{target_to_sign}
use Rattle.sigv4_core.specs.declared.sig_error.SigError.{SigError}
use Rattle.sigv4_core.specs.declared.sig_error.SigError.TheVariants as refusal
use Rattle.sigv4_presign.specs.LinkPairs.{credential_name, date_name, expires_name}
use Rattle.sigv4_presign.specs.PresignedLink.{raw_query}
use Rattle.sigv4_presign.specs.LinkDate.{moment_of_text, expires_of_text}
use Rattle.sigv4_presign.specs.CheckedLink.{is_shaped, value_of}
use Rattle.sigv4_presign.specs.LinkFields.{HasNoFields}
use Rattle.sigv4_presign.specs.declared.claims_text.CredentialParts.{CredentialParts}
use Rattle.sigv4_presign.specs.declared.claims_text.LinkSigner.{LinkSigner}
use Rattle.sigv4_presign.specs.declared.link_claims.LinkClaims.{LinkClaims}
use Rattle.sigv4_presign.specs.declared.link_unread.LinkUnread.{LinkUnread}
use Rattle.sigv4_presign.specs.declared.link_unread.LinkUnread.TheVariants.{Head as HeadRefused, Authority}
use Rattle.sigv4_presign.specs.declared.link_unread.LinkUnread.TheVariants.{Shape, Credential, OutOfMemory}

-- the scope under which a target is read while the link's own is not known: an object store's, whose paths
-- may have escapes
abbrev pub any_path : Scope
any_path = record { region = codes "any"; service = codes "s3" }

-- a text cut at its last mark
pub record IsLastCut (mark : ℕ) (text before behind : List ℕ) : Type 0 where
  pub whole : text ≡ before ++ mark ∷ behind
  pub last : All (λ b. b ≢ mark) behind

-- the text is these four and `aws4_request`, between slashes; the access key alone may have one itself
pub record AreParts (text access day region service : List ℕ) : Type 0 where
  pub whole : text ≡ (((access ++ slash ∷ day) ++ slash ∷ region) ++ slash ∷ service) ++ slash ∷ terminator
  pub one_day : All (λ b. b ≢ slash) day
  pub one_region : All (λ b. b ≢ slash) region
  pub one_service : All (λ b. b ≢ slash) service

-- the parts of a text, if it has them
abbrev pub GivesParts : List ℕ → Option CredentialParts → Type 0
GivesParts text None = (access day region service : List ℕ) → ¬ (AreParts text access day region service)
GivesParts text (Some parts) =
    AreParts text parts.access.now parts.day.now parts.region.now parts.service.now

-- the scope of a region and a service, if a scope may have them
abbrev pub GivesScope : List ℕ → List ℕ → Option Scope → Type 0
GivesScope region service None = is_scope region service ≡ false
GivesScope region service (Some scope) =
    (is_scope region service ≡ true) × (scope ≡ record { region = region; service = service })

-- an access key that a credential may have
abbrev pub is_access : List ℕ → Bool
is_access access = nat_lt 0 (length access) && list_all is_ascii_graphic access

-- the text names this access key, and this scope on the day of a moment
pub record NamesSigner (text access : List ℕ) (scope : Scope) (t : ℤ) : Type 0 where
  pub visible : is_access access ≡ true
  pub scoped : is_scope scope.region scope.service ≡ true
  pub whole : text ≡ access ++ (codes "/" ++ scope_text scope t)

-- the access key and the scope that a text names on a day, if it names any
abbrev pub GivesSigner : List ℕ → ℤ → Option LinkSigner → Type 0
GivesSigner text t None = (access : List ℕ) (scope : Scope) → ¬ (NamesSigner text access scope t)
GivesSigner text t (Some signer) = NamesSigner text signer.access signer.scope t

-- the query is that of a link that names these
pub record QueryNames (query : List ℕ) (claims : LinkClaims) : Type 0 where
  pub shaped : is_shaped query ≡ true
  pub date : moment_of_text (value_of query date_name) ≡ Some claims.date
  pub expires : expires_of_text (value_of query expires_name) ≡ Some claims.expires
  pub signer : NamesSigner (value_of query credential_name) claims.access claims.scope claims.date

-- the head's URI is a link that names these
pub record Names (head : Head) (claims : LinkClaims) : Type 0 where
  pub target : PlainTarget
  pub read : target_to_sign any_path head ≡ Ok target
  pub query : QueryNames (raw_query target) claims

-- why nothing is read of a head that is refused: of these causes any path leaves the first two
abbrev pub unread_as : SigError → LinkUnread
unread_as refusal.Head = HeadRefused
unread_as refusal.Authority = Authority
unread_as refusal.Path = HeadRefused
unread_as refusal.Moment = HeadRefused
unread_as refusal.OutOfMemory = OutOfMemory

-- why a query names nothing: it has not the form of a link's, or what it has as credential is none
abbrev pub QueryUnread : List ℕ → LinkUnread → Type 0
QueryUnread query Shape = HasNoFields query
QueryUnread query Credential =
    ¬ (HasNoFields query) × ((claims : LinkClaims) → ¬ (QueryNames query claims))
QueryUnread query OutOfMemory = Unit {0}
QueryUnread query HeadRefused = ⊥
QueryUnread query Authority = ⊥

-- the target was read, and its query names nothing for this cause
abbrev pub TargetUnread : Head → LinkUnread → Type 0
TargetUnread head why =
    (target : PlainTarget) × (target_to_sign any_path head ≡ Ok target) × QueryUnread (raw_query target) why

-- why a head's URI names nothing, the first cause that holds; and an allocation may fail at any
abbrev pub IsUnread : Head → LinkUnread → Type 0
IsUnread head HeadRefused = target_to_sign any_path head ≡ Err refusal.Head
IsUnread head Authority = target_to_sign any_path head ≡ Err refusal.Authority
IsUnread head Shape = TargetUnread head Shape
IsUnread head Credential = TargetUnread head Credential
IsUnread head OutOfMemory = Unit {0}

-- the keys and the scope are those that a link names
abbrev pub IsSignerOf : LinkClaims → List ℕ → Scope → Type 0
IsSignerOf claims access scope = (access ≡ claims.access) × (scope ≡ claims.scope)
