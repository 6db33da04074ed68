-- What is read of a link's query, and why nothing is.
use Rattle.std.proofs.Common.{◌≡◌, ◌⊎◌, inl, inr, ℕ, ℤ, true, false, List, Option, Some, None, Result, Ok, Err, sym, ap, subst, ◌∙◌}
use Rattle.std.specs.Prelude.{bytes_eq, string_bytes, IfOk, IfErr}
use Rattle.std.proofs.lemmas.Bool.{cases_Bool}
use Rattle.std.proofs.lemmas.Slice.Eq.{bytes_eq-Decides}
use Rattle.sign_base.specs.Moment.{IsMoment}
use Rattle.sign_base.specs.declared.head.Head.{Head}
use Rattle.sign_time.specs.Calendar.{IsFourDigitYear}
use Rattle.sign_request.specs.AcceptedHead.{is_accepted_head}
use Rattle.sign_request.specs.PlainTarget.{PlainTarget, target_of}
use Rattle.sigv4_core.specs.Scope.{Scope, is_scope}
use Rattle.sigv4_core.specs.Signature.{date_of}
use Rattle.sigv4_core.specs.SignedHead.{target_to_sign, by_target}
use Rattle.sigv4_core.specs.declared.sig_error.SigError.{SigError}
use Rattle.sigv4_core.specs.declared.sig_error.SigError.TheVariants as refusal
use Rattle.sigv4_presign.specs.LinkPairs.{credential_name}
use Rattle.sigv4_presign.specs.PresignedLink.{raw_query}
use Rattle.sigv4_presign.specs.CheckedLink.{value_of}
use Rattle.sigv4_presign.specs.LinkFields.{AreFieldsOf, HasNoFields}
use Rattle.sigv4_presign.specs.LinkClaims.{any_path, is_access, AreParts, NamesSigner, GivesSigner, QueryNames, Names, QueryUnread, IsUnread, unread_as}
use Rattle.sigv4_presign.specs.declared.link_claims.LinkClaims.{LinkClaims}
use Rattle.sigv4_presign.specs.declared.link_fields.LinkFields.{LinkFields}
use Rattle.sigv4_presign.specs.declared.link_unread.LinkUnread.{LinkUnread}
use Rattle.sigv4_presign.specs.declared.link_unread.LinkUnread.TheVariants.{Head as HeadRefused, Authority, Shape, Credential, OutOfMemory}
use Rattle.sigv4_presign.proofs.SignerText.{NamesSigner-AreParts, signer-whole, one_parting}

-- a path of an object store is refused for no escape, so a head is refused for two causes alone
by_target-causes : (read : Option PlainTarget) (why : SigError) → by_target any_path read ≡ Err why
    → (why ≡ refusal.Head) ⊎ (why ≡ refusal.Authority)
by_target-causes None why e = inl cc
by_target-causes (Some target) why e = named target.authority e
  where
    named : (authority : Option (List ℕ))
        → by_target any_path (Some (record target { authority = authority })) ≡ Err why
        → (why ≡ refusal.Head) ⊎ (why ≡ refusal.Authority)
    named None e = inr cc
    named (Some authority) e = absurd cc

pub any_path-causes : (head : Head) (why : SigError) → target_to_sign any_path head ≡ Err why
    → (why ≡ refusal.Head) ⊎ (why ≡ refusal.Authority)
unfolding target_to_sign
any_path-causes head why e =
    elim (cases_Bool (is_accepted_head head)) [
      | inl accepted ↦ by_target-causes (target_of head.uri) why (rw accepted at e)
      | inr refused ↦ let bad : Err refusal.Head ≡ Err why = rw refused at e in inl cc
    ]

-- so a refused target is a cause for which nothing is read
pub refused_unread : (head : Head) (scope : Scope) (why : SigError) → scope ≡ any_path
    → (why ≡ refusal.OutOfMemory) ⊎ (target_to_sign scope head ≡ Err why) → IsUnread head (unread_as why)
refused_unread head scope why is (inl memory) = subst (λ w. IsUnread head (unread_as w)) (sym memory) tt
refused_unread head scope why is (inr refused) =
    let e : target_to_sign any_path head ≡ Err why = ap (λ s. target_to_sign s head) (sym is) ∙ refused in
    elim (any_path-causes head why e) [
      | inl unaccepted ↦ subst (λ w. IsUnread head (unread_as w)) (sym unaccepted) (e ∙ ap Err unaccepted)
      | inr nowhere ↦ subst (λ w. IsUnread head (unread_as w)) (sym nowhere) (e ∙ ap Err nowhere)
    ]

-- what is read of a target's query is read of the head
module _ (head : Head) (target : PlainTarget) (query : List ℕ) (read : target_to_sign any_path head ≡ Ok target)
    (is : query ≡ raw_query target) where
  pub names_head : (r : Result LinkClaims LinkUnread) → IfOk r (QueryNames query) → IfOk r (Names head)
  names_head (Ok claims) h = record { target = target; read = read; query = subst (λ q. QueryNames q claims) is h }
  names_head (Err why) h = tt

  unread_target : (why : LinkUnread) → QueryUnread query why → IsUnread head why
  unread_target HeadRefused h = absurd h
  unread_target Authority h = absurd h
  unread_target Shape h = (target, read, subst HasNoFields is h)
  unread_target Credential h = (target, read, subst (λ q. QueryUnread q Credential) is h)
  unread_target OutOfMemory h = tt

  pub unread_head : (r : Result LinkClaims LinkUnread) → IfErr r (QueryUnread query) → IfErr r (IsUnread head)
  unread_head (Ok claims) h = tt
  unread_head (Err why) h = unread_target why h

-- the signer of a text, by its parts
module _ (text access day region service : List ℕ) (t : ℤ) (parts : AreParts text access day region service) where
  pub signer_named : (scope : Scope) → day ≡ date_of t → is_access access ≡ true
      → is_scope region service ≡ true → scope ≡ record { region = region; service = service }
      → NamesSigner text access scope t
  signer_named scope today visible scoped is = subst (λ s. NamesSigner text access s t) (sym is) (record {
    visible = visible;
    scoped = scoped;
    whole = signer-whole text access (record { region = region; service = service }) t (subst (λ d. AreParts text access d region service) today parts);
  })

  module _ (moment : IsMoment t) (year : IsFourDigitYear t) where
    same_parts : (key : List ℕ) (scope : Scope) → NamesSigner text key scope t
        → (access ≡ key) × (day ≡ date_of t) × (region ≡ scope.region) × (service ≡ scope.service)
    same_parts key scope names = one_parting text access day region service key (date_of t) scope.region scope.service parts (NamesSigner-AreParts t moment year text key scope names)

    pub other_day : bytes_eq day (date_of t) ≡ false → GivesSigner text t None
    other_day differs key scope names =
        let same : bytes_eq day (date_of t) ≡ true = (bytes_eq-Decides _ _).1 (same_parts key scope names).1 in
        absurd cc

    pub other_access : is_access access ≡ false → GivesSigner text t None
    other_access hidden key scope names =
        let same : is_access access ≡ true = ap is_access (same_parts key scope names).0 ∙ names.visible in
        absurd cc

    pub other_scope : is_scope region service ≡ false → GivesSigner text t None
    other_scope none key scope names =
        let parted = same_parts key scope names in
        let same : is_scope region service ≡ true = rw (parted.2, parted.3) names.scoped in
        absurd cc

pub no_parts : (text : List ℕ) (t : ℤ) → IsMoment t → IsFourDigitYear t
    → ((access day region service : List ℕ) → ¬ (AreParts text access day region service))
    → GivesSigner text t None
no_parts text t moment year none key scope names =
    none key (date_of t) scope.region scope.service (NamesSigner-AreParts t moment year text key scope names)

-- what a query with these fields names
module _ (query : List ℕ) (link : LinkFields) (fields : AreFieldsOf query link) where
  pub query_names : (claims : LinkClaims) → claims.date ≡ link.date → claims.expires ≡ link.expires
      → NamesSigner (string_bytes link.credential) claims.access claims.scope link.date
      → QueryNames query claims
  query_names claims date expires signer = record {
    shaped = fields.shaped;
    date = fields.date ∙ ap Some (sym date);
    expires = fields.expires ∙ ap Some (sym expires);
    signer = subst (λ t. NamesSigner (value_of query credential_name) claims.access claims.scope t) (sym date)
        (subst (λ text. NamesSigner text claims.access claims.scope link.date) fields.credential signer);
  }

  has_fields : ¬ (HasNoFields query)
  has_fields (inl shape) = let shaped = fields.shaped in absurd cc
  has_fields (inr (inl date)) = let dated = fields.date in absurd cc
  has_fields (inr (inr expires)) = let lasts = fields.expires in absurd cc

  pub query_names_none : GivesSigner (string_bytes link.credential) link.date None → QueryUnread query Credential
  query_names_none none = (
    has_fields,
    λ claims names.
        let dates : Some link.date ≡ Some claims.date = sym fields.date ∙ names.date in
        let same : claims.date ≡ link.date = cc in
        none claims.access claims.scope
        (subst (λ t. NamesSigner (string_bytes link.credential) claims.access claims.scope t) same
        (subst (λ text. NamesSigner text claims.access claims.scope claims.date) (sym fields.credential) names.signer)),
  )
