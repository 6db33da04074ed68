-- What the calls make of a head is its target, or why it has none.
use Rattle.std.proofs.Common.{◌≡◌, ◌⊎◌, ◌∙◌, Bool, true, false, inl, inr, sym, ap, List, ℕ, Option, Some, None, Result, Err, Ok, refl}
use Rattle.std.specs.Prelude.{if◌then◌else◌, is_some, IfOk, IfErr, MatchResult}
use Rattle.http_uri.specs.Grammar.{path_of}
use Rattle.http_uri.specs.Uri.{uri_authority, uri_data}
use Rattle.http_uri.specs.declared.uri.Uri.{Uri}
use Rattle.sign_base.specs.declared.head.Head.{Head}
use Rattle.sign_request.specs.AcceptedHead.{is_accepted_head}
use Rattle.sign_request.specs.PlainTarget.{plain_target, target_of}
use Rattle.sigv4_core.specs.Scope.{Scope}
use Rattle.sigv4_core.specs.SignedHead.{target_to_sign, by_target, unless_refused, target_refusal, is_refused_path}
use Rattle.sigv4_core.specs.declared.sig_error.SigError.{SigError}
use Rattle.sigv4_core.specs.declared.sig_error.SigError.TheVariants as refusal

module _ (scope : Scope) (uri : Uri) where
  at_authority : (authority : Option (List ℕ)) → uri_authority uri ≡ authority
      → by_target scope (Some (plain_target uri))
      ≡ unless_refused (plain_target uri) (target_refusal scope (plain_target uri) authority)
  at_authority authority e = ap (λ o. unless_refused (plain_target uri) (target_refusal scope (plain_target uri) o)) e

  none_at : (authority : Option (List ℕ)) → uri_authority uri ≡ authority → is_some authority ≡ false
      → by_target scope (Some (plain_target uri)) ≡ Err refusal.Authority
  none_at None e none = at_authority None e
  none_at (Some authority) e none = cc

  -- a target without an authority is refused
  pub by_target-no_authority : is_some (uri_authority uri) ≡ false
      → by_target scope (Some (plain_target uri)) ≡ Err refusal.Authority
  by_target-no_authority none = none_at (uri_authority uri) refl none

  some_at : (authority : Option (List ℕ)) (refused : Bool) → uri_authority uri ≡ authority
      → is_some authority ≡ true → is_refused_path scope (path_of (uri_data uri)) ≡ refused
      → by_target scope (Some (plain_target uri))
      ≡ unless_refused (plain_target uri) (if refused then Some refusal.Path else None)
  some_at None refused e some path = cc
  some_at (Some authority) refused e some path =
      at_authority (Some authority) e ∙ ap (λ b. unless_refused (plain_target uri) (if b then Some refusal.Path else None)) path

  -- one with an authority is refused by its path
  pub by_target-path : (refused : Bool) → is_some (uri_authority uri) ≡ true
      → is_refused_path scope (path_of (uri_data uri)) ≡ refused
      → by_target scope (Some (plain_target uri))
      ≡ unless_refused (plain_target uri) (if refused then Some refusal.Path else None)
  by_target-path refused some path = some_at (uri_authority uri) refused refl some path

-- a head that is not accepted has none
pub target_to_sign-none : (scope : Scope) (head : Head) (why : SigError)
    → (why ≡ refusal.OutOfMemory) ⊎ ((why ≡ refusal.Head) × (is_accepted_head head ≡ false))
    → (why ≡ refusal.OutOfMemory) ⊎ (target_to_sign scope head ≡ Err why)
unfolding target_to_sign
target_to_sign-none scope head why (inl memory) = inl memory
target_to_sign-none scope head why (inr h) = inr (rw h.1 (ap Err (sym h.0)))

module _ (scope : Scope) (head : Head) (uri : Uri) (fine : is_accepted_head head ≡ true)
    (is : target_of head.uri ≡ Some (plain_target uri)) where
  -- that of an accepted head is the target of its URI
  accepted : target_to_sign scope head ≡ by_target scope (Some (plain_target uri))
  unfolding target_to_sign
  accepted = rw (fine, is) refl

  abbrev Signable : Result Uri SigError → Type 0
  Signable answer = MatchResult answer
      (λ target. by_target scope (Some (plain_target uri)) ≡ Ok (plain_target target))
      (λ why. by_target scope (Some (plain_target uri)) ≡ Err why)

  -- so what is said of that target is said of the head
  pub target_to_sign-Ok : (answer : Result Uri SigError) → Signable answer
      → IfOk answer (λ uri. target_to_sign scope head ≡ Ok (plain_target uri))
  target_to_sign-Ok (Ok uri) e = accepted ∙ e
  target_to_sign-Ok (Err why) e = tt

  pub target_to_sign-Err : (answer : Result Uri SigError) → Signable answer
      → IfErr answer (λ why. (why ≡ refusal.OutOfMemory) ⊎ (target_to_sign scope head ≡ Err why))
  target_to_sign-Err (Ok uri) e = tt
  target_to_sign-Err (Err why) e = inr (accepted ∙ e)
