-- The target of a head that can be signed, and of the same head at another URI.
use Rattle.std.proofs.Common.{◌≡◌, ℕ, ◌≤◌, true, false, ◌&&◌, inl, inr, ltb, List, [], length, Option, Some, None, Ok, refl, ap, ◌∙◌, arith}
use Rattle.std.specs.Prelude.{is_some}
use Rattle.std.proofs.lemmas.Bool.{cases_Bool, and_parts}
use Rattle.std.proofs.lemmas.Bool.Decides.{nat_tests}
use Rattle.http_uri.specs.Grammar.{path_of}
use Rattle.sign_base.specs.declared.head.Head.{Head}
use Rattle.sign_request.specs.AcceptedHead.{is_accepted_head, is_token, takes_fields}
use Rattle.sign_request.specs.PlainTarget.{PlainTarget, target_of}
use Rattle.sigv4_core.specs.Scope.{Scope}
use Rattle.sigv4_core.specs.SignedHead.{target_to_sign, by_target, unless_refused, target_refusal, is_refused_path}
use Rattle.sigv4_core.specs.declared.sig_error.SigError.{SigError}

-- the head's URI has this target, whose authority is named and whose path is signed
pub record IsTargetOf (scope : Scope) (head : Head) (target : PlainTarget) : Type 0 where
  pub read : target_of head.uri ≡ Some target
  pub authority : List ℕ
  pub named : target.authority ≡ Some authority
  pub path : is_refused_path scope (path_of target.path_and_query) ≡ false

unless_Ok : (t target : PlainTarget) (why : Option SigError) → unless_refused t why ≡ Ok target
    → (t ≡ target) × (why ≡ None)
unless_Ok t target None e = (cc, refl)
unless_Ok t target (Some why) e = absurd (cc)

refusal_None : (scope : Scope) (target : PlainTarget) (named : Option (List ℕ))
    → target_refusal scope target named ≡ None
    → (authority : List ℕ) × (named ≡ Some authority)
    × (is_refused_path scope (path_of target.path_and_query) ≡ false)
refusal_None scope target None e = absurd (cc)
refusal_None scope target (Some authority) e =
    elim (cases_Bool (is_refused_path scope (path_of target.path_and_query))) [
      | inl refused ↦ absurd (let bad = rw refused at e in cc)
      | inr signed ↦ (authority, refl, signed)
    ]

by_target_Ok : (scope : Scope) (head : Head) (target : PlainTarget) (read : Option PlainTarget)
    → target_of head.uri ≡ read → by_target scope read ≡ Ok target → IsTargetOf scope head target
by_target_Ok scope head target None was e = absurd (cc)
by_target_Ok scope head target (Some t) was e =
    let both = unless_Ok t target (target_refusal scope t t.authority) e in
    let not_refused : target_refusal scope target target.authority ≡ None = rw both.0 at both.1 in
    let names = refusal_None scope target target.authority not_refused in
    record { read = was ∙ ap Some both.0; authority = names.0; named = names.1; path = names.2 }

pub target_to_sign-IsTargetOf : (scope : Scope) (head : Head) (target : PlainTarget)
    → target_to_sign scope head ≡ Ok target → IsTargetOf scope head target
unfolding target_to_sign
target_to_sign-IsTargetOf scope head target e =
    elim (cases_Bool (is_accepted_head head)) [
      | inl accepted ↦ by_target_Ok scope head target (target_of head.uri) refl (rw accepted at e)
      | inr refused ↦ absurd (let bad = rw refused at e in cc)
    ]

named_signed : (scope : Scope) (target : PlainTarget) (named : Option (List ℕ)) (authority : List ℕ)
    → named ≡ Some authority → is_refused_path scope (path_of target.path_and_query) ≡ false
    → unless_refused target (target_refusal scope target named) ≡ Ok target
named_signed scope target None authority named path = absurd (cc)
named_signed scope target (Some it) authority named path = rw path refl

pub target_to_sign-Ok : (scope : Scope) (head : Head) (target : PlainTarget) → is_accepted_head head ≡ true
    → IsTargetOf scope head target → target_to_sign scope head ≡ Ok target
unfolding target_to_sign
target_to_sign-Ok scope head target accepted h = rw (accepted, h.read) (named_signed scope target target.authority h.authority h.named h.path)

-- an accepted head has a target, and its URI is not too long
pub accepted_short : (head : Head) → is_accepted_head head ≡ true → length head.uri ≤ 65534
unfolding is_accepted_head target_of
accepted_short head h =
    elim (cases_Bool (ltb 65534 (length head.uri))) [
      | inl long ↦ let read : (is_some (target_of head.uri) ≡ true) × (takes_fields [] head.headers ≡ true) = and_parts (is_some (target_of head.uri)) (takes_fields [] head.headers) (and_parts (is_token head.method) (is_some (target_of head.uri) && takes_fields [] head.headers) h).1 in absurd (let bad = rw long at read.0 in cc)
      | inr short ↦ grind (arith, nat_tests)
    ]
