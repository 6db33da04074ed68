-- A head with another URI is accepted where that URI is read.
use Rattle.std.proofs.Common.{◌≡◌, ℕ, Bool, true, false, ◌&&◌, inl, inr, List, [], Ok, refl}
use Rattle.std.specs.Prelude.{is_some}
use Rattle.std.proofs.lemmas.Bool.{cases_Bool, and_parts}
use Rattle.sign_base.specs.declared.head.Head.{Head}
use Rattle.sign_request.specs.AcceptedHead.{is_accepted_head, is_token, takes_fields}
use Rattle.sign_request.specs.PlainTarget.{PlainTarget, target_of}
use Rattle.sigv4_core.specs.Scope.{Scope}
use Rattle.sigv4_core.specs.SignedHead.{target_to_sign}

-- a head that can be signed is accepted
pub signable-accepted : (scope : Scope) (head : Head) (target : PlainTarget)
    → target_to_sign scope head ≡ Ok target → is_accepted_head head ≡ true
unfolding target_to_sign
signable-accepted scope head target e =
    elim (cases_Bool (is_accepted_head head)) [
      | inl accepted ↦ accepted
      | inr refused ↦ absurd (let bad = rw refused at e in cc)
    ]

pub with_uri-accepted : (head : Head) (uri : List ℕ) → is_accepted_head head ≡ true
    → is_accepted_head (record head { uri = uri }) ≡ is_some (target_of uri)
unfolding is_accepted_head
with_uri-accepted head uri accepted =
    let method = and_parts (is_token head.method) (is_some (target_of head.uri) && takes_fields [] head.headers) accepted in
    let fields = and_parts (is_some (target_of head.uri)) (takes_fields [] head.headers) method.1 in
    rw (method.0, fields.1) (last (is_some (target_of uri)))
  where
    last : (b : Bool) → (b && true) ≡ b
    last true = refl
    last false = refl
