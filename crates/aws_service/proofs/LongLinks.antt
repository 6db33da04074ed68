-- A duration past seven days is as any other such.
use Rattle.std.proofs.Common.{◌≡◌, ℕ, ℤ, ◌<◌, ◌≤◌, Bool, true, ◌||◌, ◌==◌, nat_lt, min, Ok, Err, refl, sym, ap, arith, inl, inr, ◌⊎◌}
use Rattle.std.proofs.lemmas.Bool.Decides.{nat_tests}
use Rattle.std.specs.Prelude.{Result}
use Rattle.sign_base.specs.declared.head.Head.{Head}
use Rattle.sign_request.specs.PlainTarget.{PlainTarget}
use Rattle.sigv4_core.specs.Credential.{Credential}
use Rattle.sigv4_core.specs.Scope.{Scope}
use Rattle.sigv4_core.specs.SignedHead.{target_to_sign}
use Rattle.sigv4_core.specs.declared.sig_error.SigError.{SigError}
use Rattle.sigv4_presign.specs.PresignedLink.{presigned_at, presigning_of}
use Rattle.aws_credentials.specs.Session.{Session}
use Rattle.aws_service.specs.ServiceView.{ServiceView}
use Rattle.aws_service.specs.SessionLink.{has_token, uri_with_token, linked_or_refused, link_signing}

-- so many seconds are too many
too_many : (a : ℕ) → 604800 < a → ((a == 0) || nat_lt 604800 a) ≡ true
too_many a long = grind (arith, nat_tests)

refused_alike : (keys : Credential) (scope : Scope) (a b : ℕ) (now : ℤ) (head : Head)
    (target : Result PlainTarget SigError) → 604800 < a → 604800 < b
    → presigned_at keys scope a now head target ≡ presigned_at keys scope b now head target
refused_alike keys scope a b now head (Err why) long longer = refl
refused_alike keys scope a b now head (Ok target) long longer = rw (too_many a long, too_many b longer) refl

presigned_alike : (keys : Credential) (scope : Scope) (a b : ℕ) (now : ℤ) (head : Head) → 604800 < a → 604800 < b
    → presigning_of keys scope a now head ≡ presigning_of keys scope b now head
unfolding presigning_of
presigned_alike keys scope a b now head long longer =
    refused_alike keys scope a b now head (target_to_sign scope head) long longer

linked_alike : (service : ServiceView) (session : Session) (a b : ℕ) (now : ℤ) (head : Head)
    → 604800 < a → 604800 < b → link_signing service session a now head ≡ link_signing service session b now head
unfolding link_signing
linked_alike service session a b now head long longer =
    rw (presigned_alike session.key service.scope a b now (record head { uri = uri_with_token session.token head.uri }) long longer) refl

by_size : (service : ServiceView) (session : Session) (n : ℕ) (now : ℤ) (head : Head)
    → (n ≤ 4294967295) ⊎ (4294967295 < n)
    → link_signing service session (min n 4294967295) now head ≡ link_signing service session n now head
by_size service session n now head (inl few) =
    let same : min n 4294967295 ≡ n = omega arith in ap (λ k. link_signing service session k now head) same
by_size service session n now head (inr many) =
    linked_alike service session (min n 4294967295) n now head (omega arith) (omega arith)

-- so a link for the greatest number of seconds that there may be is refused as one for more
pub long_links_alike : (service : ServiceView) (session : Session) (n : ℕ) (now : ℤ) (head : Head)
    → link_signing service session (min n 4294967295) now head ≡ link_signing service session n now head
long_links_alike service session n now head = by_size service session n now head (grind arith)
