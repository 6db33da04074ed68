use Rattle.std.proofs.Common.{◌≡◌, ◌∙◌, ap, ap₂}
use Rattle.sign_request.specs.PlainTarget.{plain_target}
use Rattle.sigv4_canonical.specs.CanonicalHeaders.{signed_headers}
use Rattle.sigv4_core.specs.Signature.{signature_under}
use Rattle.sigv4_core.specs.SignedHead.{authorization, request_to_sign, signed_with}
use Rattle.sigv4_core.proofs.signing.signed_with.Goals as goal

pub returns : goal.returns
unfolding signed_with
returns c = λ t day shown.
    let key = c.args.key.now in
    let to_sign = request_to_sign c.args.head.now (plain_target c.args.uri.now) c.args.headers c.args.payload.now in
    let request : c.as_slice.result.now ≡ to_sign =
    c.as_slice.ensures.value ∙ (c.in_ok-texts.ensures.request ∙ ap (λ word. request_to_sign c.args.head.now (plain_target c.args.uri.now) c.args.headers word) c.hash_or_unsigned.ensures) in
    let names : c.as_slice-2.result.now ≡ signed_headers c.args.headers = c.as_slice-2.ensures.value ∙ c.in_ok-texts.ensures.names in
    let signature : c.as_slice-3.result.now ≡ signature_under key.key key.scope t to_sign =
    c.as_slice-3.ensures ∙ (c.in_ok-signature.ensures t day shown ∙ ap (λ text. signature_under key.key key.scope t text) request) in
    let value : c.in_ok-value.value.items ≡ authorization key t (signed_headers c.args.headers) (signature_under key.key key.scope t to_sign) =
    c.in_ok-value.ensures t day ∙ ap₂ (λ n s. authorization key t n s) names signature in
    rw (← value) c.in_ok-with_authorization.ensures
