use Rattle.std.proofs.Common.{◌≡◌, ◌∙◌, ap, ap₂, sym}
use Rattle.hex.specs.Hex.{encode_lower}
use Rattle.sign_time.specs.Calendar.{civil_of}
use Rattle.sign_time.specs.MomentText.{iso8601_text}
use Rattle.sigv4_core.specs.Signature.{mac, scope_text, string_to_sign, signature_under, text_to_sign}
use Rattle.sigv4_core.proofs.signing_key.SigningKey.signature_at.Goals as goal

pub returns : goal.returns
unfolding signature_under string_to_sign
returns c = rw (← c.self.view_is)
    (λ t day shown.
    let key = c.self.inside in
    let request = c.args.request.now in
    let scope : c.as_slice.result.now ≡ scope_text key.scope t =
    c.as_slice.ensures.value ∙ sym (c.self.invariant.same_scope t (sym day)) in
    let text : c.as_slice-2.result.now ≡ text_to_sign (iso8601_text (civil_of t)) (scope_text key.scope t) request =
    c.as_slice-2.ensures.value ∙ (c.in_ok-text.ensures ∙ ap₂ (λ d s. text_to_sign d s request) shown scope) in
    c.from_vec.ensures ∙ (ap (λ bytes. bytes.items) c.into_bytes.ensures.value
    ∙ (c.in_ok-signature.ensures ∙ ap (λ m. encode_lower (mac key.key m)) text)))
