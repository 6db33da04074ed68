use Rattle.std.proofs.Common.{◌≡◌, ◌∙◌, ap, sym}
use Rattle.sigv4_core.specs.Signature.{date_of, scope_text}
use Rattle.sigv4_core.proofs.SigningDays.{signing_day}
use Rattle.sigv4_core.proofs.signing_key.SigningKey.of_date.Goals as goal

pub invariant_of-result : goal.invariant_of-result
invariant_of-result c =
    let now = c.args.now in
    let date : c.from_vec.result ≡ date_of now =
    c.from_vec.ensures ∙ (ap (λ bytes. bytes.items) c.into_bytes.ensures.value ∙ c.requires.date) in
    let text : c.in_ok-scope_text.field-0.items ≡ scope_text c.in_ok-try_clone.field-0 now =
    c.in_ok-scope_text.ensures ∙ ap (λ scope. scope_text scope now) (sym c.in_ok-try_clone.ensures) in
    signing_day c.day_of.result c.from_vec.result c.in_ok-try_clone.field-0 c.in_ok-scope_text.field-0.items now c.day_of.ensures date text
