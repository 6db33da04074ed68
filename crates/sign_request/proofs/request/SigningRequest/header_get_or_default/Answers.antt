use Rattle.std.proofs.Common.{◌≡◌, ◌∙◌, [], Option, refl, sym, ap, subst, inl, inr}
use Rattle.std.specs.Option.{option_map_or}
use Rattle.http_header.specs.FieldValue.{FieldValue, IsVisibleAscii}
use Rattle.sign_request.specs.Headers.{first_value}
use Rattle.sign_request.proofs.request.SigningRequest.header_get_or_default.Goals as goal

pub returns-in-Ok-clause-ok : goal.returns-in-Ok-clause-ok
returns-in-Ok-clause-ok c =
    (c.in-Ok.ensures {u = tt}).ok ∙ ap (λ (found : Option FieldValue). option_map_or (λ v. v.bytes) found []) (c.in-Some.ensures {u = tt}).value

pub returns-in-Ok-clause-visible : goal.returns-in-Ok-clause-visible
returns-in-Ok-clause-visible c =
    let first : c.in-Some.value.now.bytes ≡ first_value c.args.self.now.headers c.args.key.now =
    ap (λ (found : Option FieldValue). option_map_or (λ v. v.bytes) found []) (c.in-Some.ensures {u = tt}).value in
    subst IsVisibleAscii first ((c.in-Ok.ensures {u = tt}).succeeds.0 refl)

pub returns-in-Err-clause-err : goal.returns-in-Err-clause-err
returns-in-Err-clause-err c =
    let first : c.in-Some.value.now.bytes ≡ first_value c.args.self.now.headers c.args.key.now =
    ap (λ (found : Option FieldValue). option_map_or (λ v. v.bytes) found []) (c.in-Some.ensures {u = tt}).value in
    elim c.refusal.ensures [
      | inl memory ↦ inl memory
      | inr is ↦ inr (is, λ visible. let wrong = (c.in-Err.ensures {u = tt}).succeeds.1 (subst IsVisibleAscii (sym first) visible) in cc)
    ]
