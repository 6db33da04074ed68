use Rattle.std.proofs.Common.{◌≡◌, ◌++◌, [], ◌∷◌, List, ℕ, append_assoc, refl, ap, ap₂, ◌∙◌}
use Rattle.sigv4_core.specs.Signature.{scope_text, date_of, terminator}
use Rattle.sigv4_core.proofs.request_signature.scope_text.Goals as goal

in_a_row : (date region service last : List ℕ)
    → ((((date ++ 47 ∷ []) ++ region) ++ 47 ∷ []) ++ service) ++ (47 ∷ last)
    ≡ (date ++ 47 ∷ []) ++ ((region ++ 47 ∷ []) ++ ((service ++ 47 ∷ []) ++ last))
in_a_row date region service last = simp append_assoc refl

pub returns : goal.returns
unfolding scope_text
returns c =
    let date : c.as_bytes.result.now ≡ date_of c.args.now = c.as_bytes.ensures.value ∙ c.in_ok-format_date.ensures c.requires in
    let slash : List ℕ = 47 ∷ [] in
    c.in_ok-extend_from_slice-3.ensures.items
    ∙ (ap (λ t. t ++ 47 ∷ terminator) (c.in_ok-extend_from_slice-2.ensures.items
    ∙ ap₂ (λ t s. t ++ s) (c.in_ok-push-2.ensures.items
    ∙ ap (λ t. t ++ slash) (c.in_ok-extend_from_slice.ensures.items
    ∙ ap₂ (λ t s. t ++ s) (c.in_ok-push.ensures.items
    ∙ ap (λ t. t ++ slash) (c.in_ok-text.ensures.items ∙ date)) c.region.ensures.value)) c.service.ensures.value)
    ∙ in_a_row (date_of c.args.now) c.args.scope.now.region c.args.scope.now.service terminator)
