use Rattle.std.proofs.Common.{◌≡◌, ◌++◌, [], ◌∷◌, List, ℕ, codes, append_assoc, refl, ap, ap₂, ◌∙◌}
use Rattle.sigv4_core.specs.Signature.{scope_text}
use Rattle.sigv4_core.specs.SignedHead.{authorization}
use Rattle.sigv4_core.proofs.signing.authorization.Goals as goal

in_a_row : (first access scope before_names names before_signature signature : List ℕ)
    → ((((((first ++ access) ++ 47 ∷ []) ++ scope) ++ before_names) ++ names) ++ before_signature)
    ++ signature
    ≡ first ++ (access ++ (47 ∷ (scope ++ (before_names ++ (names ++ (before_signature ++ signature))))))
in_a_row first access scope before_names names before_signature signature = simp append_assoc refl

pub returns : goal.returns
unfolding authorization
returns c = λ t day.
    let first : List ℕ = codes "AWS4-HMAC-SHA256 Credential=" in
    let slash : List ℕ = 47 ∷ [] in
    let before_names : List ℕ = codes ", SignedHeaders=" in
    let before_signature : List ℕ = codes ", Signature=" in
    let key = c.args.key.now in
    let scope = scope_text key.scope t in
    let begun : c.extend_from_slice.new.self.items ≡ first =
    c.in_ok-extend_from_slice.ensures.items ∙ ap (λ s. s ++ first) c.in_ok-text.ensures.items in
    let started : c.push.new.self.items ≡ (first ++ key.access) ++ slash =
    c.in_ok-push.ensures.items ∙ ap (λ s. s ++ slash) (c.in_ok-extend_from_slice-2.ensures.items ∙ ap₂ (λ s a. s ++ a) begun c.access.ensures) in
    let scoped : c.extend_from_slice-3.new.self.items ≡ ((first ++ key.access) ++ slash) ++ scope =
    c.in_ok-extend_from_slice-3.ensures.items ∙ ap₂ (λ s a. s ++ a) started (c.credential_scope.ensures t day) in
    c.in_ok-extend_from_slice-7.ensures.items
    ∙ (ap (λ s. s ++ c.args.signature.now) (c.in_ok-extend_from_slice-6.ensures.items
    ∙ ap (λ s. s ++ before_signature) (c.in_ok-extend_from_slice-5.ensures.items
    ∙ ap (λ s. s ++ c.args.names.now) (c.in_ok-extend_from_slice-4.ensures.items
    ∙ ap (λ s. s ++ before_names) scoped)))
    ∙ in_a_row first key.access scope before_names c.args.names.now before_signature c.args.signature.now)
