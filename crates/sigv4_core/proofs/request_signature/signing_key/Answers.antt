use Rattle.std.proofs.Common.{◌≡◌, ◌++◌, List, ℕ, codes, ap, ap₂, ◌∙◌}
use Rattle.sigv4_core.specs.Signature.{signing_key, mac}
use Rattle.sigv4_core.proofs.request_signature.signing_key.Goals as goal

pub returns : goal.returns
unfolding signing_key
returns c =
    let date = c.args.date.now in
    let start : List ℕ = codes "AWS4" ++ c.args.secret.now in
    let secret : c.as_slice.result.now ≡ start =
    c.as_slice.ensures.value ∙ (c.in_ok-extend_from_slice.ensures.items ∙ ap (λ t. t ++ c.args.secret.now) c.in_ok-start.ensures.items) in
    let for_date : c.as_slice-2.result.now ≡ mac start date =
    c.as_slice-2.ensures.value ∙ (c.in_ok-for_date.ensures ∙ ap (λ k. mac k date) secret) in
    let for_region : c.as_slice-3.result.now ≡ mac (mac start date) c.args.scope.now.region =
    c.as_slice-3.ensures.value ∙ (c.in_ok-for_region.ensures ∙ ap₂ mac for_date c.region.ensures.value) in
    let for_service : c.as_slice-4.result.now ≡ mac (mac (mac start date) c.args.scope.now.region) c.args.scope.now.service =
    c.as_slice-4.ensures.value ∙ (c.in_ok-for_service.ensures ∙ ap₂ mac for_region c.service.ensures.value) in
    rw (← for_service) c.hmac_sha256-4.ensures
