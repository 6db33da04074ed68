use Rattle.std.proofs.Common.{refl, ap, ◌∙◌, inr, List, ℕ}
use Rattle.std.specs.Str.Lossy.{utf8_lossy}
use Rattle.std.specs.String.{string_bytes}
use Rattle.http.specs.declared.response.Parts.{Parts}
use Rattle.credentials.proofs.context.with_text_body.Goals as goal

pub returns-in-Ok : goal.returns-in-Ok
returns-in-Ok c =
    let head = ap (λ (p : Parts × List ℕ). p.0) c.into_parts-head.ensures in
    let body = ap (λ (p : Parts × List ℕ). p.1) c.into_parts-head.ensures in
    inr (
      c.from_parts.result,
      refl,
      (
        c.from_parts.ensures.head ∙ head,
        ap string_bytes c.from_parts.ensures.body ∙ (c.in-Ok.ensures.lossy ∙ ap utf8_lossy (c.as_slice.ensures ∙ body)),
      ),
    )
