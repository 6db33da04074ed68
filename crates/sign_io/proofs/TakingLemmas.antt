-- Bytes that are taken of an input piece by piece.
use Rattle.std.proofs.Common.{◌≡◌, false, ◌++◌, ℕ, List, Option, refl, sym, ap, subst, ◌∙◌, inr, arith, append_assoc, append-nil, length, length-append}
use Rattle.std.proofs.lemmas.List.{get_or_append_left, nil_from_length}
use Rattle.std.specs.Io.KnownBytes.{Consumes, Keeps, IsAtEnd}
use Rattle.std.proofs.KnownBytes.{Consumes-trans, Consumes-kept}
use Rattle.sign_io.specs.Lines.{is_newline}
use Rattle.sign_io.specs.LineInput.{LineInput, with_taken, NeedsRead, TakenByNeed}
use Rattle.sign_io.specs.LineBuffer.{Fills}
use Rattle.sign_io.specs.declared.line_buffer.ReadOutcome.TheVariants.{AtEnd, Failed}

-- bytes that were taken by need, of an input and its source
abbrev pub Takes : LineInput → LineInput → Option (List ℕ) → Option (List ℕ) → Type 0
Takes old new before after =
    (bytes : List ℕ) × Consumes before after bytes × TakenByNeed old bytes × (new ≡ with_taken old bytes)

-- a read was needed with fewer bytes too
pub NeedsRead-earlier : (input : LineInput) (bytes : List ℕ) → NeedsRead (with_taken input bytes)
    → NeedsRead input
NeedsRead-earlier input bytes needs = (
  needs.0,
  omega (arith, needs.1, length-append input.held bytes),
  (
    λ k d below. subst (λ (b : ℕ). is_newline b ≡ false) (get_or_append_left input.held bytes d k below)
        (needs.2.0 k d (omega (arith, length-append input.held bytes))),
    omega (arith, needs.2.1, length-append input.held bytes),
  ),
)

-- one piece more was taken
pub takes-more : (old now new : LineInput) (before middle after : Option (List ℕ)) (piece : List ℕ)
    → Takes old now before middle → NeedsRead now → Consumes middle after piece → new ≡ with_taken now piece
    → Takes old new before after
takes-more old now new before middle after piece (bytes, gave, needed, is) needs gives new_is = (
  bytes ++ piece,
  Consumes-trans before middle after bytes piece gave gives,
  inr (bytes, piece, refl, subst NeedsRead is needs),
  new_is ∙ ap (λ i. with_taken i piece) is ∙ ap (λ held. record old { held = held }) (append_assoc old.held bytes piece),
)

-- where a read is needed after some were taken, one was needed before
pub needed-first : (old now : LineInput) (before middle : Option (List ℕ)) → Takes old now before middle
    → NeedsRead now → NeedsRead old
needed-first old now before middle (bytes, gave, needed, is) needs = NeedsRead-earlier old bytes (subst NeedsRead is needs)

-- a read that gave nothing at the end of the source ends the taking
pub fills-at-end : (old now new : LineInput) (before middle after : Option (List ℕ)) (piece : List ℕ)
    → Takes old now before middle → NeedsRead now → Consumes middle after piece → new ≡ with_taken now piece
    → length piece ≡ 0 → IsAtEnd after → Fills old before after AtEnd new
fills-at-end old now new before middle after piece taken needs gives new_is none ends =
    let more = takes-more old now new before middle after piece taken needs gives new_is in
    let same : new ≡ now =
    new_is ∙ ap (with_taken now) (nil_from_length piece none) ∙ ap (λ held. record now { held = held }) (append-nil now.held) in
    (more.0, more.1, more.2, more.3, (subst NeedsRead (sym same) needs, ends))

-- a read that failed ends the taking
pub fills-failed : (old now new : LineInput) (before middle after : Option (List ℕ))
    → Takes old now before middle → NeedsRead now → Keeps middle after → new ≡ now
    → Fills old before after Failed new
fills-failed old now new before middle after (bytes, gave, needed, is) needs keeps same =
    (bytes, Consumes-kept before middle after bytes gave keeps, needed, same ∙ is, subst NeedsRead (sym same) needs)
