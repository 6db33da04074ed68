-- A run that refused its input has written the whole output to it.
use Rattle.std.proofs.Common.{◌≡◌, ℕ, inl, inr, false, List, [], ◌++◌, Option, Some, None, refl, sym, ap, ◌∙◌, subst, arith, length-append}
use Rattle.std.proofs.lemmas.List.{append-nil}
use Rattle.std.specs.Io.KnownBytes.{Appends, Consumes}
use Rattle.signctl_driver.specs.Command.{Command}
use Rattle.signctl_driver.specs.Run.{IsRefused}
use Rattle.signctl_driver.specs.declared.status.Status.TheVariants.{Refused, Usage}
use Rattle.signctl_core.specs.Commands.{RunsOver, Runs, IsRun}
use Rattle.signctl_driver.specs.Streams.{Stream}
use Rattle.signctl_core.specs.declared.commands.CommandName.{CommandName}
use Rattle.signctl_core.specs.declared.commands.CommandName.TheVariants.{Script, Hmac, View, Grant, Sigv4, Audit, Load}
use Rattle.domreth_run.specs.Answers.{IsOutput, IsText, IsAnswer}
use Rattle.domreth_run.proofs.BadStays.{past-alike, output-stays, bad-more}

module _ {Item Cause : Type 0} (command : Command Item Cause) where
  -- what was taken is the front of the input
  pub refused-front : (taken rest added : List ℕ) → IsRefused command (Some rest) taken added
      → IsOutput command (taken ++ rest) false added
  refused-front taken rest added h = elim h.cause [
    | inl bad ↦ (h.text ∙ output-stays command taken rest bad, inl (bad-more command taken rest bad))
    | inr (inl at_end) ↦
        let P : List ℕ → Type 0 = λ v. IsOutput command v false added in
        let whole : taken ++ rest ≡ taken = ap (λ v. taken ++ v) at_end.0 ∙ append-nil taken in
        subst P (sym whole) (h.text, inl at_end.1)
    | inr (inr past) ↦ (h.text ∙ past-alike command taken rest past, inr (omega (arith, length-append taken rest, past)))
  ]

  pub refused-output : {S D : Type 0} (source : Stream S) (sink : Stream D) (input rest old text : List ℕ)
      → source.holds source.old ≡ Some input → source.holds source.new ≡ Some rest
      → sink.holds sink.old ≡ Some old → old ≡ [] → sink.holds sink.new ≡ Some text
      → RunsOver command Refused source sink → IsOutput command input false text
  refused-output source sink input rest old text a b c d e h =
      let taken : List ℕ = h.0 in
      let added : List ℕ = h.1 in
      let C : Option (List ℕ) → Type 0 = λ v. Consumes v (source.holds source.new) taken in
      let C' : Option (List ℕ) → Type 0 = λ v. Consumes (Some input) v taken in
      let A : Option (List ℕ) → Type 0 = λ v. Appends v (sink.holds sink.new) added in
      let A' : Option (List ℕ) → Type 0 = λ v. Appends (Some old) v added in
      let R : Option (List ℕ) → Type 0 = λ v. IsRefused command v taken added in
      let front : input ≡ taken ++ rest = subst C' b (subst C a h.2) in
      let all : text ≡ old ++ added = subst A' e (subst A c h.4) in
      let same : added ≡ text = sym (all ∙ ap (λ v. v ++ added) d) in
      let P : List ℕ → Type 0 = λ v. IsOutput command v false added in
      let Q : List ℕ → Type 0 = λ v. IsOutput command input false v in
      subst Q same (subst P (sym front) (refused-front taken rest added (subst R b h.5)))

-- the text of a refused run
pub refused-text : {S D : Type 0} (source : Stream S) (sink : Stream D) (input rest old text : List ℕ)
    → source.holds source.old ≡ Some input → source.holds source.new ≡ Some rest
    → sink.holds sink.old ≡ Some old → old ≡ [] → sink.holds sink.new ≡ Some text
    → (name : CommandName) → Runs name Refused source sink → IsText name input false text
refused-text source sink input rest old text a b c d e Script h = refused-output _ source sink input rest old text a b c d e h
refused-text source sink input rest old text a b c d e Hmac h = refused-output _ source sink input rest old text a b c d e h
refused-text source sink input rest old text a b c d e View h = refused-output _ source sink input rest old text a b c d e h
refused-text source sink input rest old text a b c d e Grant h = refused-output _ source sink input rest old text a b c d e h
refused-text source sink input rest old text a b c d e Sigv4 h = refused-output _ source sink input rest old text a b c d e h
refused-text source sink input rest old text a b c d e Audit h = refused-output _ source sink input rest old text a b c d e h
refused-text source sink input rest old text a b c d e (Load n) h = absurd h.1.2

-- and of one that was asked for
pub refused-answer : {S D : Type 0} (source : Stream S) (sink : Stream D) (input rest old text : List ℕ)
    → source.holds source.old ≡ Some input → source.holds source.new ≡ Some rest
    → sink.holds sink.old ≡ Some old → old ≡ [] → sink.holds sink.new ≡ Some text
    → (asked : Option CommandName) → IsRun Runs asked Refused source sink → IsAnswer asked input false text
refused-answer source sink input rest old text a b c d e (Some name) h =
    refused-text source sink input rest old text a b c d e name h.bytes
refused-answer source sink input rest old text a b c d e None h =
    let wrong : Refused ≡ Usage = h.usage.1 refl in cc
