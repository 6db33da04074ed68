use Rattle.std.proofs.Common.{◌≡◌, ◌++◌, ◌∷◌, true, false, ℕ, List, [], length, subst, append-nil, eqb-true, take, drop, refl, sym, ap, ◌∙◌, append_assoc, arith}
use Rattle.std.proofs.KnownBytes.{Appends-nil, Appends-trans}
use Rattle.std.proofs.lemmas.List.{take-append-drop}
use Rattle.std.specs.Prelude.{◌==◌}
use Rattle.std.specs.Io.KnownBytes.{Appends}
use Rattle.signctl_driver.proofs.RunFaults.{counts-same}
use Rattle.signctl_driver.proofs.output.write_all.Goals as goal

-- what stood before the rest, the part that was written, and the new rest are the text
regrouped : (text done rest new : List ℕ) (n : ℕ) → text ≡ done ++ rest → new ≡ drop n rest
    → text ≡ (done ++ take n rest) ++ new
regrouped text done rest new n whole back =
    whole ∙ ap (λ (s : List ℕ). done ++ s) (sym (take-append-drop n rest)) ∙ sym (append_assoc done (take n rest) (drop n rest))
    ∙ ap (λ (s : List ℕ). (done ++ take n rest) ++ s) (sym back)

-- all of it was written once nothing is left
whole_text : (text done rest : List ℕ) → text ≡ done ++ rest → true ≡ (length rest == 0) → done ≡ text
whole_text text done [] parts none = sym (parts ∙ append-nil done)
whole_text text done (b ∷ rest) parts none = absurd (omega (arith, eqb-true (length (b ∷ rest)) 0 (sym none)))

-- where something is left, there was something
some_text : (text done rest : List ℕ) → text ≡ done ++ rest → false ≡ (length rest == 0) → text ≡ [] → ⊥
some_text text done [] parts some none = absurd cc
some_text text [] (b ∷ rest) parts some none = cc
some_text text (a ∷ done) (b ∷ rest) parts some none = cc

pub loop-rest-preserved : goal.loop-rest-preserved
loop-rest-preserved g c =
    let done = c.loop-rest.invariant.written in
    let rest = c.loop-rest.rest.now in
    record {
      written = (
        done.0 ++ take c.in_ok-n.n rest,
        regrouped _ done.0 rest _ c.in_ok-n.n done.1 c.split_at.ensures.back,
        Appends-trans _ _ _ done.0 _ done.2 c.in_ok-n.ensures.bytes,
      );
      faults = c.in_ok-n.ensures.faults ∙ c.loop-rest.invariant.faults;
    }

pub loop-rest-init : goal.loop-rest-init
loop-rest-init g c = record {
  written = ([], refl, Appends-nil _);
  faults = refl;
}

pub loop-rest-smaller : goal.loop-rest-smaller
loop-rest-smaller g c = omega (arith, c.split_at.ensures.back_len, c.in_ok-n.ensures.some, c.in_ok-n.ensures.bound)

pub split_at-requires : goal.split_at-requires
split_at-requires g c = c.in_ok-n.ensures.bound

pub returns-clause-faults : goal.returns-clause-faults
returns-clause-faults g c = c.loop-rest.invariant.faults

pub returns-clause-ok : goal.returns-clause-ok
returns-clause-ok g c =
    let done = c.loop-rest.invariant.written in
    let P : List ℕ → Type 0 = λ v. Appends (g.D.Sink.holds c.args.sink.now) (g.D.Sink.holds c.loop-rest.sink) v in
    subst P (whole_text _ _ _ done.1 c.loop-rest-test.ensures) done.2

pub returns-in_err-n-clause-nothing : goal.returns-in_err-n-clause-nothing
returns-in_err-n-clause-nothing g c = λ none.
    absurd (some_text _ _ _ c.loop-rest.invariant.written.1 c.loop-rest-test.ensures none)

pub returns-in_err-n-clause-faults : goal.returns-in_err-n-clause-faults
returns-in_err-n-clause-faults g c =
    counts-same true _ _ _ _ c.in_err-n.ensures.faults c.from_residual.ensures.0 c.loop-rest.invariant.faults
