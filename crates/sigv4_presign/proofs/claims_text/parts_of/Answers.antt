use Rattle.std.proofs.Common.{◌≡◌, ℕ, Bool, true, false, not, List, refl, sym, ap, ◌∙◌}
use Rattle.std.specs.Prelude.{bytes_eq}
use Rattle.std.proofs.lemmas.Slice.Eq.{bytes_eq-Decides}
use Rattle.sigv4_core.specs.Signature.{terminator}
use Rattle.sigv4_presign.proofs.SignerText.{no_slash, other_word, no_service, no_region, no_day, parts_found}
use Rattle.sigv4_presign.proofs.claims_text.parts_of.Goals as goal

-- what a test of two texts says, where one of them is known
differs : (r : Bool) (a b text : List ℕ) → r ≡ not (bytes_eq a b) → r ≡ true → b ≡ text → ¬ (a ≡ text)
differs r a b text e other is same =
    let equal : bytes_eq a b ≡ true = (bytes_eq-Decides a b).1 (same ∙ sym is) in
    let fails : r ≡ false = e ∙ ap not equal in
    absurd cc

agrees : (r : Bool) (a b text : List ℕ) → r ≡ not (bytes_eq a b) → r ≡ false → b ≡ text → a ≡ text
agrees r a b text e same is = (bytes_eq-Decides a b).0 (passes (bytes_eq a b) (sym e ∙ same)) ∙ is
  where
    passes : (t : Bool) → not t ≡ false → t ≡ true
    passes true h = refl
    passes false h = absurd cc

pub returns-in_err-rest : goal.returns-in_err-rest
returns-in_err-rest c = rw c.from_residual.ensures (no_slash c.args.text.now c.in_err-rest.ensures)

pub returns-then-ne : goal.returns-then-ne
returns-then-ne c = other_word c.args.text.now c.in_ok-rest.rest.now c.in_ok-rest.last.now c.in_ok-rest.ensures (differs c.ne.result c.in_ok-rest.last.now c.as_slice.result.now terminator c.ne.ensures c.if-ne.true c.as_slice.ensures)

pub returns-in_err-rest-2 : goal.returns-in_err-rest-2
returns-in_err-rest-2 c =
    rw c.from_residual-in_err-rest-2.ensures (no_service c.args.text.now c.in_ok-rest.rest.now c.in_ok-rest.last.now c.in_ok-rest.ensures c.in_err-rest-2.ensures)

pub returns-in_err-rest-3 : goal.returns-in_err-rest-3
returns-in_err-rest-3 c =
    rw c.from_residual-in_err-rest-3.ensures (no_region c.args.text.now c.in_ok-rest.rest.now c.in_ok-rest.last.now c.in_ok-rest.ensures c.in_ok-rest-2.rest.now c.in_ok-rest-2.service.now c.in_ok-rest-2.ensures c.in_err-rest-3.ensures)

pub returns-in_err-access : goal.returns-in_err-access
returns-in_err-access c =
    rw c.from_residual-in_err-access.ensures (no_day c.args.text.now c.in_ok-rest.rest.now c.in_ok-rest.last.now c.in_ok-rest.ensures c.in_ok-rest-2.rest.now c.in_ok-rest-2.service.now c.in_ok-rest-2.ensures c.in_ok-rest-3.rest.now c.in_ok-rest-3.region.now c.in_ok-rest-3.ensures c.in_err-access.ensures)

pub returns : goal.returns
returns c =
    parts_found c.args.text.now c.in_ok-rest.rest.now c.in_ok-rest.last.now c.in_ok-rest.ensures c.in_ok-rest-2.rest.now c.in_ok-rest-2.service.now c.in_ok-rest-2.ensures c.in_ok-rest-3.rest.now c.in_ok-rest-3.region.now c.in_ok-rest-3.ensures c.in_ok-access.access.now c.in_ok-access.day.now (agrees c.ne.result c.in_ok-rest.last.now c.as_slice.result.now terminator c.ne.ensures c.if-ne.false c.as_slice.ensures) c.in_ok-access.ensures
