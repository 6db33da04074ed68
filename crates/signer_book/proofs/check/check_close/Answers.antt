use Rattle.std.proofs.Common.{◌≡◌, ℕ, All, length, refl, sym, ◌∙◌, ap, subst, vec_capacity}
use Rattle.std.proofs.Math.Nat.{le_refl}
use Rattle.std.proofs.lemmas.List.{length-replicate}
use Rattle.std.proofs.lemmas.List.Elements.{All-replicate}
use Rattle.signer_book.proofs.PlacesWithin.{places-within}
use Rattle.signer_book.proofs.check.check_close.Goals as goal

pub first_double-requires-clause-within : goal.first_double-requires-clause-within
first_double-requires-clause-within g c =
    let long : length c.as_mut_slice.result.now ≡ length c.args.journal.now = ap length (c.as_mut_slice.ensures.value ∙ c.free_places.ensures.items) ∙ length-replicate (length c.args.journal.now) 4294967295 in
    places-within c.args.journal.now c.args.passes.now (length c.as_mut_slice.result.now) (sym long) c.in_default.ensures

pub first_double-requires-clause-free : goal.first_double-requires-clause-free
first_double-requires-clause-free g c =
    let Free : ℕ → Type 0 = λ owner. owner ≡ 4294967295 in
    subst (All Free) (sym (c.as_mut_slice.ensures.value ∙ c.free_places.ensures.items)) (All-replicate Free (length c.args.journal.now) 4294967295 refl)

pub first_double-requires-clause-rising : goal.first_double-requires-clause-rising
first_double-requires-clause-rising g c = c.in_default-first_fall.ensures

pub first_double-requires-clause-few : goal.first_double-requires-clause-few
first_double-requires-clause-few g c = c.requires.few

pub returns-in-Some : goal.returns-in-Some
returns-in-Some g c =
    let counted = sym c.count_receipts-have.ensures ∙ c.if-have-from.false ∙ c.from.ensures in
    record {
      why = (c.if-not-same_setup.ensures, counted, c.in-Some.ensures.0, c.in-Some.ensures.1);
      capacity = le_refl (vec_capacity c.args.owners.now);
    }

pub returns-in-Some-first_fall : goal.returns-in-Some-first_fall
returns-in-Some-first_fall g c =
    let counted = sym c.count_receipts-have.ensures ∙ c.if-have-from.false ∙ c.from.ensures in
    record {
      why = (c.if-not-same_setup.ensures, counted, c.in_default.ensures, c.in-Some-first_fall.ensures);
      capacity = le_refl (vec_capacity c.args.owners.now);
    }

pub returns-in-Some-first_double : goal.returns-in-Some-first_double
returns-in-Some-first_double g c =
    let counted = sym c.count_receipts-have.ensures ∙ c.if-have-from.false ∙ c.from.ensures in
    record {
      why = (c.if-not-same_setup.ensures, counted, c.in_default.ensures, c.in_default-first_fall.ensures, c.in-Some-first_double.ensures);
      capacity = c.free_places.ensures.capacity;
    }

pub returns-in-None : goal.returns-in-None
returns-in-None g c =
    record {
      why = (
        c.if-not-same_setup.ensures,
        record {
          counted = sym c.count_receipts-have.ensures ∙ c.if-have-from.false ∙ c.from.ensures;
          entries = c.in_default.ensures;
          rising = c.in_default-first_fall.ensures;
          distinct = c.in-None.ensures;
        },
      );
      capacity = c.free_places.ensures.capacity;
    }
