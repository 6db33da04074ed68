use Rattle.std.proofs.Common.{◌≡◌, ◌∷◌, Option, Some, None, MatchOption, IsPermutation, refl, sym, ◌∙◌, arith}
use Rattle.std.specs.HashMap.{keys}
use Rattle.std.specs.Map.{lookup}
use Rattle.pool_books.specs.declared.index.JobPlace.{JobPlace}
use Rattle.pool_books.proofs.Indexes.{keys-more, places-more, twice}
use Rattle.pool_books.proofs.Tickets.{same_ticket, apart-distinct}
use Rattle.pool_books.proofs.index.index_list.Goals as goal

-- where there was no other
at-none : {X : Type 0} (o : Option X) (P : Type 0) (Q : X → Type 0) → ((x : X) → o ≡ Some x → ⊥)
    → MatchOption o P Q → P
at-none None P Q other h = h
at-none (Some x) P Q other h = absurd (other x refl)

pub returns-in-Some-clause-keys : goal.returns-in-Some-clause-keys
returns-in-Some-clause-keys c = λ apart.
    let found : lookup (same_ticket c.index-jobs-at.result.ticket) c.loop-at.index.entries ≡ Some c.in-Some._other = sym c.in_ok-_other.ensures.old ∙ c.in-Some.is in
    twice (keys c.args.index.now) c.args.jobs.now c.loop-at.at c.index-jobs-at.result c.in-Some._other c.loop-at.index.entries (omega arith) c.index-jobs-at.is c.loop-at.invariant.keys found apart

pub loop-at-preserved : goal.loop-at-preserved
loop-at-preserved c =
    let place : JobPlace = record { submitter = c.args.submitter; at = c.loop-at.at } in
    let put : IsPermutation ((c.index-jobs-at.result.ticket, place) ∷ c.loop-at.index.entries) c.insert.new.self.entries =
    at-none c.in_ok-_other.field-0 _ _ c.in_default.not-Some c.in_ok-_other.ensures.entries in
    record {
      apart = apart-distinct (keys c.insert.new.self) c.in_ok-_other.ensures.unique;
      keys = keys-more (keys c.args.index.now) c.args.jobs.now c.loop-at.at c.index-jobs-at.result place c.loop-at.index.entries c.insert.new.self.entries (omega arith) c.index-jobs-at.is
          c.loop-at.invariant.keys put;
      places = λ lists at had.
          places-more lists c.args.submitter c.loop-at.at c.args.jobs.now c.index-jobs-at.result c.loop-at.index.entries c.insert.new.self.entries at (omega arith) c.index-jobs-at.is
          (c.loop-at.invariant.places lists at had) put;
    }
