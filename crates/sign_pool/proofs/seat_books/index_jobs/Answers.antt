use Rattle.std.proofs.Common.{◌≡◌, ℕ, ◌<◌, List, Option, Bool, true, false, take, length, get_or, map, refl, sym, ◌∙◌, ap, subst, arith}
use Rattle.std.specs.Prelude.{IsPermutation, IsSomeAnd, MatchBool, slice_get}
use Rattle.std.specs.HashMap.{keys}
use Rattle.std.proofs.lemmas.List.{length-map, get_or-map}
use Rattle.std.proofs.lemmas.List.Sorted.{IsPermutation-sym}
use Rattle.std.proofs.lemmas.Option.{slice_get_read}
use Rattle.pool_books.specs.Cleared.{joined, tickets_of}
use Rattle.pool_books.specs.declared.job.PoolJob.{PoolJob}
use Rattle.pool_books.proofs.Indexes.{lists-more, lists-twice}
use Rattle.pool_books.proofs.Joined.{list-read, lists-length, joined-all}
use Rattle.sign_pool.specs.Seats.{jobs_of}
use Rattle.sign_pool.specs.declared.seats.Submitter.{Submitter}
use Rattle.pool_books.proofs.Tickets.{apart-moved}
use Rattle.sign_pool.proofs.seat_books.index_jobs.Goals as goal

-- the list of a submitter that is read
module _ (submitters : List Submitter) (i : ℕ) (s : Submitter) (list : List PoolJob)
    (below : i < length submitters) (is : s ≡ get_or submitters i s) (same : list ≡ s.jobs.items) where
  long : length (jobs_of submitters) ≡ length submitters
  long = lists-length (map (λ (x : Submitter). x.jobs) submitters) ∙ length-map submitters (λ (x : Submitter). x.jobs)

  within : i < length (jobs_of submitters)
  within = omega (arith, long, below)

  read : list ≡ get_or (jobs_of submitters) i list
  read =
      let v : s.jobs ≡ get_or (map (λ (x : Submitter). x.jobs) submitters) i s.jobs = ap (λ (x : Submitter). x.jobs) is ∙ sym (get_or-map (λ (x : Submitter). x.jobs) submitters i s s.jobs below) in
      list-read (map (λ (x : Submitter). x.jobs) submitters) i s.jobs list (omega (arith, length-map submitters (λ (x : Submitter). x.jobs), below)) v same

  there : IsSomeAnd (slice_get (jobs_of submitters) i) (λ l. l ≡ list)
  there = let P : Option (List PoolJob) → Type 0 = λ o. IsSomeAnd o (λ l. l ≡ list) in
      subst P (sym (slice_get_read (jobs_of submitters) (length (jobs_of submitters)) i list refl within read)) refl

-- what adding one list says, by whether each of its jobs had a ticket of its own
own : (b : Bool) (P Q : Type 0) → b ≡ true → MatchBool b P Q → P
own true P Q e h = h
own false P Q e h = absurd (cc)

other : (b : Bool) (P Q : Type 0) → b ≡ false → MatchBool b P Q → Q
other true P Q e h = absurd (cc)
other false P Q e h = h

pub returns-then-not-branch : goal.returns-then-not-branch
returns-then-not-branch c =
    let below : c.loop-submitter.submitter < length c.args.submitters.now = omega arith in
    lists-twice (jobs_of c.args.submitters.now) c.loop-submitter.submitter c.jobs.result.now c.loop-submitter.index.entries
    (within c.args.submitters.now c.loop-submitter.submitter c.index-submitters-submitter.result c.jobs.result.now below c.index-submitters-submitter.is c.jobs.ensures)
    (read c.args.submitters.now c.loop-submitter.submitter c.index-submitters-submitter.result c.jobs.result.now below c.index-submitters-submitter.is c.jobs.ensures)
    c.loop-submitter.invariant.keys (other c.in_ok-index_list.field-0 _ _ c.if-not-branch.true c.in_ok-index_list.ensures.keys)

pub loop-submitter-preserved : goal.loop-submitter-preserved
loop-submitter-preserved c =
    let below : c.loop-submitter.submitter < length c.args.submitters.now = omega arith in
    record {
      apart = c.in_ok-index_list.ensures.apart;
      keys = lists-more (jobs_of c.args.submitters.now) c.loop-submitter.submitter c.jobs.result.now c.loop-submitter.index.entries c.index_list.new.index.entries
          (within c.args.submitters.now c.loop-submitter.submitter c.index-submitters-submitter.result c.jobs.result.now below c.index-submitters-submitter.is c.jobs.ensures)
          (read c.args.submitters.now c.loop-submitter.submitter c.index-submitters-submitter.result c.jobs.result.now below c.index-submitters-submitter.is c.jobs.ensures)
          c.loop-submitter.invariant.keys (own c.in_ok-index_list.field-0 _ _ c.if-not-branch.false c.in_ok-index_list.ensures.keys);
      places = c.in_ok-index_list.ensures.places (jobs_of c.args.submitters.now)
          (there c.args.submitters.now c.loop-submitter.submitter c.index-submitters-submitter.result c.jobs.result.now below c.index-submitters-submitter.is c.jobs.ensures)
          c.loop-submitter.invariant.places c.if-not-branch.false;
    }

pub returns : goal.returns
returns c =
    let n : length (jobs_of c.args.submitters.now) ≡ length c.args.submitters.now =
    lists-length (map (λ (x : Submitter). x.jobs) c.args.submitters.now) ∙ length-map c.args.submitters.now (λ (x : Submitter). x.jobs) in
    let all : joined (take c.loop-submitter.submitter (jobs_of c.args.submitters.now)) ≡ joined (jobs_of c.args.submitters.now) =
    joined-all (jobs_of c.args.submitters.now) c.loop-submitter.submitter (omega (arith, n)) in
    let moved : IsPermutation (tickets_of (joined (jobs_of c.args.submitters.now))) (keys c.loop-submitter.index) =
    (let P : List PoolJob → Type 0 = λ l. IsPermutation (tickets_of l) (keys c.loop-submitter.index) in subst P all c.loop-submitter.invariant.keys) in
    record {
      apart = apart-moved (keys c.loop-submitter.index) (tickets_of (joined (jobs_of c.args.submitters.now)))
          (IsPermutation-sym (tickets_of (joined (jobs_of c.args.submitters.now))) (keys c.loop-submitter.index) moved) c.loop-submitter.invariant.apart;
      tickets = moved;
      places = c.loop-submitter.invariant.places;
    }
