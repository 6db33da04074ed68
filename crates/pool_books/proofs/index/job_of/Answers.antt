use Rattle.std.proofs.Common.{rules, ◌≡◌, ◌<◌, List, Some, length, get_or, sym, subst, arith}
use Rattle.std.specs.Global.{Vec}
use Rattle.std.specs.Prelude.{All, Contains}
use Rattle.std.specs.Map.{lookup}
use Rattle.std.proofs.lemmas.Option.{slice_get_within}
use Rattle.pool_books.specs.Cleared.{joined, lists_of}
use Rattle.pool_books.specs.Index.{IsPlaceOf}
use Rattle.pool_books.specs.declared.index.JobPlace.{JobPlace}
use Rattle.pool_books.specs.declared.job.PoolJob.{PoolJob}
use Rattle.pool_books.specs.declared.job.Ticket.{Ticket}
use Rattle.pool_books.proofs.Indexes.{Placed, placed, found, absent, in-jobs, placed-within, placed-job}
use Rattle.pool_books.proofs.Joined.{lists-length}
use Rattle.pool_books.proofs.Tickets.{same_ticket}
use Rattle.pool_books.proofs.index.job_of.Goals as goal

module _ (submitted : List (Vec PoolJob)) (es : List (Ticket × JobPlace)) (ticket : Ticket) (place : JobPlace)
    (places : All (IsPlaceOf (lists_of submitted)) es)
    (there : Some place ≡ lookup (same_ticket ticket) es) where
  at : Placed (lists_of submitted) place (λ (job : PoolJob). job.ticket ≡ ticket)
  at = placed (lists_of submitted) place (λ (job : PoolJob). job.ticket ≡ ticket) (found (lists_of submitted) es ticket place places (sym there))

  in-lists : place.submitter < length submitted
  in-lists = omega (arith, slice_get_within (lists_of submitted) place.submitter at.list at.has_list, lists-length submitted)

  module _ (v : Vec PoolJob) (is : v ≡ get_or submitted place.submitter v) where
    in-list : place.at < length v.items
    in-list = placed-within submitted place (λ (job : PoolJob). job.ticket ≡ ticket) at v is in-lists

    is-there : (job : PoolJob) → job ≡ get_or v.items place.at job
        → (job.ticket ≡ ticket) × Contains (joined (lists_of submitted)) job
    is-there job read =
        let same : at.job ≡ job = placed-job submitted place (λ (j : PoolJob). j.ticket ≡ ticket) at v is in-lists job read in
        let P : PoolJob → Type 0 = λ j. (j.ticket ≡ ticket) × Contains (joined (lists_of submitted)) j in
        subst P same (at.holds, in-jobs (lists_of submitted) place.submitter place.at at.list at.job at.has_list at.has_job)

pub returns-in_default : goal.returns-in_default
returns-in_default c = absent (lists_of c.args.submitted.now) c.args.index.now.entries c.args.ticket c.requires.tickets (sym c.in_default.ensures.value)

pub bounds-submitted-place : goal.bounds-submitted-place
bounds-submitted-place c = in-lists c.args.submitted.now c.args.index.now.entries c.args.ticket c.in-Some.place.now c.requires.places c.in-Some.ensures.value

pub offset_bounds-submitted-place : goal.offset_bounds-submitted-place
offset_bounds-submitted-place c =
    let b : c.in-Some.place.now.submitter < length c.args.submitted.now =
    in-lists c.args.submitted.now c.args.index.now.entries c.args.ticket c.in-Some.place.now c.requires.places c.in-Some.ensures.value in
    search rules

pub bounds-jobs-place : goal.bounds-jobs-place
bounds-jobs-place c =
    let P : List PoolJob → Type 0 = λ l. c.in-Some.place.now.at < length l in
    subst P (sym c.as_slice-jobs.ensures.value)
    (in-list c.args.submitted.now c.args.index.now.entries c.args.ticket c.in-Some.place.now c.requires.places c.in-Some.ensures.value c.index-submitted-place.result c.index-submitted-place.is)

pub offset_bounds-jobs-place : goal.offset_bounds-jobs-place
offset_bounds-jobs-place c =
    let P : List PoolJob → Type 0 = λ l. c.in-Some.place.now.at < length l in
    let b : c.in-Some.place.now.at < length c.as_slice-jobs.result.now =
    subst P (sym c.as_slice-jobs.ensures.value)
    (in-list c.args.submitted.now c.args.index.now.entries c.args.ticket c.in-Some.place.now c.requires.places c.in-Some.ensures.value c.index-submitted-place.result c.index-submitted-place.is) in
    search rules

pub returns : goal.returns
returns c =
    let P : List PoolJob → Type 0 = λ l. c.index-jobs-place.result ≡ get_or l c.in-Some.place.now.at c.index-jobs-place.result in
    is-there c.args.submitted.now c.args.index.now.entries c.args.ticket c.in-Some.place.now c.requires.places c.in-Some.ensures.value c.index-submitted-place.result c.index-submitted-place.is
    c.index-jobs-place.result (subst P c.as_slice-jobs.ensures.value c.index-jobs-place.is)
