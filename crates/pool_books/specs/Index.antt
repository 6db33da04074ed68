-- The index of submitted jobs by their tickets.
use Rattle.std.specs.Prelude.{◌≡◌, ◌≢◌, List, Option, slice_get, option_and_then, All, AllPairs}
use Rattle.std.specs.Prelude.{IsPermutation, Contains, IsSomeAnd}
use Rattle.std.specs.HashMap.{HashMap, keys}
use Rattle.sequential_signer.specs.declared.event.Entry.{Entry}
use Rattle.pool_books.specs.Cleared.{joined, tickets_of, AreBegunAs}
use Rattle.pool_books.specs.declared.answer.Answer.{Answer}
use Rattle.pool_books.specs.declared.index.JobPlace.{JobPlace}
use Rattle.pool_books.specs.declared.job.PoolJob.{PoolJob}
use Rattle.pool_books.specs.declared.job.Ticket.{Ticket}

-- no two jobs have one ticket
abbrev pub HaveOwnTickets : List PoolJob → Type 0
HaveOwnTickets jobs = AllPairs (λ a b. a ≢ b) (tickets_of jobs)

-- the job at a place
abbrev pub job_at : List (List PoolJob) → JobPlace → Option PoolJob
job_at lists place = option_and_then (λ jobs. slice_get jobs place.at) (slice_get lists place.submitter)

-- at the place there is a job with this ticket
abbrev pub IsPlaceOf : List (List PoolJob) → Ticket × JobPlace → Type 0
IsPlaceOf lists entry = IsSomeAnd (job_at lists entry.1) (λ job. job.ticket ≡ entry.0)

-- each job has a ticket of its own, and the index has their tickets, each with its job's place
pub record IsIndexOf {S : Type 0} (lists : List (List PoolJob))
    (index : HashMap Ticket JobPlace S) : Type 0 where
  pub apart : HaveOwnTickets (joined lists)
  pub tickets : IsPermutation (tickets_of (joined lists)) (keys index)
  pub places : All (IsPlaceOf lists) index.entries

-- each of these tickets is one of those, and none stands twice
pub record AreOnceAmong (those tickets : List Ticket) : Type 0 where
  pub among : All (Contains those) tickets
  pub apart : AllPairs (λ a b. a ≢ b) tickets

-- a submitted job has the answer's ticket, and the answer's call was begun as that job
abbrev pub IsBegunJob : {K : Type 0} → List PoolJob → List (Entry K) → Answer → Type 0
IsBegunJob submitted journal answer =
    Contains (tickets_of submitted) answer.ticket × AreBegunAs submitted journal answer
