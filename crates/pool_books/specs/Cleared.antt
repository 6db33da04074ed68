-- Whether the books of a pool balance: each job that was submitted is answered or left, once, and its call
-- was begun as it was submitted.
use Rattle.std.specs.Prelude.{◌≡◌, ◌≢◌, ◌++◌, List, map, flat_map, All, AllPairs, Contains, IsPermutation}
use Rattle.std.specs.Global.{Vec}
use Rattle.sequential_signer.specs.declared.event.Entry.{Entry}
use Rattle.sequential_signer.specs.declared.event.Event.{Event}
use Rattle.sequential_signer.specs.declared.event.Event.TheVariants.{Begin}
use Rattle.pool_books.specs.declared.answer.Answer.{Answer}
use Rattle.pool_books.specs.declared.job.PoolJob.{PoolJob}
use Rattle.pool_books.specs.declared.job.Ticket.{Ticket}

-- the lists of vectors
abbrev pub lists_of : {X : Type 0} → List (Vec X) → List (List X)
lists_of vectors = map (λ v. v.items) vectors

-- the items of all lists, list by list
abbrev pub joined : {X : Type 0} → List (List X) → List X
joined lists = flat_map (λ list. list) lists

-- the tickets of jobs
abbrev pub tickets_of : List PoolJob → List Ticket
tickets_of jobs = map (λ job. job.ticket) jobs

-- the tickets of answers
abbrev pub answered_tickets : List Answer → List Ticket
answered_tickets answers = map (λ answer. answer.ticket) answers

-- where the event begins the answer's call, a submitted job with the answer's
-- ticket has its head and duration
abbrev pub IsBegunAs : {K : Type 0} → List PoolJob → Answer → Event K → Type 0
IsBegunAs submitted answer (Begin call head expires_in) =
    call ≡ answer.call
    → Contains submitted (record { ticket = answer.ticket; head = head; expires_in = expires_in })
IsBegunAs submitted answer _ = Unit {0}

-- each begin of the answer's call in the journal is of the job with the answer's ticket
abbrev pub AreBegunAs : {K : Type 0} → List PoolJob → List (Entry K) → Answer → Type 0
AreBegunAs submitted journal answer = All (λ e. IsBegunAs submitted answer e.event) journal

-- No two submitted jobs have one ticket; the tickets of answers and of the jobs that are left are
-- those of submitted jobs, each once; each job that is left is as it was submitted; and so is what the
-- calls of answers were begun with.
pub record IsCleared {K : Type 0} (journal : List (Entry K)) (answers : List Answer)
    (left submitted : List PoolJob) : Type 0 where
  pub apart : AllPairs (λ a b. a ≢ b) (tickets_of submitted)
  pub each_once : IsPermutation (tickets_of submitted) (answered_tickets answers ++ tickets_of left)
  pub kept : All (Contains submitted) left
  pub begun : All (AreBegunAs submitted journal) answers
