-- When the books of a pool balance, by an index of its submitted jobs.
use Rattle.std.proofs.Common.{◌≡◌, ◌↔◌, Bool, true, false, List, ◌++◌, length, get_or, refl, subst, arith}
use Rattle.std.specs.Prelude.{All, Contains, IsPermutation, IsTrue, MatchBool}
use Rattle.std.proofs.lemmas.Bool.{false≢true}
use Rattle.std.proofs.lemmas.List.{length-map, get_or-map}
use Rattle.std.proofs.lemmas.List.Elements.{All-weaker}
use Rattle.std.proofs.lemmas.List.Sorted.{IsPermutation-sym, IsPermutation-trans}
use Rattle.sequential_signer.specs.declared.event.Entry.{Entry}
use Rattle.pool_books.specs.Cleared.{IsCleared, AreBegunAs, tickets_of, answered_tickets}
use Rattle.pool_books.specs.Index.{HaveOwnTickets, IsBegunJob}
use Rattle.pool_books.specs.declared.answer.Answer.{Answer}
use Rattle.pool_books.specs.declared.job.PoolJob.{PoolJob}
use Rattle.pool_books.specs.declared.job.Ticket.{Ticket}
use Rattle.pool_books.proofs.Joined.{all-left}
use Rattle.pool_books.proofs.Tickets.{among-same}

-- what is empty is decided by a test
pub decides-empty : (r : Bool) (N A : Type 0) → IsTrue r ↔ N → (N → A) → ((N → ⊥) → A → ⊥)
    → MatchBool r A (A → ⊥)
decides-empty true N A is yes_then no_then = yes_then (is.0 refl)
decides-empty false N A is yes_then no_then = no_then (λ n. false≢true (is.1 n))

module _ {K : Type 0} (journal : List (Entry K)) (answers : List Answer) (left submitted : List PoolJob)
    (keys : List Ticket) (apart : HaveOwnTickets submitted)
    (indexed : IsPermutation (tickets_of submitted) keys) where
  pub cleared-from : All (Contains submitted) left → All (IsBegunJob submitted journal) answers
      → IsPermutation keys (answered_tickets answers ++ tickets_of left)
      → IsCleared journal answers left submitted
  cleared-from kept begun moved = record {
    apart = apart;
    each_once = IsPermutation-trans (tickets_of submitted) keys (answered_tickets answers ++ tickets_of left) indexed moved;
    kept = kept;
    begun = All-weaker (IsBegunJob submitted journal) (AreBegunAs submitted journal) (λ a b. b.1) answers begun;
  }

  pub each-from : IsCleared journal answers left submitted
      → IsPermutation keys (answered_tickets answers ++ tickets_of left)
  each-from cleared =
      IsPermutation-trans keys (tickets_of submitted) (answered_tickets answers ++ tickets_of left) (IsPermutation-sym (tickets_of submitted) keys indexed) cleared.each_once

-- the answers of a cleared pool are of submitted jobs
pub begun-jobs : {K : Type 0} (journal : List (Entry K)) (answers : List Answer)
    (left submitted : List PoolJob) → IsCleared journal answers left submitted
    → All (IsBegunJob submitted journal) answers
begun-jobs journal answers left submitted cleared = λ k d below.
    let among = among-same (tickets_of submitted) (answered_tickets answers ++ tickets_of left) cleared.each_once cleared.apart in
    let all : All (Contains (tickets_of submitted)) (answered_tickets answers) = all-left (Contains (tickets_of submitted)) (answered_tickets answers) (tickets_of left) among.among in
    let n : length (answered_tickets answers) ≡ length answers = length-map answers (λ (a : Answer). a.ticket) in
    let here : get_or (answered_tickets answers) k d.ticket ≡ (get_or answers k d).ticket = get_or-map (λ (a : Answer). a.ticket) answers k d d.ticket below in
    (subst (Contains (tickets_of submitted)) here (all k d.ticket (omega (arith, n, below))), cleared.begun k d below)
