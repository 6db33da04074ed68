-- What a finished pool has, by the seats that were handed in.
use Rattle.std.proofs.Common.{◌≡◌, ℕ, ◌<◌, List, length, map, sym, ◌∙◌, ap, subst}
use Rattle.std.proofs.lemmas.List.{length-map}
use Rattle.std.specs.Global.{Vec}
use Rattle.std.specs.Prelude.{All, Option, MatchOption, IsTrue}
use Rattle.std.specs.HashMap.{HashMap}
use Rattle.sign_base.specs.declared.call_id.CallId.{CallId}
use Rattle.sign_base.specs.Calls.{is_among}
use Rattle.sequential_signer.specs.Transcript.{call_of}
use Rattle.sequential_signer.specs.declared.event.Entry.{Entry}
use Rattle.signer_book.specs.Settled.{IsSettled}
use Rattle.signer_book.specs.declared.pass.Receipt.{Receipt}
use Rattle.pool_books.specs.Cleared.{joined, lists_of}
use Rattle.pool_books.specs.Index.{HaveOwnTickets, IsIndexOf}
use Rattle.pool_books.specs.Notes.{HaveNotes}
use Rattle.pool_books.specs.declared.answer.Answer.{Answer}
use Rattle.pool_books.specs.declared.index.JobPlace.{JobPlace}
use Rattle.pool_books.specs.declared.job.PoolJob.{PoolJob}
use Rattle.pool_books.specs.declared.job.Ticket.{Ticket}
use Rattle.pool_books.specs.declared.notes.CallNote.{CallNote}
use Rattle.sign_pool.specs.Calls.{calls_of}
use Rattle.sign_pool.specs.Seats.{jobs_of}
use Rattle.sign_pool.specs.Seats.{answers_of}
use Rattle.sign_pool.specs.declared.seats.Submitter.{Submitter}
use Rattle.sign_pool.specs.declared.seats.Worker.{Worker}
use Rattle.sign_pool.proofs.SettledCalls.{journal-theirs}

module _ {K : Type 0} (workers : List (Worker K)) (passes : List (List (Receipt K)))
    (are : passes ≡ map (λ w. w.pass) workers) where
  pass-count : length passes ≡ length workers
  pass-count = ap length are ∙ length-map workers (λ (w : Worker K). w.pass)

  -- so few passes can be closed
  pub few-passes : (made : ℕ) → length workers ≡ made → made < 4294967295 → length passes < 4294967295
  few-passes made all few = subst (λ (n : ℕ). n < 4294967295) (sym (pass-count ∙ all)) few

  -- each worker has a pass and a list of answers
  pub as-many : (answers : List (Vec Answer)) → answers ≡ map (λ w. w.answers) workers
      → length passes ≡ length answers
  as-many answers answers_are = pass-count ∙ sym (ap length answers_are ∙ length-map workers (λ (w : Worker K). w.answers))

module _ {K : Type 0} (workers : List (Worker K)) (passes : List (List (Receipt K)))
    (passes_are : passes ≡ map (λ w. w.pass) workers)
    (answers : List (Vec Answer)) (answers_are : answers ≡ map (λ w. w.answers) workers) where
  -- the journal has the calls of answers alone
  pub calls-own : (journal : List (Entry K)) → IsSettled journal passes
      → All (λ e. IsTrue (is_among (call_of e.event) (calls_of (joined (lists_of answers))))) journal
  calls-own journal settled =
      let s : IsSettled journal (map (λ (w : Worker K). w.pass) workers) = subst (λ (l : List (List (Receipt K))). IsSettled journal l) passes_are settled in
      let P : List (Vec Answer) → Type 0 = λ l. All (λ (e : Entry K). IsTrue (is_among (call_of e.event) (calls_of (joined (lists_of l))))) journal in
      subst P (sym answers_are) (journal-theirs journal workers s)

  pub noted-own : {S : Type 0} (notes : HashMap CallId CallNote S) → HaveNotes (answers_of workers) notes
      → HaveNotes (joined (lists_of answers)) notes
  noted-own notes has = let P : List (Vec Answer) → Type 0 = λ l. HaveNotes (joined (lists_of l)) notes in subst P (sym answers_are) has

-- the index of the jobs that the submitters handed out
pub index-own : {S : Type 0} (submitters : List Submitter) (submitted : List (Vec PoolJob))
    → submitted ≡ map (λ s. s.jobs) submitters → (index : Option (HashMap Ticket JobPlace S))
    → MatchOption index (HaveOwnTickets (joined (jobs_of submitters)) → ⊥) (IsIndexOf (jobs_of submitters))
    → MatchOption index (HaveOwnTickets (joined (lists_of submitted)) → ⊥) (IsIndexOf (lists_of submitted))
index-own {S} submitters submitted are index h =
    let P : List (Vec PoolJob) → Type 0 = λ l. MatchOption index (HaveOwnTickets (joined (lists_of l)) → ⊥) (IsIndexOf {S = S} (lists_of l)) in
    subst P (sym are) h
