-- What is known of a pool's books is known of them as they are read.
use Rattle.std.proofs.Common.{◌≡◌, List, sym, subst}
use Rattle.std.specs.Global.{Vec}
use Rattle.std.specs.Prelude.{Option, Some, MatchOption, IsSome}
use Rattle.std.specs.HashMap.{HashMap}
use Rattle.std.proofs.lemmas.List.Elements.{All-weaker}
use Rattle.sign_base.specs.declared.call_id.CallId.{CallId}
use Rattle.sequential_signer.specs.declared.event.Entry.{Entry}
use Rattle.signer_book.specs.Settled.{AreEntriesOf}
use Rattle.signer_book.specs.declared.pass.Receipt.{Receipt}
use Rattle.pool_books.specs.Cleared.{joined, lists_of, IsCleared}
use Rattle.pool_books.specs.Index.{HaveOwnTickets, IsIndexOf}
use Rattle.pool_books.specs.Notes.{HaveNotes, note_of}
use Rattle.pool_books.specs.declared.answer.Answer.{Answer}
use Rattle.pool_books.specs.declared.index.JobPlace.{JobPlace}
use Rattle.pool_books.specs.declared.job.PoolJob.{PoolJob}
use Rattle.pool_books.specs.declared.job.Ticket.{Ticket}
use Rattle.pool_books.specs.declared.notes.CallNote.{CallNote}

-- the index of submitted jobs that have tickets of their own
pub index-of : {S : Type 0} (submitted read : List (Vec PoolJob)) → read ≡ submitted
    → (index : Option (HashMap Ticket JobPlace S)) (here : HashMap Ticket JobPlace S) → index ≡ Some here
    → MatchOption index (HaveOwnTickets (joined (lists_of submitted)) → ⊥) (IsIndexOf (lists_of submitted))
    → IsIndexOf (lists_of read) here
index-of {S} submitted read is index here some h =
    let P : List (Vec PoolJob) → Type 0 = λ l. IsIndexOf {S = S} (lists_of l) here in
    let M : Option (HashMap Ticket JobPlace S) → Type 0 = λ o. MatchOption o (HaveOwnTickets (joined (lists_of submitted)) → ⊥) (IsIndexOf (lists_of submitted)) in
    subst P (sym is) (subst M some h)

-- a map that kept the notes of all calls has those of these answers
pub noted-kept : {S : Type 0} (answers read : List (Vec Answer)) → read ≡ answers
    → (old new : HashMap CallId CallNote S)
    → ((call : CallId) → IsSome (note_of old call) → IsSome (note_of new call))
    → HaveNotes (joined (lists_of answers)) old → HaveNotes (joined (lists_of read)) new
noted-kept {S} answers read is old new kept has =
    let P : List (Vec Answer) → Type 0 = λ l. HaveNotes {S = S} (joined (lists_of l)) new in
    subst P (sym is)
    (All-weaker (λ (a : Answer). IsSome (note_of old a.call)) (λ (a : Answer). IsSome (note_of new a.call)) (λ a h. kept a.call h) (joined (lists_of answers)) has)

module _ {K : Type 0} where
  -- the receipts of passes as they were read
  pub entries-read : (journal read_journal : List (Entry K)) (passes read_passes : List (List (Receipt K)))
      → read_journal ≡ journal → read_passes ≡ passes → AreEntriesOf journal passes
      → AreEntriesOf read_journal read_passes
  entries-read journal read_journal passes read_passes j p h =
      let J : List (Entry K) → Type 0 = λ l. AreEntriesOf l read_passes in
      let P : List (List (Receipt K)) → Type 0 = λ l. AreEntriesOf journal l in
      subst J (sym j) (subst P (sym p) h)

  -- a pool is cleared as its books were read
  pub cleared-read : (journal read_journal : List (Entry K)) (answers read_answers : List (Vec Answer))
      (left read_left : List PoolJob) (submitted read_submitted : List (Vec PoolJob)) → read_journal ≡ journal
      → read_answers ≡ answers → read_left ≡ left → read_submitted ≡ submitted
      → IsCleared journal (joined (lists_of answers)) left (joined (lists_of submitted))
      → IsCleared read_journal (joined (lists_of read_answers)) read_left (joined (lists_of read_submitted))
  cleared-read journal read_journal answers read_answers left read_left submitted read_submitted j a l s h =
      let J : List (Entry K) → Type 0 = λ x. IsCleared x (joined (lists_of read_answers)) read_left (joined (lists_of read_submitted)) in
      let A : List (Vec Answer) → Type 0 = λ x. IsCleared journal (joined (lists_of x)) read_left (joined (lists_of read_submitted)) in
      let L : List PoolJob → Type 0 = λ x. IsCleared journal (joined (lists_of answers)) x (joined (lists_of read_submitted)) in
      let S : List (Vec PoolJob) → Type 0 = λ x. IsCleared journal (joined (lists_of answers)) left (joined (lists_of x)) in
      subst J (sym j) (subst A (sym a) (subst L (sym l) (subst S (sym s) h)))
