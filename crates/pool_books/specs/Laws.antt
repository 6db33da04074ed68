-- The law of finished pools: a head that an answer calls done is the one that the sequential signer makes at
-- that point of the journal, for the head and the duration that were submitted under the answer's ticket.
use Rattle.std.specs.Prelude.{◌≡◌, List, Some, option_map, slice_get, take, All, Contains, IsSomeAnd}
use Rattle.std.specs.Duration.{as_nanos}
use Rattle.std.specs.List.{AllZip}
use Rattle.sign_base.specs.declared.head.Head.{Head}
use Rattle.sequential_signer.specs.ExpectedReply.{expected_reply}
use Rattle.sequential_signer.specs.Hold.{begin_of}
use Rattle.sequential_signer.specs.Legal.{IsLegal}
use Rattle.sequential_signer.specs.Policy.{Policy}
use Rattle.sequential_signer.specs.Setup.{Setup}
use Rattle.sequential_signer.specs.Transcript.{committed_entries}
use Rattle.sequential_signer.specs.declared.event.Entry.{Entry}
use Rattle.sequential_signer.specs.declared.event.Reply.TheVariants as reply
use Rattle.signer_book.specs.declared.pass.Receipt.{Receipt}
use Rattle.pool_books.specs.Cleared.{IsCleared}
use Rattle.pool_books.specs.TrueAnswers.{IsReadOff, IsTrueAnswer}
use Rattle.pool_books.specs.declared.answer.Answer.{Answer}
use Rattle.pool_books.specs.declared.answer.Outcome.TheVariants.{Done}
use Rattle.pool_books.specs.declared.job.PoolJob.{PoolJob}

-- the receipt is the journal's last entry of the answer's call, with this head, which is the sequential
-- signer's after the entries before it; and there that call was begun with the head and the duration of the
-- submitted job with the answer's ticket
pub record IsSignedAsSubmitted {K D : Type 0} (policy : Policy K D) (setup : Setup D)
    (journal : List (Entry K)) (submitted : List PoolJob) (answer : Answer) (receipt : Receipt K)
    (head : Head) : Type 0 where
  pub read : IsReadOff journal answer receipt
  pub replied : receipt.entry.reply ≡ reply.Done head
  pub expected : expected_reply policy setup
      (committed_entries (take receipt.place journal)) receipt.entry.event ≡ reply.Done head
  pub job : PoolJob
  pub among : Contains submitted job
  pub named : job.ticket ≡ answer.ticket
  pub begun : begin_of (committed_entries (take receipt.place journal)) answer.call
      ≡ Some (record { head = job.head; duration = option_map as_nanos job.expires_in })

-- the answer's last receipt, at its place in its worker's pass, has such a head
abbrev pub HasExpectedHead : {K D : Type 0} → Policy K D → Setup D → List (Entry K) → List (Receipt K)
    → List PoolJob → Answer → Type 0
HasExpectedHead policy setup journal pass submitted answer =
    IsSomeAnd answer.last (λ at. IsSomeAnd (slice_get pass at) (λ receipt.
    (head : Head) × IsSignedAsSubmitted policy setup journal submitted answer receipt head))

-- each answer of each worker that says `Done` has such a head
abbrev pub HaveExpectedHeads : {K D : Type 0} → Policy K D → Setup D → List (Entry K)
    → List (List (Receipt K)) → List (List Answer) → List PoolJob → Type 0
HaveExpectedHeads policy setup journal passes answers submitted =
    AllZip (λ pass list. All (λ answer.
    answer.outcome ≡ Done → HasExpectedHead policy setup journal pass submitted answer) list) passes answers

-- so it is for each true answer of a cleared pool that says `Done`, where the journal is legal
abbrev pub DoneHeadsAreExpected : Type 0 → Type 0 → Type 0
DoneHeadsAreExpected K D =
    (policy : Policy K D) (setup : Setup D) (journal : List (Entry K)) (pass : List (Receipt K))
    (answers : List Answer) (left submitted : List PoolJob) (answer : Answer)
    → IsLegal policy setup journal → IsCleared journal answers left submitted → Contains answers answer
    → IsTrueAnswer journal pass answer → answer.outcome ≡ Done
    → HasExpectedHead policy setup journal pass submitted answer
