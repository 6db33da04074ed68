-- Whether answers are what the journal says.
use Rattle.std.specs.Prelude.{◌≡◌, ◌≢◌, ◌⊎◌, ◌+◌, ℕ, List, Option, Some, None, drop, slice_get, take, All}
use Rattle.std.specs.Prelude.{MatchOption, IsSomeAnd}
use Rattle.std.specs.List.{AllZip}
use Rattle.sign_base.specs.declared.call_id.CallId.{CallId}
use Rattle.sequential_signer.specs.Transcript.{call_of}
use Rattle.sequential_signer.specs.declared.event.Entry.{Entry}
use Rattle.sequential_signer.specs.declared.event.Reply.{Reply}
use Rattle.sequential_signer.specs.declared.event.Reply.TheVariants as reply
use Rattle.signer_book.specs.Settled.{IsEntryOf}
use Rattle.signer_book.specs.declared.pass.Receipt.{Receipt}
use Rattle.pool_books.specs.declared.answer.Answer.{Answer}
use Rattle.pool_books.specs.declared.answer.Outcome.{Outcome}
use Rattle.pool_books.specs.declared.answer.Outcome.TheVariants.{Done, Refused, NotNow, GivenUp, OutOfMemory}

-- the outcome is read from a call's last reply, where it has one
abbrev pub IsReadFrom : {K : Type 0} → Option (Reply K) → Outcome → Type 0
IsReadFrom (Some (reply.Done head)) outcome = outcome ≡ Done
IsReadFrom (Some (reply.Refused why wake)) outcome = outcome ≡ Refused
IsReadFrom (Some reply.NotNow) outcome = outcome ≡ NotNow
IsReadFrom (Some (reply.Cancelled wake)) outcome = (outcome ≡ GivenUp) ⊎ (outcome ≡ OutOfMemory)
IsReadFrom _ outcome = outcome ≡ OutOfMemory

-- none of these entries is about the call
abbrev pub HasNoneOf : {K : Type 0} → CallId → List (Entry K) → Type 0
HasNoneOf call entries = All (λ e. call_of e.event ≢ call) entries

-- the entry at this place is about the call, and none behind it is
pub record IsLastOf {K : Type 0} (call : CallId) (journal : List (Entry K)) (place : ℕ) : Type 0 where
  pub about : IsSomeAnd (slice_get journal place) (λ e. call_of e.event ≡ call)
  pub last : HasNoneOf call (drop (place + 1) journal)

-- the receipt is the journal's last entry of the answer's call, and the outcome is read from its reply
pub record IsReadOff {K : Type 0} (journal : List (Entry K)) (answer : Answer)
    (receipt : Receipt K) : Type 0 where
  pub entry : IsEntryOf journal receipt
  pub last : IsLastOf answer.call journal receipt.place
  pub outcome : IsReadFrom (Some receipt.entry.reply) answer.outcome

-- the answer is read off its last receipt; or it has none, and neither has the journal
abbrev pub IsTrueAnswer : {K : Type 0} → List (Entry K) → List (Receipt K) → Answer → Type 0
IsTrueAnswer {K} journal pass answer = MatchOption answer.last
    (HasNoneOf answer.call journal × IsReadFrom {K = K} None answer.outcome)
    (λ at. IsSomeAnd (slice_get pass at) (IsReadOff journal answer))

-- the answer is true, and its call was not answered `NotNow`
abbrev pub IsGoodAnswer : {K : Type 0} → List (Entry K) → List (Receipt K) → Answer → Type 0
IsGoodAnswer journal pass answer = IsTrueAnswer journal pass answer × (answer.outcome ≢ NotNow)

-- each answer of each worker is good, by the pass of its worker
abbrev pub AreGoodAnswers : {K : Type 0} → List (Entry K) → List (List (Receipt K))
    → List (List Answer) → Type 0
AreGoodAnswers journal passes answers =
    AllZip (λ pass list. All (IsGoodAnswer journal pass) list) passes answers

-- the answer at this place of a worker's is not good, and those before it are
pub record IsFirstBadOf {K : Type 0} (journal : List (Entry K)) (pass : List (Receipt K))
    (answers : List Answer) (at : ℕ) : Type 0 where
  pub bad : IsSomeAnd (slice_get answers at) (λ answer. IsGoodAnswer journal pass answer → ⊥)
  pub before : All (IsGoodAnswer journal pass) (take at answers)

-- this answer of this worker is not good, and those of the workers before it and before it of its worker are
pub record IsFirstBad {K : Type 0} (journal : List (Entry K)) (passes : List (List (Receipt K)))
    (answers : List (List Answer)) (worker at : ℕ) : Type 0 where
  pub bad : IsSomeAnd (slice_get passes worker)
      (λ pass. IsSomeAnd (slice_get answers worker) (λ list. IsFirstBadOf journal pass list at))
  pub before : AreGoodAnswers journal (take worker passes) (take worker answers)
