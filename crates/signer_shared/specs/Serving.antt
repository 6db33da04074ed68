-- What serving a list of jobs adds to a pass, and what is counted.
use Rattle.std.specs.Prelude.{◌≡◌, ◌≢◌, ℕ, ℤ, ◌<◌, ◌+◌, ◌++◌, Bool, true, false, IsTrue, List, [], ◌∷◌}
use Rattle.std.specs.Prelude.{length, count_by, MatchBool}
use Rattle.sequential_signer.specs.Phase.{is_not_now}
use Rattle.sequential_signer.specs.declared.event.Answer.{Answer}
use Rattle.sequential_signer.specs.declared.event.Entry.{Entry}
use Rattle.sequential_signer.specs.declared.event.Event.{Event}
use Rattle.sequential_signer.specs.declared.event.Event.TheVariants as event
use Rattle.sequential_signer.specs.declared.event.Reply.{Reply}
use Rattle.sequential_signer.specs.declared.event.Reply.TheVariants as reply
use Rattle.sequential_signer.specs.declared.event.Verdict.{Verdict}
use Rattle.sign_desk.specs.ReplyKinds.{is_reply_to}
use Rattle.sequential_signer.specs.Replies.{is_cancelled, is_done, is_refused}
use Rattle.signer_shared.specs.Gates.{GateMeaning}
use Rattle.signer_book.specs.declared.pass.Receipt.{Receipt}
use Rattle.signer_shared.specs.declared.job.Job.{Job}
use Rattle.signer_shared.specs.declared.job.Served.{Served}
use Rattle.signer_shared.specs.declared.next_step.JobEnd.{JobEnd}
use Rattle.signer_shared.specs.declared.next_step.JobEnd.TheVariants as ended
use Rattle.signer_shared.specs.declared.next_step.NextStep.{NextStep}
use Rattle.signer_shared.specs.declared.next_step.NextStep.TheVariants as next

-- what is next for a call after a reply
abbrev pub next_after : {K : Type 0} → Reply K → NextStep K
next_after reply.Begun = next.Poll
next_after reply.Pending = next.Poll
next_after (reply.Ask provider) = next.Load provider
next_after (reply.Sign credential wake) = next.Sign credential
next_after (reply.Done head) = next.Over ended.Done
next_after (reply.Refused why wake) = next.Over ended.Refused
next_after reply.NotNow = next.Over ended.NotNow
next_after (reply.Cancelled wake) = next.Over ended.GivenUp
next_after reply.OutOfMemory = next.Over (ended.OutOfMemory false)

-- whether a job met an allocation that failed
abbrev pub ran_out : JobEnd → Bool
ran_out (ended.OutOfMemory not_now) = true
ran_out _ = false

-- how many receipts have such a reply
abbrev pub replies : {K : Type 0} → (Reply K → Bool) → List (Receipt K) → ℕ
replies test receipts = count_by (λ r. test r.entry.reply) receipts

-- the call was begun and is not over
abbrev pub IsLive : {K : Type 0} → NextStep K → Type 0
IsLive next.Begin = ⊥
IsLive (next.Over end) = ⊥
IsLive _ = Unit {0}

module _ {K : Type 0} (gate : GateMeaning K) (job : Job) where
  -- the event that is next: its answer and its moment are the gate's
  abbrev pub IsNext : NextStep K → Event K → Type 0
  IsNext next.Begin e = e ≡ event.Begin job.call job.head job.expires_in
  IsNext next.Poll e = (now : ℤ) × gate.tells now × (e ≡ event.Poll job.call now)
  IsNext (next.Load provider) e =
      (now : ℤ) × (answer : Answer K) × gate.tells now × gate.gives job.call provider answer
      × (e ≡ event.Provided job.call now answer)
  IsNext (next.Sign credential) e =
      (verdict : Verdict) × gate.judges job.call credential job.head verdict
      × (e ≡ event.Signed job.call verdict)
  IsNext (next.Over end) e = ⊥

module _ {K : Type 0} (gate : GateMeaning K) (turns : ℕ) (job : Job) where
  -- a load at which the job is given up: its provider was ready in none of the turns
  abbrev pub IsGivenUp : NextStep K → Type 0
  IsGivenUp (next.Load provider) = (turn : ℕ) → turn < turns → ¬ gate.ready job.call provider turn
  IsGivenUp _ = ⊥

  -- What an entry of the job's call makes of what was next. It is the next event, or a cancel in its
  -- place, which gives the job up or stands where an allocation failed.
  pub data IsStep (before : NextStep K) (e : Entry K) (after : NextStep K) : Type 0 where
    goes_on : IsNext gate job before e.event → after ≡ next_after e.reply → IsStep before e after
    gives_up : IsGivenUp before → e.event ≡ event.Cancel job.call → after ≡ next_after e.reply
        → IsStep before e after
    runs_out : IsLive before → e.event ≡ event.Cancel job.call
        → after ≡ next.Over (ended.OutOfMemory (is_not_now e.reply)) → IsStep before e after

  -- The receipts of the job's call from here on, and how the job ends. Where they stop short an
  -- allocation failed.
  abbrev pub IsEventSequence : NextStep K → List (Receipt K) → JobEnd → Type 0
  IsEventSequence (next.Over over) receipts end = (receipts ≡ []) × (end ≡ over)
  IsEventSequence before [] end = end ≡ ended.OutOfMemory false
  IsEventSequence before (r ∷ rest) end =
      IsTrue (is_reply_to r.entry.event r.entry.reply) × (r.entry.reply ≢ reply.OutOfMemory)
      × ((after : NextStep K) × IsStep before r.entry after × IsEventSequence after rest end)

  -- the pass has more receipts, behind which each course from `after` is one from `before`
  abbrev pub Advances : NextStep K → List (Receipt K) → List (Receipt K) → NextStep K → Type 0
  Advances before old new after =
      (own : List (Receipt K)) × (new ≡ old ++ own)
      × ((rest : List (Receipt K)) (end : JobEnd) → IsEventSequence after rest end
      → IsEventSequence before (own ++ rest) end)

module _ {K : Type 0} (gate : GateMeaning K) (turns : ℕ) where
  -- the receipts of the jobs one after another, each job to its end
  abbrev pub ServesAll : List Job → List (Receipt K) → Type 0
  ServesAll [] added = added ≡ []
  ServesAll (job ∷ jobs) added =
      (own rest : List (Receipt K)) × (end : JobEnd) × (added ≡ own ++ rest)
      × IsEventSequence gate turns job next.Begin own end × (ran_out end ≡ false) × ServesAll jobs rest

  -- the jobs before one at which an allocation failed, that job's receipts, and no more
  pub record StopsAtAJob (jobs : List Job) (added : List (Receipt K)) (given_up : ℕ) : Type 0 where
    pub before : List Job
    pub job : Job
    pub after : List Job
    pub served : List (Receipt K)
    pub own : List (Receipt K)
    pub not_now : Bool
    pub jobs_are : jobs ≡ before ++ job ∷ after
    pub added_are : added ≡ served ++ own
    pub serves : ServesAll before served
    pub stops : IsEventSequence gate turns job next.Begin own (ended.OutOfMemory not_now)
    pub counted : given_up ≡ replies is_cancelled served

-- The jobs were served in order, and counted by their replies. Where no allocation failed all were
-- served, and each is counted once.
pub record IsServing {K : Type 0} (gate : GateMeaning K) (turns : ℕ) (jobs : List Job)
    (added : List (Receipt K)) (served : Served) : Type 0 where
  pub course : MatchBool served.out_of_memory
      (StopsAtAJob gate turns jobs added served.given_up) (ServesAll gate turns jobs added)
  pub done : served.done ≡ replies is_done added
  pub refused : served.refused ≡ replies is_refused added
  pub not_now : served.not_now ≡ replies is_not_now added
  pub given_up : served.out_of_memory ≡ false → served.given_up ≡ replies is_cancelled added
  pub all : served.out_of_memory ≡ false
      → served.done + served.refused + served.not_now + served.given_up ≡ length jobs
