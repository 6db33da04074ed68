-- What serving jobs adds, in the words of events and replies.
use Rattle.std.proofs.Common.{◌≡◌, ◌⊎◌, inl, inr, ◌++◌, ◌∙◌, ℕ, Bool, true, false, List, [], ◌∷◌, refl, sym, ap, subst, append_assoc}
use Rattle.std.specs.Prelude.{MatchBool}
use Rattle.std.proofs.lemmas.List.{append-nil}
use Rattle.sequential_signer.specs.declared.event.Event.TheVariants as event
use Rattle.sequential_signer.specs.declared.event.Reply.{Reply}
use Rattle.sequential_signer.specs.declared.event.Reply.TheVariants as reply
use Rattle.signer_book.specs.declared.pass.Receipt.{Receipt}
use Rattle.signer_shared.specs.Gates.{GateMeaning}
use Rattle.signer_shared.specs.JobReceipts.{GoOnFrom, AreOfJob, AreOfJobs, ReceiptsAreOfTheJobs}
use Rattle.signer_shared.specs.Serving.{IsNext, IsLive, IsGivenUp, goes_on, gives_up, runs_out, IsEventSequence, ServesAll}
use Rattle.signer_shared.specs.Serving.{StopsAtAJob, next_after, ran_out}
use Rattle.signer_shared.specs.declared.job.Job.{Job}
use Rattle.signer_shared.specs.declared.next_step.JobEnd.{JobEnd}
use Rattle.signer_shared.specs.declared.next_step.JobEnd.TheVariants as ended
use Rattle.signer_shared.specs.declared.next_step.NextStep.{NextStep}
use Rattle.signer_shared.specs.declared.next_step.NextStep.TheVariants as next
use Rattle.signer_shared.proofs.Courses.{IsOpen}
use Rattle.signer_shared.proofs.Tallies.{from-cons}

module _ {K : Type 0} (gate : GateMeaning K) (turns : ℕ) where
  -- a receipt of a course: the event that was next, or the call's cancel; and what comes behind it
  record Steps (job : Job) (before : NextStep K) (x : Receipt K) (rest : List (Receipt K)) (end : JobEnd) : Type 0 where
    event_is : IsNext gate job before x.entry.event
        ⊎ (((x.entry.event ≡ event.Cancel job.call) × IsGivenUp gate turns job before)
        ⊎ ((x.entry.event ≡ event.Cancel job.call) × (ran_out end ≡ true) × IsLive before))
    behind : IsEventSequence gate turns job (next_after x.entry.reply) rest end ⊎ (rest ≡ [])

  steps_of : (job : Job) (before : NextStep K) (x : Receipt K) (rest : List (Receipt K)) (end : JobEnd)
      → IsOpen before → IsEventSequence gate turns job before (x ∷ rest) end → Steps job before x rest end
  steps_of job before x rest end open_call c =
      let s = from-cons gate turns job before x rest end open_call c in
      let P : NextStep K → Type 0 = λ n. IsEventSequence gate turns job n rest end in
      elim s.step [
        | goes_on n a ↦ record { event_is = inl n; behind = inl (subst P a s.course) }
        | gives_up g e a ↦ record { event_is = inr (inl (e, g)); behind = inl (subst P a s.course) }
        | runs_out l e a ↦
            let over = subst P a s.course in
            record { event_is = inr (inr (e, ap ran_out over.1, l)); behind = inr over.0 }
      ]

  -- receipts behind one, by what holds of a course
  behind : (job : Job) (x : Receipt K) (rest : List (Receipt K)) (end : JobEnd)
      → (IsEventSequence gate turns job (next_after x.entry.reply) rest end
      → GoOnFrom gate turns (ran_out end) job x.entry.reply rest)
      → IsEventSequence gate turns job (next_after x.entry.reply) rest end ⊎ (rest ≡ [])
      → GoOnFrom gate turns (ran_out end) job x.entry.reply rest
  behind job x rest end by_course (inl c) = by_course c
  behind job x rest end by_course (inr none) =
      let P : List (Receipt K) → Type 0 = λ l. GoOnFrom gate turns (ran_out end) job x.entry.reply l in
      subst P (sym none) tt

  -- receipts behind a reply
  goes : (job : Job) (own : List (Receipt K)) (r : Reply K) (end : JobEnd)
      → IsEventSequence gate turns job (next_after r) own end → GoOnFrom gate turns (ran_out end) job r own
  goes job [] r end c = tt
  goes job (x ∷ rest) reply.Begun end c =
      let s = steps_of job next.Poll x rest end tt c in
      (elim s.event_is [ inl n ↦ inl n | inr o ↦ elim o [ inl g ↦ absurd g.1 | inr l ↦ inr (l.0, l.1) ] ], behind job x rest end (goes job rest x.entry.reply end) s.behind)
  goes job (x ∷ rest) reply.Pending end c =
      let s = steps_of job next.Poll x rest end tt c in
      (elim s.event_is [ inl n ↦ inl n | inr o ↦ elim o [ inl g ↦ absurd g.1 | inr l ↦ inr (l.0, l.1) ] ], behind job x rest end (goes job rest x.entry.reply end) s.behind)
  goes job (x ∷ rest) (reply.Ask provider) end c =
      let s = steps_of job (next.Load provider) x rest end tt c in
      (elim s.event_is [ inl n ↦ inl n | inr o ↦ elim o [ inl g ↦ inr (inl g) | inr l ↦ inr (inr (l.0, l.1)) ] ], behind job x rest end (goes job rest x.entry.reply end) s.behind)
  goes job (x ∷ rest) (reply.Sign credential wake) end c =
      let s = steps_of job (next.Sign credential) x rest end tt c in
      (elim s.event_is [ inl n ↦ inl n | inr o ↦ elim o [ inl g ↦ absurd g.1 | inr l ↦ inr (l.0, l.1) ] ], behind job x rest end (goes job rest x.entry.reply end) s.behind)
  goes job (x ∷ rest) reply.NotNow end c = absurd (cc)
  goes job (x ∷ rest) reply.OutOfMemory end c = absurd (cc)
  goes job (x ∷ rest) (reply.Refused why wake) end c = absurd (cc)
  goes job (x ∷ rest) (reply.Done head) end c = absurd (cc)
  goes job (x ∷ rest) (reply.Cancelled wake) end c = absurd (cc)

  -- the receipts of one job
  of_job : (job : Job) (own : List (Receipt K)) (end : JobEnd) → IsEventSequence gate turns job next.Begin own end
      → AreOfJob gate turns (ran_out end) job own
  of_job job [] end c = tt
  of_job job (x ∷ rest) end c =
      let s = steps_of job next.Begin x rest end tt c in
      (elim s.event_is [ inl n ↦ n | inr o ↦ elim o [ inl g ↦ absurd g.1 | inr l ↦ absurd l.2 ] ], behind job x rest end (goes job rest x.entry.reply end) s.behind)

  -- the receipts of jobs that were served to their ends, and of one at which an allocation failed
  of_jobs : (out : Bool) (jobs : List Job) (added : List (Receipt K)) → ServesAll gate turns jobs added
      → AreOfJobs gate turns out jobs added
  of_jobs out [] added serves = serves
  of_jobs out (job ∷ jobs) added (own, rest, end, is, course, to_end, later) =
      let P : Bool → Type 0 = λ b. AreOfJob gate turns b job own in
      (own, rest, is, inl (subst P to_end (of_job job own end course), of_jobs out jobs rest later))

  stops_at : (before after : List Job) (job : Job) (served own : List (Receipt K))
      → ServesAll gate turns before served → AreOfJob gate turns true job own
      → AreOfJobs gate turns true (before ++ job ∷ after) (served ++ own)
  stops_at [] after job served own serves last =
      (own, [], ap (λ l. l ++ own) serves ∙ sym (append-nil own), inr (refl, last, refl))
  stops_at (j ∷ before) after job served own (first, rest, end, is, course, to_end, later) last =
      let P : Bool → Type 0 = λ b. AreOfJob gate turns b j first in (
        first,
        rest ++ own,
        ap (λ l. l ++ own) is ∙ append_assoc first rest own,
        inl (subst P to_end (of_job j first end course), stops_at before after job rest own later last),
      )

  all_of_jobs : (out : Bool) (jobs : List Job) (added : List (Receipt K)) (given_up : ℕ)
      → MatchBool out (StopsAtAJob gate turns jobs added given_up) (ServesAll gate turns jobs added)
      → AreOfJobs gate turns out jobs added
  all_of_jobs false jobs added given_up serves = of_jobs false jobs added serves
  all_of_jobs true jobs added given_up s =
      let P : List Job → Type 0 = λ l. AreOfJobs gate turns true l added in
      let Q : List (Receipt K) → Type 0 = λ l. AreOfJobs gate turns true (s.before ++ s.job ∷ s.after) l in
      subst P (sym s.jobs_are) (subst Q (sym s.added_are)
      (stops_at s.before s.after s.job s.served s.own s.serves (of_job s.job s.own (ended.OutOfMemory s.not_now) s.stops)))

pub receipts_are_of_the_jobs : {K : Type 0} (gate : GateMeaning K) → ReceiptsAreOfTheJobs gate
receipts_are_of_the_jobs gate turns jobs added served serves =
    all_of_jobs gate turns served.out_of_memory jobs added served.given_up serves.course
