-- A finished queue whose gate is the pool's: all its jobs are signed, with at most one load.
use Rattle.std.proofs.Common.{◌≡◌, ◌≢◌, ℕ, pos, suc, ◌+◌, ◌<◌, false, cond, List, [], ◌∷◌, ◌++◌, Option, None, length, refl, sym, ◌∙◌, ap, subst, arith}
use Rattle.std.specs.Prelude.{All, Contains, MatchBool, min}
use Rattle.std.specs.declared.time.Duration.{Duration}
use Rattle.std.proofs.lemmas.List.{length-append}
use Rattle.std.proofs.lemmas.List.Sums.{sum_by-append}
use Rattle.std.proofs.lemmas.Option.{slice_get_within, get_or_from_slice_get}
use Rattle.std.proofs.lemmas.List.Elements.{All-nil, All-cons, All-head, All-tail, All-contains, All-weaker}
use Rattle.sign_base.specs.declared.call_id.CallId.{CallId}
use Rattle.sequential_signer.specs.Legal.{IsLegal}
use Rattle.sequential_signer.specs.Phase.{is_not_now}
use Rattle.sequential_signer.specs.Replies.{is_cancelled, is_done, is_refused}
use Rattle.sequential_signer.specs.Setup.{Setup}
use Rattle.sequential_signer.specs.declared.event.Entry.{Entry}
use Rattle.sequential_signer.specs.declared.event.Event.TheVariants as event
use Rattle.signctl_format.specs.Policy.{script_policy}
use Rattle.signctl_format.specs.declared.credential.ScriptCredential.{ScriptCredential}
use Rattle.signctl_format.specs.declared.credential.ScriptRule.{ScriptRule}
use Rattle.signer_book.specs.Settled.{IsEntryOf, IsSettled}
use Rattle.signer_book.specs.declared.pass.Receipt.{Receipt}
use Rattle.signer_shared.specs.Pools.{ServesLists}
use Rattle.signer_shared.specs.Serving.{ServesAll, StopsAtAJob, replies}
use Rattle.signer_shared.specs.declared.job.Job.{Job}
use Rattle.signer_shared.specs.declared.job.Served.{Served}
use Rattle.pool_books.specs.Cleared.{AreBegunAs, IsBegunAs, joined, lists_of}
use Rattle.pool_books.specs.TrueAnswers.{AreGoodAnswers, IsGoodAnswer}
use Rattle.pool_books.specs.declared.answer.Answer.{Answer}
use Rattle.pool_books.specs.declared.answer.Outcome.TheVariants as outcome
use Rattle.pool_books.specs.declared.job.PoolJob.{PoolJob}
use Rattle.sign_pool.specs.Work.{job_of, last_reply, outcome_of}
use Rattle.pool_jobs.specs.Laws.{SignsAll}
use Rattle.pool_jobs.specs.Meaning.{pool_credential, pool_meaning}
use Rattle.prompt_law.specs.PromptGates.{AreWorkerJobs, AreWorkerLists, jobs_in}
use Rattle.pool_jobs.specs.Setup.{pool_setup}
use Rattle.pool_jobs.proofs.PoolLaw.{prompt_calls_are_signed}
use Rattle.pool_jobs.proofs.PoolLists.{prompt, worker_job}
use Rattle.signctl_threads.specs.Jobs.{IsQueueJob}
use Rattle.signctl_threads.specs.QueueLaws.{EveryQueueJobIsSigned}
use Rattle.signctl_threads.specs.Run.{IsClosedQueue}
use Rattle.signctl_threads.specs.Served.{DidNotRunOut, ServesAnswers, ServesHandles}
use Rattle.signctl_threads.proofs.OneJob.{before_others, begins, did_not}

module _ {X : Type 0} (P : X → Type 0) where
  all_left : (xs ys : List X) → All P (xs ++ ys) → All P xs
  all_left [] ys h = All-nil P
  all_left (x ∷ xs) ys h = All-cons P x xs (All-head P x (xs ++ ys) h) (all_left xs ys (All-tail P x (xs ++ ys) h))

  all_right : (xs ys : List X) → All P (xs ++ ys) → All P ys
  all_right [] ys h = h
  all_right (x ∷ xs) ys h = all_right xs ys (All-tail P x (xs ++ ys) h)

-- the answer's call was not answered `NotNow`
abbrev IsNotNotNow : Answer → Type 0
IsNotNotNow answer = answer.outcome ≢ outcome.NotNow

-- the receipt's entry stands in the journal
abbrev IsInJournal : List (Entry ScriptCredential) → Receipt ScriptCredential → Type 0
IsInJournal journal r = Contains journal r.entry

-- how often each kind of reply came
abbrev counted : List (Receipt ScriptCredential) → Served
counted receipts = record {
  done = replies is_done receipts;
  refused = replies is_refused receipts;
  not_now = replies is_not_now receipts;
  given_up = replies is_cancelled receipts;
  out_of_memory = false;
}

-- how many replies end a call, or its job
abbrev replies_over : List (Receipt ScriptCredential) → ℕ
replies_over receipts =
    replies is_done receipts + replies is_refused receipts + replies is_not_now receipts + replies is_cancelled receipts

replies_over-append : (own rest : List (Receipt ScriptCredential))
    → replies_over (own ++ rest) ≡ replies_over own + replies_over rest
replies_over-append own rest = omega (
  arith,
  sum_by-append (λ (r : Receipt ScriptCredential). cond (is_done r.entry.reply) 1 0) own rest,
  sum_by-append (λ (r : Receipt ScriptCredential). cond (is_refused r.entry.reply) 1 0) own rest,
  sum_by-append (λ (r : Receipt ScriptCredential). cond (is_not_now r.entry.reply) 1 0) own rest,
  sum_by-append (λ (r : Receipt ScriptCredential). cond (is_cancelled r.entry.reply) 1 0) own rest,
)

in_journal : (journal : List (Entry ScriptCredential)) (r : Receipt ScriptCredential) → IsEntryOf journal r
    → IsInJournal journal r
in_journal journal r at = (r.place, slice_get_within journal r.place r.entry at, get_or_from_slice_get journal r.place r.entry r.entry at)

module _ (workers : ℕ) (journal : List (Entry ScriptCredential)) (submitted : List PoolJob) (queue_jobs : All IsQueueJob submitted) where
  -- an answer's call was begun without a duration
  no_duration : (call : CallId) (answer : Answer) (head : _) (expires_in : Option Duration)
      (x : Receipt ScriptCredential) → AreBegunAs submitted journal answer → IsInJournal journal x
      → x.entry.event ≡ event.Begin call head expires_in → call ≡ answer.call → expires_in ≡ None
  no_duration call answer head expires_in x begun among e same =
      let at : IsBegunAs submitted answer x.entry.event = All-contains (λ (y : Entry ScriptCredential). IsBegunAs submitted answer y.event) journal x.entry begun among in
      (All-contains IsQueueJob submitted _ queue_jobs (subst (IsBegunAs submitted answer) e at same)).1

  -- the jobs of a worker from a call on
  record Runs (handle number : ℕ) (answers : List Answer) (receipts : List (Receipt ScriptCredential)) : Type 0 where
    jobs : List Job
    are : AreWorkerJobs script_policy (pool_setup workers) pool_credential (pos 0) handle number jobs
    count : length jobs ≡ length answers
    serves : ServesAll pool_meaning 1 jobs receipts
    all : replies_over receipts ≡ length jobs

  runs : (handle : ℕ) → handle < workers → (number before : ℕ) (answers : List Answer)
      (receipts : List (Receipt ScriptCredential))
      → ServesAnswers pool_meaning handle number before answers receipts
      → All DidNotRunOut answers → All IsNotNotNow answers → All (AreBegunAs submitted journal) answers
      → All (IsInJournal journal) receipts → Runs handle number answers receipts
  runs handle lt number before [] receipts none o n b j = record {
    jobs = [];
    are = tt;
    count = refl;
    serves = none;
    all = ap (λ (l : List (Receipt ScriptCredential)). replies_over l) none;
  }
  runs handle lt number before (a ∷ answers) receipts (own, rest, is, here, later) o n b j =
      let job : Job = job_of here.job handle number in
      let outs : a.outcome ≡ outcome_of (last_reply own) here.served.out_of_memory = ap (λ (x : Answer). x.outcome) here.answer_is in
      let out : here.served.out_of_memory ≡ false = did_not pool_meaning 1 job here.served.out_of_memory own here.served.given_up here.serves.course
      (λ e. All-head DidNotRunOut a answers o (outs ∙ e)) (λ e. All-head IsNotNotNow a answers n (outs ∙ e)) in
      let course : ServesAll pool_meaning 1 (job ∷ []) own = subst (λ v. MatchBool v (StopsAtAJob pool_meaning 1 (job ∷ []) own here.served.given_up) (ServesAll pool_meaning 1 (job ∷ []) own)) out here.serves.course in
      let all : All (IsInJournal journal) (own ++ rest) = subst (All (IsInJournal journal)) is j in
      let first = begins pool_meaning 1 job own course in
      let call : job.call ≡ a.call = sym (ap (λ (x : Answer). x.call) here.answer_is) in
      let none : here.job.expires_in ≡ None = no_duration job.call a here.job.head here.job.expires_in first.0 (All-head (AreBegunAs submitted journal) a answers b)
      (All-contains (IsInJournal journal) own first.0 (all_left (IsInJournal journal) own rest all) first.1) first.2 call in
      let others : Runs handle (suc number) answers rest = runs handle lt (suc number) (before + length own) answers rest later (All-tail DidNotRunOut a answers o)
      (All-tail IsNotNotNow a answers n) (All-tail (AreBegunAs submitted journal) a answers b) (all_right (IsInJournal journal) own rest all) in
      let s = here.serves in
      let one : replies_over own ≡ 1 = omega (arith, s.all out, s.done, s.refused, s.not_now, s.given_up out) in
      record {
        jobs = job ∷ others.jobs;
        are = (worker_job workers (job_of here.job handle number) lt none, omega arith, others.are);
        count = ap suc others.count;
        serves = before_others pool_meaning 1 job others.jobs own rest receipts course others.serves is;
        all = ap (λ (l : List (Receipt ScriptCredential)). replies_over l) is ∙ replies_over-append own rest ∙ omega (arith, one, others.all);
      }

  -- a worker's numbers begin with 1
  from_zero : (handle : ℕ) (jobs : List Job)
      → AreWorkerJobs script_policy (pool_setup workers) pool_credential (pos 0) handle 1 jobs
      → AreWorkerJobs script_policy (pool_setup workers) pool_credential (pos 0) handle 0 jobs
  from_zero handle [] h = tt
  from_zero handle (job ∷ jobs) h = (h.0, omega arith, h.2)

  -- the jobs of all workers, from that of this handle on
  record AllRuns (handle : ℕ) (lists : List (List Answer)) (passes : List (List (Receipt ScriptCredential))) : Type 0 where
    jobs : List (List Job)
    served : List Served
    are : AreWorkerLists script_policy (pool_setup workers) pool_credential (pos 0) handle jobs
    serves : ServesLists pool_meaning 1 jobs passes served
    memory : All (λ (s : Served). s.out_of_memory ≡ false) served
    count : jobs_in jobs ≡ length (joined lists)

  all_runs : (handle : ℕ) (lists : List (List Answer)) (passes : List (List (Receipt ScriptCredential)))
      → ServesHandles pool_meaning handle lists passes → handle + length passes ≡ workers
      → AreGoodAnswers journal passes lists → All DidNotRunOut (joined lists)
      → All (AreBegunAs submitted journal) (joined lists) → All (All (IsEntryOf journal)) passes
      → AllRuns handle lists passes
  all_runs handle [] [] h e good o b j = record {
    jobs = [];
    served = [];
    are = tt;
    serves = tt;
    memory = All-nil (λ (s : Served). s.out_of_memory ≡ false);
    count = refl;
  }
  all_runs handle [] (pass ∷ passes) h e good o b j = elim h [ ]
  all_runs handle (answers ∷ lists) [] h e good o b j = elim h [ ]
  all_runs handle (answers ∷ lists) (pass ∷ passes) h e good o b j =
      let not_now : All IsNotNotNow answers = All-weaker (IsGoodAnswer journal pass) IsNotNotNow (λ (a : Answer) (g : IsGoodAnswer journal pass a). g.1) answers good.0 in
      let own : All (IsInJournal journal) pass = All-weaker (IsEntryOf journal) (IsInJournal journal) (in_journal journal) pass (All-head (All (IsEntryOf journal)) pass passes j) in
      let here : Runs handle 1 answers pass = runs handle (omega arith) 1 0 answers pass h.0 (all_left DidNotRunOut answers (joined lists) o) not_now
      (all_left (AreBegunAs submitted journal) answers (joined lists) b) own in
      let others : AllRuns (suc handle) lists passes = all_runs (suc handle) lists passes h.1 (omega arith) good.1 (all_right DidNotRunOut answers (joined lists) o)
      (all_right (AreBegunAs submitted journal) answers (joined lists) b) (All-tail (All (IsEntryOf journal)) pass passes j) in
      record {
        jobs = here.jobs ∷ others.jobs;
        served = counted pass ∷ others.served;
        are = (from_zero handle here.jobs here.are, others.are);
        serves = (
          record { course = here.serves; done = refl; refused = refl; not_now = refl; given_up = λ _. refl; all = λ _. here.all },
          others.serves,
        );
        memory = All-cons (λ (s : Served). s.out_of_memory ≡ false) (counted pass) others.served refl others.memory;
        count = omega (arith, here.count, others.count, length-append answers (joined lists));
      }

  -- where the journal is settled and legal, all are signed
  signs_all : (lists : List (List Answer)) (passes : List (List (Receipt ScriptCredential)))
      → IsSettled journal passes → IsLegal script_policy (pool_setup workers) journal
      → ServesHandles pool_meaning 0 lists passes → length passes ≡ workers
      → AreGoodAnswers journal passes lists
      → All DidNotRunOut (joined lists) → All (AreBegunAs submitted journal) (joined lists)
      → (served : List Served) × SignsAll (length (joined lists)) journal served
  signs_all lists passes settled legal serves are good o b =
      let all : AllRuns 0 lists passes = all_runs 0 lists passes serves (omega (arith, are)) good o b settled.entries in (
        all.served,
        subst (λ (n : ℕ). SignsAll n journal all.served) all.count
            (prompt_calls_are_signed script_policy pool_meaning (pool_setup workers) pool_credential (pos 0) 1 all.jobs journal passes all.served
            refl prompt (omega arith) all.are settled legal all.serves all.memory),
      )

pub every_queue_job_is_signed : EveryQueueJobIsSigned
every_queue_job_is_signed workers jobs finished queue =
    let journal : List (Entry ScriptCredential) = finished.settled.journal.items in
    let closed : IsClosedQueue pool_meaning workers jobs finished = queue.closed in
    let legal : IsLegal script_policy (pool_setup workers) journal = subst (λ (s : Setup ScriptRule). IsLegal script_policy s journal) (closed.closed.setup ∙ closed.setup) closed.closed.represents.legal in
    let all = signs_all workers journal (joined (lists_of finished.submitted.items)) closed.submitted.each (lists_of finished.answers.items) finished.settled.passes.items
    closed.closed.settled legal closed.serves.serves closed.serves.workers_are queue.answers closed.serves.none_ran_out queue.cleared.begun in
    (all.1.well, all.1.signed ∙ closed.serves.answered, all.1.loads ∙ ap (λ n. min n 1) closed.serves.answered)
