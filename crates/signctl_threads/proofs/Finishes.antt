-- How a queue with all its seats is finished.
use Rattle.std.proofs.Common.{◌≡◌, ℕ, List, [], ◌∷◌, ◌++◌, length, map, refl, sym, subst, arith}
use Rattle.std.proofs.lemmas.List.{length-append, length-map}
use Rattle.std.proofs.lemmas.List.Sorted.{length_permutation}
use Rattle.desk_parts.specs.Tables.{setup_of}
use Rattle.sign_desk.specs.DeskState.{DeskState}
use Rattle.signctl_format.specs.Policy.{script_policy}
use Rattle.signctl_format.specs.declared.credential.ScriptCredential.{ScriptCredential}
use Rattle.signctl_format.specs.declared.credential.ScriptRule.{ScriptRule}
use Rattle.signer_shared.specs.Gates.{GateMeaning}
use Rattle.pool_books.specs.Cleared.{answered_tickets, joined, lists_of, tickets_of}
use Rattle.pool_books.specs.Finished.{IsClearedPool}
use Rattle.pool_books.specs.declared.answer.Answer.{Answer}
use Rattle.pool_books.specs.declared.finished.Finished.{Finished}
use Rattle.pool_books.specs.declared.job.PoolJob.{PoolJob}
use Rattle.sign_pool.specs.Finish.{HandsOut, IsClosed}
use Rattle.sign_pool.specs.declared.seats.Submitter.{Submitter}
use Rattle.sign_pool.specs.declared.seats.Worker.{Worker}
use Rattle.pool_jobs.specs.Setup.{pool_setup}
use Rattle.signctl_threads.specs.Served.{AreSubmitted, ServesQueue}
use Rattle.signctl_threads.specs.Run.{IsClosedQueue}

module _ (gate : GateMeaning ScriptCredential) (count jobs : ℕ)
    (submitters : List Submitter) (workers : List (Worker ScriptCredential)) where
  -- the signer is closed with the seats' passes
  pub closes : (plan : DeskState ScriptCredential ScriptRule)
      (finished : Finished ScriptCredential ScriptRule) → setup_of plan ≡ pool_setup count
      → ServesQueue gate count jobs (map (λ w. w.pass) workers) (lists_of (map (λ w. w.answers) workers))
      → AreSubmitted jobs (lists_of (map (λ s. s.jobs) submitters)) → IsClosed script_policy plan finished
      → HandsOut submitters workers finished.settled.passes.items finished.answers.items
      finished.submitted.items
      → IsClosedQueue gate count jobs finished
  closes plan finished setup serves submitted closed out = record {
    plan = plan;
    setup = setup;
    closed = closed;
    serves = subst (λ l. ServesQueue gate count jobs l (lists_of finished.answers.items)) (sym out.passes_are)
        (subst (λ l. ServesQueue gate count jobs (map (λ w. w.pass) workers) (lists_of l)) (sym out.answers_are) serves);
    submitted = subst (λ l. AreSubmitted jobs (lists_of l)) (sym out.submitted_are) submitted;
  }

nothing : {X : Type 0} (xs : List X) → length xs ≡ 0 → xs ≡ []
nothing [] h = refl
nothing (x ∷ xs) h = absurd (omega (arith, h))

-- a cleared pool in which all jobs were answered has none left
pub none_left : (gate : GateMeaning ScriptCredential) (count jobs : ℕ)
    (finished : Finished ScriptCredential ScriptRule) → IsClosedQueue gate count jobs finished
    → IsClearedPool finished → finished.left.items ≡ []
none_left gate count jobs finished closed cleared =
    let answers : List Answer = joined (lists_of finished.answers.items) in
    let submitted : List PoolJob = joined (lists_of finished.submitted.items) in
    let left : List PoolJob = finished.left.items in
    nothing left (omega (
      arith,
      length_permutation (tickets_of submitted) (answered_tickets answers ++ tickets_of left) cleared.each_once,
      length-append (answered_tickets answers) (tickets_of left),
      length-map answers (λ a. a.ticket),
      length-map left (λ j. j.ticket),
      length-map submitted (λ j. j.ticket),
      closed.serves.answered,
      closed.submitted.count,
    ))
