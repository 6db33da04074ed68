-- How runs of a pool end.
use Rattle.std.proofs.Common.{◌≡◌, ℕ, ◌≤◌, ◌<◌, Bool, true, false, ◌||◌, length, map, arith, List, [], ◌∷◌, Option, refl, sym, ◌∙◌, ap, subst}
use Rattle.std.specs.Prelude.{All}
use Rattle.std.specs.List.{list_any, AllByRecursion}
use Rattle.std.proofs.lemmas.List.{length-map}
use Rattle.std.proofs.lemmas.List.Elements.{All-from_recursion}
use Rattle.std.proofs.lemmas.List.FromFn.{length-map-range_with_len}
use Rattle.sign_io.specs.Faults.{CountsFault}
use Rattle.sequential_signer.specs.Setup.{Setup}
use Rattle.sequential_signer.specs.Legal.{IsLegal}
use Rattle.desk_parts.specs.Tables.{setup_of}
use Rattle.sign_desk.specs.DeskState.{DeskState, Represents}
use Rattle.signer_book.specs.Close.{IsCloseCause}
use Rattle.signer_book.specs.Settled.{IsSettled}
use Rattle.signer_book.specs.declared.settled.CloseRefused.{CloseRefused}
use Rattle.signer_book.specs.declared.settled.Settled.{Settled}
use Rattle.signer_shared.specs.Gates.{GateMeaning}
use Rattle.signer_shared.specs.Pools.{ServesLists, MatchPoolRefused}
use Rattle.signer_shared.specs.declared.pool.PoolRefused.{PoolRefused}
use Rattle.signer_shared.specs.declared.pool.PoolRefused.TheVariants.{Close}
use Rattle.std.specs.Global.{Vec}
use Rattle.signer_shared.specs.declared.job.Job.{Job}
use Rattle.signer_shared.specs.declared.job.Served.{Served}
use Rattle.signctl_driver.specs.Status.{is_write_fault}
use Rattle.signctl_driver.specs.declared.status.Status.TheVariants as status
use Rattle.signctl_format.specs.Policy.{script_policy}
use Rattle.signctl_format.specs.declared.credential.ScriptCredential.{ScriptCredential}
use Rattle.signctl_format.specs.declared.credential.ScriptRule.{ScriptRule}
use Rattle.pool_jobs.specs.Setup.{pool_setup}
use Rattle.pool_jobs.specs.Work.{pool_work, jobs_of_worker}
use Rattle.pool_jobs.specs.Run.{ServesPool}
use Rattle.signctl_threads.specs.Ends.{status_of}
use Rattle.signctl_threads.specs.Pool.{IsSettledPool, IsRefusedPool, EndsEarly}
use Rattle.signctl_threads.specs.declared.end.PoolEnd.{PoolEnd}
use Rattle.signctl_threads.specs.declared.end.PoolEnd.TheVariants as end

left_false : (a b : Bool) → (a || b) ≡ false → a ≡ false
left_false false b h = refl
left_false true b h = h

right_false : (a b : Bool) → (a || b) ≡ false → b ≡ false
right_false false b h = h
right_false true b h = absurd (cc)

each_did_not : (served : List Served) → list_any (λ s. s.out_of_memory) served ≡ false
    → AllByRecursion (λ (s : Served). s.out_of_memory ≡ false) served
each_did_not [] h = tt
each_did_not (s ∷ rest) h = (
  left_false s.out_of_memory (list_any (λ x. x.out_of_memory) rest) h,
  each_did_not rest (right_false s.out_of_memory (list_any (λ x. x.out_of_memory) rest) h),
)

-- where no worker ran out of memory, each did not
none_ran_out : (served : List Served) → list_any (λ s. s.out_of_memory) served ≡ false
    → All (λ s. s.out_of_memory ≡ false) served
none_ran_out served h = All-from_recursion (λ (s : Served). s.out_of_memory ≡ false) served (each_did_not served h)

-- so many lists are few
pub few_lists : {V : Type 0} (view : V → List Job) (work : List V) (workers jobs : ℕ)
    → map view work ≡ pool_work workers jobs → workers ≤ 64 → length work < 4294967295
few_lists view work workers jobs dealt few =
    let len : length work ≡ workers = sym (length-map work view) ∙ ap length dealt ∙ length-map-range_with_len (jobs_of_worker workers jobs) 0 workers in
    omega (arith, len, few)

-- what is known where closing was refused
pub where_refused : (P : DeskState ScriptCredential ScriptRule → Type 0)
    (Q : CloseRefused ScriptCredential ScriptRule → List Served → Type 0)
    (r : PoolRefused ScriptCredential ScriptRule) (close : CloseRefused ScriptCredential ScriptRule)
    (served : Vec Served) → r ≡ Close close served → MatchPoolRefused r P Q → Q close served.items
where_refused P Q r close served e h = subst (λ x. MatchPoolRefused x P Q) e h

module _ (gate : GateMeaning ScriptCredential) (workers jobs : ℕ) where
  serves_pool : (work : List (List Job)) (passes : _) (served : List Served) → work ≡ pool_work workers jobs
      → ServesLists gate 1 work passes served → list_any (λ s. s.out_of_memory) served ≡ false
      → ServesPool gate workers jobs passes served
  serves_pool work passes served is serves none =
      (subst (λ w. ServesLists gate 1 w passes served) is serves, none_ran_out served none)

  -- a signer of the pool's plan that was closed
  pub settles : (settled : Settled ScriptCredential ScriptRule) (plan : DeskState ScriptCredential ScriptRule)
      (work : List (List Job)) (served : List Served) → setup_of plan ≡ pool_setup workers
      → work ≡ pool_work workers jobs → IsSettled settled.journal.items settled.passes.items
      → (setup_of settled.desk ≡ setup_of plan) × Represents script_policy settled.desk settled.journal.items
      → ServesLists gate 1 work settled.passes.items served → list_any (λ s. s.out_of_memory) served ≡ false
      → IsSettledPool gate workers jobs settled
  settles settled plan work served planned dealt steps desk serves none =
      let setup : setup_of settled.desk ≡ pool_setup workers = desk.0 ∙ planned in
      record {
        setup = setup;
        represents = desk.1;
        run = (
          served,
          record {
            settled = steps;
            legal = subst (λ (s : Setup ScriptRule). IsLegal script_policy s settled.journal.items) setup desk.1.legal;
            serves = serves_pool work settled.passes.items served dealt serves none;
          },
        );
      }

  -- a signer of the pool's plan that was not closed
  pub refuses : (refused : CloseRefused ScriptCredential ScriptRule)
      (plan : DeskState ScriptCredential ScriptRule) (work : List (List Job)) (served : List Served)
      → setup_of plan ≡ pool_setup workers → work ≡ pool_work workers jobs → refused.plan ≡ plan
      → Represents script_policy refused.book.desk refused.book.journal
      → IsCloseCause plan refused.book refused.passes.items refused.why
      → ServesLists gate 1 work refused.passes.items served → list_any (λ s. s.out_of_memory) served ≡ false
      → IsRefusedPool gate workers jobs refused
  refuses refused plan work served planned dealt same book cause serves none = record {
    setup = ap (λ (d : DeskState ScriptCredential ScriptRule). setup_of d) same ∙ planned;
    book = book;
    cause = subst (λ (d : DeskState ScriptCredential ScriptRule). IsCloseCause d refused.book refused.passes.items refused.why) (sym same) cause;
    serves = (served, serves_pool work refused.passes.items served dealt serves none);
  }

  module _ {D : Type 0} (holds : D → Option (List ℕ)) (faults : D → ℕ) where
    -- and no write of it failed
    pub no_fault : (sink : D) (ended : PoolEnd) → EndsEarly gate workers jobs ended
        → CountsFault (is_write_fault (status_of ended)) (faults sink) (faults sink)
    no_fault sink (end.Disagreed refused) h = refl
    no_fault sink (end.Ended status.OutOfMemory) h = refl
    no_fault sink (end.Ended status.Done) h = refl
    no_fault sink (end.Ended status.Usage) h = refl
    no_fault sink (end.Ended status.Refused) h = refl
    no_fault sink (end.Ended status.ReadFault) h = refl
    no_fault sink (end.Ended status.WriteFault) h = absurd h
    no_fault sink (end.Done settled) h = refl
    no_fault sink (end.Finished finished) h = absurd h
    no_fault sink (end.Uncleared finished why) h = absurd h
