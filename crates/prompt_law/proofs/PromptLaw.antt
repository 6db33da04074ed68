-- Each call of a pool whose gate answers at once is signed, and the provider is asked at most once.
use Rattle.std.proofs.Common.{◌≡◌, ℕ, ℤ, pos, ◌<◌, List, [], Some, filter, length, slice_get, refl, sym, ◌∙◌, ap, subst, arith}
use Rattle.std.proofs.lemmas.List.Sums.{length-filter, AllPass-from_list_all}
use Rattle.sequential_signer.specs.Policy.{Policy}
use Rattle.sequential_signer.specs.Setup.{Setup}
use Rattle.sequential_signer.specs.Legal.{IsLegal}
use Rattle.sequential_signer.specs.Replies.{is_ask, is_done}
use Rattle.sequential_signer.specs.declared.event.Entry.{Entry}
use Rattle.sequential_signer.specs.declared.event.Loader.TheVariants.{Single}
use Rattle.signer_book.specs.Settled.{IsSettled, all_receipts}
use Rattle.signer_book.specs.declared.pass.Receipt.{Receipt}
use Rattle.signer_shared.specs.Gates.{GateMeaning}
use Rattle.signer_shared.specs.declared.job.Job.{Job}
use Rattle.signer_shared.specs.declared.job.Served.{Served}
use Rattle.prompt_law.specs.Laws.{is_on_the_way_to_done, SignsAll, PromptCallsAreSigned}
use Rattle.prompt_law.specs.PromptGates.{AnswersAtOnce, jobs_in}
use Rattle.prompt_law.proofs.Dealt.{all_from}
use Rattle.prompt_law.proofs.Picked.{no_items}
use Rattle.prompt_law.proofs.DealtPasses.{handle_of, IsDealt}
use Rattle.prompt_law.proofs.PoolStates.{IsPool}
use Rattle.prompt_law.proofs.PoolRuns.{AreServed, are_served, dealt_journal, is_pool}
use Rattle.prompt_law.proofs.PoolCounts.{Counts, counts, no_jobs, asks_are}

module _ {K D : Type 0} (policy : Policy K D) (setup : Setup D) (c : K) (moment : ℤ) (loads : slice_get setup.loaders 0 ≡ Some Single)
    (gate : GateMeaning K) (at_once : AnswersAtOnce c moment gate) (turns : ℕ) (some : 0 < turns) (lists : List (List Job))
    (journal : List (Entry K)) (passes : List (List (Receipt K))) (served : List Served) where
  -- the journal of such workers is a pool's, and they signed all
  signs_all : AreServed policy setup c moment loads gate at_once turns some 0 lists passes served
      → IsSettled journal passes → IsLegal policy setup journal → SignsAll (jobs_in lists) journal served
  signs_all are settled legal =
      let dealt : IsDealt journal 0 passes = dealt_journal policy setup c moment loads gate at_once turns some journal lists passes served are settled in
      let pool : IsPool policy setup c moment journal = is_pool policy setup c moment loads gate at_once turns some journal lists passes served are settled legal in
      let all : Counts policy setup c moment loads gate at_once turns some journal pool.well 0 lists served =
      counts policy setup c moment loads gate at_once turns some journal pool.well 0 lists passes served are dealt in
      let dones : length (filter (λ (e : Entry K). is_done e.reply) journal) ≡ jobs_in lists =
      ap length (sym (all_from handle_of (filter (λ (e : Entry K). is_done e.reply) journal))) ∙ all.dones in
      let empty : jobs_in lists ≡ 0 → journal ≡ [] = λ none.
      let receipts : length (all_receipts passes) ≡ 0 = no_jobs policy setup c moment loads gate at_once turns some 0 lists passes served are none in
      let counted : length (all_receipts passes) ≡ length journal = settled.counted in
      no_items journal (omega arith) in
      record {
        well = AllPass-from_list_all (λ (e : Entry K). is_on_the_way_to_done e.reply) journal pool.well;
        signed = sym (length-filter (λ (e : Entry K). is_done e.reply) journal) ∙ dones;
        loads =
            sym (length-filter (λ (e : Entry K). is_ask e.reply) journal)
            ∙ asks_are policy setup c moment loads gate at_once turns some journal (jobs_in lists) pool.state dones empty;
        done = all.done;
        refused = all.refused;
        not_now = all.not_now;
        given_up = all.given_up;
      }

pub prompt_calls_are_signed : {K D : Type 0} (policy : Policy K D) (gate : GateMeaning K)
    → PromptCallsAreSigned policy gate
prompt_calls_are_signed policy gate setup c moment turns lists journal passes served loads at_once some are settled legal serves memory =
    signs_all policy setup c moment loads gate at_once turns some lists journal passes served
    (are_served policy setup c moment loads gate at_once turns some 0 lists passes served are serves memory) settled legal
