-- A settled, legal journal of workers whose calls are of one cache, at a gate that answers at once.
use Rattle.std.proofs.Common.{◌≡◌, ℕ, ℤ, suc, ◌<◌, Bool, true, false, not, List, [], ◌∷◌, ◌++◌, Some, filter, slice_get, refl, sym, ap, subst}
use Rattle.std.specs.Prelude.{All, MatchBool}
use Rattle.std.specs.List.{list_all}
use Rattle.std.proofs.lemmas.List.{append-nil, append_assoc}
use Rattle.std.proofs.lemmas.List.Elements.{All-head, All-tail}
use Rattle.std.specs.List.Sorted.{IsStrictlyIncreasing}
use Rattle.sequential_signer.specs.Policy.{Policy}
use Rattle.sequential_signer.specs.Setup.{Setup}
use Rattle.sequential_signer.specs.Transcript.{entries_of, is_out_of_memory, committed_entries}
use Rattle.sequential_signer.specs.Phase.{phase_of, phase_in}
use Rattle.sequential_signer.specs.Turn.{poll_order}
use Rattle.sequential_signer.specs.SequentialCache.{sequential_cache}
use Rattle.sequential_signer.specs.Legal.{IsLegal, IsLegalEntry, IsLegalAfter}
use Rattle.sequential_signer.specs.declared.event.Entry.{Entry}
use Rattle.sequential_signer.specs.declared.event.Loader.TheVariants.{Single}
use Rattle.sequential_signer.specs.declared.event.Reply.{Reply}
use Rattle.sequential_signer.specs.declared.event.Reply.TheVariants as reply
use Rattle.sign_base.proofs.Truth.{and_left, and_right}
use Rattle.sequential_signer.proofs.Distinct.{list_all-filter_of}
use Rattle.sequential_signer.proofs.Run.{start}
use Rattle.signer_book.specs.Settled.{IsSettled, IsEntryOf, AreEntriesOf, AreRising, places}
use Rattle.signer_book.specs.declared.pass.Receipt.{Receipt}
use Rattle.signer_shared.specs.Gates.{GateMeaning}
use Rattle.signer_shared.specs.Serving.{IsServing, ServesAll, StopsAtAJob}
use Rattle.signer_shared.specs.Pools.{ServesLists}
use Rattle.signer_shared.specs.declared.job.Job.{Job}
use Rattle.signer_shared.specs.declared.job.Served.{Served}
use Rattle.prompt_law.proofs.Dealt.{is_of, is_from, from_either, from_zero}
use Rattle.prompt_law.specs.Laws.{is_on_the_way_to_done}
use Rattle.prompt_law.specs.PromptGates.{AnswersAtOnce, AreWorkerJobs, AreWorkerLists}
use Rattle.prompt_law.proofs.FittingEvents.{all_well, IsExpected}
use Rattle.prompt_law.proofs.WorkerCourses.{entries, pass_handle, pass_expected}
use Rattle.prompt_law.proofs.Spread.{EachAfter, AmongThose, Where, each-weaker, spread, either, nobody}
use Rattle.prompt_law.proofs.DealtPasses.{handle_of, AreOfHandles, IsDealt, pass_picked, settled_dealt}
use Rattle.prompt_law.proofs.HandleEntries.{own_fits}
use Rattle.prompt_law.proofs.PoolStates.{IsPool, untouched, event_pool}

-- entries that went well are all committed
well_in_memory : {K : Type 0} (r : Reply K) → is_on_the_way_to_done r ≡ true → is_out_of_memory r ≡ false
well_in_memory reply.OutOfMemory h = absurd (cc)
well_in_memory reply.Begun h = refl
well_in_memory reply.Pending h = refl
well_in_memory reply.NotNow h = refl
well_in_memory (reply.Ask p) h = refl
well_in_memory (reply.Sign k w) h = refl
well_in_memory (reply.Refused y w) h = refl
well_in_memory (reply.Done d) h = refl
well_in_memory (reply.Cancelled w) h = refl

filter_kept : {X : Type 0} (p q : X → Bool) → ((x : X) → p x ≡ true → q x ≡ true) → (xs : List X)
    → list_all p xs ≡ true → filter q xs ≡ xs
filter_kept p q f [] h = refl
filter_kept p q f (x ∷ xs) h =
    let here : q x ≡ true = f x (and_left (p x) (list_all p xs) h) in
    rw (here, filter_kept p q f xs (and_right (p x) (list_all p xs) h)) refl

all_committed : {K : Type 0} (entries : List (Entry K)) → all_well entries ≡ true
    → committed_entries entries ≡ entries
unfolding committed_entries
all_committed {K = K} entries h = filter_kept (λ (e : Entry K). is_on_the_way_to_done e.reply) (λ e. not (is_out_of_memory e.reply)) (λ e w. ap not (well_in_memory e.reply w)) entries h

module _ {K D : Type 0} (policy : Policy K D) (setup : Setup D) (c : K) (moment : ℤ) where
  -- no entries yet
  nothing : IsPool policy setup c moment []
  unfolding sequential_cache poll_order phase_of phase_in entries_of
  nothing = record { run = start; well = refl; state = untouched refl refl refl (λ b at. refl) (λ b at. refl) }

  module _ (loads : slice_get setup.loaders 0 ≡ Some Single) (gate : GateMeaning K) (prompt : AnswersAtOnce c moment gate) (turns : ℕ) (more_turns : 0 < turns) where
    -- an entry that is expected after those before it
    abbrev Expected : List (Entry K) → Entry K → Type 0
    Expected before e = IsExpected policy setup c moment before e

    -- legal entries whose events fit leave a pool
    grows_by : (before rest : List (Entry K)) → IsPool policy setup c moment before
        → IsLegalAfter policy setup before rest → EachAfter Expected before rest
        → IsPool policy setup c moment (before ++ rest)
    grows_by before [] pool legal fits = subst (λ (l : List (Entry K)). IsPool policy setup c moment l) (sym (append-nil before)) pool
    grows_by before (e ∷ rest) pool legal fits =
        let here : IsLegalEntry policy setup before e = subst (λ (l : List (Entry K)). IsLegalEntry policy setup l e) (all_committed before pool.well) legal.0 in
        let next : IsPool policy setup c moment (before ++ e ∷ []) = event_pool policy setup c moment loads before pool e.reply fits.0.0 e.event here (fits.0.1 pool.well) in
        subst (λ (l : List (Entry K)). IsPool policy setup c moment l) (append_assoc before (e ∷ []) rest) (grows_by (before ++ e ∷ []) rest next legal.1 fits.1)

    pub journal_pool : (journal : List (Entry K)) → IsLegal policy setup journal
        → EachAfter Expected [] journal → IsPool policy setup c moment journal
    unfolding IsLegal
    journal_pool journal legal fits = grows_by [] journal nothing legal fits

    -- lists of jobs, each of the next handle, with the passes and the counts of their workers, none of which
    -- ran out of memory
    pub data AreServed : ℕ → List (List Job) → List (List (Receipt K)) → List Served → Type 0 where
      no_more : (first : ℕ) → AreServed first [] [] []
      one_more : (first : ℕ) (jobs : List Job) (lists : List (List Job)) (pass : List (Receipt K))
          (passes : List (List (Receipt K))) (counts : Served) (served : List Served)
          → AreWorkerJobs policy setup c moment first 0 jobs → IsServing gate turns jobs pass counts
          → counts.out_of_memory ≡ false → AreServed (suc first) lists passes served
          → AreServed first (jobs ∷ lists) (pass ∷ passes) (counts ∷ served)

    pub are_served : (first : ℕ) (lists : List (List Job)) (passes : List (List (Receipt K)))
        (served : List Served) → AreWorkerLists policy setup c moment first lists
        → ServesLists gate turns lists passes served → All (λ (s : Served). s.out_of_memory ≡ false) served
        → AreServed first lists passes served
    are_served first [] [] [] a s m = no_more first
    are_served first (jobs ∷ lists) (pass ∷ passes) (counts ∷ served) a s m =
        one_more first jobs lists pass passes counts served a.0 s.0 (All-head (λ (x : Served). x.out_of_memory ≡ false) counts served m)
        (are_served (suc first) lists passes served a.1 s.1 (All-tail (λ (x : Served). x.out_of_memory ≡ false) counts served m))
    are_served first [] [] (x ∷ xs) a s m = absurd s
    are_served first [] (p ∷ ps) [] a s m = absurd s
    are_served first [] (p ∷ ps) (x ∷ xs) a s m = absurd s
    are_served first (j ∷ js) [] [] a s m = absurd s
    are_served first (j ∷ js) [] (x ∷ xs) a s m = absurd s
    are_served first (j ∷ js) (p ∷ ps) [] a s m = absurd s

    -- a worker that did not run out of memory served all its jobs
    pub serves_all : (jobs : List Job) (pass : List (Receipt K)) (counts : Served)
        → IsServing gate turns jobs pass counts → counts.out_of_memory ≡ false
        → ServesAll gate turns jobs pass
    serves_all jobs pass counts s m = subst (λ (b : Bool). MatchBool b (StopsAtAJob gate turns jobs pass counts.given_up) (ServesAll gate turns jobs pass)) m s.course

    module _ (journal : List (Entry K)) where
      -- the passes are of handles of their own
      pub of_handles : (first : ℕ) (lists : List (List Job)) (passes : List (List (Receipt K)))
          (served : List Served) → AreServed first lists passes served → AreEntriesOf journal passes
          → AreRising passes → AreOfHandles journal first passes
      of_handles _ _ _ _ (no_more first) are rise = tt
      of_handles _ _ _ _ (one_more first jobs lists pass passes counts served a s m more) are rise = (
        pass_picked journal (is_of handle_of first) pass (All-head (All (IsEntryOf journal)) pass passes are) (All-head (λ (r : List (Receipt K)). IsStrictlyIncreasing (places r)) pass passes rise)
            (pass_handle policy setup c moment gate prompt turns more_turns first 0 jobs pass a (serves_all jobs pass counts s m)),
        of_handles (suc first) lists passes served more (All-tail (All (IsEntryOf journal)) pass passes are) (All-tail (λ (r : List (Receipt K)). IsStrictlyIncreasing (places r)) pass passes rise),
      )

      -- each entry of a handle of theirs is expected after those before it
      pub all_expected : (first : ℕ) (lists : List (List Job)) (passes : List (List (Receipt K)))
          (served : List Served) → AreServed first lists passes served → IsDealt journal first passes
          → EachAfter (Where Expected (is_from handle_of first)) [] journal
      all_expected _ _ _ _ (no_more first) d = nobody Expected (is_from handle_of first) [] journal d
      all_expected _ _ _ _ (one_more first jobs lists pass passes counts served a s m more) d =
          let own : EachAfter Expected [] (filter (is_of handle_of first) journal) =
          subst (λ (l : List (Entry K)). EachAfter Expected [] l) d.0 (pass_expected policy setup c moment gate prompt turns more_turns first 0 jobs [] pass a (serves_all jobs pass counts s m) refl) in
          let here : EachAfter (Where Expected (is_of handle_of first)) [] journal =
          each-weaker (AmongThose (is_of handle_of first) Expected) (Where Expected (is_of handle_of first))
          (λ before x h t. ((h t).0, λ well. own_fits policy setup c moment before first x.event t ((h t).1 (list_all-filter_of (λ (e : Entry K). is_on_the_way_to_done e.reply) (is_of handle_of first) before well))))
          [] journal (spread (is_of handle_of first) Expected [] journal own) in
          either Expected (is_of handle_of first) (is_from handle_of (suc first)) (is_from handle_of first) (λ x t. from_either handle_of first x t) [] journal here (all_expected (suc first) lists passes served more d.1)

      -- so the whole journal is a pool's, and each pass has the entries of its handle
      pub dealt_journal : (lists : List (List Job)) (passes : List (List (Receipt K))) (served : List Served)
          → AreServed 0 lists passes served → IsSettled journal passes → IsDealt journal 0 passes
      dealt_journal lists passes served are s = settled_dealt journal passes (of_handles 0 lists passes served are s.entries s.rising) s.counted

      pub is_pool : (lists : List (List Job)) (passes : List (List (Receipt K))) (served : List Served)
          → AreServed 0 lists passes served → IsSettled journal passes → IsLegal policy setup journal
          → IsPool policy setup c moment journal
      is_pool lists passes served are s legal =
          journal_pool journal legal
          (each-weaker (Where Expected (is_from handle_of 0)) Expected (λ before x h. h (from_zero handle_of x)) [] journal (all_expected 0 lists passes served are (dealt_journal lists passes served are s)))
