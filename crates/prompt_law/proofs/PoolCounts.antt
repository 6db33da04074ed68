-- What the journal and the workers of a pool count.
use Rattle.std.proofs.Common.{◌≡◌, ℕ, ℤ, zero, suc, ◌+◌, ◌<◌, min, Bool, true, false, cond, List, [], ◌∷◌, ◌++◌, Some, filter, length, map, slice_get, refl, sym, ◌∙◌, ap, arith}
use Rattle.std.specs.Prelude.{All, sum_by}
use Rattle.std.specs.List.{list_all}
use Rattle.std.proofs.lemmas.List.Elements.{All-nil, All-cons}
use Rattle.std.proofs.lemmas.List.Sums.{length-filter, sum_by-cons}
use Rattle.sequential_signer.specs.Policy.{Policy}
use Rattle.sequential_signer.specs.Setup.{Setup}
use Rattle.sequential_signer.specs.Phase.{is_not_now}
use Rattle.sequential_signer.specs.Replies.{is_ask, is_cancelled, is_done, is_refused}
use Rattle.sequential_signer.specs.declared.event.Entry.{Entry}
use Rattle.sequential_signer.specs.declared.event.Loader.TheVariants.{Single}
use Rattle.sequential_signer.specs.declared.event.Reply.{Reply}
use Rattle.sequential_signer.specs.declared.event.Reply.TheVariants as reply
use Rattle.sign_base.proofs.Truth.{and_left, and_right}
use Rattle.sequential_signer.proofs.Lists.{filter-swap}
use Rattle.sequential_signer.proofs.Distinct.{list_all-filter_of}
use Rattle.signer_book.specs.Settled.{all_receipts}
use Rattle.signer_book.specs.declared.pass.Receipt.{Receipt}
use Rattle.signer_shared.specs.Gates.{GateMeaning}
use Rattle.signer_shared.specs.Serving.{IsServing, ServesAll, replies}
use Rattle.signer_shared.specs.declared.job.Job.{Job}
use Rattle.signer_shared.specs.declared.job.Served.{Served}
use Rattle.prompt_law.proofs.Dealt.{is_of, is_from, split_from}
use Rattle.prompt_law.proofs.Picked.{no_items}
use Rattle.prompt_law.specs.Laws.{is_on_the_way_to_done}
use Rattle.prompt_law.proofs.FittingEvents.{all_well}
use Rattle.prompt_law.specs.PromptGates.{AnswersAtOnce, jobs_in}
use Rattle.prompt_law.proofs.WorkerCourses.{entries}
use Rattle.prompt_law.proofs.DealtPasses.{handle_of, IsDealt}
use Rattle.prompt_law.proofs.PoolStates.{PoolState, untouched, loading, loaded}
use Rattle.prompt_law.proofs.PoolRuns.{AreServed, no_more, one_more, serves_all}

-- replies that go well are none of these
well_not_refused : {K : Type 0} (r : Reply K) → is_on_the_way_to_done r ≡ true → is_refused r ≡ false
well_not_refused (reply.Refused y w) h = absurd (cc)
well_not_refused reply.Begun h = refl
well_not_refused reply.Pending h = refl
well_not_refused reply.NotNow h = refl
well_not_refused reply.OutOfMemory h = refl
well_not_refused (reply.Ask p) h = refl
well_not_refused (reply.Sign k w) h = refl
well_not_refused (reply.Done d) h = refl
well_not_refused (reply.Cancelled w) h = refl

well_not_not_now : {K : Type 0} (r : Reply K) → is_on_the_way_to_done r ≡ true → is_not_now r ≡ false
well_not_not_now reply.NotNow h = absurd (cc)
well_not_not_now reply.Begun h = refl
well_not_not_now reply.Pending h = refl
well_not_not_now reply.OutOfMemory h = refl
well_not_not_now (reply.Ask p) h = refl
well_not_not_now (reply.Sign k w) h = refl
well_not_not_now (reply.Refused y w) h = refl
well_not_not_now (reply.Done d) h = refl
well_not_not_now (reply.Cancelled w) h = refl

well_not_cancelled : {K : Type 0} (r : Reply K) → is_on_the_way_to_done r ≡ true → is_cancelled r ≡ false
well_not_cancelled (reply.Cancelled w) h = absurd (cc)
well_not_cancelled reply.Begun h = refl
well_not_cancelled reply.Pending h = refl
well_not_cancelled reply.NotNow h = refl
well_not_cancelled reply.OutOfMemory h = refl
well_not_cancelled (reply.Ask p) h = refl
well_not_cancelled (reply.Sign k w) h = refl
well_not_cancelled (reply.Refused y w) h = refl
well_not_cancelled (reply.Done d) h = refl

-- items of which none passes
none_pass : {X : Type 0} (p q : X → Bool) → ((x : X) → p x ≡ true → q x ≡ false) → (xs : List X)
    → list_all p xs ≡ true → filter q xs ≡ []
none_pass p q f [] h = refl
none_pass p q f (x ∷ xs) h =
    let here : q x ≡ false = f x (and_left (p x) (list_all p xs) h) in
    rw here (none_pass p q f xs (and_right (p x) (list_all p xs) h))

-- how many of what each item gives pass
filter-map_length : {X Y : Type 0} (q : Y → Bool) (f : X → Y) (xs : List X)
    → length (filter q (map f xs)) ≡ length (filter (λ x. q (f x)) xs)
filter-map_length q f [] = refl
filter-map_length q f (x ∷ xs) =
    (elim (q (f x)) as (λ v. length (cond v (f x ∷ filter q (map f xs)) (filter q (map f xs))) ≡ length (cond v (x ∷ filter (λ y. q (f y)) xs) (filter (λ y. q (f y)) xs)))
    [ true ↦ ap suc (filter-map_length q f xs) | false ↦ filter-map_length q f xs ])

module _ {K : Type 0} where
  -- the replies of a pass, counted among its entries
  entries_count : (test : Reply K → Bool) (pass : List (Receipt K))
      → length (filter (λ (e : Entry K). test e.reply) (entries pass)) ≡ replies test pass
  entries_count test pass =
      filter-map_length (λ (e : Entry K). test e.reply) (λ (r : Receipt K). r.entry) pass ∙ length-filter (λ (r : Receipt K). test r.entry.reply) pass

  no_replies : (test : Reply K → Bool) → ((r : Reply K) → is_on_the_way_to_done r ≡ true → test r ≡ false)
      → (pass : List (Receipt K)) → all_well (entries pass) ≡ true → replies test pass ≡ 0
  no_replies test f pass well =
      sym (entries_count test pass) ∙ ap length (none_pass (λ (e : Entry K). is_on_the_way_to_done e.reply) (λ e. test e.reply) (λ e h. f e.reply h) (entries pass) well)

-- the counts of a worker all of whose jobs were signed
pub record SignedAll (jobs : ℕ) (counts : Served) : Type 0 where
  pub done : counts.done ≡ jobs
  pub refused : counts.refused ≡ 0
  pub not_now : counts.not_now ≡ 0
  pub given_up : counts.given_up ≡ 0

module _ {K D : Type 0} (policy : Policy K D) (setup : Setup D) (c : K) (moment : ℤ) (loads : slice_get setup.loaders 0 ≡ Some Single) (gate : GateMeaning K) (prompt : AnswersAtOnce c moment gate) (turns : ℕ) (more_turns : 0 < turns) where
  -- where all went well a worker signed all its jobs
  pub signed_all : (jobs : List Job) (pass : List (Receipt K)) (counts : Served)
      → IsServing gate turns jobs pass counts → counts.out_of_memory ≡ false → all_well (entries pass) ≡ true
      → SignedAll (length jobs) counts
  signed_all jobs pass counts s m well =
      let refused : counts.refused ≡ 0 = s.refused ∙ no_replies is_refused (well_not_refused {K = K}) pass well in
      let not_now : counts.not_now ≡ 0 = s.not_now ∙ no_replies is_not_now (well_not_not_now {K = K}) pass well in
      let given_up : counts.given_up ≡ 0 = s.given_up m ∙ no_replies is_cancelled (well_not_cancelled {K = K}) pass well in
      let all : counts.done + counts.refused + counts.not_now + counts.given_up ≡ length jobs = s.all m in
      record { done = omega arith; refused = refused; not_now = not_now; given_up = given_up }

  module _ (journal : List (Entry K)) (well : all_well journal ≡ true) where
    -- a pass of a handle went well
    pass_well : (first : ℕ) (pass : List (Receipt K)) → entries pass ≡ filter (is_of handle_of first) journal
        → all_well (entries pass) ≡ true
    pass_well first pass e = ap (all_well {K = K}) e ∙ list_all-filter_of (λ (x : Entry K). is_on_the_way_to_done x.reply) (is_of handle_of first) journal well

    -- what the workers from a handle on left
    pub record Counts (first : ℕ) (lists : List (List Job)) (served : List Served) : Type 0 where
      pub dones : length
          (filter (is_from handle_of first) (filter (λ (e : Entry K). is_done e.reply) journal))
          ≡ jobs_in lists
      pub done : sum_by (λ (s : Served). s.done) served ≡ jobs_in lists
      pub refused : All (λ (s : Served). s.refused ≡ 0) served
      pub not_now : All (λ (s : Served). s.not_now ≡ 0) served
      pub given_up : All (λ (s : Served). s.given_up ≡ 0) served

    pub counts : (first : ℕ) (lists : List (List Job)) (passes : List (List (Receipt K)))
        (served : List Served)
        → AreServed policy setup c moment loads gate prompt turns more_turns first lists passes served
        → IsDealt journal first passes → Counts first lists served
    counts _ _ _ _ (no_more first) d = record {
      dones =
          ap length (filter-swap (is_from handle_of first) (λ (e : Entry K). is_done e.reply) journal
          ∙ ap (filter (λ (e : Entry K). is_done e.reply)) (no_items (filter (is_from handle_of first) journal) (omega arith)));
      done = refl;
      refused = All-nil (λ (s : Served). s.refused ≡ 0);
      not_now = All-nil (λ (s : Served). s.not_now ≡ 0);
      given_up = All-nil (λ (s : Served). s.given_up ≡ 0);
    }
    counts _ _ _ _ (one_more first jobs lists pass passes own served a s m more) d =
        let later : Counts (suc first) lists served = counts (suc first) lists passes served more d.1 in
        let all : SignedAll (length jobs) own = signed_all jobs pass own s m (pass_well first pass d.0) in
        let here : length (filter (is_of handle_of first) (filter (λ (e : Entry K). is_done e.reply) journal)) ≡ length jobs =
        ap length (filter-swap (is_of handle_of first) (λ (e : Entry K). is_done e.reply) journal)
        ∙ ap (λ (l : List (Entry K)). length (filter (λ (e : Entry K). is_done e.reply) l)) (sym d.0)
        ∙ entries_count is_done pass ∙ sym s.done ∙ all.done in
        let split : length (filter (is_from handle_of first) (filter (λ (e : Entry K). is_done e.reply) journal)) ≡ length (filter (is_of handle_of first) (filter (λ (e : Entry K). is_done e.reply) journal)) + length (filter (is_from handle_of (suc first)) (filter (λ (e : Entry K). is_done e.reply) journal)) =
        split_from handle_of first (filter (λ (e : Entry K). is_done e.reply) journal) in
        let first_done : sum_by (λ (x : Served). x.done) (own ∷ served) ≡ own.done + sum_by (λ (x : Served). x.done) served = sum_by-cons (λ (x : Served). x.done) own served in
        record {
          dones = split ∙ ap (λ n. n + length (filter (is_from handle_of (suc first)) (filter (λ (e : Entry K). is_done e.reply) journal))) here ∙ ap (λ n. length jobs + n) later.dones;
          done = first_done ∙ ap (λ n. n + sum_by (λ (x : Served). x.done) served) all.done ∙ ap (λ n. length jobs + n) later.done;
          refused = All-cons (λ (x : Served). x.refused ≡ 0) own served all.refused later.refused;
          not_now = All-cons (λ (x : Served). x.not_now ≡ 0) own served all.not_now later.not_now;
          given_up = All-cons (λ (x : Served). x.given_up ≡ 0) own served all.given_up later.given_up;
        }

  no_receipts : (jobs : List Job) (pass : List (Receipt K)) → ServesAll gate turns jobs pass → length jobs ≡ 0
      → pass ≡ []
  no_receipts [] pass s none = s
  no_receipts (j ∷ jobs) pass s none = absurd (omega arith)

  -- without jobs there are no receipts
  pub no_jobs : (first : ℕ) (lists : List (List Job)) (passes : List (List (Receipt K)))
      (served : List Served)
      → AreServed policy setup c moment loads gate prompt turns more_turns first lists passes served
      → jobs_in lists ≡ 0 → length (all_receipts passes) ≡ 0
  no_jobs _ _ _ _ (no_more first) none = refl
  no_jobs _ _ _ _ (one_more first jobs lists pass passes own served a s m more) none =
      let empty : pass ≡ [] = no_receipts jobs pass (serves_all policy setup c moment loads gate prompt turns more_turns jobs pass own s m) (omega arith) in
      let later : length (all_receipts passes) ≡ 0 = no_jobs (suc first) lists passes served more (omega arith) in
      ap (λ (p : List (Receipt K)). length (p ++ all_receipts passes)) empty ∙ later

  -- a pool in which a call was done asked once
  once : (n : ℕ) → 1 ≡ min (suc n) 1
  once n = omega arith

  asked_once : (journal : List (Entry K)) (n : ℕ) → PoolState policy setup c moment journal
      → length (filter (λ (e : Entry K). is_done e.reply) journal) ≡ suc n
      → length (filter (λ (e : Entry K). is_ask e.reply) journal) ≡ min (suc n) 1
  asked_once journal n (untouched empty a d idle unsigned) h = absurd (omega (arith, d, h))
  asked_once journal n (loading x atx l empty a d unsigned) h = absurd (omega (arith, d, h))
  asked_once journal n (loaded full a idle) h = a ∙ once n

  pub asks_are : (journal : List (Entry K)) (n : ℕ) → PoolState policy setup c moment journal
      → length (filter (λ (e : Entry K). is_done e.reply) journal) ≡ n → (n ≡ 0 → journal ≡ [])
      → length (filter (λ (e : Entry K). is_ask e.reply) journal) ≡ min n 1
  asks_are journal zero state h none = ap (λ (l : List (Entry K)). length (filter (λ (e : Entry K). is_ask e.reply) l)) (none refl)
  asks_are journal (suc n) state h none = asked_once journal n state h
