-- What the slots have when all threads have returned.
use Rattle.std.proofs.Common.{◌≡◌, ℕ, suc, ◌+◌, ◌<◌, ◌/◌, ◌%◌, List, [], ◌∷◌, ◌++◌, Option, length, map, get_or, refl, sym, ◌∙◌, ap, subst, arith}
use Rattle.std.specs.Prelude.{All}
use Rattle.std.proofs.lemmas.List.{length-append, length-map, length_push}
use Rattle.std.proofs.lemmas.List.Sums.{sum_by-cons}
use Rattle.std.proofs.lemmas.List.Elements.{All-nil, All-head, All-tail, All-append, All-map}
use Rattle.crossbeam_queue.specs.Passes.{IsPassOf}
use Rattle.crossbeam_queue.specs.declared.array_queue.Doing.{Doing}
use Rattle.crossbeam_queue.specs.declared.array_queue.Slotted.{Slotted}
use Rattle.signctl_format.specs.declared.credential.ScriptCredential.{ScriptCredential}
use Rattle.signer_shared.specs.Gates.{GateMeaning}
use Rattle.pool_books.specs.Cleared.{joined, lists_of}
use Rattle.pool_books.specs.declared.job.PoolJob.{PoolJob}
use Rattle.sign_pool.specs.declared.queue.SeatHistory.{SeatHistory}
use Rattle.sign_pool.specs.declared.seats.Submitter.{Submitter}
use Rattle.sign_pool.specs.declared.seats.Worker.{Worker}
use Rattle.signctl_threads.specs.Jobs.{IsQueueJob}
use Rattle.signctl_threads.specs.Served.{AreSubmitted, DidNotRunOut, ServesAnswers, ServesHandles, ServesQueue}
use Rattle.signctl_threads.specs.Slots.{AreNewSlots, AreRunSlots, AreServedSeats, AreServedSlots, DidNotStop, EachFrom, IsNewSlot, IsRun, IsRunSlot, IsSlot, NoAnswerRanOut, answered_in}
use Rattle.signctl_threads.specs.declared.slots.Slot.{Slot}
use Rattle.signctl_threads.proofs.Places.{each_all, each_from, each_here, each_push}
use Rattle.signctl_threads.proofs.Shares.{all_dealt, dealt_from}

-- the submitters, and the workers, of slots
abbrev pub submitters_of : List Slot → List Submitter
submitters_of slots = map (λ s. s.submitter) slots

abbrev pub workers_of : List Slot → List (Worker ScriptCredential)
workers_of slots = map (λ s. s.worker) slots

abbrev pub jobs_lists : List Submitter → List (List PoolJob)
jobs_lists submitters = lists_of (map (λ s. s.jobs) submitters)

-- one new slot more
pub new_slot_more : {Q A : Type 0}
    (first second third : Slotted (Option PoolJob) (Doing PoolJob SeatHistory) Q A)
    → second ≡ first → third ≡ second → (count : ℕ) (slots : List Slot) (slot : Slot)
    → AreNewSlots first count slots → IsPassOf second slot.submitter.seat → slot.submitter.jobs.items ≡ []
    → IsPassOf third slot.worker.seat → slot.worker.handle ≡ count → slot.worker.pass ≡ []
    → slot.worker.answers.items ≡ [] → AreNewSlots third (count + 1) (slots ++ slot ∷ [])
new_slot_more {Q} {A} first second third one two count slots slot all submitter jobs worker handle pass answers =
    let Queue : Type 0 = Slotted (Option PoolJob) (Doing PoolJob SeatHistory) Q A in
    let same : first ≡ third = sym (two ∙ one) in
    let each : EachFrom (IsNewSlot third) 0 slots = subst (λ (q : Queue). EachFrom (IsNewSlot q) 0 slots) same all.each in
    let here : IsNewSlot third count slot = record {
      submitter = subst (λ (q : Queue). IsPassOf q slot.submitter.seat) (sym two) submitter;
      worker = worker;
      handle = handle;
      jobs = jobs;
      pass = pass;
      answers = answers;
    } in
    let at : count ≡ 0 + length slots = omega (arith, all.len) in
    record {
      len = omega (arith, length_push slots slot, all.len);
      each = each_push (IsNewSlot third) 0 slots slot each (subst (λ k. IsNewSlot third k slot) at here);
    }

module _ {Q A : Type 0} (queue : Slotted (Option PoolJob) (Doing PoolJob SeatHistory) Q A) where
  module _ (gate : GateMeaning ScriptCredential) where
    pub new_slot : (place : ℕ) (slot : Slot) → IsNewSlot queue place slot → IsSlot queue gate slot
    new_slot place slot h = record {
      submitter = record { seat = h.submitter; jobs = subst (All IsQueueJob) (sym h.jobs) (All-nil IsQueueJob) };
      worker = record {
        seat = h.worker;
        serves = subst (λ l. ServesAnswers gate slot.worker.handle 1 0 l slot.worker.pass) (sym h.answers) h.pass;
      };
    }

    module _ (workers jobs : ℕ) where
      ran : (place : ℕ) (before after : Slot) → IsNewSlot queue place before
          → IsRun queue gate workers jobs place before after → IsRunSlot queue gate workers jobs place after
      ran place before after h r = record {
        state = r.goes_on.slot;
        handle = r.goes_on.handle ∙ h.handle;
        submitted = λ e. omega (arith, r.submitted e, ap length h.jobs);
      }

      -- new slots in which their threads ran
      pub all_ran : (old new : List Slot) → AreNewSlots queue workers old → length new ≡ length old
          → ((i : ℕ) (d : Slot) → i < length old
          → IsRun queue gate workers jobs i (get_or old i d) (get_or new i d))
          → AreRunSlots queue gate workers jobs new
      all_ran old new all len each = record {
        len = len ∙ all.len;
        each = each_from (IsRunSlot queue gate workers jobs) 0 new (λ i d below. at i d below);
      }
        where
          at : (i : ℕ) (d : Slot) → i < length new
              → IsRunSlot queue gate workers jobs (0 + i) (get_or new i d)
          at i d below =
              let inside : i < length old = omega (arith, len) in
              let e : i ≡ 0 + i = omega arith in
              subst (λ k. IsRunSlot queue gate workers jobs k (get_or new i d)) e
              (ran i (get_or old i d) (get_or new i d) (each_here (IsNewSlot queue) old i d all.each inside) (each i d inside))

      handles : (n : ℕ) (slots : List Slot) → EachFrom (IsRunSlot queue gate workers jobs) n slots
          → ServesHandles gate n (lists_of (map (λ w. w.answers) (workers_of slots)))
          (map (λ w. w.pass) (workers_of slots))
      handles n [] h = tt
      handles n (s ∷ slots) h = (
        subst (λ k. ServesAnswers gate k 1 0 s.worker.answers.items s.worker.pass) h.0.handle h.0.state.worker.serves,
        handles (suc n) slots h.1,
      )

      counts : (n : ℕ) (slots : List Slot) → EachFrom (IsRunSlot queue gate workers jobs) n slots
          → All DidNotStop slots
          → length (joined (jobs_lists (submitters_of slots)))
          ≡ dealt_from (jobs / workers) (jobs % workers) n (length slots)
      counts n [] h none = refl
      counts n (s ∷ slots) h none =
          omega (
            arith,
            length-append s.submitter.jobs.items (joined (jobs_lists (submitters_of slots))),
            h.0.submitted (All-head DidNotStop s slots none),
            counts (suc n) slots h.1 (All-tail DidNotStop s slots none),
          )

      are_jobs : (n : ℕ) (slots : List Slot) → EachFrom (IsRunSlot queue gate workers jobs) n slots
          → All IsQueueJob (joined (jobs_lists (submitters_of slots)))
      are_jobs n [] h = All-nil IsQueueJob
      are_jobs n (s ∷ slots) h =
          All-append IsQueueJob s.submitter.jobs.items (joined (jobs_lists (submitters_of slots))) h.0.state.submitter.jobs (are_jobs (suc n) slots h.1)

answers_count : (slots : List Slot)
    → length (joined (lists_of (map (λ w. w.answers) (workers_of slots)))) ≡ answered_in slots
answers_count [] = refl
answers_count (s ∷ slots) =
    omega (
      arith,
      length-append s.worker.answers.items (joined (lists_of (map (λ w. w.answers) (workers_of slots)))),
      answers_count slots,
      sum_by-cons (λ (slot : Slot). length slot.worker.answers.items) s slots,
    )

none_ran_out : (slots : List Slot) → All NoAnswerRanOut slots
    → All DidNotRunOut (joined (lists_of (map (λ w. w.answers) (workers_of slots))))
none_ran_out [] h = All-nil DidNotRunOut
none_ran_out (s ∷ slots) h =
    All-append DidNotRunOut s.worker.answers.items (joined (lists_of (map (λ w. w.answers) (workers_of slots))))
    (All-head NoAnswerRanOut s slots h) (none_ran_out slots (All-tail NoAnswerRanOut s slots h))

module _ {Q A : Type 0} (queue : Slotted (Option PoolJob) (Doing PoolJob SeatHistory) Q A)
    (gate : GateMeaning ScriptCredential) (workers jobs : ℕ) where
  serves_queue : (slots : List Slot) → AreServedSlots queue gate workers jobs slots
      → ServesQueue gate workers jobs (map (λ w. w.pass) (workers_of slots))
      (lists_of (map (λ w. w.answers) (workers_of slots)))
  serves_queue slots h = record {
    workers_are = length-map (workers_of slots) (λ w. w.pass) ∙ length-map slots (λ s. s.worker) ∙ h.run.len;
    serves = handles queue gate workers jobs 0 slots h.run.each;
    answered = answers_count slots ∙ h.answered;
    none_ran_out = none_ran_out slots h.none_ran_out;
  }

  are_submitted : 0 < workers → (slots : List Slot) → AreServedSlots queue gate workers jobs slots
      → AreSubmitted jobs (jobs_lists (submitters_of slots))
  are_submitted some slots h = record {
    count = counts queue gate workers jobs 0 slots h.run.each h.none_stopped
        ∙ ap (dealt_from (jobs / workers) (jobs % workers) 0) h.run.len ∙ all_dealt workers jobs some;
    each = are_jobs queue gate workers jobs 0 slots h.run.each;
  }

  submitter_seats : (slots : List Slot) → AreServedSlots queue gate workers jobs slots
      → All (λ s. IsPassOf queue s.seat) (submitters_of slots)
  submitter_seats slots h =
      All-map (λ (s : Submitter). IsPassOf queue s.seat) (λ (s : Slot). s.submitter) slots
      (each_all (IsRunSlot queue gate workers jobs) (λ (s : Slot). IsPassOf queue s.submitter.seat) (λ i s r. r.state.submitter.seat) 0 slots h.run.each)

  worker_seats : (slots : List Slot) → AreServedSlots queue gate workers jobs slots
      → All (λ w. IsPassOf queue w.seat) (workers_of slots)
  worker_seats slots h =
      All-map (λ (w : Worker ScriptCredential). IsPassOf queue w.seat) (λ (s : Slot). s.worker) slots
      (each_all (IsRunSlot queue gate workers jobs) (λ (s : Slot). IsPassOf queue s.worker.seat) (λ i s r. r.state.worker.seat) 0 slots h.run.each)

  -- the seats of the slots
  pub are_served : 0 < workers → (slots : List Slot) → AreServedSlots queue gate workers jobs slots
      → AreServedSeats queue gate workers jobs (submitters_of slots) (workers_of slots)
  are_served some slots h = record {
    submitter_seats = submitter_seats slots h;
    worker_seats = worker_seats slots h;
    submitted = are_submitted some slots h;
    serves = serves_queue slots h;
  }
