-- What is in the slots of threads.
use Rattle.std.specs.Prelude.{◌≡◌, ℕ, suc, ◌+◌, false, List, [], ◌∷◌, Option, length, map, sum_by, All}
use Rattle.crossbeam_queue.specs.Passes.{IsPassOf}
use Rattle.crossbeam_queue.specs.declared.array_queue.Doing.{Doing}
use Rattle.crossbeam_queue.specs.declared.array_queue.Slotted.{Slotted}
use Rattle.signctl_format.specs.declared.credential.ScriptCredential.{ScriptCredential}
use Rattle.signer_shared.specs.Gates.{GateMeaning}
use Rattle.pool_books.specs.Cleared.{lists_of}
use Rattle.pool_books.specs.declared.job.PoolJob.{PoolJob}
use Rattle.sign_pool.specs.declared.queue.SeatHistory.{SeatHistory}
use Rattle.sign_pool.specs.declared.seats.Submitter.{Submitter}
use Rattle.sign_pool.specs.declared.seats.Worker.{Worker}
use Rattle.signctl_threads.specs.Jobs.{IsQueueJob, share}
use Rattle.signctl_threads.specs.Served.{AreSubmitted, DidNotRunOut, ServesAnswers, ServesQueue}
use Rattle.signctl_threads.specs.declared.slots.Slot.{Slot}

-- what holds of each element and its place, from this place on
abbrev pub EachFrom : {X : Type 0} → (ℕ → X → Type 0) → ℕ → List X → Type 0
EachFrom P place [] = Unit {0}
EachFrom P place (x ∷ xs) = P place x × EachFrom P (suc place) xs

-- the thread did not stop
abbrev pub DidNotStop : Slot → Type 0
DidNotStop slot = slot.out_of_memory ≡ false

-- no job of the slot's worker met an allocation that failed
abbrev pub NoAnswerRanOut : Slot → Type 0
NoAnswerRanOut slot = All DidNotRunOut slot.worker.answers.items

-- how many answers there are
abbrev pub answered_in : List Slot → ℕ
answered_in slots = sum_by (λ slot. length slot.worker.answers.items) slots

module _ {Q A : Type 0} (queue : Slotted (Option PoolJob) (Doing PoolJob SeatHistory) Q A) where
  -- a submitter of this queue, who submitted jobs of the command
  pub record IsSubmitter (submitter : Submitter) : Type 0 where
    pub seat : IsPassOf queue submitter.seat
    pub jobs : All IsQueueJob submitter.jobs.items

  -- a slot of this queue in which nothing was done, with the worker of the place's handle
  pub record IsNewSlot (place : ℕ) (slot : Slot) : Type 0 where
    pub submitter : IsPassOf queue slot.submitter.seat
    pub worker : IsPassOf queue slot.worker.seat
    pub handle : slot.worker.handle ≡ place
    pub jobs : slot.submitter.jobs.items ≡ []
    pub pass : slot.worker.pass ≡ []
    pub answers : slot.worker.answers.items ≡ []

  -- so many new slots
  pub record AreNewSlots (count : ℕ) (slots : List Slot) : Type 0 where
    pub len : length slots ≡ count
    pub each : EachFrom IsNewSlot 0 slots

  module _ (gate : GateMeaning ScriptCredential) where
    -- a worker of this queue, who served the jobs of its answers
    pub record IsWorker (worker : Worker ScriptCredential) : Type 0 where
      pub seat : IsPassOf queue worker.seat
      pub serves : ServesAnswers gate worker.handle 1 0 worker.answers.items worker.pass

    -- a slot of this queue
    pub record IsSlot (slot : Slot) : Type 0 where
      pub submitter : IsSubmitter slot.submitter
      pub worker : IsWorker slot.worker

    -- a slot after steps of its thread
    pub record GoesOn (before after : Slot) : Type 0 where
      pub slot : IsSlot after
      pub handle : after.worker.handle ≡ before.worker.handle

    module _ (workers jobs : ℕ) where
      -- what a thread does in the slot of its place: where it did not stop, its
      -- share of the jobs was submitted
      pub record IsRun (place : ℕ) (before after : Slot) : Type 0 where
        pub goes_on : GoesOn before after
        pub submitted : after.out_of_memory ≡ false
            → length after.submitter.jobs.items ≡
            length before.submitter.jobs.items + share workers jobs place

      -- the slot of this place when its thread has returned
      pub record IsRunSlot (place : ℕ) (slot : Slot) : Type 0 where
        pub state : IsSlot slot
        pub handle : slot.worker.handle ≡ place
        pub submitted : slot.out_of_memory ≡ false
            → length slot.submitter.jobs.items ≡ share workers jobs place

      -- the slots when all threads have returned
      pub record AreRunSlots (slots : List Slot) : Type 0 where
        pub len : length slots ≡ workers
        pub each : EachFrom IsRunSlot 0 slots

      -- the slots when no thread stopped, and there are as many answers as jobs
      pub record AreServedSlots (slots : List Slot) : Type 0 where
        pub run : AreRunSlots slots
        pub none_stopped : All DidNotStop slots
        pub answered : answered_in slots ≡ jobs
        pub none_ran_out : All NoAnswerRanOut slots

      -- all seats, in the order of the slots: theirs is this queue, and they have
      -- what was submitted and served
      pub record AreServedSeats (submitters : List Submitter)
          (seats : List (Worker ScriptCredential)) : Type 0 where
        pub submitter_seats : All (λ s. IsPassOf queue s.seat) submitters
        pub worker_seats : All (λ w. IsPassOf queue w.seat) seats
        pub submitted : AreSubmitted jobs (lists_of (map (λ s. s.jobs) submitters))
        pub serves : ServesQueue gate workers jobs (map (λ w. w.pass) seats)
            (lists_of (map (λ w. w.answers) seats))
