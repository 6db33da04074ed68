-- Answers of a worker, one more at a time.
use Rattle.std.proofs.Common.{◌≡◌, ℕ, suc, ◌+◌, List, [], ◌∷◌, ◌++◌, Option, length, refl, sym, ◌∙◌, ap, subst, arith}
use Rattle.std.proofs.lemmas.List.{append-nil, append_assoc, length-append}
use Rattle.crossbeam_queue.specs.Passes.{IsPassOf}
use Rattle.crossbeam_queue.specs.declared.array_queue.Doing.{Doing}
use Rattle.crossbeam_queue.specs.declared.array_queue.Slotted.{Slotted}
use Rattle.signctl_format.specs.declared.credential.ScriptCredential.{ScriptCredential}
use Rattle.signer_book.specs.declared.pass.Receipt.{Receipt}
use Rattle.signer_shared.specs.Gates.{GateMeaning}
use Rattle.pool_books.specs.declared.answer.Answer.{Answer}
use Rattle.pool_books.specs.declared.job.PoolJob.{PoolJob}
use Rattle.sign_pool.specs.Work.{IsSameWorker, Serves, Works, last_place, last_reply, outcome_of}
use Rattle.sign_pool.specs.declared.queue.SeatHistory.{SeatHistory}
use Rattle.sign_pool.specs.declared.seats.Worker.{Worker}
use Rattle.sign_pool.specs.declared.work.Work.{Work}
use Rattle.sign_pool.specs.declared.work.Work.TheVariants as work
use Rattle.signctl_threads.specs.Served.{IsAnswered, ServesAnswers}
use Rattle.signctl_threads.specs.Slots.{IsWorker}

module _ (gate : GateMeaning ScriptCredential) where
  moved : (handle n m b c : ℕ) (own : List (Receipt ScriptCredential)) (answer : Answer) → n ≡ m → b ≡ c
      → IsAnswered gate handle n b own answer → IsAnswered gate handle m c own answer
  moved handle n m b c own answer e f h =
      subst (λ k. IsAnswered gate handle k c own answer) e (subst (λ k. IsAnswered gate handle n k own answer) f h)

  -- one job more was served and answered
  pub one_answer_more : (handle number before : ℕ) (answers : List Answer)
      (receipts own : List (Receipt ScriptCredential)) (answer : Answer)
      → ServesAnswers gate handle number before answers receipts
      → IsAnswered gate handle (number + length answers) (before + length receipts) own answer
      → ServesAnswers gate handle number before (answers ++ answer ∷ []) (receipts ++ own)
  one_answer_more handle number before [] receipts own answer none h =
      let n : number + 0 ≡ number = omega arith in
      let b : before + length receipts ≡ before = omega (arith, ap length none) in
      (own, [], ap (λ l. l ++ own) none ∙ sym (append-nil own), moved handle _ _ _ _ own answer n b h, refl)
  one_answer_more handle number before (first ∷ answers) receipts own answer served h =
      let n : number + length (first ∷ answers) ≡ suc number + length answers = omega arith in
      let b : before + length receipts ≡ before + length served.0 + length served.1 = omega (arith, ap length served.2 ∙ length-append served.0 served.1) in (
        served.0,
        served.1 ++ own,
        ap (λ l. l ++ own) served.2 ∙ append_assoc served.0 served.1 own,
        served.3,
        one_answer_more handle (suc number) (before + length served.0) answers served.1 own answer served.4 (moved handle _ _ _ _ own answer n b h),
      )

  module _ {Q A : Type 0} (queue : Slotted (Option PoolJob) (Doing PoolJob SeatHistory) Q A) where
    served : (before after : Worker ScriptCredential) (job : PoolJob) → IsWorker queue gate before
        → IsPassOf queue after.seat → Serves gate 1 before after job → IsWorker queue gate after
    served before after job h seat did =
        let n : length before.answers.items + 1 ≡ 1 + length before.answers.items = omega arith in
        let b : length before.pass ≡ 0 + length before.pass = omega arith in
        let answer : Answer = record {
          ticket = job.ticket;
          call = record { handle = before.handle; number = length before.answers.items + 1 };
          last = last_place (length before.pass) did.added;
          outcome = outcome_of (last_reply did.added) did.served.out_of_memory;
        } in
        let made : ServesAnswers gate before.handle 1 0 (before.answers.items ++ answer ∷ []) (before.pass ++ did.added) =
        one_answer_more before.handle 1 0 before.answers.items before.pass did.added answer h.serves
        (moved before.handle _ _ _ _ did.added answer n b (record { job = job; served = did.served; serves = did.serves; answer_is = refl })) in
        record {
          seat = seat;
          serves = subst (λ k. ServesAnswers gate k 1 0 after.answers.items after.pass) (sym did.handle)
              (subst (λ l. ServesAnswers gate before.handle 1 0 l after.pass) (sym did.answers)
              (subst (λ l. ServesAnswers gate before.handle 1 0 (before.answers.items ++ answer ∷ []) l) (sym did.pass) made));
        }

    same : (before after : Worker ScriptCredential) → IsWorker queue gate before → IsPassOf queue after.seat
        → IsSameWorker before after → IsWorker queue gate after
    same before after h seat did = record {
      seat = seat;
      serves = subst (λ k. ServesAnswers gate k 1 0 after.answers.items after.pass) (sym did.handle)
          (subst (λ l. ServesAnswers gate before.handle 1 0 l after.pass) (sym did.answers)
          (subst (λ l. ServesAnswers gate before.handle 1 0 before.answers.items l) (sym did.pass) h.serves));
    }

    -- a worker who worked has served the jobs of its answers, and has its handle
    pub works : (before after : Worker ScriptCredential) (did : Work) → IsWorker queue gate before
        → IsPassOf queue after.seat → Works gate 1 before after did
        → IsWorker queue gate after × (after.handle ≡ before.handle)
    works before after (work.Served ticket) h seat did = (served before after did.0 h seat did.3, did.3.handle)
    works before after work.Empty h seat did = (same before after h seat did, did.handle)
    works before after work.OutOfMemory h seat did = (same before after h seat did, did.handle)
