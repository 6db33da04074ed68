use Rattle.std.proofs.Common.{◌≡◌, ◌∷◌, [], ◌++◌, List, ℕ, ◌<◌, ◌+◌, length, get_or, take, map, sym, ◌∙◌, ap, subst, arith}
use Rattle.std.specs.Global.{Vec}
use Rattle.std.specs.Prelude.{IsSome, All}
use Rattle.std.proofs.lemmas.List.{append-nil, map-append, take_all}
use Rattle.std.proofs.lemmas.List.Concat.{flat_map-append}
use Rattle.std.proofs.lemmas.List.Elements.{All-append, All-same, All-weaker}
use Rattle.pool_books.specs.Cleared.{joined, lists_of}
use Rattle.pool_books.specs.Notes.{note_of}
use Rattle.pool_books.specs.declared.answer.Answer.{Answer}
use Rattle.pool_books.proofs.CallNotes.{read-more}
use Rattle.sign_pool.specs.Seats.{answers_of}
use Rattle.sign_pool.specs.declared.seats.Worker.{Worker}
use Rattle.sign_pool.proofs.seat_books.blank_notes.Goals as goal

answers-more : {K : Type 0} (workers : List (Worker K)) (i : ℕ) (w : Worker K) → i < length workers
    → w ≡ get_or workers i w
    → answers_of (take (i + 1) workers) ≡ answers_of (take i workers) ++ w.answers.items
answers-more {K} workers i w below is =
    ap answers_of (read-more workers i w below is)
    ∙ ap (λ (l : List (Vec Answer)). joined (lists_of l)) (map-append (λ (x : Worker K). x.answers) (take i workers) (w ∷ []))
    ∙ ap joined (map-append (λ (v : Vec Answer). v.items) (map (λ (x : Worker K). x.answers) (take i workers)) (w.answers ∷ []))
    ∙ flat_map-append (λ (l : List Answer). l) (lists_of (map (λ (x : Worker K). x.answers) (take i workers))) (w.answers.items ∷ [])
    ∙ ap (λ l. answers_of (take i workers) ++ l) (append-nil w.answers.items)

pub loop-worker-preserved : goal.loop-worker-preserved
loop-worker-preserved g c =
    let P : Answer → Type 0 = λ a. IsSome (note_of c.add_blank_notes.new.notes a.call) in
    let Q : List Answer → Type 0 = λ l. All P l in (
      c.in_ok-add_blank_notes.ensures.blank,
      All-same P (answers_of (take (c.loop-worker.worker-index + 1) c.args.workers.now)) (answers_of (take c.loop-worker.worker-index c.args.workers.now) ++ c.worker-item.result.answers.items)
          (answers-more c.args.workers.now c.loop-worker.worker-index c.worker-item.result (omega arith) c.worker-item.is)
          (All-append P (answers_of (take c.loop-worker.worker-index c.args.workers.now)) c.worker-item.result.answers.items
          (All-weaker (λ (a : Answer). IsSome (note_of c.loop-worker.notes a.call)) P (λ a had. c.in_ok-add_blank_notes.ensures.kept a.call had) (answers_of (take c.loop-worker.worker-index c.args.workers.now)) c.loop-worker.invariant.1)
          (subst Q c.answers.ensures c.in_ok-add_blank_notes.ensures.has)),
    )

pub returns : goal.returns
returns g c =
    let P : Answer → Type 0 = λ a. IsSome (note_of c.loop-worker.notes a.call) in (
      c.loop-worker.invariant.0,
      All-same P (answers_of c.args.workers.now) (answers_of (take c.loop-worker.worker-index c.args.workers.now)) (sym (ap answers_of (take_all c.loop-worker.worker-index c.args.workers.now (omega arith)))) c.loop-worker.invariant.1,
    )
