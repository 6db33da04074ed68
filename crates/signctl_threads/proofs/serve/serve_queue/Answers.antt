use Rattle.signctl_threads.specs.Run.{IsClosedQueue}
use Rattle.signctl_threads.proofs.Finishes.{closes, none_left}
use Rattle.signctl_threads.proofs.serve.serve_queue.Goals as goal

pub returns-in-Ok-finish : goal.returns-in-Ok-finish
returns-in-Ok-finish g c =
    let closed : IsClosedQueue (g.G.Gate.meaning c.args.gate.now) c.args.workers c.args.jobs c.in-Ok-finish.finished =
    closes (g.G.Gate.meaning c.args.gate.now) c.args.workers c.args.jobs c.in-Ok.served.submitters.items
    c.in-Ok.served.workers.items c.in-Ok.served.pool.shared c.in-Ok-finish.finished c.in-Ok.ensures.setup c.in-Ok.ensures.seats.serves
    c.in-Ok.ensures.seats.submitted c.in-Ok-finish.ensures.closed c.in-Ok-finish.ensures.values in
    record {
      closed = closed;
      cleared = c.in-Ok-finish.ensures.cleared;
      answers = c.in-Ok-finish.ensures.answers;
      none_left = none_left (g.G.Gate.meaning c.args.gate.now) c.args.workers c.args.jobs c.in-Ok-finish.finished closed c.in-Ok-finish.ensures.cleared;
    }
