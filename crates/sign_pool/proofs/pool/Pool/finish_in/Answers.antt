use Rattle.std.proofs.Common.{◌∙◌}
use Rattle.desk_parts.specs.Tables.{setup_of}
use Rattle.sequential_signer.specs.Policy.{policy_of}
use Rattle.pool_books.specs.Cleared.{joined, lists_of}
use Rattle.pool_books.proofs.Signed.{heads-expected}
use Rattle.sign_pool.proofs.Finishing.{as-many, few-passes, calls-own, noted-own, index-own}
use Rattle.sign_pool.proofs.pool.Pool.finish_in.Goals as goal

pub finish_cause-requires-clause-index : goal.finish_cause-requires-clause-index
finish_cause-requires-clause-index g c =
    index-own c.args.submitters.items c.hand_out_submitters-submitted.result.items c.hand_out_submitters-submitted.ensures c.args.room.index c.requires.room.index

pub finish_cause-requires-clause-notes : goal.finish_cause-requires-clause-notes
finish_cause-requires-clause-notes g c =
    let handed = c.hand_out_workers-passes.ensures in
    (c.requires.room.notes.0, noted-own c.args.workers.items c.hand_out_workers-passes.result.0.items handed.passes c.hand_out_workers-passes.result.1.items handed.answers c.args.room.notes c.requires.room.notes.1)

pub returns-in-None-clause-closed : goal.returns-in-None-clause-closed
returns-in-None-clause-closed g c =
    let handed = c.hand_out_workers-passes.ensures in
    let closed = c.in-Ok.ensures in
    record {
      settled = closed.settled;
      setup = closed.desk.0;
      represents = closed.desk.1;
      calls = calls-own c.args.workers.items c.in-Ok.settled.passes.items (closed.passes ∙ handed.passes) c.hand_out_workers-passes.result.1.items handed.answers c.in-Ok.settled.journal.items closed.settled;
    }

pub returns-in-Some-clause-uncleared : goal.returns-in-Some-clause-uncleared
returns-in-Some-clause-uncleared g c =
    let handed = c.hand_out_workers-passes.ensures in
    let closed = c.in-Ok.ensures in (
      record {
        settled = closed.settled;
        setup = closed.desk.0;
        represents = closed.desk.1;
        calls = calls-own c.args.workers.items c.in-Ok.settled.passes.items (closed.passes ∙ handed.passes) c.hand_out_workers-passes.result.1.items handed.answers c.in-Ok.settled.journal.items closed.settled;
      },
      c.in-Some.ensures,
      record {
        passes_are = closed.passes ∙ handed.passes;
        answers_are = handed.answers;
        submitted_are = c.hand_out_submitters-submitted.ensures;
      },
    )

pub finish_cause-requires-clause-settled : goal.finish_cause-requires-clause-settled
finish_cause-requires-clause-settled g c = c.in-Ok.ensures.settled

pub finish_cause-requires-clause-few : goal.finish_cause-requires-clause-few
finish_cause-requires-clause-few g c =
    few-passes c.args.workers.items c.in-Ok.settled.passes.items (c.in-Ok.ensures.passes ∙ c.hand_out_workers-passes.ensures.passes) c.args.self.workers c.requires.seats.all_workers c.args.self.few

pub finish_cause-requires-clause-count : goal.finish_cause-requires-clause-count
finish_cause-requires-clause-count g c =
    let handed = c.hand_out_workers-passes.ensures in
    as-many c.args.workers.items c.in-Ok.settled.passes.items (c.in-Ok.ensures.passes ∙ handed.passes) c.hand_out_workers-passes.result.1.items handed.answers

pub returns-in-None-clause-cleared : goal.returns-in-None-clause-cleared
returns-in-None-clause-cleared g c = c.in-None.ensures.0

pub returns-in-None-clause-answers : goal.returns-in-None-clause-answers
returns-in-None-clause-answers g c = c.in-None.ensures.1

pub returns-in-None-clause-values : goal.returns-in-None-clause-values
returns-in-None-clause-values g c =
    let handed = c.hand_out_workers-passes.ensures in
    record {
      passes_are = c.in-Ok.ensures.passes ∙ handed.passes;
      answers_are = handed.answers;
      submitted_are = c.hand_out_submitters-submitted.ensures;
    }

pub returns-in-Err-clause-close : goal.returns-in-Err-clause-close
returns-in-Err-clause-close g c =
    let handed = c.hand_out_workers-passes.ensures in
    let back = c.in-Err.ensures.back in (
      back.0,
      back.2,
      c.in-Err.ensures.why,
      record {
        passes_are = back.1 ∙ handed.passes;
        answers_are = handed.answers;
        submitted_are = c.hand_out_submitters-submitted.ensures;
      },
    )

pub returns-in-None-clause-heads : goal.returns-in-None-clause-heads
returns-in-None-clause-heads g c =
    heads-expected (policy_of g.K.SigningCredential.valid g.K.SigningCredential.valid_at g.D.DeadlineRule.deadline) (setup_of c.in-Ok.settled.desk) c.in-Ok.settled.journal.items
    c.in-Ok.settled.passes.items (lists_of c.hand_out_workers-passes.result.1.items) c.take_rest-left.result.items (joined (lists_of c.hand_out_submitters-submitted.result.items))
    c.in-Ok.ensures.desk.1.legal c.in-None.ensures.0 c.in-None.ensures.1
