use Rattle.std.proofs.Common.{inl, ◌≡◌, true, [], refl, sym, ap, ◌∙◌, arith}
use Rattle.std.proofs.KnownBytes.{Appends-nil, Consumes-nil}
use Rattle.sign_io.specs.LineReader.{is_fault}
use Rattle.sign_io.specs.Next.{answer_of}
use Rattle.signctl_driver.proofs.RunSteps.{state-first, state-wrote, stops-writing, stops-taking, state-line, items-few, line-fits, line-hands_out, ends-after, finishes}
use Rattle.signctl_driver.proofs.RunFaults.{good-no_fault, turn-no_write_fault, turn-fault, turn-nothing, needs-fault, counts-answer, counts-same, counts-none, finish-fault, nothing-waits, where-ok}
use Rattle.signctl_driver.proofs.driver.drive.Goals as goal

pub returns-in-Err-clause-bytes : goal.returns-in-Err-clause-bytes
returns-in-Err-clause-bytes g c = ([], [], Consumes-nil _, omega arith, Appends-nil _, inl refl)

pub lines-init : goal.lines-init
lines-init g c = record {
  state = state-first _ _ _ _ _ _ c.in-Ok.ensures c.new-service.ensures.served c.new-service.ensures.text;
  reads = refl;
  writes = refl;
}

-- a write of the answers that wait fails
pub returns-then-is_err-clause-bytes : goal.returns-then-is_err-clause-bytes
returns-then-is_err-clause-bytes g c =
    stops-writing _ _ _ _ _ _ _ c.lines.invariant.state _ c.write_out.result (sym c.if-is_err.ensures.value) c.write_out.ensures.err

-- an allocation fails at the next line, or at the closing
pub returns-in-Err-take-clause-bytes : goal.returns-in-Err-take-clause-bytes
returns-in-Err-take-clause-bytes g c =
    let state = state-wrote _ _ _ _ _ _ _ _ _ c.write_out.result c.lines.invariant.state (sym c.if-is_err.ensures.value) c.write_out.ensures.ok c.write_out.ensures.same in
    stops-taking _ _ _ _ _ _ _ state _ _ _ c.next.follows.holds-at-none (λ n. ap (λ s. g.S.Source.left s) (c.next.ensures.still n))

pub returns-in-Err-take-clause-reads : goal.returns-in-Err-take-clause-reads
returns-in-Err-take-clause-reads g c =
    let state = c.lines.invariant.state in
    let counts = counts-answer _ _ _ state.items state.bytes _ _ _ state.read c.next.follows.holds-at-none (g.S.Source.faults c.lines.source) (g.S.Source.faults c.next.new.source) c.next.ensures.faults (λ n. ap (λ s. g.S.Source.faults s) (c.next.ensures.still n)) in
    counts-none _ _ _ counts c.in-Err-take.ensures.fault ∙ c.lines.invariant.reads

-- a good line more
pub lines-preserved : goal.lines-preserved
lines-preserved g c =
    let state = state-wrote _ _ _ _ _ _ _ _ _ c.write_out.result c.lines.invariant.state (sym c.if-is_err.ensures.value) c.write_out.ensures.ok c.write_out.ensures.same in
    let turn = (rw c.in-Ok-None.field-0-is at c.in-Ok-None.ensures.goes_on) refl state.items state.served in
    let counts = counts-answer _ _ _ state.items state.bytes _ _ _ state.read c.next.follows.holds-at-none (g.S.Source.faults c.lines.source) (g.S.Source.faults c.next.new.source) c.next.ensures.faults (λ n. ap (λ s. g.S.Source.faults s) (c.next.ensures.still n)) in
    let good = good-no_fault g.C.LineCommand.command state.items _ turn.0 turn.1 in
    record {
      state = state-line _ _ _ _ _ _ _ state _ turn.0 _ turn.2 turn.3 _ _ c.next.follows.holds-at-none turn.1;
      reads = counts-none _ _ _ counts (λ e. sym good ∙ e) ∙ c.lines.invariant.reads;
      writes = counts-none _ _ _ c.write_out.ensures.faults (λ e. c.if-is_err.ensures.value ∙ e) ∙ c.lines.invariant.writes;
    }

-- the run ends, and all that waits is written
pub returns-in-Ok-Some-clause-bytes : goal.returns-in-Ok-Some-clause-bytes
returns-in-Ok-Some-clause-bytes g c =
    let state = state-wrote _ _ _ _ _ _ _ _ _ c.write_out.result c.lines.invariant.state (sym c.if-is_err.ensures.value) c.write_out.ensures.ok c.write_out.ensures.same in
    let turn = rw c.in-Ok-Some.field-0-is at c.in-Ok-Some.ensures.ends state.items state.served in
    let end = ends-after _ _ _ _ _ _ _ state _ _ _ c.in-Ok-Some.status turn.0 c.next.follows.holds-at-none (λ n. ap (λ s. g.S.Source.left s) (c.next.ensures.still n)) turn.1 in
    finishes _ state.items _ _ _ _ end.0 state.written _ turn.0 _ _ _ end.1 end.2 state.answered turn.2 state.added c.finish.ensures.written

pub returns-in-Ok-Some-clause-reads : goal.returns-in-Ok-Some-clause-reads
returns-in-Ok-Some-clause-reads g c =
    let state = state-wrote _ _ _ _ _ _ _ _ _ c.write_out.result c.lines.invariant.state (sym c.if-is_err.ensures.value) c.write_out.ensures.ok c.write_out.ensures.same in
    let turn = rw c.in-Ok-Some.field-0-is at c.in-Ok-Some.ensures.ends state.items state.served in
    let counts = counts-answer _ _ _ state.items state.bytes _ _ _ state.read c.next.follows.holds-at-none (g.S.Source.faults c.lines.source) (g.S.Source.faults c.next.new.source) c.next.ensures.faults (λ n. ap (λ s. g.S.Source.faults s) (c.next.ensures.still n)) in
    let fault = turn-fault g.C.LineCommand.command state.items _ _ turn.0 turn.1 in
    -- where the read failed, nothing waits
    let nothing : is_fault (answer_of c.next.result) ≡ true → c.finish.result ≡ c.in-Ok-Some.status = λ failed.
    let needed = needs-fault g.C.LineCommand.command _ _ state.items state.bytes _ _ _ state.read c.next.follows.holds-at-none failed in
    let waiting = where-ok _ c.write_out.result (sym c.if-is_err.ensures.value) c.write_out.ensures.now (c.needs_read.ensures.1 needed) in
    c.finish.ensures.nothing (nothing-waits _ turn.0 _ turn.2 waiting (turn-nothing g.C.LineCommand.command state.items _ _ turn.0 turn.1 failed)) in
    counts-same _ _ _ _ _ counts (finish-fault _ _ _ _ _ _ fault c.finish.ensures.written nothing) c.lines.invariant.reads

-- a line is asked for only where one more fits
pub take-requires-clause-served : goal.take-requires-clause-served
take-requires-clause-served g c =
    let state = state-wrote _ _ _ _ _ _ _ _ _ c.write_out.result c.lines.invariant.state (sym c.if-is_err.ensures.value) c.write_out.ensures.ok c.write_out.ensures.same in
    (state.items, state.served, items-few _ _ _ _ _ _ _ state)

pub take-requires-clause-line : goal.take-requires-clause-line
take-requires-clause-line g c =
    let state = state-wrote _ _ _ _ _ _ _ _ _ c.write_out.result c.lines.invariant.state (sym c.if-is_err.ensures.value) c.write_out.ensures.ok c.write_out.ensures.same in
    line-fits _ _ _ _ _ _ _ state _ _ _ c.next.follows.holds-at-none

pub lines-smaller : goal.lines-smaller
lines-smaller g c =
    let state = state-wrote _ _ _ _ _ _ _ _ _ c.write_out.result c.lines.invariant.state (sym c.if-is_err.ensures.value) c.write_out.ensures.ok c.write_out.ensures.same in
    let turn = (rw c.in-Ok-None.field-0-is at c.in-Ok-None.ensures.goes_on) refl state.items state.served in
    line-hands_out _ _ _ _ _ _ _ state _ turn.0 _ _ c.next.follows.holds-at-none turn.1

pub finish-requires : goal.finish-requires
finish-requires g c =
    let state = c.lines.invariant.state in
    let served = state-wrote _ _ _ _ _ _ _ _ _ c.write_out.result state (sym c.if-is_err.ensures.value) c.write_out.ensures.ok c.write_out.ensures.same in
    let turn = rw c.in-Ok-Some.field-0-is at c.in-Ok-Some.ensures.ends served.items served.served in
    turn-no_write_fault g.C.LineCommand.command served.items (answer_of c.next.result) _ turn.0 turn.1

-- the faults of the sink
pub returns-then-is_err-clause-reads : goal.returns-then-is_err-clause-reads
returns-then-is_err-clause-reads g c = c.lines.invariant.reads

pub returns-then-is_err-clause-writes : goal.returns-then-is_err-clause-writes
returns-then-is_err-clause-writes g c =
    counts-same _ true _ _ _ c.write_out.ensures.faults c.if-is_err.ensures.value c.lines.invariant.writes

pub returns-in-Err-take-clause-writes : goal.returns-in-Err-take-clause-writes
returns-in-Err-take-clause-writes g c =
    counts-none _ _ _ c.write_out.ensures.faults (λ e. c.if-is_err.ensures.value ∙ e) ∙ c.lines.invariant.writes

pub returns-in-Ok-Some-clause-writes : goal.returns-in-Ok-Some-clause-writes
returns-in-Ok-Some-clause-writes g c =
    counts-same _ _ _ _ _ c.finish.ensures.faults refl (counts-none _ _ _ c.write_out.ensures.faults (λ e. c.if-is_err.ensures.value ∙ e) ∙ c.lines.invariant.writes)
