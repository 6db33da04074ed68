use Rattle.std.proofs.Common.{Err, sym, ap, ◌∙◌}
use Rattle.sigv4_presign.proofs.TargetRead.{read-is_some, refused-is_some}
use Rattle.sigv4_presign.proofs.presigning.is_target.Goals as goal
use Rattle.sigv4_presign.proofs.presigning.is_target.Goals.{in-Ok, in-Err-OutOfMemory, in-Err-Invalid}

pub returns : goal.returns
returns c =
    let text = c.args.text.now in
    let r = c.from_bytes.result in
    elim c.match-from_bytes.branch [
      | in-Ok w ↦ rw w.result-is (sym (read-is_some text r _ w.in-Ok.is c.from_bytes.ensures.ok))
      | in-Err-OutOfMemory w ↦ rw w.result-is tt
      | in-Err-Invalid w ↦
          let why = w.in-Err-Invalid.is ∙ ap Err w.in-Err-Invalid.field-0-is in
          rw w.result-is (sym (refused-is_some text r _ why c.from_bytes.ensures.err))
    ]
