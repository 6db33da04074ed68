use Rattle.std.proofs.Common.{refl}
use Rattle.sign_io.proofs.line_reader.LineReader.next.Goals as goal

pub returns-in-Ok : goal.returns-in-Ok
returns-in-Ok g c = (
  (refl, λ _. tt, rw (← c.self.view_is, c.line.ensures) c.in-Ok.ensures.answer),
  record {
    answer = tt;
    faults = rw (← c.self.view_is) c.in-Ok.ensures.faults;
    still = rw (← c.self.view_is) c.in-Ok.ensures.still;
  },
)

pub returns-in-Err : goal.returns-in-Err
returns-in-Err g c = (
  (refl, λ _. tt, rw (← c.self.view_is, c.no_line.ensures) c.in-Err.ensures.answer),
  record {
    answer = tt;
    faults = rw (← c.self.view_is, c.no_line.ensures) c.in-Err.ensures.faults;
    still = rw (← c.self.view_is) c.in-Err.ensures.still;
  },
)
