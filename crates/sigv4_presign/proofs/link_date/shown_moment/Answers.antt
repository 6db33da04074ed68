use Rattle.sigv4_presign.proofs.DateRead.{moment_of_text-other_length, moment_of_text-no_date, moment_of_text-no_time, shown_or_none}
use Rattle.sigv4_presign.proofs.link_date.shown_moment.Goals as goal

pub returns-then-text-ne-DATE_LEN : goal.returns-then-text-ne-DATE_LEN
returns-then-text-ne-DATE_LEN c = moment_of_text-other_length c.args.text.now c.if-text-ne-DATE_LEN.true

pub returns-in_err-shown_date : goal.returns-in_err-shown_date
returns-in_err-shown_date c = rw c.from_residual.ensures (moment_of_text-no_date c.args.text.now c.in_err-shown_date.ensures)

pub returns-in_err-shown_time : goal.returns-in_err-shown_time
returns-in_err-shown_time c = rw c.from_residual-in_err-shown_time.ensures (moment_of_text-no_time c.args.text.now c.in_err-shown_time.ensures)

pub returns : goal.returns
returns c =
    shown_or_none c.args.text.now (record { date = c.in_ok-shown_date.field-0; time = c.in_ok-shown_time.field-0 }) c.moment_at.result
    c.if-text-ne-DATE_LEN.false c.in_ok-shown_date.ensures c.in_ok-shown_time.ensures c.moment_at.ensures
