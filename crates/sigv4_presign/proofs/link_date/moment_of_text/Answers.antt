use Rattle.std.proofs.Common.{◌≡◌, true, false, sym, ◌∙◌}
use Rattle.std.specs.Prelude.{bytes_eq, string_bytes}
use Rattle.std.proofs.lemmas.Slice.Eq.{bytes_eq-Decides}
use Rattle.sigv4_presign.proofs.DateRead.{moment_of_text-printed, moment_of_text-other}
use Rattle.sigv4_presign.proofs.link_date.moment_of_text.Goals as goal

pub returns-then-not-is_printed : goal.returns-then-not-is_printed
returns-then-not-is_printed c =
    let shown = c.in-Some.ensures in
    let text = c.in_ok-printed.ensures shown.2 in
    let differs : bytes_eq (string_bytes c.in_ok-printed.printed) c.args.text.now ≡ false = sym c.is_printed.ensures ∙ c.if-not-is_printed.true in
    sym (moment_of_text-other c.args.text.now c.in-Some.moment shown
    (λ same. absurd (let yes : bytes_eq (string_bytes c.in_ok-printed.printed) c.args.text.now ≡ true = (bytes_eq-Decides _ _).1 (text ∙ same) in cc)))

pub returns : goal.returns
returns c =
    let shown = c.in-Some.ensures in
    let text = c.in_ok-printed.ensures shown.2 in
    let yes : bytes_eq (string_bytes c.in_ok-printed.printed) c.args.text.now ≡ true = sym c.is_printed.ensures ∙ c.if-not-is_printed.false in
    sym (moment_of_text-printed c.args.text.now c.in-Some.moment shown (sym text ∙ (bytes_eq-Decides _ _).0 yes))
