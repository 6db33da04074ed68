use Rattle.std.proofs.Common.{◌≡◌, ◌<◌, ◌≤◌, ◌+◌, ℕ, List, true, false, length, take, drop, get_or, sym, ap, ◌∙◌, subst, arith}
use Rattle.std.proofs.lemmas.List.{take_rest}
use Rattle.std.proofs.lemmas.Bool.{and_from, and_left, and_right}
use Rattle.std.specs.Char.{is_ascii_whitespace}
use Rattle.aws_profiles.specs.Texts.{uncommented, begins_with, is_comment_mark}
use Rattle.aws_profiles.proofs.TextLemmas.{is_comment_at, uncommented-here, uncommented-further, uncommented-whole}
use Rattle.aws_profiles.proofs.texts.comment_start.Goals.{else-is_ascii_whitespace-via-then-is_ascii_whitespace+else-begins_with_mark, else-is_ascii_whitespace-via-else-is_ascii_whitespace}
use Rattle.aws_profiles.proofs.texts.comment_start.Goals as goal

pub returns-then-begins_with_mark-clause-before : goal.returns-then-begins_with_mark-clause-before
returns-then-begins_with_mark-clause-before c =
    let i = c.loop-i.i in
    let bytes = c.as_bytes-bytes.result.now in
    let within : i < length bytes = omega arith in
    let begins : is_comment_at bytes i ≡ true = and_from (is_ascii_whitespace (get_or bytes i 0)) (begins_with is_comment_mark (drop (i + 1) bytes)) (sym c.is_ascii_whitespace.ensures.value ∙ c.if-is_ascii_whitespace.true) (ap (begins_with is_comment_mark) (sym (take_rest bytes (i + 1))) ∙ sym c.begins_with_mark.ensures ∙ c.if-begins_with_mark.true) in
    subst (λ (t : List ℕ). take i t ≡ uncommented t) c.as_bytes-bytes.ensures.value
    (sym (uncommented-here bytes i within begins) ∙ c.loop-i.invariant)

pub loop-i-preserved : goal.loop-i-preserved
loop-i-preserved c =
    let i = c.loop-i.i in
    let bytes = c.as_bytes-bytes.result.now in
    let within : i < length bytes = omega arith in
    let none : is_comment_at bytes i ≡ false =
    elim c.else-is_ascii_whitespace.branch [
      | else-is_ascii_whitespace-via-then-is_ascii_whitespace+else-begins_with_mark w ↦ and_right (is_ascii_whitespace (get_or bytes i 0)) (begins_with is_comment_mark (drop (i + 1) bytes)) (ap (begins_with is_comment_mark) (sym (take_rest bytes (i + 1))) ∙ sym w.begins_with_mark.ensures ∙ w.if-begins_with_mark.false)
      | else-is_ascii_whitespace-via-else-is_ascii_whitespace w ↦ and_left (is_ascii_whitespace (get_or bytes i 0)) (begins_with is_comment_mark (drop (i + 1) bytes)) (sym c.is_ascii_whitespace.ensures.value ∙ w.if-is_ascii_whitespace.false)
    ] in
    uncommented-further bytes i within none ∙ c.loop-i.invariant

pub returns-clause-before : goal.returns-clause-before
returns-clause-before c =
    let i = c.loop-i.i in
    let bytes = c.as_bytes-bytes.result.now in
    let past : length bytes ≤ i = omega arith in
    let end : i ≡ length bytes = omega arith in
    subst (λ (t : List ℕ). take (length bytes) t ≡ uncommented t) c.as_bytes-bytes.ensures.value
    (ap (λ n. take n bytes) (sym end) ∙ (sym (uncommented-whole bytes i past) ∙ c.loop-i.invariant))
