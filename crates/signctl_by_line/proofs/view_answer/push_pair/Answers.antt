use Rattle.std.proofs.Common.{append_assoc}
use Rattle.signctl_by_line.proofs.view_answer.push_pair.Goals as goal

pub returns : goal.returns
returns c =
    let added = rw (c.in_ok-push_escaped-2.ensures.ok, c.in_ok-push-2.ensures.ok, c.in_ok-push_escaped.ensures.ok, c.in_ok-push.ensures.ok, c.as_bytes-2.ensures.value, c.as_str-2.ensures.value, c.as_bytes.ensures.value, c.as_str.ensures.value) at c.push-3.ensures.ok in
    simp append_assoc (simp append_assoc at added)
