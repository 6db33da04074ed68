use Rattle.std.proofs.Common.{◌∙◌, sym, ap, ◌-◌, take, drop, length}
use Rattle.std.specs.List.{position_or_len}
use Rattle.std.proofs.lemmas.List.{take_rest}
use Rattle.sign_io.specs.Lines.{is_newline}
use Rattle.sign_io.proofs.LineLemmas.{first-newline}
use Rattle.sign_io.proofs.line_buffer.line_len.Goals as goal

pub returns : goal.returns
returns c =
    let bytes = c.args.bytes.now in
    let rest = take (length bytes - c.args.from) (drop c.args.from bytes) in
    c.unwrap_or.ensures ∙ sym (first-newline rest c.memchr.result c.memchr.ensures) ∙ ap (position_or_len is_newline) (take_rest bytes c.args.from)
