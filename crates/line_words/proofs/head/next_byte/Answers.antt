use Rattle.std.proofs.Common.{sym}
use Rattle.line_words.proofs.NextBytes.{plain_first}
use Rattle.line_words.proofs.head.next_byte.Goals as goal

pub returns-in-len1-up : goal.returns-in-len1-up
returns-in-len1-up c = plain_first c.args.rest.now (sym c.if-is_plain.ensures)
