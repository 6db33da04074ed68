use Rattle.line_words.proofs.LineWords.{line-with_newline}
use Rattle.signctl_format.specs.Lines.{reply_line}
use Rattle.signctl_script.proofs.session.push_answer.Goals as goal

pub returns-clause-line : goal.returns-clause-line
returns-clause-line c = line-with_newline _ _ _ (reply_line _) c.in_ok-push_reply.ensures.ok c.in_ok-end_line.ensures
