use Rattle.std.proofs.Common.{rules}
use Rattle.sign_base.proofs.Styled.{styled-three}
use Rattle.sign_base.proofs.redact.RedactDebug.fmt.Goals as goal

pub returns-clause-styled : goal.returns-clause-styled
returns-clause-styled g c =
    styled-three g.W.Write.write_str_gives _ _ _ _ _ _ _ _ _ _ _ (search rules) (search rules)
    c.write_str.ensures.styled c.write_str-2.ensures.styled c.write_str-3.ensures.styled (search rules)
