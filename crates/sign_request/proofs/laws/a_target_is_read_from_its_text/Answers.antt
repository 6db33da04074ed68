use Rattle.sign_request.proofs.TargetOf.{target_of-Spells, Spells-from_target_of, target_of-SpellsNone, SpellsNone-from_target_of}
use Rattle.sign_request.proofs.laws.a_target_is_read_from_its_text.Goals as goal

pub returns-clause-some : goal.returns-clause-some
returns-clause-some c = λ text uri. (target_of-Spells text uri, Spells-from_target_of text uri)

pub returns-clause-none : goal.returns-clause-none
returns-clause-none c = λ text. (target_of-SpellsNone text, SpellsNone-from_target_of text)
