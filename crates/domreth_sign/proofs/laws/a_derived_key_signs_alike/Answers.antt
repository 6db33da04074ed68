use Rattle.domreth_sign.proofs.DerivedKeys.{signs_alike}
use Rattle.domreth_sign.proofs.laws.a_derived_key_signs_alike.Goals as goal

pub returns : goal.returns
returns c = signs_alike
