use Rattle.domreth_sign.proofs.DerivedKeys.{has_32_bytes}
use Rattle.domreth_sign.proofs.laws.a_derived_key_has_32_bytes.Goals as goal

pub returns : goal.returns
returns c = has_32_bytes
