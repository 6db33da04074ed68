use Rattle.sigv4_canonical.proofs.ReservedSet.{percent_encode-RESERVED}
use Rattle.sigv4_canonical.proofs.encoding.push_encoded.Goals as goal

pub returns : goal.returns
returns c = rw (← percent_encode-RESERVED c.args.side.now, ← c.percent_encode.ensures.text) c.append_to.ensures.ok
