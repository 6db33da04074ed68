use Rattle.std.proofs.Common.{ap, ◌∙◌}
use Rattle.sigv4_presign.specs.LinkPieces.{any_link_name}
use Rattle.sigv4_presign.proofs.PiecesRead.{any_link_name-of}
use Rattle.sigv4_presign.proofs.presigning.is_presigned.Goals as goal

pub returns : goal.returns
returns c =
    c.has_link_name.ensures ∙ (ap any_link_name c.as_slice.ensures.value ∙ any_link_name-of c.args.query.now c.in_ok-pieces.pieces.items c.in_ok-pieces.ensures)
