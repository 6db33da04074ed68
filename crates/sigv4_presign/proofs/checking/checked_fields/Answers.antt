use Rattle.std.proofs.Common.{ap}
use Rattle.sign_request.specs.PlainTarget.{plain_target}
use Rattle.sigv4_presign.specs.LinkPairs.{date_name}
use Rattle.sigv4_presign.specs.PresignedLink.{raw_query}
use Rattle.sigv4_presign.specs.CheckedLink.{value_of}
use Rattle.sigv4_presign.proofs.DateRead.{moment_of_text-low}
use Rattle.sigv4_presign.proofs.checking.checked_fields.Goals as goal

pub credential_text-requires : goal.credential_text-requires
credential_text-requires c =
    moment_of_text-low (value_of (raw_query (plain_target c.args.uri.now)) date_name) c.args.link.now.date c.requires.fields.date

pub key_for-requires : goal.key_for-requires
key_for-requires c =
    moment_of_text-low (value_of (raw_query (plain_target c.args.uri.now)) date_name) c.args.link.now.date c.requires.fields.date

pub link_signature-requires : goal.link_signature-requires
link_signature-requires c = record {
  year = moment_of_text-low (value_of (raw_query (plain_target c.args.uri.now)) date_name) c.args.link.now.date c.requires.fields.date;
  day = ap (λ key. key.date) c.in_ok-key.ensures;
}
