use Rattle.std.proofs.Common.{None, refl, subst}
use Rattle.sigv4_presign.specs.LinkFields.{GivesFields}
use Rattle.sigv4_presign.specs.LinkClaims.{NamesSigner, GivesSigner}
use Rattle.sigv4_presign.specs.LinkPairs.{date_name}
use Rattle.sigv4_presign.specs.CheckedLink.{value_of}
use Rattle.sigv4_presign.proofs.DateTexts.{moment_of_text-IsDateOf}
use Rattle.sigv4_presign.proofs.ClaimsRead.{query_names, query_names_none}
use Rattle.sigv4_presign.proofs.reading.claims_of.Goals as goal

pub signer_of-requires : goal.signer_of-requires
signer_of-requires c =
    let fields = subst (GivesFields c.args.query.now) c.in-Some.is c.in_ok-link.ensures in
    let date = (moment_of_text-IsDateOf (value_of c.args.query.now date_name) c.in-Some.link.date).0 fields.date in
    record { moment = date.moment; year = date.year }

pub returns-in_default-2-clause-err : goal.returns-in_default-2-clause-err
returns-in_default-2-clause-err c =
    let fields = subst (GivesFields c.args.query.now) c.in-Some.is c.in_ok-link.ensures in
    query_names_none c.args.query.now c.in-Some.link fields
    (subst (λ text. GivesSigner text c.in-Some.link.date None) c.as_bytes.ensures.value
    (subst (GivesSigner c.as_bytes.result.now c.in-Some.link.date) c.in_default-2.is c.in_ok-signer.ensures))

pub returns-clause-ok : goal.returns-clause-ok
returns-clause-ok c =
    let fields = subst (GivesFields c.args.query.now) c.in-Some.is c.in_ok-link.ensures in
    query_names c.args.query.now c.in-Some.link fields _ refl refl
    (subst (λ text. NamesSigner text c.in-Some-2.signer.access c.in-Some-2.signer.scope c.in-Some.link.date) c.as_bytes.ensures.value
    (subst (GivesSigner c.as_bytes.result.now c.in-Some.link.date) c.in-Some-2.is c.in_ok-signer.ensures))
