use Rattle.std.proofs.Common.{◌≡◌, ◌++◌, ◌∷◌, [], ap, refl, sym, subst, ◌∙◌, arith}
use Rattle.std.proofs.lemmas.List.{append-nil}
use Rattle.std.specs.Prelude.{unwrap_or}
use Rattle.signctl_driver.specs.Command.{MayFollow}
use Rattle.line_words.specs.declared.moment.ScriptVersion.{ScriptVersion}
use Rattle.line_words.specs.declared.moment.ScriptVersion.TheVariants.{One, Two}
use Rattle.signctl_audit.specs.Account.{account_of, with_item, with_claim, counted}
use Rattle.signctl_audit.specs.AuditOutput.{audit_command}
use Rattle.signctl_audit.specs.SessionState.{SessionRepresents}
use Rattle.signctl_audit.specs.declared.audit_line.AuditLine.{AuditLine}
use Rattle.signctl_audit.specs.declared.audit_line.AuditLine.TheVariants.{VersionTwo, Says, Claims}
use Rattle.signctl_audit.proofs.Accounts.{lines-are}
use Rattle.signctl_audit.proofs.LineGood.{says-good, claim-right}
use Rattle.signctl_audit.proofs.Sessions.{has-room, lines-fit, next-line}
use Rattle.signctl_audit.proofs.audit_session.AuditSessionLineCommand.answer.Goals as goal

pub take_item-requires : goal.take_item-requires
take_item-requires c =
    let lines = c.requires.0 in
    let P : AuditLine → Type 0 = λ line. MayFollow audit_command lines line in
    (account_of lines, c.requires.1.account, says-good lines c.in-Says.item (subst P c.in-Says.is c.requires.2), has-room lines c.requires.3)

pub take_claim-requires : goal.take_claim-requires
take_claim-requires c =
    let lines = c.requires.0 in
    let P : AuditLine → Type 0 = λ line. MayFollow audit_command lines line in
    (account_of lines, c.requires.1.account, claim-right lines c.in-Claims.claimed (subst P c.in-Claims.is c.requires.2))

pub count_line-requires : goal.count_line-requires
count_line-requires c = lines-fit _ (account_of c.requires.0) c.requires.1.account (has-room c.requires.0 c.requires.3)

pub count_line-requires-in-Says : goal.count_line-requires-in-Says
count_line-requires-in-Says c = omega (arith, c.take_item.ensures.lines, lines-fit _ (account_of c.requires.0) c.requires.1.account (has-room c.requires.0 c.requires.3))

pub count_line-requires-in-Claims : goal.count_line-requires-in-Claims
count_line-requires-in-Claims c = omega (arith, c.take_claim.ensures.lines, lines-fit _ (account_of c.requires.0) c.requires.1.account (has-room c.requires.0 c.requires.3))

pub returns-in-VersionTwo : goal.returns-in-VersionTwo
returns-in-VersionTwo c = λ lines stands may.
    let before = c.requires.0 in
    let text = c.args._text.now.items in
    let Q : AuditLine → Type 0 = λ line. SessionRepresents c.count_line.new.self (lines ++ line ∷ []) × (text ≡ text ++ []) in
    subst Q (sym c.in-VersionTwo.is) (
      next-line c.count_line.new.self c.args.self.now lines before VersionTwo (account_of lines) Two c.count_line.ensures stands.account refl
          (lines-are lines) (c.requires.1.account.lines ∙ lines-are before) c.requires.3,
      sym (append-nil text),
    )

pub returns-in_ok-take_item-in-Says : goal.returns-in_ok-take_item-in-Says
returns-in_ok-take_item-in-Says c = λ lines stands may.
    let before = c.requires.0 in
    let text = c.args._text.now.items in
    let item = c.in-Says.item in
    let so_far = account_of lines in
    let M : AuditLine → Type 0 = λ line. MayFollow audit_command lines line in
    let taken = c.in_ok-take_item-in-Says.ensures.takes so_far stands.account (says-good lines item (subst M c.in-Says.is may)) in
    let version = c.script_version.ensures ∙ ap (λ v. unwrap_or v One) (c.in_ok-take_item-in-Says.ensures.version ∙ stands.account.version) in
    let Q : AuditLine → Type 0 = λ line. SessionRepresents c.count_line-in-Says.new.self (lines ++ line ∷ []) × (text ≡ text ++ []) in
    subst Q (sym c.in-Says.is) (
      next-line c.count_line-in-Says.new.self c.take_item.new.self lines before (Says item) (with_item so_far item) c.script_version.result c.count_line-in-Says.ensures taken
          (ap (λ (v : ScriptVersion). counted v (with_item so_far item)) version)
          (lines-are lines) (c.in_ok-take_item-in-Says.ensures.lines ∙ c.requires.1.account.lines ∙ lines-are before) c.requires.3,
      sym (append-nil text),
    )

pub returns-in_ok-take_claim-in-Claims : goal.returns-in_ok-take_claim-in-Claims
returns-in_ok-take_claim-in-Claims c = λ lines stands may.
    let before = c.requires.0 in
    let text = c.args._text.now.items in
    let claimed = c.in-Claims.claimed in
    let so_far = account_of lines in
    let M : AuditLine → Type 0 = λ line. MayFollow audit_command lines line in
    let taken = c.in_ok-take_claim-in-Claims.ensures.takes so_far stands.account (claim-right lines claimed (subst M c.in-Claims.is may)) in
    let version = c.script_version-in-Claims.ensures ∙ ap (λ v. unwrap_or v One) (c.in_ok-take_claim-in-Claims.ensures.version ∙ stands.account.version) in
    let Q : AuditLine → Type 0 = λ line. SessionRepresents c.count_line-in-Claims.new.self (lines ++ line ∷ []) × (text ≡ text ++ []) in
    subst Q (sym c.in-Claims.is) (
      next-line c.count_line-in-Claims.new.self c.take_claim.new.self lines before (Claims claimed) (with_claim so_far claimed) c.script_version-in-Claims.result c.count_line-in-Claims.ensures taken
          (ap (λ (v : ScriptVersion). counted v (with_claim so_far claimed)) version)
          (lines-are lines) (c.in_ok-take_claim-in-Claims.ensures.lines ∙ c.requires.1.account.lines ∙ lines-are before) c.requires.3,
      sym (append-nil text),
    )
