use Rattle.std.proofs.Common.{◌≡◌, ◌++◌, ◌∷◌, [], List, Some, ap, sym, subst, ◌∙◌, arith}
use Rattle.std.proofs.lemmas.List.{append-nil}
use Rattle.std.specs.Prelude.{unwrap_or}
use Rattle.signctl_driver.specs.Command.{MayFollow}
use Rattle.line_words.specs.declared.moment.ScriptVersion.TheVariants.{One, Two}
use Rattle.signctl_script.specs.Script.{items_in}
use Rattle.signctl_script.specs.ScriptOutput.{script_command, script_answer}
use Rattle.signctl_script.specs.SessionState.{SessionState, SessionRepresents}
use Rattle.signctl_script.specs.declared.session.ScriptLine.{ScriptLine}
use Rattle.signctl_script.specs.declared.session.ScriptLine.TheVariants.{VersionTwo}
use Rattle.signctl_script.proofs.ItemsIn.{items-few}
use Rattle.signctl_script.proofs.LineGood.{says-good, version-first}
use Rattle.signctl_script.proofs.NextLine.{next-version, next-says}
use Rattle.signctl_script.proofs.session.SessionLineCommand.answer.Goals as goal

pub answer_item-requires : goal.answer_item-requires
answer_item-requires c =
    let lines = c.requires.0 in
    let P : ScriptLine → Type 0 = λ line. MayFollow script_command lines line in (
      items_in lines,
      c.requires.1.items,
      says-good lines c.in-Says.item (subst P c.in-Says.is c.requires.2),
      omega (arith, items-few lines, c.requires.3),
    )

pub returns-in-VersionTwo : goal.returns-in-VersionTwo
returns-in-VersionTwo c = λ lines stands may.
    let session : SessionState = record { desk = c.self.inside.desk; had_event = c.self.inside.had_event; version = Some Two } in
    let text = c.args.text.now.items in
    let M : ScriptLine → Type 0 = λ line. MayFollow script_command lines line in
    let first : lines ≡ [] = version-first lines (subst M c.in-VersionTwo.is may) in
    let R : List ScriptLine → Type 0 = λ ls. SessionRepresents c.args.self.now ls in
    let P : List ScriptLine → Type 0 = λ ls. SessionRepresents session (ls ++ VersionTwo ∷ []) × (text ≡ text ++ script_answer ls VersionTwo) in
    let Q : ScriptLine → Type 0 = λ line. SessionRepresents session (lines ++ line ∷ []) × (text ≡ text ++ script_answer lines line) in
    subst Q (sym c.in-VersionTwo.is) (subst P (sym first) (next-version _ _ c.self.view_is (subst R first stands), sym (append-nil text)))

pub returns-in_ok-answer_item-in-Says : goal.returns-in_ok-answer_item-in-Says
returns-in_ok-answer_item-in-Says c = λ lines stands may.
    let item = c.in-Says.item in
    let session : SessionState = record { desk = c.self-in-Says.inside.desk; had_event = c.self-in-Says.inside.had_event; version = Some c.script_version.result } in
    let M : ScriptLine → Type 0 = λ line. MayFollow script_command lines line in
    let answered = c.in_ok-answer_item-in-Says.ensures.answers (items_in lines) stands.items (says-good lines item (subst M c.in-Says.is may)) in
    let version = c.script_version.ensures ∙ ap (λ v. unwrap_or v One) (c.in_ok-answer_item-in-Says.ensures.version ∙ stands.version) in
    let Q : ScriptLine → Type 0 = λ line. SessionRepresents session (lines ++ line ∷ []) × (c.answer_item.new.text.items ≡ c.args.text.now.items ++ script_answer lines line) in
    subst Q (sym c.in-Says.is) (next-says _ _ lines item _ c.self-in-Says.view_is answered.0 (ap (λ v. Some v) version), answered.1)
