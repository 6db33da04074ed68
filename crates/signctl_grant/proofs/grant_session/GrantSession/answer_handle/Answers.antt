use Rattle.std.proofs.Common.{ℕ, Err, Ok, length, ap, ◌∙◌, ◌++◌, subst}
use Rattle.desk_parts.specs.Adding.{AddAnswer, handle_refusal, with_handle}
use Rattle.line_words.proofs.LineWords.{line-with_newline}
use Rattle.signctl_format.specs.Lines.{handle_line}
use Rattle.signctl_grant.proofs.NextLine.{as_seen, handles-fit, handle-out_of_memory, handle-number, next-handle}
use Rattle.signctl_grant.proofs.grant_session.GrantSession.answer_handle.Goals as goal

pub add_handle-requires : goal.add_handle-requires
add_handle-requires c = handles-fit _ c.requires.0 (as_seen _ _ c.requires.0 c.self.view_is c.requires.1) c.requires.3

pub out_of_memory-requires : goal.out_of_memory-requires
out_of_memory-requires c =
    let desk = c.self.inside.desk in
    let P : ℕ → Type 0 = λ place. AddAnswer (handle_refusal desk c.args.cache place) (length desk.handles) (Err c.in-Err.refusal) in
    handle-out_of_memory _ c.requires.0 (as_seen _ _ c.requires.0 c.self.view_is c.requires.1) c.args.cache c.args.rule c.in-Err.refusal c.requires.2 (subst P c.place.ensures c.in-Err.ensures.answer)

pub returns : goal.returns
returns c = λ items stands good.
    let here = as_seen _ _ items c.self.view_is stands in
    let desk = c.self.inside.desk in
    let P : ℕ → Type 0 = λ place. AddAnswer (handle_refusal desk c.args.cache place) (length desk.handles) (Ok c.in-Ok.number) in (
      next-handle _ items here _ c.args.cache c.args.rule good (c.in-Ok.ensures.added ∙ ap (λ place. with_handle c.args.cache place desk) c.place.ensures) c.in-Ok.ensures.fresh,
      line-with_newline _ _ _ (handle_line _)
          (c.in_ok-push_handle-in-Ok.ensures.ok ∙ ap (λ n. c.args.text.now.items ++ handle_line n) (c.from.ensures ∙ handle-number _ items here c.args.cache c.args.rule c.in-Ok.number good (subst P c.place.ensures c.in-Ok.ensures.answer)))
          c.in_ok-end_line.ensures,
    )
