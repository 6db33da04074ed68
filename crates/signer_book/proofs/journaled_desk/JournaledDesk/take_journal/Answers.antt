use Rattle.std.proofs.Common.{◌≡◌, ◌++◌, ◌∙◌, [], List, ℕ, sym, ap, subst, vec_capacity, min, length}
use Rattle.sequential_signer.specs.Policy.{policy_of}
use Rattle.sequential_signer.specs.declared.event.Entry.{Entry}
use Rattle.signer_book.specs.BookState.{BookState, IsJournaled}
use Rattle.signer_book.proofs.IdleBook.{journaled-none}
use Rattle.signer_book.proofs.journaled_desk.JournaledDesk.take_journal.Goals as goal

pub invariant_of-self : goal.invariant_of-self
invariant_of-self g c =
    let policy = policy_of g.K.SigningCredential.valid g.K.SigningCredential.valid_at g.D.DeadlineRule.deadline in
    let none : c.replace.new.dest.items ≡ [] = ap (λ v. v.items) c.replace.ensures.after ∙ c.new-next.ensures.items in
    let idle : length c.self.inside.desk.calls ≡ 0 = ap (λ (b : BookState g.row.K.Denot g.row.D.Denot). length b.desk.calls) c.self.view_is ∙ c.requires in
    let room : ℕ = min (vec_capacity c.replace.new.dest) (vec_capacity c.self.inside.owners) in
    subst (λ (es : List (Entry g.row.K.Denot)). IsJournaled policy c.self.inside.desk es room) (sym none)
    (journaled-none policy c.self.inside.desk (c.self.invariant.past ++ c.self.inside.journal.items, c.self.invariant.represents) idle room)
