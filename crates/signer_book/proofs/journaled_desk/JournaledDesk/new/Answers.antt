use Rattle.std.proofs.Common.{◌≡◌, [], ℕ, List, sym, subst, rules, vec_capacity, min}
use Rattle.sequential_signer.specs.Policy.{policy_of}
use Rattle.sequential_signer.specs.declared.event.Entry.{Entry}
use Rattle.signer_book.specs.BookState.{IsJournaled}
use Rattle.signer_book.proofs.IdleBook.{journaled-none}
use Rattle.signer_book.proofs.journaled_desk.JournaledDesk.new.Goals as goal

pub invariant_of-result : goal.invariant_of-result
invariant_of-result g c =
    let policy = policy_of g.K.SigningCredential.valid g.K.SigningCredential.valid_at g.D.DeadlineRule.deadline in
    let none : c.new-journal.result.items ≡ [] = search rules in
    let room : ℕ = min (vec_capacity c.new-journal.result) (vec_capacity c.new-owners.result) in
    subst (λ (es : List (Entry g.row.K.Denot)). IsJournaled policy c.args.desk es room) (sym none) (journaled-none policy c.args.desk c.requires.past c.requires.idle room)
