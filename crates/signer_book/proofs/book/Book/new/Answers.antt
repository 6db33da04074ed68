use Rattle.sequential_signer.specs.Policy.{policy_of}
use Rattle.signer_book.proofs.IdleBook.{fresh-idle}
use Rattle.signer_book.proofs.book.Book.new.Goals as goal

pub new-requires-clause-idle : goal.new-requires-clause-idle
new-requires-clause-idle g c =
    fresh-idle (policy_of g.K.SigningCredential.valid g.K.SigningCredential.valid_at g.D.DeadlineRule.deadline) c.args.desk c.requires
