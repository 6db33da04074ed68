use Rattle.std.proofs.Common.{[]}
use Rattle.signer_book.proofs.book.Book.apply.Goals as goal

pub invariant_of-self : goal.invariant_of-self
invariant_of-self g c = c.apply.ensures.follows [] c.self.invariant

pub returns-clause-represents : goal.returns-clause-represents
returns-clause-represents g c = c.apply.ensures.follows [] c.self.invariant
