use Rattle.std.specs.HashMap.{keys}
use Rattle.pool_books.specs.Cleared.{joined, lists_of, tickets_of}
use Rattle.pool_books.proofs.Balances.{cleared-from, each-from, begun-jobs}
use Rattle.pool_books.proofs.CallNotes.{decides-same}
use Rattle.pool_books.proofs.Tickets.{apart-moved}
use Rattle.pool_books.proofs.cleared.is_cleared.Goals as goal

pub returns-then-not-are_begun_as_submitted : goal.returns-then-not-are_begun_as_submitted
returns-then-not-are_begun_as_submitted g c = λ cleared.
    c.if-not-are_begun_as_submitted.ensures (begun-jobs c.args.journal.now (joined (lists_of c.args.answers.now)) c.args.left.now (joined (lists_of c.args.submitted.now)) cleared)

pub are_each_once-requires : goal.are_each_once-requires
are_each_once-requires g c = apart-moved (tickets_of (joined (lists_of c.args.submitted.now))) (keys c.args.index) c.requires.index.tickets c.requires.index.apart

pub returns : goal.returns
returns g c =
    decides-same c.are_each_once.result _ _
    (each-from c.args.journal.now (joined (lists_of c.args.answers.now)) c.args.left.now (joined (lists_of c.args.submitted.now)) (keys c.args.index) c.requires.index.apart c.requires.index.tickets)
    (cleared-from c.args.journal.now (joined (lists_of c.args.answers.now)) c.args.left.now (joined (lists_of c.args.submitted.now)) (keys c.args.index) c.requires.index.apart c.requires.index.tickets
    c.if-not-are_as_submitted.ensures c.if-not-are_begun_as_submitted.ensures)
    c.are_each_once.ensures
