use Rattle.std.specs.HashMap.{keys}
use Rattle.std.proofs.Common.{◌≡◌, ◌∙◌, sym, length}
use Rattle.std.proofs.lemmas.List.{length-map}
use Rattle.pool_books.specs.Cleared.{joined, lists_of, tickets_of, answered_tickets}
use Rattle.pool_books.specs.declared.index.JobPlace.{JobPlace}
use Rattle.pool_books.specs.declared.job.Ticket.{Ticket}
use Rattle.pool_books.proofs.Balances.{decides-empty}
use Rattle.pool_books.proofs.CheckOffSteps.{once-failed-first, once-failed-second, once-left, once-each}
use Rattle.pool_books.proofs.cleared.are_each_once.Goals as goal

pub returns-then-not-check_off_answers : goal.returns-then-not-check_off_answers
returns-then-not-check_off_answers c =
    once-failed-first (keys c.args.index) (answered_tickets (joined (lists_of c.args.answers.now))) (tickets_of c.args.left.now) c.requires c.if-not-check_off_answers.ensures

pub returns-then-not-check_off_left : goal.returns-then-not-check_off_left
returns-then-not-check_off_left c =
    once-failed-second (keys c.args.index) (answered_tickets (joined (lists_of c.args.answers.now))) (tickets_of c.args.left.now) c.requires (keys c.check_off_answers.new.index) c.if-not-check_off_answers.ensures
    c.if-not-check_off_left.ensures

pub returns : goal.returns
returns c =
    let n : length (keys c.check_off_left.new.index) ≡ length c.check_off_left.new.index.entries = length-map c.check_off_left.new.index.entries (λ (e : Ticket × JobPlace). e.0) in
    decides-empty c.is_empty.result (length c.check_off_left.new.index.entries ≡ 0) _ c.is_empty.ensures
    (λ none. once-each (keys c.args.index) (answered_tickets (joined (lists_of c.args.answers.now))) (tickets_of c.args.left.now) c.requires (keys c.check_off_answers.new.index) c.if-not-check_off_answers.ensures
    (keys c.check_off_left.new.index) c.if-not-check_off_left.ensures (n ∙ none))
    (λ some. once-left (keys c.args.index) (answered_tickets (joined (lists_of c.args.answers.now))) (tickets_of c.args.left.now) c.requires (keys c.check_off_answers.new.index) c.if-not-check_off_answers.ensures
    (keys c.check_off_left.new.index) c.if-not-check_off_left.ensures (λ none. some (sym n ∙ none)))
