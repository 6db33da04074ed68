use Rattle.std.proofs.Common.{◌≡◌, ℕ, ◌<◌, ◌+◌, List, [], ◌∷◌, ◌++◌, length, get_or, take, subst, sym, arith}
use Rattle.std.specs.Prelude.{All, IsSome, IsSomeAnd, slice_get}
use Rattle.std.specs.List.{AllZip}
use Rattle.std.proofs.lemmas.List.{take_all}
use Rattle.signer_book.specs.Settled.{IsEntryOf}
use Rattle.signer_book.proofs.Receipts.{some-at}
use Rattle.signer_book.specs.declared.pass.Receipt.{Receipt}
use Rattle.pool_books.specs.Cleared.{lists_of}
use Rattle.pool_books.specs.Notes.{note_of}
use Rattle.pool_books.specs.TrueAnswers.{AreGoodAnswers, IsGoodAnswer, IsFirstBadOf}
use Rattle.pool_books.specs.declared.answer.Answer.{Answer}
use Rattle.pool_books.proofs.CallNotes.{read-more}
use Rattle.pool_books.proofs.Joined.{all-at, all-of-list, list-read, lists-length}
use Rattle.pool_books.proofs.true_answers.first_bad.Goals as goal

all_zip-push : {A B : Type 0} (R : A → B → Type 0) (xs : List A) (ys : List B) (x : A) (y : B)
    → AllZip R xs ys → R x y → AllZip R (xs ++ x ∷ []) (ys ++ y ∷ [])
all_zip-push R [] [] x y h r = (r, tt)
all_zip-push R [] (b ∷ ys) x y h r = absurd h
all_zip-push R (a ∷ xs) [] x y h r = absurd h
all_zip-push R (a ∷ xs) (b ∷ ys) x y h r = (h.0, all_zip-push R xs ys x y h.1 r)

-- one pair more
good-more : {A B : Type 0} (R : A → B → Type 0) (xs : List A) (ys : List B) (i : ℕ) (x : A) (y : B)
    → i < length xs → i < length ys → x ≡ get_or xs i x → y ≡ get_or ys i y → AllZip R (take i xs) (take i ys)
    → R x y → AllZip R (take (i + 1) xs) (take (i + 1) ys)
good-more R xs ys i x y in_xs in_ys at_x at_y h r =
    let P : List _ → Type 0 = λ l. AllZip R l (take (i + 1) ys) in
    let Q : List _ → Type 0 = λ l. AllZip R (take i xs ++ x ∷ []) l in
    subst P (sym (read-more xs i x in_xs at_x)) (subst Q (sym (read-more ys i y in_ys at_y)) (all_zip-push R (take i xs) (take i ys) x y h r))

pub first_bad_of-requires-clause-noted : goal.first_bad_of-requires-clause-noted
first_bad_of-requires-clause-noted g c =
    all-of-list (λ (a : Answer). IsSome (note_of c.args.notes.now a.call)) (lists_of c.args.answers.now) c.loop-worker.worker c.as_slice-list.result.now (omega (arith, lists-length c.args.answers.now))
    (list-read c.args.answers.now c.loop-worker.worker c.index-answers-worker.result c.as_slice-list.result.now (omega arith) c.index-answers-worker.is c.as_slice-list.ensures.value) c.requires.noted

pub returns-in-Some : goal.returns-in-Some
returns-in-Some g c =
    let P : List (Receipt g.row.K.Denot) → Type 0 = λ pass. IsFirstBadOf c.args.journal.now pass c.as_slice-list.result.now c.in-Some.at in
    let Q : List (Receipt g.row.K.Denot) → Type 0 = λ pass. IsSomeAnd (slice_get (lists_of c.args.answers.now) c.loop-worker.worker) (λ list. IsFirstBadOf c.args.journal.now pass list c.in-Some.at) in
    let first : Q c.index-passes-worker.result =
    some-at (lists_of c.args.answers.now) (λ list. IsFirstBadOf c.args.journal.now c.index-passes-worker.result list c.in-Some.at) c.loop-worker.worker c.as_slice-list.result.now (omega (arith, lists-length c.args.answers.now))
    (list-read c.args.answers.now c.loop-worker.worker c.index-answers-worker.result c.as_slice-list.result.now (omega arith) c.index-answers-worker.is c.as_slice-list.ensures.value)
    (subst P c.receipts.ensures c.in-Some.ensures) in
    record {
      bad = some-at c.args.passes.now Q c.loop-worker.worker c.index-passes-worker.result (omega arith) c.index-passes-worker.is first;
      before = c.loop-worker.invariant;
    }

pub loop-worker-preserved : goal.loop-worker-preserved
loop-worker-preserved g c =
    let P : List (Receipt g.row.K.Denot) → Type 0 = λ pass. All (IsGoodAnswer c.args.journal.now pass) c.as_slice-list.result.now in
    let R : List (Receipt g.row.K.Denot) → List Answer → Type 0 = λ pass list. All (IsGoodAnswer c.args.journal.now pass) list in
    good-more R c.args.passes.now (lists_of c.args.answers.now) c.loop-worker.worker c.index-passes-worker.result c.as_slice-list.result.now (omega arith) (omega (arith, lists-length c.args.answers.now))
    c.index-passes-worker.is
    (list-read c.args.answers.now c.loop-worker.worker c.index-answers-worker.result c.as_slice-list.result.now (omega arith) c.index-answers-worker.is c.as_slice-list.ensures.value)
    c.loop-worker.invariant (subst P c.receipts.ensures c.in_default.ensures)

pub first_bad_of-requires-clause-entries : goal.first_bad_of-requires-clause-entries
first_bad_of-requires-clause-entries g c =
    let P : List (Receipt g.row.K.Denot) → Type 0 = λ pass. All (IsEntryOf c.args.journal.now) pass in
    subst P (sym c.receipts.ensures) (all-at P c.args.passes.now c.loop-worker.worker c.index-passes-worker.result c.loop-worker-test.true c.index-passes-worker.is c.requires.entries)

pub returns : goal.returns
returns g c =
    let lists : List (List Answer) = lists_of c.args.answers.now in
    let P : List (List (Receipt g.row.K.Denot)) → Type 0 = λ l. AreGoodAnswers c.args.journal.now l (take c.loop-worker.worker lists) in
    let Q : List (List Answer) → Type 0 = λ l. AreGoodAnswers c.args.journal.now c.args.passes.now l in
    subst Q (take_all c.loop-worker.worker lists (omega (arith, lists-length c.args.answers.now)))
    (subst P (take_all c.loop-worker.worker c.args.passes.now c.loop-worker-test.false) c.loop-worker.invariant)
