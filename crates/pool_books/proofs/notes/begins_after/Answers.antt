use Rattle.std.proofs.Common.{take, sym, ◌∙◌, ap, subst, arith}
use Rattle.sequential_signer.specs.declared.event.Entry.{Entry}
use Rattle.pool_books.specs.Notes.{AreBegins, IsBeginWith}
use Rattle.pool_books.specs.declared.notes.Begins.{Begins}
use Rattle.pool_books.proofs.CallNotes.{like-below, after-idle, after-first, after-differ, after-alike, after-unlike, read-within}
use Rattle.pool_books.proofs.notes.begins_after.Goals as goal

pub returns-in_default : goal.returns-in_default
returns-in_default g c =
    after-idle c.args.journal.now c.args.place c.args.call c.requires.about c.index-journal-place.result c.index-journal-place.is (λ k h d e. c.in_default.not-Begin k h d (sym (ap (λ (x : Entry g.row.K.Denot). x.event) c.index-journal-place.is) ∙ e)) c.args.begins c.requires.begins

pub offset_bounds-journal-first : goal.offset_bounds-journal-first
offset_bounds-journal-first g c =
    let P : Begins → Type 0 = λ b. AreBegins c.args.call (take c.args.place c.args.journal.now) b in
    omega (arith, like-below c.args.journal.now c.args.place c.args.call c.requires.about c.in-Like.first (subst P c.in-Like.is c.requires.begins))

pub bounds-journal-first : goal.bounds-journal-first
bounds-journal-first g c =
    let P : Begins → Type 0 = λ b. AreBegins c.args.call (take c.args.place c.args.journal.now) b in
    like-below c.args.journal.now c.args.place c.args.call c.requires.about c.in-Like.first (subst P c.in-Like.is c.requires.begins)

pub returns-in-Never : goal.returns-in-Never
returns-in-Never g c =
    let P : Begins → Type 0 = λ b. AreBegins c.args.call (take c.args.place c.args.journal.now) b in
    after-first c.args.journal.now c.args.place c.args.call c.requires.about c.index-journal-place.result c.index-journal-place.is c.in-Begin.call c.in-Begin.head c.in-Begin.expires_in (ap (λ (x : Entry g.row.K.Denot). x.event) c.index-journal-place.is ∙ c.in-Begin.is)
    (subst P c.in-Never.is c.requires.begins)

pub returns-in-Like : goal.returns-in-Like
returns-in-Like g c =
    let P : Begins → Type 0 = λ b. AreBegins c.args.call (take c.args.place c.args.journal.now) b in
    after-alike c.args.journal.now c.args.place c.args.call c.requires.about c.index-journal-place.result c.index-journal-place.is c.in-Begin.call c.in-Begin.head c.in-Begin.expires_in (ap (λ (x : Entry g.row.K.Denot). x.event) c.index-journal-place.is ∙ c.in-Begin.is)
    c.in-Like.first c.index-journal-first.result c.index-journal-first.is (subst P c.in-Like.is c.requires.begins) (let Q : Entry g.row.K.Denot → Type 0 = λ x. IsBeginWith c.in-Begin.head c.in-Begin.expires_in x.event in subst Q (sym c.index-journal-first.is) c.if-is_begin_with.ensures)

pub returns-in_default-begins : goal.returns-in_default-begins
returns-in_default-begins g c =
    let P : Begins → Type 0 = λ b. AreBegins c.args.call (take c.args.place c.args.journal.now) b in
    after-unlike c.args.journal.now c.args.place c.args.call c.requires.about c.index-journal-place.result c.index-journal-place.is c.in-Begin.call c.in-Begin.head c.in-Begin.expires_in (ap (λ (x : Entry g.row.K.Denot). x.event) c.index-journal-place.is ∙ c.in-Begin.is)
    c.in-Like.first c.index-journal-first.result c.index-journal-first.is (subst P c.in-Like.is c.requires.begins) (let Q : Entry g.row.K.Denot → Type 0 = λ x. IsBeginWith c.in-Begin.head c.in-Begin.expires_in x.event → ⊥ in subst Q (sym c.index-journal-first.is) c.if-is_begin_with.ensures)

pub returns-in_default-begins-2 : goal.returns-in_default-begins-2
returns-in_default-begins-2 g c =
    let P : Begins → Type 0 = λ b. AreBegins c.args.call (take c.args.place c.args.journal.now) b in
    after-differ c.args.journal.now c.args.place c.args.call c.requires.about c.index-journal-place.result c.index-journal-place.is c.in-Begin.call c.in-Begin.head c.in-Begin.expires_in (ap (λ (x : Entry g.row.K.Denot). x.event) c.index-journal-place.is ∙ c.in-Begin.is)
    (subst P c.in_default-begins.is c.requires.begins)

pub offset_bounds-journal-place : goal.offset_bounds-journal-place
offset_bounds-journal-place g c = omega (arith, read-within c.args.journal.now c.args.place c.args.call c.requires.about)

pub bounds-journal-place : goal.bounds-journal-place
bounds-journal-place g c = read-within c.args.journal.now c.args.place c.args.call c.requires.about
