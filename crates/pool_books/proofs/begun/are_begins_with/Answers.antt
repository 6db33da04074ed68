use Rattle.std.proofs.Common.{◌≡◌, ◌<◌, ◌↔◌, ℕ, List, Option, length, slice_get, subst, arith}
use Rattle.std.specs.declared.time.Duration.{Duration}
use Rattle.std.proofs.lemmas.Option.{slice_get_within}
use Rattle.sign_base.specs.declared.head.Head.{Head}
use Rattle.sign_base.specs.declared.call_id.CallId.{CallId}
use Rattle.sequential_signer.specs.declared.event.Entry.{Entry}
use Rattle.pool_books.specs.Notes.{AreBegins, AreBeginsWith, IsBeginWith}
use Rattle.pool_books.specs.declared.notes.Begins.{Begins}
use Rattle.pool_books.specs.declared.notes.Begins.TheVariants.{Like}
use Rattle.pool_books.proofs.CallNotes.{decides-same, like-first, open-some}
use Rattle.pool_books.proofs.begun.are_begins_with.Goals as goal

pub returns-in-Never : goal.returns-in-Never
returns-in-Never g c =
    let P : Begins → Type 0 = λ b. AreBegins c.args.call c.args.journal.now b in
    subst P c.in-Never.is c.requires c.args.head.now c.args.expires_in

pub returns-in-Like : goal.returns-in-Like
returns-in-Like g c =
    let P : Begins → Type 0 = λ b. AreBegins c.args.call c.args.journal.now b in
    let same = like-first c.args.call c.args.journal.now c.in-Like.place (subst P c.in-Like.is c.requires) c.index-journal-place.result c.args.head.now c.args.expires_in in
    decides-same c.is_begin_with.result _ _ same.0 same.1 c.is_begin_with.ensures

-- begins like the one at a place are of a journal that has the place
like-inside : {K : Type 0} (call : CallId) (journal : List (Entry K)) (begins : Begins) (p : ℕ)
    → begins ≡ Like p → AreBegins call journal begins → p < length journal
like-inside {K} call journal begins p is h =
    let Same : Entry K → Type 0 = λ x. (head : Head) (expires_in : Option Duration) → AreBeginsWith call journal head expires_in ↔ IsBeginWith head expires_in x.event in
    let P : Begins → Type 0 = λ b. AreBegins call journal b in
    let f = open-some (slice_get journal p) Same (subst P is h) in slice_get_within journal p f.0 f.1

pub offset_bounds-journal-place : goal.offset_bounds-journal-place
offset_bounds-journal-place g c = omega (arith, like-inside c.args.call c.args.journal.now c.args.begins c.in-Like.place c.in-Like.is c.requires)

pub bounds-journal-place : goal.bounds-journal-place
bounds-journal-place g c = like-inside c.args.call c.args.journal.now c.args.begins c.in-Like.place c.in-Like.is c.requires

pub returns-in-Differ : goal.returns-in-Differ
returns-in-Differ g c =
    let P : Begins → Type 0 = λ b. AreBegins c.args.call c.args.journal.now b in
    subst P c.in-Differ.is c.requires c.args.head.now c.args.expires_in
