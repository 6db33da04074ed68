-- What is noted of a call while the journal is read.
use Rattle.std.specs.Prelude.{◌≡◌, ◌↔◌, List, Option, None, slice_get, All, MatchOption, IsSome, IsSomeAnd}
use Rattle.std.specs.Prelude.{IfSome}
use Rattle.std.specs.HashMap.{HashMap}
use Rattle.std.specs.Map.{lookup}
use Rattle.std.specs.declared.time.Duration.{Duration}
use Rattle.sign_base.specs.declared.head.Head.{Head}
use Rattle.sign_base.specs.declared.call_id.CallId.{CallId}
use Rattle.sign_base.specs.Calls.{same_call}
use Rattle.sequential_signer.specs.declared.event.Entry.{Entry}
use Rattle.sequential_signer.specs.declared.event.Event.{Event}
use Rattle.sequential_signer.specs.declared.event.Event.TheVariants.{Begin}
use Rattle.pool_books.specs.TrueAnswers.{HasNoneOf, IsLastOf}
use Rattle.pool_books.specs.declared.answer.Answer.{Answer}
use Rattle.pool_books.specs.declared.notes.Begins.{Begins}
use Rattle.pool_books.specs.declared.notes.Begins.TheVariants.{Never, Like, Differ}
use Rattle.pool_books.specs.declared.notes.CallNote.{CallNote}

-- the event is a begin with this head and duration
abbrev pub IsBeginWith : {K : Type 0} → Head → Option Duration → Event K → Type 0
IsBeginWith head expires_in (Begin call mine how_long) = (mine ≡ head) × (how_long ≡ expires_in)
IsBeginWith head expires_in _ = ⊥

-- where the event begins the call, it is with this head and duration
abbrev pub IfBegins : {K : Type 0} → CallId → Head → Option Duration → Event K → Type 0
IfBegins call head expires_in (Begin other mine how_long) =
    other ≡ call → (mine ≡ head) × (how_long ≡ expires_in)
IfBegins call head expires_in _ = Unit {0}

-- each begin of the call is with this head and duration
abbrev pub AreBeginsWith : {K : Type 0} → CallId → List (Entry K) → Head → Option Duration → Type 0
AreBeginsWith call journal head expires_in = All (λ e. IfBegins call head expires_in e.event) journal

-- these are all begins of the call: there is none; each is like the one at this place; or two differ
abbrev pub AreBegins : {K : Type 0} → CallId → List (Entry K) → Begins → Type 0
AreBegins call journal Never =
    (head : Head) (expires_in : Option Duration) → AreBeginsWith call journal head expires_in
AreBegins call journal (Like place) = IsSomeAnd (slice_get journal place) (λ e.
    (head : Head) (expires_in : Option Duration)
    → AreBeginsWith call journal head expires_in ↔ IsBeginWith head expires_in e.event)
AreBegins call journal Differ =
    (head : Head) (expires_in : Option Duration) → AreBeginsWith call journal head expires_in → ⊥

-- the note says which entry of the call is the last, and how it was begun
pub record IsNoteOf {K : Type 0} (journal : List (Entry K)) (call : CallId) (note : CallNote) : Type 0 where
  pub last : MatchOption note.last (HasNoneOf call journal) (IsLastOf call journal)
  pub begins : AreBegins call journal note.begins

-- what is noted of a call
abbrev pub note_of : {S : Type 0} → HashMap CallId CallNote S → CallId → Option CallNote
note_of notes call = lookup (same_call call) notes.entries

-- a note of no entry
abbrev pub blank_note : CallNote
blank_note = record { last = None; begins = Never }

-- each note is of no entry
abbrev pub AreBlank : {S : Type 0} → HashMap CallId CallNote S → Type 0
AreBlank notes = (call : CallId) → IfSome (note_of notes call) (λ note. note ≡ blank_note)

-- each note says what the journal has
abbrev pub AreRead : {K S : Type 0} → List (Entry K) → HashMap CallId CallNote S → Type 0
AreRead journal notes = (call : CallId) → IfSome (note_of notes call) (IsNoteOf journal call)

-- there is a note of each answer's call
abbrev pub HaveNotes : {S : Type 0} → List Answer → HashMap CallId CallNote S → Type 0
HaveNotes answers notes = All (λ answer. IsSome (note_of notes answer.call)) answers
