-- How the note of a call follows the journal, entry by entry.
use Rattle.std.proofs.Common.{◌≡◌, ◌≢◌, ℕ, zero, suc, ◌<◌, ◌+◌, ◌↔◌, Bool, true, false, cond, List, [], ◌∷◌, ◌++◌, Option, Some, None, Result, Ok, Err, length, get_or, take, drop, refl, sym, ◌∙◌, ap, subst, arith}
use Rattle.std.specs.Prelude.{All, MatchBool, OnOk, OnErr, MatchOption, IfSome, IsSome, IsSomeAnd, slice_get}
use Rattle.std.specs.declared.time.Duration.{Duration}
use Rattle.std.proofs.lemmas.Bool.{false≢true}
use Rattle.std.proofs.lemmas.List.{take_more, get_or-take, drop_all, drop-append-le, length_push, length-take-le}
use Rattle.std.proofs.lemmas.List.Elements.{All-nil, All-push, All-head, All-weaker}
use Rattle.std.proofs.lemmas.Option.{slice_get_within, slice_get_read, get_or_from_slice_get}
use Rattle.sign_base.specs.declared.head.Head.{Head}
use Rattle.sign_base.specs.declared.call_id.CallId.{CallId}
use Rattle.sign_base.specs.Calls.{same_call}
use Rattle.sign_base.proofs.Calls.{same_call-eq, same_call-refl}
use Rattle.sequential_signer.specs.Transcript.{call_of}
use Rattle.sequential_signer.specs.declared.event.Entry.{Entry}
use Rattle.sequential_signer.specs.declared.event.Event.{Event}
use Rattle.sequential_signer.specs.declared.event.Event.TheVariants.{Begin, Poll, Provided, Signed, Cancel}
use Rattle.pool_books.specs.TrueAnswers.{HasNoneOf, IsLastOf}
use Rattle.pool_books.specs.Notes.{IsBeginWith, IfBegins, AreBeginsWith, AreBegins, IsNoteOf, blank_note}
use Rattle.pool_books.specs.declared.answer.Answer.{Answer}
use Rattle.pool_books.specs.declared.notes.Begins.{Begins}
use Rattle.pool_books.specs.declared.notes.Begins.TheVariants.{Never, Like, Differ}
use Rattle.pool_books.specs.declared.notes.CallNote.{CallNote}
use Rattle.pool_books.proofs.Joined.{all-left, all-right}

pub open-some : {X : Type 0} (o : Option X) (P : X → Type 0) → IsSomeAnd o P → (x : X) × (o ≡ Some x) × P x
open-some None P h = absurd h
open-some (Some x) P h = (x, refl, h)

slice-left : {X : Type 0} (xs ys : List X) (p : ℕ) (x : X) → slice_get xs p ≡ Some x
    → slice_get (xs ++ ys) p ≡ Some x
slice-left [] ys p x h = absurd (cc)
slice-left (y ∷ xs) ys zero x h = h
slice-left (y ∷ xs) ys (suc p) x h = slice-left xs ys p x h

slice-last : {X : Type 0} (xs : List X) (x : X) → slice_get (xs ++ x ∷ []) (length xs) ≡ Some x
slice-last [] x = refl
slice-last (y ∷ xs) x = slice-last xs x

module _ {K : Type 0} (call : CallId) (xs : List (Entry K)) (e : Entry K) where
  grown : List (Entry K)
  grown = xs ++ e ∷ []

  With : Head → Option Duration → Entry K → Type 0
  With head expires_in = λ x. IfBegins call head expires_in x.event

  -- an entry of the call is its last
  pub last-here : call_of e.event ≡ call → IsLastOf call (xs ++ e ∷ []) (length xs)
  last-here about = record {
    about = (let P : Option (Entry K) → Type 0 = λ o. IsSomeAnd o (λ x. call_of x.event ≡ call) in subst P (sym (slice-last xs e)) about);
    last = (let P : List (Entry K) → Type 0 = λ l. HasNoneOf call l in
        subst P (sym (drop_all (length xs + 1) (xs ++ e ∷ []) (omega (arith, length_push xs e)))) (All-nil (λ (x : Entry K). call_of x.event ≢ call)));
  }

  -- an entry of another call leaves it
  pub last-stays : call_of e.event ≢ call → (last : Option ℕ)
      → MatchOption last (HasNoneOf call xs) (IsLastOf call xs)
      → MatchOption last (HasNoneOf call (xs ++ e ∷ [])) (IsLastOf call (xs ++ e ∷ []))
  last-stays other None h = All-push (λ (x : Entry K). call_of x.event ≢ call) xs e h other
  last-stays other (Some p) h =
      let P : Entry K → Type 0 = λ x. call_of x.event ≡ call in
      let f = open-some (slice_get xs p) P h.about in
      let within : p < length xs = slice_get_within xs p f.0 f.1 in
      let behind : drop (p + 1) (xs ++ e ∷ []) ≡ drop (p + 1) xs ++ e ∷ [] = drop-append-le (p + 1) xs (e ∷ []) (omega (arith, within)) in
      record {
        about = (let Q : Option (Entry K) → Type 0 = λ o. IsSomeAnd o P in subst Q (sym (slice-left xs (e ∷ []) p f.0 f.1)) f.2);
        last = (let Q : List (Entry K) → Type 0 = λ l. HasNoneOf call l in subst Q (sym behind) (All-push (λ (x : Entry K). call_of x.event ≢ call) (drop (p + 1) xs) e h.last other));
      }

  module _ (idle : (head : Head) (expires_in : Option Duration) → IfBegins call head expires_in e.event) where
    -- an entry that is no begin of the call leaves its begins
    pub begins-idle : (b : Begins) → AreBegins call xs b → AreBegins call (xs ++ e ∷ []) b
    begins-idle Never h = λ head expires_in. All-push (λ (x : Entry K). IfBegins call head expires_in x.event) xs e (h head expires_in) (idle head expires_in)
    begins-idle (Like p) h =
        let Same : List (Entry K) → Entry K → Type 0 = λ l x. (head : Head) (expires_in : Option Duration) → AreBeginsWith call l head expires_in ↔ IsBeginWith head expires_in x.event in
        let f = open-some (slice_get xs p) (Same xs) h in
        let Q : Option (Entry K) → Type 0 = λ o. IsSomeAnd o (Same (xs ++ e ∷ [])) in
        subst Q (sym (slice-left xs (e ∷ []) p f.0 f.1)) (λ head expires_in. (
          λ all. (f.2 head expires_in).0 (all-left (λ (x : Entry K). IfBegins call head expires_in x.event) xs (e ∷ []) all),
          λ with. All-push (λ (x : Entry K). IfBegins call head expires_in x.event) xs e ((f.2 head expires_in).1 with) (idle head expires_in),
        ))
    begins-idle Differ h = λ head expires_in all. h head expires_in (all-left (λ (x : Entry K). IfBegins call head expires_in x.event) xs (e ∷ []) all)

  last-of : (head : Head) (expires_in : Option Duration) → AreBeginsWith call (xs ++ e ∷ []) head expires_in
      → IfBegins call head expires_in e.event
  last-of head expires_in all =
      All-head (λ (x : Entry K). IfBegins call head expires_in x.event) e [] (all-right (λ (x : Entry K). IfBegins call head expires_in x.event) xs (e ∷ []) all)

  module _ (other : CallId) (mine : Head) (how_long : Option Duration)
      (is : e.event ≡ Begin other mine how_long) (about : call_of e.event ≡ call) where
    own : other ≡ call
    own = sym (ap call_of is) ∙ about

    meets : (head : Head) (expires_in : Option Duration) → IfBegins call head expires_in e.event
        → (mine ≡ head) × (how_long ≡ expires_in)
    meets head expires_in h = (let P : Event K → Type 0 = λ x. IfBegins call head expires_in x in subst P is h) own

    meant : (head : Head) (expires_in : Option Duration) → mine ≡ head → how_long ≡ expires_in
        → IfBegins call head expires_in e.event
    meant head expires_in m d = let P : Event K → Type 0 = λ x. IfBegins call head expires_in x in subst P (sym is) (λ _. (m, d))

    -- the first begin of the call
    pub begins-first : (place : ℕ) → place ≡ length xs → AreBegins call xs Never
        → AreBegins call (xs ++ e ∷ []) (Like place)
    begins-first place at h =
        let Same : Entry K → Type 0 = λ x. (head : Head) (expires_in : Option Duration) → AreBeginsWith call (xs ++ e ∷ []) head expires_in ↔ IsBeginWith head expires_in x.event in
        let Q : Option (Entry K) → Type 0 = λ o. IsSomeAnd o Same in
        subst Q (sym (ap (slice_get (xs ++ e ∷ [])) at ∙ slice-last xs e)) (λ head expires_in. (
          λ all. (let m = meets head expires_in (last-of head expires_in all) in
              let P : Event K → Type 0 = λ x. IsBeginWith head expires_in x in subst P (sym is) m),
          λ with. (let m : (mine ≡ head) × (how_long ≡ expires_in) = (let P : Event K → Type 0 = λ x. IsBeginWith head expires_in x in subst P is with) in
              All-push (λ (x : Entry K). IfBegins call head expires_in x.event) xs e (h head expires_in) (meant head expires_in m.0 m.1)),
        ))

    module _ (place : ℕ) (first : Entry K) (there : slice_get xs place ≡ Some first)
        (h : AreBegins call xs (Like place)) where
      same-as : (head : Head) (expires_in : Option Duration)
          → AreBeginsWith call xs head expires_in ↔ IsBeginWith head expires_in first.event
      same-as = let Q : Option (Entry K) → Type 0 = λ o. IsSomeAnd o (λ x. (head : Head) (expires_in : Option Duration) → AreBeginsWith call xs head expires_in ↔ IsBeginWith head expires_in x.event) in subst Q there h

      -- a begin like the first
      pub begins-alike : IsBeginWith mine how_long first.event → AreBegins call (xs ++ e ∷ []) (Like place)
      begins-alike like =
          let Same : Entry K → Type 0 = λ x. (head : Head) (expires_in : Option Duration) → AreBeginsWith call (xs ++ e ∷ []) head expires_in ↔ IsBeginWith head expires_in x.event in
          let Q : Option (Entry K) → Type 0 = λ o. IsSomeAnd o Same in
          subst Q (sym (slice-left xs (e ∷ []) place first there)) (λ head expires_in. (
            λ all. (same-as head expires_in).0 (all-left (λ (x : Entry K). IfBegins call head expires_in x.event) xs (e ∷ []) all),
            λ with. (let m : (mine ≡ head) × (how_long ≡ expires_in) = together first.event head expires_in like with in
                All-push (λ (x : Entry K). IfBegins call head expires_in x.event) xs e ((same-as head expires_in).1 with) (meant head expires_in m.0 m.1)),
          ))
        where
          together : (x : Event K) (head : Head) (expires_in : Option Duration) → IsBeginWith mine how_long x
              → IsBeginWith head expires_in x → (mine ≡ head) × (how_long ≡ expires_in)
          together (Begin c h d) head expires_in a b = (sym a.0 ∙ b.0, sym a.1 ∙ b.1)
          together (Poll c now) head expires_in a b = absurd a
          together (Provided c now answer) head expires_in a b = absurd a
          together (Signed c answer) head expires_in a b = absurd a
          together (Cancel c) head expires_in a b = absurd a

      -- a begin unlike the first
      pub begins-unlike : (IsBeginWith mine how_long first.event → ⊥) → AreBegins call (xs ++ e ∷ []) Differ
      begins-unlike unlike = λ head expires_in all.
          let m = meets head expires_in (last-of head expires_in all) in
          let with : IsBeginWith head expires_in first.event = (same-as head expires_in).0 (all-left (λ (x : Entry K). IfBegins call head expires_in x.event) xs (e ∷ []) all) in
          unlike (turned first.event head expires_in m.0 m.1 with)
        where
          turned : (x : Event K) (head : Head) (expires_in : Option Duration) → mine ≡ head
              → how_long ≡ expires_in → IsBeginWith head expires_in x → IsBeginWith mine how_long x
          turned (Begin c h d) head expires_in m n b = (b.0 ∙ sym m, b.1 ∙ sym n)
          turned (Poll c now) head expires_in m n b = absurd b
          turned (Provided c now answer) head expires_in m n b = absurd b
          turned (Signed c answer) head expires_in m n b = absurd b
          turned (Cancel c) head expires_in m n b = absurd b

    -- begins that differ do so with one more
    pub begins-differ : AreBegins call xs Differ → AreBegins call (xs ++ e ∷ []) Differ
    begins-differ h = λ head expires_in all. h head expires_in (all-left (λ (x : Entry K). IfBegins call head expires_in x.event) xs (e ∷ []) all)

-- an event of another call is no begin of this one
pub other-event : {K : Type 0} (call : CallId) (e : Event K) → call_of e ≢ call
    → (head : Head) (expires_in : Option Duration) → IfBegins call head expires_in e
other-event call (Begin c h d) other head expires_in = λ same. absurd (other same)
other-event call (Poll c now) other head expires_in = tt
other-event call (Provided c now answer) other head expires_in = tt
other-event call (Signed c answer) other head expires_in = tt
other-event call (Cancel c) other head expires_in = tt

-- nor is one that begins no call
pub no-begin : {K : Type 0} (call : CallId) (e : Event K)
    → ((c : CallId) (h : Head) (d : Option Duration) → e ≡ Begin c h d → ⊥)
    → (head : Head) (expires_in : Option Duration) → IfBegins call head expires_in e
no-begin call (Begin c h d) none head expires_in = absurd (none c h d refl)
no-begin call (Poll c now) none head expires_in = tt
no-begin call (Provided c now answer) none head expires_in = tt
no-begin call (Signed c answer) none head expires_in = tt
no-begin call (Cancel c) none head expires_in = tt

-- one entry more of the journal
pub read-more : {X : Type 0} (journal : List X) (i : ℕ) (e : X) → i < length journal → e ≡ get_or journal i e
    → take (i + 1) journal ≡ take i journal ++ e ∷ []
read-more journal i e below is = take_more journal i e below ∙ ap (λ y. take i journal ++ y ∷ []) (sym is)

module _ {K : Type 0} (journal : List (Entry K)) (i : ℕ) (e : Entry K) (below : i < length journal)
    (is : e ≡ get_or journal i e) where
  -- the note of another call stays
  pub note-stays : (call : CallId) (note : CallNote) → call_of e.event ≢ call
      → IsNoteOf (take i journal) call note → IsNoteOf (take (i + 1) journal) call note
  note-stays call note other h =
      let P : List (Entry K) → Type 0 = λ l. IsNoteOf l call note in
      subst P (sym (read-more journal i e below is)) (record {
        last = last-stays call (take i journal) e other note.last h.last;
        begins = begins-idle call (take i journal) e (other-event call e.event other) note.begins h.begins;
      })

  -- the notes after the entry, where one note is another now
  pub notes-after : (call : CallId) (after : CallNote) (old new : CallId → Option CallNote)
      → call_of e.event ≡ call → IsNoteOf (take (i + 1) journal) call after
      → ((q : CallId) → new q ≡ cond (same_call call q) (Some after) (old q))
      → ((q : CallId) → IfSome (old q) (IsNoteOf (take i journal) q)) → (q : CallId)
      → IfSome (new q) (IsNoteOf (take (i + 1) journal) q)
  notes-after call after old new about own changed had q = by_call (same_call call q) refl
    where
      by_old : (o : Option CallNote) → call_of e.event ≢ q → IfSome o (IsNoteOf (take i journal) q)
          → IfSome o (IsNoteOf (take (i + 1) journal) q)
      by_old None other h = tt
      by_old (Some note) other h = note-stays q note other h

      by_call : (b : Bool) → same_call call q ≡ b → IfSome (new q) (IsNoteOf (take (i + 1) journal) q)
      by_call true s =
          let P : Option CallNote → Type 0 = λ o. IfSome o (IsNoteOf (take (i + 1) journal) q) in
          let Q : CallId → Type 0 = λ c. IsNoteOf (take (i + 1) journal) c after in
          subst P (sym (changed q ∙ ap (λ b. cond b (Some after) (old q)) s)) (subst Q (same_call-eq call q s) own)
      by_call false s =
          let P : Option CallNote → Type 0 = λ o. IfSome o (IsNoteOf (take (i + 1) journal) q) in
          let other : call_of e.event ≢ q = λ same. false≢true (sym s ∙ ap (same_call call) (sym (sym about ∙ same)) ∙ same_call-refl call) in
          subst P (sym (changed q ∙ ap (λ b. cond b (Some after) (old q)) s)) (by_old (old q) other (had q))

  -- the notes after an entry of a call that has none
  pub notes-same : (call : CallId) (notes : CallId → Option CallNote) → call_of e.event ≡ call
      → notes call ≡ None → ((q : CallId) → IfSome (notes q) (IsNoteOf (take i journal) q)) → (q : CallId)
      → IfSome (notes q) (IsNoteOf (take (i + 1) journal) q)
  notes-same call notes about none had q = by_note (notes q) refl (had q)
    where
      by_note : (o : Option CallNote) → notes q ≡ o → IfSome o (IsNoteOf (take i journal) q)
          → IfSome o (IsNoteOf (take (i + 1) journal) q)
      by_note None f h = tt
      by_note (Some note) f h = note-stays q note (λ same. absurd (none_here (sym (ap notes (sym about ∙ same)) ∙ none) f)) h
        where
          none_here : notes q ≡ None → notes q ≡ Some note → ⊥
          none_here a b = cc

-- a blank note says what an empty journal has
pub blank-read : {K : Type 0} (call : CallId) (note : CallNote) → note ≡ blank_note
    → IsNoteOf {K = K} [] call note
blank-read {K} call note is =
    let P : CallNote → Type 0 = λ n. IsNoteOf {K = K} [] call n in
    subst P (sym is) (record { last = All-nil (λ (x : Entry K). call_of x.event ≢ call); begins = λ head expires_in. All-nil (λ (x : Entry K). IfBegins call head expires_in x.event) })

-- the entry that is read at a place of the journal
module _ {K : Type 0} (journal : List (Entry K)) (place : ℕ) (call : CallId)
    (about : IsSomeAnd (slice_get journal place) (λ x. call_of x.event ≡ call)) where
  pub read-within : place < length journal
  read-within = let f = open-some (slice_get journal place) (λ (x : Entry K). call_of x.event ≡ call) about in slice_get_within journal place f.0 f.1

  before-long : place ≡ length (take place journal)
  before-long = sym (length-take-le place journal (omega (arith, read-within)))

  -- an entry of the journal before it
  pub like-within : (p : ℕ) → AreBegins call (take place journal) (Like p) → p < length (take place journal)
  like-within p h =
      let Same : Entry K → Type 0 = λ x. (head : Head) (expires_in : Option Duration) → AreBeginsWith call (take place journal) head expires_in ↔ IsBeginWith head expires_in x.event in
      let f = open-some (slice_get (take place journal) p) Same h in slice_get_within (take place journal) p f.0 f.1

  pub like-below : (p : ℕ) → AreBegins call (take place journal) (Like p) → p < length journal
  like-below p h = let b : p < length (take place journal) = like-within p h in omega (arith, before-long, read-within, b)

  earlier : (p : ℕ) (first : Entry K) → p < length (take place journal) → first ≡ get_or journal p first
      → slice_get (take place journal) p ≡ Some first
  earlier p first within is =
      let b : p < place = omega (arith, before-long, within) in
      slice_get_read (take place journal) (length (take place journal)) p first refl within (is ∙ sym (get_or-take place journal p first b))

  module _ (e : Entry K) (is : e ≡ get_or journal place e) where
    pub read-about : call_of e.event ≡ call
    read-about =
        let P : Option (Entry K) → Type 0 = λ o. IsSomeAnd o (λ x. call_of x.event ≡ call) in
        subst P (slice_get_read journal (length journal) place e refl read-within is) about

    grows : take (place + 1) journal ≡ take place journal ++ e ∷ []
    grows = read-more journal place e read-within is

    moved : (b : Begins) → AreBegins call (take place journal ++ e ∷ []) b
        → AreBegins call (take (place + 1) journal) b
    moved b h = let P : List (Entry K) → Type 0 = λ l. AreBegins call l b in subst P (sym grows) h

    -- the call's begins with it, where it begins no call
    pub after-idle : ((c : CallId) (h : Head) (d : Option Duration) → e.event ≡ Begin c h d → ⊥)
        → (b : Begins) → AreBegins call (take place journal) b → AreBegins call (take (place + 1) journal) b
    after-idle none b h = moved b (begins-idle call (take place journal) e (no-begin call e.event none) b h)

    -- its last entry
    pub after-last : IsLastOf call (take (place + 1) journal) place
    after-last =
        let P : List (Entry K) → Type 0 = λ l. IsLastOf call l place in
        let Q : ℕ → Type 0 = λ n. IsLastOf call (take place journal ++ e ∷ []) n in
        subst P (sym grows) (subst Q (sym before-long) (last-here call (take place journal) e read-about))

    module _ (other : CallId) (mine : Head) (how_long : Option Duration)
        (begin : e.event ≡ Begin other mine how_long) where
      pub after-first : AreBegins call (take place journal) Never
          → AreBegins call (take (place + 1) journal) (Like place)
      after-first h = moved (Like place) (begins-first call (take place journal) e other mine how_long begin read-about place before-long h)

      pub after-differ : AreBegins call (take place journal) Differ
          → AreBegins call (take (place + 1) journal) Differ
      after-differ h = moved Differ (begins-differ call (take place journal) e other mine how_long begin read-about h)

      module _ (p : ℕ) (first : Entry K) (at : first ≡ get_or journal p first)
          (h : AreBegins call (take place journal) (Like p)) where
        pub after-alike : IsBeginWith mine how_long first.event
            → AreBegins call (take (place + 1) journal) (Like p)
        after-alike like =
            moved (Like p) (begins-alike call (take place journal) e other mine how_long begin read-about p first (earlier p first (like-within p h) at) h like)

        pub after-unlike : (IsBeginWith mine how_long first.event → ⊥)
            → AreBegins call (take (place + 1) journal) Differ
        after-unlike unlike =
            moved Differ (begins-unlike call (take place journal) e other mine how_long begin read-about p first (earlier p first (like-within p h) at) h unlike)

-- notes after one was put in
module _ (call : CallId) (note : CallNote) (old new : CallId → Option CallNote)
    (changed : (q : CallId) → new q ≡ cond (same_call call q) (Some note) (old q)) where
  pub kept-more : (q : CallId) → IsSome (old q) → IsSome (new q)
  kept-more q h = by_call (same_call call q) refl
    where
      by_call : (b : Bool) → same_call call q ≡ b → IsSome (new q)
      by_call true s = let P : Option CallNote → Type 0 = λ o. IsSome o in subst P (sym (changed q ∙ ap (λ b. cond b (Some note) (old q)) s)) refl
      by_call false s = let P : Option CallNote → Type 0 = λ o. IsSome o in subst P (sym (changed q ∙ ap (λ b. cond b (Some note) (old q)) s)) h

  pub there-now : IsSome (new call)
  there-now = let P : Option CallNote → Type 0 = λ o. IsSome o in subst P (sym (changed call ∙ ap (λ b. cond b (Some note) (old call)) (same_call-refl call))) refl

  pub blank-more : note ≡ blank_note → ((q : CallId) → IfSome (old q) (λ n. n ≡ blank_note)) → (q : CallId)
      → IfSome (new q) (λ n. n ≡ blank_note)
  blank-more blank had q = by_call (same_call call q) refl
    where
      P : Option CallNote → Type 0
      P o = IfSome o (λ n. n ≡ blank_note)

      by_call : (b : Bool) → same_call call q ≡ b → P (new q)
      by_call true s = subst P (sym (changed q ∙ ap (λ b. cond b (Some note) (old q)) s)) blank
      by_call false s = subst P (sym (changed q ∙ ap (λ b. cond b (Some note) (old q)) s)) (had q)

  pub has-more : (answers : List Answer) (i : ℕ) (a : Answer) → i < length answers → a ≡ get_or answers i a
      → a.call ≡ call → All (λ x. IsSome (old x.call)) (take i answers)
      → All (λ x. IsSome (new x.call)) (take (i + 1) answers)
  has-more answers i a below is own had =
      let here : IsSome (new a.call) = subst (λ (c : CallId). IsSome (new c)) (sym own) there-now in
      let P : List Answer → Type 0 = λ l. All (λ x. IsSome (new x.call)) l in
      subst P (sym (read-more answers i a below is))
      (All-push (λ (x : Answer). IsSome (new x.call)) (take i answers) a
      (All-weaker (λ (x : Answer). IsSome (old x.call)) (λ (x : Answer). IsSome (new x.call)) (λ x. kept-more x.call) (take i answers) had) here)

-- the value of a note that is there
pub noted-there : (o : Option CallNote) (note : CallNote) (P : CallNote → Type 0) → o ≡ Some note → IfSome o P
    → P note
noted-there o note P e h = let Q : Option CallNote → Type 0 = λ x. IfSome x P in subst Q e h

-- what follows where a call can't have failed
pub since-ok : {T E : Type 0} (r : Result T E) (P Q : Type 0) → OnOk r P → OnErr r Q → (Q → ⊥) → P
since-ok (Ok x) P Q p q n = p
since-ok (Err e) P Q p q n = absurd (n q)

pub none-other : {X : Type 0} (o : Option X) → ((x : X) → o ≡ Some x → ⊥) → o ≡ None
none-other None other = refl
none-other (Some x) other = absurd (other x refl)

-- what is the same fact is decided alike
pub decides-same : (b : Bool) (A B : Type 0) → (A → B) → (B → A) → MatchBool b B (B → ⊥)
    → MatchBool b A (A → ⊥)
decides-same true A B to from h = from h
decides-same false A B to from h = λ a. h (to a)

-- the begins of a call that has one
pub like-first : {K : Type 0} (call : CallId) (journal : List (Entry K)) (p : ℕ)
    → AreBegins call journal (Like p) → (d : Entry K) → (head : Head) (expires_in : Option Duration)
    → AreBeginsWith call journal head expires_in ↔ IsBeginWith head expires_in (get_or journal p d).event
like-first {K} call journal p h d head expires_in =
    let Same : Entry K → Type 0 = λ x. (head : Head) (expires_in : Option Duration) → AreBeginsWith call journal head expires_in ↔ IsBeginWith head expires_in x.event in
    let f = open-some (slice_get journal p) Same h in
    let same : Same (get_or journal p d) = subst Same (sym (get_or_from_slice_get journal p f.0 d f.1)) f.2 in
    same head expires_in
