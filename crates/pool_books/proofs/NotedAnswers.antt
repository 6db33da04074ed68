-- How answers are judged by the notes of their calls.
use Rattle.std.proofs.Common.{◌≡◌, ◌≢◌, ℕ, ◌<◌, ◌+◌, ◌-◌, List, Option, Some, None, length, get_or, drop, refl, sym, ◌∙◌, ap, subst, arith, ◌⊎◌, ⊎_elim}
use Rattle.std.specs.Prelude.{MatchOption, IsSomeAnd, slice_get}
use Rattle.std.proofs.lemmas.List.{length-drop, get_or-drop}
use Rattle.std.proofs.lemmas.Option.{slice_get_within, get_or_from_slice_get}
use Rattle.sign_base.specs.declared.call_id.CallId.{CallId}
use Rattle.sequential_signer.specs.Transcript.{call_of}
use Rattle.sequential_signer.specs.declared.event.Entry.{Entry}
use Rattle.signer_book.specs.Settled.{IsEntryOf}
use Rattle.signer_book.specs.declared.pass.Receipt.{Receipt}
use Rattle.pool_books.specs.Notes.{IsNoteOf}
use Rattle.pool_books.specs.TrueAnswers.{HasNoneOf, IsLastOf, IsReadFrom, IsReadOff, IsTrueAnswer}
use Rattle.pool_books.specs.declared.answer.Answer.{Answer}
use Rattle.pool_books.specs.declared.answer.Outcome.TheVariants.{OutOfMemory}
use Rattle.pool_books.specs.declared.notes.CallNote.{CallNote}
use Rattle.pool_books.proofs.CallNotes.{open-some}

module _ {K : Type 0} where
  none-and-some : (call : CallId) (journal : List (Entry K)) (p : ℕ) → HasNoneOf call journal
      → IsLastOf call journal p → ⊥
  none-and-some call journal p none last =
      let f = open-some (slice_get journal p) (λ e. call_of e.event ≡ call) last.about in
      let here : get_or journal p f.0 ≡ f.0 = get_or_from_slice_get journal p f.0 f.0 f.1 in
      none p f.0 (slice_get_within journal p f.0 f.1) (ap (λ (e : Entry K). call_of e.event) here ∙ f.2)

  later-entry : (call : CallId) (journal : List (Entry K)) (p q : ℕ) → p < q → IsLastOf call journal p
      → IsLastOf call journal q → ⊥
  later-entry call journal p q before first second =
      let f = open-some (slice_get journal q) (λ e. call_of e.event ≡ call) second.about in
      let here : get_or journal q f.0 ≡ f.0 = get_or_from_slice_get journal q f.0 f.0 f.1 in
      let within : q < length journal = slice_get_within journal q f.0 f.1 in
      let k : ℕ = q - (p + 1) in
      let same : p + 1 + k ≡ q = omega (arith, before) in
      let moved : get_or (drop (p + 1) journal) k f.0 ≡ f.0 = get_or-drop (p + 1) journal k f.0 ∙ ap (λ n. get_or journal n f.0) same ∙ here in
      first.last k f.0 (simp length-drop (omega (arith, before, within))) (ap (λ (e : Entry K). call_of e.event) moved ∙ f.2)

  one-last : (call : CallId) (journal : List (Entry K)) (p q : ℕ) → IsLastOf call journal p
      → IsLastOf call journal q → p ≡ q
  one-last call journal p q a b =
      ⊎_elim (λ lt. absurd (later-entry call journal p q lt a b)) (λ rest. ⊎_elim (λ gt. absurd (later-entry call journal q p gt b a)) (λ eq. eq) rest) (sides p q)
    where
      sides : (m n : ℕ) → (m < n) ⊎ ((n < m) ⊎ (m ≡ n))
      sides m n = grind arith

  module _ (journal : List (Entry K)) (pass : List (Receipt K)) (answer : Answer) (note : CallNote)
      (noted : IsNoteOf journal answer.call note) where
    -- a call without a last entry
    pub none-noted : note.last ≡ None → HasNoneOf answer.call journal
    none-noted e = let P : Option ℕ → Type 0 = λ o. MatchOption o (HasNoneOf answer.call journal) (IsLastOf answer.call journal) in subst P e noted.last

    pub last-noted : (p : ℕ) → note.last ≡ Some p → IsLastOf answer.call journal p
    last-noted p e = let P : Option ℕ → Type 0 = λ o. MatchOption o (HasNoneOf answer.call journal) (IsLastOf answer.call journal) in subst P e noted.last

    -- the noted place is that of the last entry
    noted-is : (p : ℕ) → IsLastOf answer.call journal p → note.last ≡ Some p
    noted-is p last = by_last note.last refl
      where
        by_last : (o : Option ℕ) → note.last ≡ o → o ≡ Some p
        by_last None e = absurd (none-and-some answer.call journal p (none-noted e) last)
        by_last (Some q) e = ap Some (one-last answer.call journal q p (last-noted q e) last)

    abbrev As : Option ℕ → Type 0
    As last = MatchOption last (HasNoneOf answer.call journal × IsReadFrom {K = K} None answer.outcome) (λ at. IsSomeAnd (slice_get pass at) (IsReadOff journal answer))

    -- an answer without a receipt
    pub true-none : answer.last ≡ None → note.last ≡ None → answer.outcome ≡ OutOfMemory
        → IsTrueAnswer journal pass answer
    true-none e n o = subst As (sym e) (none-noted n, o)

    pub false-noted : answer.last ≡ None → (p : ℕ) → note.last ≡ Some p → IsTrueAnswer journal pass answer → ⊥
    false-noted e p n t = none-and-some answer.call journal p (subst As e t).0 (last-noted p n)

    -- an answer with a receipt
    module _ (at : ℕ) (e : answer.last ≡ Some at) where
      pub false-past : slice_get pass at ≡ None → IsTrueAnswer journal pass answer → ⊥
      false-past n t = let P : Option (Receipt K) → Type 0 = λ o. IsSomeAnd o (IsReadOff journal answer) in subst P n (subst As e t)

      module _ (r : Receipt K) (there : slice_get pass at ≡ Some r) where
        pub read-off : IsTrueAnswer journal pass answer → IsReadOff journal answer r
        read-off t = let P : Option (Receipt K) → Type 0 = λ o. IsSomeAnd o (IsReadOff journal answer) in subst P there (subst As e t)

        pub true-some : IsEntryOf journal r → note.last ≡ Some r.place
            → IsReadFrom (Some r.entry.reply) answer.outcome → IsTrueAnswer journal pass answer
        true-some entry n o =
            let P : Option (Receipt K) → Type 0 = λ x. IsSomeAnd x (IsReadOff journal answer) in
            subst As (sym e) (subst P (sym there) (record { entry = entry; last = last-noted r.place n; outcome = o }))

        pub false-last : note.last ≢ Some r.place → IsTrueAnswer journal pass answer → ⊥
        false-last n t = n (noted-is r.place (read-off t).last)

        pub false-read : (IsReadFrom (Some r.entry.reply) answer.outcome → ⊥)
            → IsTrueAnswer journal pass answer → ⊥
        false-read o t = o (read-off t).outcome
