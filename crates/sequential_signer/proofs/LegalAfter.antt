-- Legal transcripts of any kind of entry: piece by piece and in one piece, at most one for a choice of
-- allocation failures, and
-- one without any.
use Rattle.std.proofs.Common.{◌≡◌, Bool, true, false, List, [], ◌∷◌, ◌++◌, refl, sym, ◌∙◌, ap, subst, ◌⊎◌, inl, inr, map, fold}
use Rattle.std.proofs.lemmas.List.{append-nil, append_assoc, map-append}
use Rattle.sequential_signer.specs.Legal.{AreLegalAfter}

module _ {E : Type 0} (committed : List E → List E) (legal : List E → E → Type 0) where
  -- one more legal entry at the end
  pub legal_after-more : (before entries : List E) (e : E) → AreLegalAfter committed legal before entries
      → legal (committed (before ++ entries)) e → AreLegalAfter committed legal before (entries ++ e ∷ [])
  legal_after-more before [] e l h = (subst (λ b. legal (committed b) e) (append-nil before) h, tt)
  legal_after-more before (x ∷ rest) e l h =
      (l.0, legal_after-more (before ++ x ∷ []) rest e l.1 (subst (λ b. legal (committed b) e) (sym (append_assoc before (x ∷ []) rest)) h))

  -- what is legal in one piece is legal piece by piece
  pub legal_split : (before xs ys : List E) → AreLegalAfter committed legal before (xs ++ ys)
      → AreLegalAfter committed legal before xs × AreLegalAfter committed legal (before ++ xs) ys
  legal_split before [] ys l = (tt, subst (λ v. AreLegalAfter committed legal v ys) (sym (append-nil before)) l)
  legal_split before (x ∷ xs) ys l =
      let parts = legal_split (before ++ x ∷ []) xs ys l.1 in
      ((l.0, parts.0), subst (λ v. AreLegalAfter committed legal v ys) (append_assoc before (x ∷ []) xs) parts.1)

  -- what stays with each legal entry stays with all of them
  module _ (P : List E → Type 0)
      (keeps : (before : List E) (e : E) → P (committed before) → legal (committed before) e
      → P (committed (before ++ e ∷ []))) where
    pub legal_after-keeps : (before entries : List E) → P (committed before)
        → AreLegalAfter committed legal before entries → P (committed (before ++ entries))
    legal_after-keeps before [] p l = rw (append-nil before) p
    legal_after-keeps before (e ∷ rest) p l = rw (sym (append_assoc before (e ∷ []) rest)) (legal_after-keeps (before ++ e ∷ []) rest (keeps before e p l.0) l.1)

-- an event that runs out of memory in both or in neither has one legal reply
pub legal_reply-same : {R : Type 0} (lost : R → Bool) (expected out : R) (allocates : Type 0)
    → lost expected ≡ false → lost out ≡ true → (r s : R) → lost r ≡ lost s
    → (r ≡ expected) ⊎ ((r ≡ out) × allocates) → (s ≡ expected) ⊎ ((s ≡ out) × allocates) → r ≡ s
legal_reply-same lost expected out allocates in_memory gone r s same (inl d) (inl e) = d ∙ sym e
legal_reply-same lost expected out allocates in_memory gone r s same (inr d) (inr e) = d.0 ∙ sym e.0
legal_reply-same lost expected out allocates in_memory gone r s same (inl d) (inr e) =
    let kept : lost r ≡ false = ap lost d ∙ in_memory in
    let failed : lost s ≡ true = ap lost e.0 ∙ gone in
    cc
legal_reply-same lost expected out allocates in_memory gone r s same (inr d) (inl e) =
    let kept : lost s ≡ false = ap lost e ∙ in_memory in
    let failed : lost r ≡ true = ap lost d.0 ∙ gone in
    cc

first_same : {X : Type 0} (x y : X) (xs ys : List X) → x ∷ xs ≡ y ∷ ys → x ≡ y
first_same x y xs ys h = cc

rest_same : {X : Type 0} (x y : X) (xs ys : List X) → x ∷ xs ≡ y ∷ ys → xs ≡ ys
rest_same x y xs ys h = cc

module _ {E V : Type 0} (committed : List E → List E) (legal : List E → E → Type 0) (event : E → V) where
  -- where an event that runs out of memory in both or in neither has one legal entry, there is one legal
  -- transcript
  pub legal_after-same : (lost : E → Bool)
      → ((before : List E) (a b : E) → event a ≡ event b → lost a ≡ lost b → legal before a → legal before b
      → a ≡ b)
      → (before a b : List E) → AreLegalAfter committed legal before a
      → AreLegalAfter committed legal before b → map event a ≡ map event b → map lost a ≡ map lost b → a ≡ b
  legal_after-same lost one before [] [] l m e o = refl
  legal_after-same lost one before [] (y ∷ ys) l m e o = absurd (cc)
  legal_after-same lost one before (x ∷ xs) [] l m e o = absurd (cc)
  legal_after-same lost one before (x ∷ xs) (y ∷ ys) l m e o =
      let first : x ≡ y = one (committed before) x y (first_same (event x) (event y) (map event xs) (map event ys) e) (first_same (lost x) (lost y) (map lost xs) (map lost ys) o) l.0 m.0 in
      let later : AreLegalAfter committed legal (before ++ y ∷ []) xs = subst (λ (v : E). AreLegalAfter committed legal (before ++ v ∷ []) xs) first l.1 in
      let rest : xs ≡ ys = legal_after-same lost one (before ++ y ∷ []) xs ys later m.1 (rest_same (event x) (event y) (map event xs) (map event ys) e) (rest_same (lost x) (lost y) (map lost xs) (map lost ys) o) in
      ap (λ (v : E). v ∷ xs) first ∙ ap (λ (v : List E). y ∷ v) rest

  module _ (entry_for : List E → V → E) where
    -- one more event, with its entry
    abbrev pub with_next : List E → V → List E
    with_next entries v = entries ++ entry_for entries v ∷ []

    -- each entry is of its event, is legal after those before it, and is committed
    pub record IsNext : Type 0 where
      pub none : committed [] ≡ []
      pub kept : (before entries : List E) (v : V)
          → committed (before ++ entry_for entries v ∷ []) ≡ committed before ++ entry_for entries v ∷ []
      pub of_event : (entries : List E) (v : V) → event (entry_for entries v) ≡ v
      pub is_legal : (entries : List E) (v : V) → legal entries (entry_for entries v)

    events_from : IsNext → (events : List V) (entries : List E)
        → map event (fold with_next entries events) ≡ map event entries ++ events
    events_from next [] entries = sym (append-nil (map event entries))
    events_from next (v ∷ rest) entries =
        events_from next rest (with_next entries v)
        ∙ ap (λ (x : List V). x ++ rest) (map-append event entries (entry_for entries v ∷ []) ∙ ap (λ (x : V). map event entries ++ x ∷ []) (next.of_event entries v))
        ∙ append_assoc (map event entries) (v ∷ []) rest

    legal_from : IsNext → (events : List V) (entries : List E)
        → (committed entries ≡ entries) × AreLegalAfter committed legal [] entries
        → (committed (fold with_next entries events) ≡ fold with_next entries events)
        × AreLegalAfter committed legal [] (fold with_next entries events)
    legal_from next [] entries h = h
    legal_from next (v ∷ rest) entries h =
        legal_from next rest (with_next entries v) (
          next.kept entries entries v ∙ ap (λ (x : List E). x ++ entry_for entries v ∷ []) h.0,
          legal_after-more committed legal [] entries (entry_for entries v) h.1 (subst (λ (x : List E). legal x (entry_for entries v)) (sym h.0) (next.is_legal entries v)),
        )

    -- so the events one after another are a legal transcript of these events, and all its entries are
    -- committed
    pub next_entries-legal : IsNext → (events : List V)
        → AreLegalAfter committed legal [] (fold with_next [] events)
        × (map event (fold with_next [] events) ≡ events)
        × (committed (fold with_next [] events) ≡ fold with_next [] events)
    next_entries-legal next events = let all = legal_from next events [] (next.none, tt) in (all.1, events_from next events [], all.0)
