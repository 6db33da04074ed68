-- The grammar of claims is decided: a text reads as the one claim that it spells. What is printed of a reply
-- is such a text.
use Rattle.std.proofs.Common.{◌≡◌, ℕ, true, false, List, [], ◌∷◌, Some, refl, sym, ap, subst, ◌∙◌, inl, inr}
use Rattle.std.specs.Prelude.{codes, ◌↔◌}
use Rattle.std.specs.Str.{bytes_eq}
use Rattle.std.proofs.lemmas.Bool.{cases_Bool, false≢true}
use Rattle.std.proofs.lemmas.Slice.Eq.{bytes_eq-Decides}
use Rattle.sequential_signer.specs.declared.event.Reply.{Reply}
use Rattle.sequential_signer.specs.declared.event.Reply.TheVariants as reply
use Rattle.sequential_signer.specs.declared.event.Why.TheVariants as why
use Rattle.line_words.specs.Words.{words}
use Rattle.line_words.proofs.ReadingSteps.{same_word, some_is, chosen, passed_test}
use Rattle.line_words.proofs.SameLines.{same_line}
use Rattle.signctl_format.specs.declared.credential.ScriptCredential.{ScriptCredential}
use Rattle.signctl_format.specs.Lines.{reply_line}
use Rattle.signctl_format.proofs.Forms.{Has}
use Rattle.signctl_audit.specs.ClaimedLines.{shown, claimed_line, SpellsReply}
use Rattle.signctl_audit.specs.ClaimReading.{cache_claim, handle_claim, ask_claim, sign_claim, refused_claim, done_claim, cancelled_claim, claim_form, claim_words_say, claim_of}
use Rattle.signctl_audit.specs.declared.claimed_reply.ClaimedReply.{ClaimedReply}
use Rattle.signctl_audit.specs.declared.claimed_reply.ClaimedReply.TheVariants.{Cache, Handle, Begun, Pending, NotNow, OutOfMemory, Ask, Sign, Refused, Done, Cancelled}
use Rattle.signctl_audit.proofs.ClaimForms.{cache_claim-words, cache_claim-some, handle_claim-words, handle_claim-some, ask_claim-words, ask_claim-some, sign_claim-words, sign_claim-some, refused_claim-words, refused_claim-some, done_claim-words, done_claim-some, cancelled_claim-words, cancelled_claim-some}

-- ---- what reads as a claim spells it

-- a text that begins with this word has it for its name
named : (text name other : List ℕ) (ws : List (List ℕ)) → Has text name ws → bytes_eq name other ≡ true
    → Has text other ws
named text name other ws has e = has ∙ ap (λ (w : List ℕ). w ∷ ws) (same_word name other e)

claim_form-some : (text name : List ℕ) (ws : List (List ℕ)) (claimed : ClaimedReply) → Has text name ws
    → claim_form name ws ≡ Some claimed → SpellsReply text claimed
unfolding claim_form
claim_form-some text name ws claimed has e = elim (chosen (bytes_eq name (codes "cache")) (cache_claim ws) _ (Some claimed) e) [
  | inl a ↦ cache_claim-some text ws claimed (named text name (codes "cache") ws has a.0) a.1
  | inr a ↦ elim (chosen (bytes_eq name (codes "handle")) (handle_claim ws) _ (Some claimed) a.1) [
    | inl b ↦ handle_claim-some text ws claimed (named text name (codes "handle") ws has b.0) b.1
    | inr b ↦ elim (chosen (bytes_eq name (codes "ask")) (ask_claim ws) _ (Some claimed) b.1) [
      | inl c ↦ ask_claim-some text ws claimed (named text name (codes "ask") ws has c.0) c.1
      | inr c ↦ elim (chosen (bytes_eq name (codes "sign")) (sign_claim ws) _ (Some claimed) c.1) [
        | inl d ↦ sign_claim-some text ws claimed (named text name (codes "sign") ws has d.0) d.1
        | inr d ↦ elim (chosen (bytes_eq name (codes "refused")) (refused_claim ws) _ (Some claimed) d.1) [
          | inl f ↦ refused_claim-some text ws claimed (named text name (codes "refused") ws has f.0) f.1
          | inr f ↦ elim (chosen (bytes_eq name (codes "done")) (done_claim ws) _ (Some claimed) f.1) [
            | inl g ↦ done_claim-some text ws claimed (named text name (codes "done") ws has g.0) g.1
            | inr g ↦
                let h = passed_test (bytes_eq name (codes "cancelled")) (cancelled_claim ws) claimed g.1 in
                cancelled_claim-some text ws claimed (named text name (codes "cancelled") ws has h.0) h.1
          ]
        ]
      ]
    ]
  ]
]

claim_words_say-some : (text : List ℕ) (ws : List (List ℕ)) (claimed : ClaimedReply) → words text ≡ ws
    → claim_words_say ws ≡ Some claimed → SpellsReply text claimed
unfolding claim_words_say
claim_words_say-some text [] claimed parted e = absurd cc
claim_words_say-some text (name ∷ ws) claimed parted e = claim_form-some text name ws claimed parted e

-- a text that is this one, whose claim is known
fixed : (text line : List ℕ) (known claimed : ClaimedReply) → bytes_eq text line ≡ true
    → Some known ≡ Some claimed → SpellsReply line known → SpellsReply text claimed
fixed text line known claimed same e spells =
    subst (λ (t : List ℕ). SpellsReply t claimed) (sym (same_word text line same))
    (subst (λ (c : ClaimedReply). SpellsReply line c) (some_is known claimed e) spells)

-- a text that reads as a claim spells it
pub claim_of-some : (text : List ℕ) (claimed : ClaimedReply) → claim_of text ≡ Some claimed
    → SpellsReply text claimed
unfolding claim_of
claim_of-some text claimed e = elim (chosen (bytes_eq text (codes "begun")) (Some Begun) _ (Some claimed) e) [
  | inl a ↦ fixed text (codes "begun") Begun claimed a.0 a.1 (tt, refl)
  | inr a ↦ elim (chosen (bytes_eq text (codes "pending")) (Some Pending) _ (Some claimed) a.1) [
    | inl b ↦ fixed text (codes "pending") Pending claimed b.0 b.1 (tt, refl)
    | inr b ↦ elim (chosen (bytes_eq text (codes "not now")) (Some NotNow) _ (Some claimed) b.1) [
      | inl c ↦ fixed text (codes "not now") NotNow claimed c.0 c.1 (tt, refl)
      | inr c ↦ elim (chosen (bytes_eq text (codes "out of memory")) (Some OutOfMemory) _ (Some claimed) c.1) [
        | inl d ↦ fixed text (codes "out of memory") OutOfMemory claimed d.0 d.1 (tt, refl)
        | inr d ↦ claim_words_say-some text (words text) claimed refl d.1
      ]
    ]
  ]
]

-- ---- what spells a claim reads as it

-- texts whose first words differ are not the same
first_differs : (text other name first : List ℕ) (ws more : List (List ℕ)) → Has text name ws
    → Has other first more → bytes_eq name first ≡ false → bytes_eq text other ≡ false
first_differs text other name first ws more has there differs = elim (cases_Bool (bytes_eq text other)) [
  | inl same ↦
      let parted : name ∷ ws ≡ first ∷ more = sym has ∙ ap words (same_word text other same) ∙ there in
      let alike : name ≡ first = cc (parted) in
      absurd (false≢true (sym differs ∙ (bytes_eq-Decides name first).1 alike))
  | inr apart ↦ apart
]

-- a text with another name than those that stand alone is read by its name
by_name : (text name : List ℕ) (ws : List (List ℕ)) (claimed : ClaimedReply) → Has text name ws
    → bytes_eq name (codes "begun") ≡ false → bytes_eq name (codes "pending") ≡ false
    → bytes_eq name (codes "not") ≡ false → bytes_eq name (codes "out") ≡ false
    → claim_form name ws ≡ Some claimed → claim_of text ≡ Some claimed
unfolding claim_of claim_words_say
by_name text name ws claimed has begun pending not_now out e =
    rw (
      first_differs text (codes "begun") name (codes "begun") ws [] has refl begun,
      first_differs text (codes "pending") name (codes "pending") ws [] has refl pending,
      first_differs text (codes "not now") name (codes "not") ws (codes "now" ∷ []) has refl not_now,
      first_differs text (codes "out of memory") name (codes "out") ws (codes "of" ∷ codes "memory" ∷ []) has refl out,
      has,
    ) e

-- a text with the words of one that is known is that one
alone : (text line : List ℕ) (claimed : ClaimedReply) (ws : List (List ℕ)) → words text ≡ ws → words line ≡ ws
    → claim_of line ≡ Some claimed → claim_of text ≡ Some claimed
alone text line claimed ws parted known e = subst (λ (t : List ℕ). claim_of t ≡ Some claimed) (sym (same_line text line ws parted known)) e

-- a text that spells a claim reads as it
pub claim_of-spelled : (text : List ℕ) (claimed : ClaimedReply) → SpellsReply text claimed
    → claim_of text ≡ Some claimed
unfolding claim_of claim_form
claim_of-spelled text Begun spelled = alone text (codes "begun") Begun _ spelled.1 refl refl
claim_of-spelled text Pending spelled = alone text (codes "pending") Pending _ spelled.1 refl refl
claim_of-spelled text NotNow spelled = alone text (codes "not now") NotNow _ spelled.1 refl refl
claim_of-spelled text OutOfMemory spelled = alone text (codes "out of memory") OutOfMemory _ spelled.1 refl refl
claim_of-spelled text (Cache n) spelled = by_name text (codes "cache") _ (Cache n) spelled.1 refl refl refl refl (cache_claim-words n spelled.0)
claim_of-spelled text (Handle n) spelled = by_name text (codes "handle") _ (Handle n) spelled.1 refl refl refl refl (handle_claim-words n spelled.0)
claim_of-spelled text (Ask n) spelled = by_name text (codes "ask") _ (Ask n) spelled.1 refl refl refl refl (ask_claim-words n spelled.0)
claim_of-spelled text (Sign n wake) spelled = by_name text (codes "sign") _ (Sign n wake) spelled.1 refl refl refl refl (sign_claim-words n wake spelled.0.0 spelled.0.1)
claim_of-spelled text (Refused cause wake) spelled = by_name text (codes "refused") _ (Refused cause wake) spelled.1 refl refl refl refl (refused_claim-words cause wake spelled.0.0 spelled.0.1)
claim_of-spelled text (Done head) spelled = by_name text (codes "done") _ (Done head) spelled.1 refl refl refl refl (done_claim-words head spelled.0)
claim_of-spelled text (Cancelled wake) spelled = by_name text (codes "cancelled") _ (Cancelled wake) spelled.1 refl refl refl refl (cancelled_claim-words wake spelled.0)

-- ---- the laws

-- the grammar is decided
pub decided : (text : List ℕ) (claimed : ClaimedReply)
    → SpellsReply text claimed ↔ (claim_of text ≡ Some claimed)
decided text claimed = (claim_of-spelled text claimed, claim_of-some text claimed)

-- a text spells at most one claim
pub one_claim : (text : List ℕ) (a b : ClaimedReply) → SpellsReply text a → SpellsReply text b → a ≡ b
one_claim text a b first second = some_is a b (sym (claim_of-spelled text a first) ∙ claim_of-spelled text b second)

-- a claim has at most one spelling
pub one_spelling : (claimed : ClaimedReply) (a b : List ℕ) → SpellsReply a claimed → SpellsReply b claimed
    → a ≡ b
one_spelling claimed a b first second = same_line a b _ first.1 second.1

-- what is printed of a reply is the line of the claim that it shows
pub printed : (answer : Reply ScriptCredential) → reply_line answer ≡ claimed_line (shown answer)
printed reply.Begun = refl
printed reply.Pending = refl
printed reply.NotNow = refl
printed reply.OutOfMemory = refl
printed (reply.Ask provider) = refl
printed (reply.Sign credential wake) = refl
printed (reply.Refused why.Missing wake) = refl
printed (reply.Refused (why.Short deadline) wake) = refl
printed (reply.Refused why.Range wake) = refl
printed (reply.Refused (why.Loader error) wake) = refl
printed (reply.Refused (why.Service error) wake) = refl
printed (reply.Done head) = refl
printed (reply.Cancelled wake) = refl
