-- Each form of a claim: what spells it reads as it, and what reads as it spells it.
use Rattle.std.proofs.Common.{◌≡◌, ◌≤◌, ℕ, true, List, [], ◌∷◌, ◌++◌, Option, Some, None, refl, ap, subst, ◌∙◌, inl, inr, arith}
use Rattle.std.specs.Prelude.{codes}
use Rattle.std.specs.Str.{bytes_eq}
use Rattle.std.specs.Fmt.{decimal}
use Rattle.sign_base.specs.declared.head.Head.{Head}
use Rattle.sign_base.specs.declared.call_id.CallId.{CallId}
use Rattle.line_words.specs.Words.{greatest_u32, greatest_u64}
use Rattle.line_words.specs.Heads.{head_words, IsLineHead, head_in}
use Rattle.line_words.specs.Steps.{◌>>=◌, at_end_of_line, number_at}
use Rattle.line_words.proofs.ReadingSteps.{same_word, some_is, chosen, passed_test, bind_some, ended_some}
use Rattle.line_words.proofs.Headers.{head_in-words, head_in-some}
use Rattle.line_words.proofs.Places.{number_at-decimal, number_at-some}
use Rattle.signctl_format.specs.Lines.{wake_words}
use Rattle.signctl_format.specs.Reading.{call_at}
use Rattle.signctl_format.proofs.Calls.{call_at-words, call_at-some}
use Rattle.signctl_format.proofs.Forms.{Has}
use Rattle.signctl_audit.specs.ClaimedLines.{claimed_why_words, IsLineWake, IsLineWhy, SpellsReply}
use Rattle.signctl_audit.specs.ClaimReading.{woken_in, wake_in, loader_at, service_at, why_at, cache_claim, handle_claim, ask_claim, sign_claim, refused_claim, done_claim, cancelled_claim}
use Rattle.signctl_audit.specs.declared.claimed_reply.ClaimedReply.{ClaimedReply}
use Rattle.signctl_audit.specs.declared.claimed_reply.ClaimedReply.TheVariants.{Cache, Handle, Ask, Sign, Refused, Done, Cancelled}
use Rattle.signctl_audit.specs.declared.claimed_reply.ClaimedWhy.{ClaimedWhy}
use Rattle.signctl_audit.specs.declared.claimed_reply.ClaimedWhy.TheVariants.{Missing, Short, Range, Loader, Service}

-- ---- a call to wake

-- the words of a call to wake read as it
pub wake_in-words : (wake : Option CallId) → IsLineWake wake → wake_in (wake_words wake) ≡ Some wake
unfolding wake_in woken_in
wake_in-words None fits = refl
wake_in-words (Some call) fits = rw (call_at-words call [] fits) refl

-- the words are those of this call to wake, which a line may name
abbrev SpellsWake : List (List ℕ) → Option CallId → Type 0
SpellsWake ws wake = (ws ≡ wake_words wake) × IsLineWake wake

woken_in-some : (ws : List (List ℕ)) (wake : Option CallId) → woken_in ws ≡ Some wake
    → SpellsWake (codes "wake" ∷ ws) wake
unfolding woken_in
woken_in-some ws wake e =
    let c = bind_some (call_at ws) (λ (c : CallId × List (List ℕ)). at_end_of_line (Some c.0) c.1) wake e in
    let last = ended_some (Some c.0.0) wake c.0.1 c.2 in
    let call = call_at-some ws c.0 c.1 in
    subst (λ (w : Option CallId). SpellsWake (codes "wake" ∷ ws) w) {x = Some c.0.0} last.0 (cc (call.0, last.1), call.1)

-- words that read as a call to wake are its words
pub wake_in-some : (ws : List (List ℕ)) (wake : Option CallId) → wake_in ws ≡ Some wake → SpellsWake ws wake
unfolding wake_in
wake_in-some [] wake e = subst (λ (w : Option CallId). SpellsWake [] w) {x = None} (some_is None wake e) (refl, tt)
wake_in-some (word ∷ rest) wake e =
    let p = passed_test (bytes_eq word (codes "wake")) (woken_in rest) wake e in
    let woken = woken_in-some rest wake p.1 in
    (ap (λ (w : List ℕ). w ∷ rest) (same_word word (codes "wake") p.0) ∙ woken.0, woken.1)

-- ---- a cause

-- the words of a cause read as it, with the words after it
pub why_at-words : (cause : ClaimedWhy) (rest : List (List ℕ)) → IsLineWhy cause
    → why_at (claimed_why_words cause ++ rest) ≡ Some (cause, rest)
unfolding why_at loader_at service_at
why_at-words Missing rest fits = refl
why_at-words Short rest fits = refl
why_at-words Range rest fits = refl
why_at-words (Loader error) rest fits = rw (number_at-decimal greatest_u64 error rest fits (omega arith)) refl
why_at-words (Service error) rest fits = rw (number_at-decimal greatest_u64 error rest fits (omega arith)) refl

-- the words begin with this cause's, which a line may name
abbrev SpellsWhy : List (List ℕ) → ClaimedWhy → List (List ℕ) → Type 0
SpellsWhy ws cause rest = (ws ≡ claimed_why_words cause ++ rest) × IsLineWhy cause

loader_at-some : (ws : List (List ℕ)) (p : ClaimedWhy × List (List ℕ)) → loader_at ws ≡ Some p
    → SpellsWhy (codes "loader" ∷ ws) p.0 p.1
unfolding loader_at
loader_at-some ws p e =
    let n = bind_some (number_at greatest_u64 ws) (λ (n : ℕ × List (List ℕ)). Some (Loader n.0, n.1)) p e in
    let made : ClaimedWhy × List (List ℕ) = (Loader n.0.0, n.0.1) in
    let number = number_at-some greatest_u64 ws n.0 n.1 in
    subst (λ (q : ClaimedWhy × List (List ℕ)). SpellsWhy (codes "loader" ∷ ws) q.0 q.1) {x = made} (some_is made p n.2) (ap (λ (v : List (List ℕ)). codes "loader" ∷ v) number.0, number.1)

service_at-some : (ws : List (List ℕ)) (p : ClaimedWhy × List (List ℕ)) → service_at ws ≡ Some p
    → SpellsWhy (codes "service" ∷ ws) p.0 p.1
unfolding service_at
service_at-some ws p e =
    let n = bind_some (number_at greatest_u64 ws) (λ (n : ℕ × List (List ℕ)). Some (Service n.0, n.1)) p e in
    let made : ClaimedWhy × List (List ℕ) = (Service n.0.0, n.0.1) in
    let number = number_at-some greatest_u64 ws n.0 n.1 in
    subst (λ (q : ClaimedWhy × List (List ℕ)). SpellsWhy (codes "service" ∷ ws) q.0 q.1) {x = made} (some_is made p n.2) (ap (λ (v : List (List ℕ)). codes "service" ∷ v) number.0, number.1)

-- a word that begins a cause is this one
named : (kind name : List ℕ) (rest : List (List ℕ)) (p : ClaimedWhy × List (List ℕ))
    → bytes_eq kind name ≡ true → SpellsWhy (name ∷ rest) p.0 p.1 → SpellsWhy (kind ∷ rest) p.0 p.1
named kind name rest p e spells = (ap (λ (w : List ℕ). w ∷ rest) (same_word kind name e) ∙ spells.0, spells.1)

plain : (cause : ClaimedWhy) (name : List ℕ) (rest : List (List ℕ)) (p : ClaimedWhy × List (List ℕ))
    → Some (cause, rest) ≡ Some p → SpellsWhy (name ∷ rest) cause rest → SpellsWhy (name ∷ rest) p.0 p.1
plain cause name rest p e spells =
    let made : ClaimedWhy × List (List ℕ) = (cause, rest) in
    subst (λ (q : ClaimedWhy × List (List ℕ)). SpellsWhy (name ∷ rest) q.0 q.1) {x = made} (some_is made p e) spells

-- words that read as a cause and others begin with its words
pub why_at-some : (ws : List (List ℕ)) (p : ClaimedWhy × List (List ℕ)) → why_at ws ≡ Some p
    → SpellsWhy ws p.0 p.1
unfolding why_at
why_at-some [] p e = absurd cc
why_at-some (kind ∷ rest) p e = elim (chosen (bytes_eq kind (codes "missing")) (Some (Missing, rest)) _ (Some p) e) [
  | inl a ↦ named kind (codes "missing") rest p a.0 (plain Missing (codes "missing") rest p a.1 (refl, tt))
  | inr a ↦ elim (chosen (bytes_eq kind (codes "short")) (Some (Short, rest)) _ (Some p) a.1) [
    | inl b ↦ named kind (codes "short") rest p b.0 (plain Short (codes "short") rest p b.1 (refl, tt))
    | inr b ↦ elim (chosen (bytes_eq kind (codes "range")) (Some (Range, rest)) _ (Some p) b.1) [
      | inl c ↦ named kind (codes "range") rest p c.0 (plain Range (codes "range") rest p c.1 (refl, tt))
      | inr c ↦ elim (chosen (bytes_eq kind (codes "loader")) (loader_at rest) _ (Some p) c.1) [
        | inl d ↦ named kind (codes "loader") rest p d.0 (loader_at-some rest p d.1)
        | inr d ↦
            let f = passed_test (bytes_eq kind (codes "service")) (service_at rest) p d.1 in
            named kind (codes "service") rest p f.0 (service_at-some rest p f.1)
      ]
    ]
  ]
]

-- ---- numbers

-- the words after `cache`, `handle` and `ask` read as them
pub cache_claim-words : (number : ℕ) → number ≤ greatest_u32
    → cache_claim (decimal number ∷ []) ≡ Some (Cache number)
unfolding cache_claim
cache_claim-words number fits = rw (number_at-decimal greatest_u32 number [] fits (omega arith)) refl

pub handle_claim-words : (number : ℕ) → number ≤ greatest_u32
    → handle_claim (decimal number ∷ []) ≡ Some (Handle number)
unfolding handle_claim
handle_claim-words number fits = rw (number_at-decimal greatest_u32 number [] fits (omega arith)) refl

pub ask_claim-words : (provider : ℕ) → provider ≤ greatest_u32
    → ask_claim (decimal provider ∷ []) ≡ Some (Ask provider)
unfolding ask_claim
ask_claim-words provider fits = rw (number_at-decimal greatest_u32 provider [] fits (omega arith)) refl

-- a claim with such a name that reads as one spells it
pub cache_claim-some : (text : List ℕ) (ws : List (List ℕ)) (claimed : ClaimedReply)
    → Has text (codes "cache") ws → cache_claim ws ≡ Some claimed → SpellsReply text claimed
unfolding cache_claim
cache_claim-some text ws claimed has e =
    let n = bind_some (number_at greatest_u32 ws) (λ (n : ℕ × List (List ℕ)). at_end_of_line (Cache n.0) n.1) claimed e in
    let last = ended_some (Cache n.0.0) claimed n.0.1 n.2 in
    let number = number_at-some greatest_u32 ws n.0 n.1 in
    subst (λ (c : ClaimedReply). SpellsReply text c) {x = Cache n.0.0} last.0 (number.1, cc (has, number.0, last.1))

pub handle_claim-some : (text : List ℕ) (ws : List (List ℕ)) (claimed : ClaimedReply)
    → Has text (codes "handle") ws → handle_claim ws ≡ Some claimed → SpellsReply text claimed
unfolding handle_claim
handle_claim-some text ws claimed has e =
    let n = bind_some (number_at greatest_u32 ws) (λ (n : ℕ × List (List ℕ)). at_end_of_line (Handle n.0) n.1) claimed e in
    let last = ended_some (Handle n.0.0) claimed n.0.1 n.2 in
    let number = number_at-some greatest_u32 ws n.0 n.1 in
    subst (λ (c : ClaimedReply). SpellsReply text c) {x = Handle n.0.0} last.0 (number.1, cc (has, number.0, last.1))

pub ask_claim-some : (text : List ℕ) (ws : List (List ℕ)) (claimed : ClaimedReply) → Has text (codes "ask") ws
    → ask_claim ws ≡ Some claimed → SpellsReply text claimed
unfolding ask_claim
ask_claim-some text ws claimed has e =
    let n = bind_some (number_at greatest_u32 ws) (λ (n : ℕ × List (List ℕ)). at_end_of_line (Ask n.0) n.1) claimed e in
    let last = ended_some (Ask n.0.0) claimed n.0.1 n.2 in
    let number = number_at-some greatest_u32 ws n.0 n.1 in
    subst (λ (c : ClaimedReply). SpellsReply text c) {x = Ask n.0.0} last.0 (number.1, cc (has, number.0, last.1))

-- ---- the other forms

-- the words after `sign` read as it
pub sign_claim-words : (generation : ℕ) (wake : Option CallId) → generation ≤ greatest_u64 → IsLineWake wake
    → sign_claim (decimal generation ∷ wake_words wake) ≡ Some (Sign generation wake)
unfolding sign_claim
sign_claim-words generation wake fits is_wake = rw (number_at-decimal greatest_u64 generation (wake_words wake) fits (omega arith), wake_in-words wake is_wake) refl

-- a claim of `sign` that reads as one spells it
pub sign_claim-some : (text : List ℕ) (ws : List (List ℕ)) (claimed : ClaimedReply)
    → Has text (codes "sign") ws → sign_claim ws ≡ Some claimed → SpellsReply text claimed
unfolding sign_claim
sign_claim-some text ws claimed has e =
    let n = bind_some (number_at greatest_u64 ws) (λ (n : ℕ × List (List ℕ)). wake_in n.1 >>= λ (w : Option CallId). Some (Sign n.0 w)) claimed e in
    let w = bind_some (wake_in n.0.1) (λ (w : Option CallId). Some (Sign n.0.0 w)) claimed n.2 in
    let number = number_at-some greatest_u64 ws n.0 n.1 in
    let wake = wake_in-some n.0.1 w.0 w.1 in
    subst (λ (c : ClaimedReply). SpellsReply text c) {x = Sign n.0.0 w.0} (some_is (Sign n.0.0 w.0) claimed w.2) ((number.1, wake.1), cc (has, number.0, wake.0))

-- the words after `refused` read as it
pub refused_claim-words : (cause : ClaimedWhy) (wake : Option CallId) → IsLineWhy cause → IsLineWake wake
    → refused_claim (claimed_why_words cause ++ wake_words wake) ≡ Some (Refused cause wake)
unfolding refused_claim
refused_claim-words cause wake is_why is_wake = rw (why_at-words cause (wake_words wake) is_why, wake_in-words wake is_wake) refl

-- a claim of `refused` that reads as one spells it
pub refused_claim-some : (text : List ℕ) (ws : List (List ℕ)) (claimed : ClaimedReply)
    → Has text (codes "refused") ws → refused_claim ws ≡ Some claimed → SpellsReply text claimed
unfolding refused_claim
refused_claim-some text ws claimed has e =
    let y = bind_some (why_at ws) (λ (y : ClaimedWhy × List (List ℕ)). wake_in y.1 >>= λ (w : Option CallId). Some (Refused y.0 w)) claimed e in
    let w = bind_some (wake_in y.0.1) (λ (w : Option CallId). Some (Refused y.0.0 w)) claimed y.2 in
    let cause = why_at-some ws y.0 y.1 in
    let wake = wake_in-some y.0.1 w.0 w.1 in
    subst (λ (c : ClaimedReply). SpellsReply text c) {x = Refused y.0.0 w.0} (some_is (Refused y.0.0 w.0) claimed w.2) ((cause.1, wake.1), cc (has, cause.0, wake.0))

-- the words after `done` read as it
pub done_claim-words : (head : Head) → IsLineHead head → done_claim (head_words head) ≡ Some (Done head)
unfolding done_claim
done_claim-words head is_head = rw (head_in-words head is_head) refl

-- a claim of `done` that reads as one spells it
pub done_claim-some : (text : List ℕ) (ws : List (List ℕ)) (claimed : ClaimedReply)
    → Has text (codes "done") ws → done_claim ws ≡ Some claimed → SpellsReply text claimed
unfolding done_claim
done_claim-some text ws claimed has e =
    let h = bind_some (head_in ws) (λ (h : Head). Some (Done h)) claimed e in
    let head = head_in-some ws h.0 h.1 in
    subst (λ (c : ClaimedReply). SpellsReply text c) {x = Done h.0} (some_is (Done h.0) claimed h.2) (head.1, cc (has, head.0))

-- the words after `cancelled` read as it
pub cancelled_claim-words : (wake : Option CallId) → IsLineWake wake
    → cancelled_claim (wake_words wake) ≡ Some (Cancelled wake)
unfolding cancelled_claim
cancelled_claim-words wake is_wake = rw (wake_in-words wake is_wake) refl

-- a claim of `cancelled` that reads as one spells it
pub cancelled_claim-some : (text : List ℕ) (ws : List (List ℕ)) (claimed : ClaimedReply)
    → Has text (codes "cancelled") ws → cancelled_claim ws ≡ Some claimed → SpellsReply text claimed
unfolding cancelled_claim
cancelled_claim-some text ws claimed has e =
    let w = bind_some (wake_in ws) (λ (w : Option CallId). Some (Cancelled w)) claimed e in
    let wake = wake_in-some ws w.0 w.1 in
    subst (λ (c : ClaimedReply). SpellsReply text c) {x = Cancelled w.0} (some_is (Cancelled w.0) claimed w.2) (wake.1, cc (has, wake.0))
