-- Calls, credentials and rules: their words read as them, and what reads as one of them is its words.
use Rattle.std.proofs.Common.{◌≡◌, ℕ, cond, List, [], ◌∷◌, ◌++◌, Some, None, refl, ap, subst, ◌∙◌, inl, inr, arith}
use Rattle.std.specs.Prelude.{ℤ, codes}
use Rattle.std.specs.Str.{bytes_eq}
use Rattle.std.specs.Fmt.{decimal}
use Rattle.sign_base.specs.declared.call_id.CallId.{CallId}
use Rattle.line_words.specs.declared.moment.ScriptVersion.{ScriptVersion}
use Rattle.line_words.specs.Words.{greatest_u32, greatest_u64}
use Rattle.line_words.specs.Moments.{moment_word, moment_at}
use Rattle.line_words.specs.Steps.{◌>>=◌, at_end_of_line, number_at}
use Rattle.line_words.proofs.ReadingSteps.{same_word, some_is, chosen, passed_test, bind_some, ended_some}
use Rattle.line_words.proofs.Places.{number_at-decimal, number_at-some, moment_at-word, moment_at-some}
use Rattle.signctl_format.specs.declared.credential.ScriptCredential.{ScriptCredential}
use Rattle.signctl_format.specs.declared.credential.ScriptRule.{ScriptRule}
use Rattle.signctl_format.specs.declared.credential.ScriptRule.TheVariants.{Now, Cred}
use Rattle.signctl_format.specs.Lines.{call_words, credential_words}
use Rattle.signctl_format.specs.Grammar.{IsLineCall, IsLineCredential, rule_word}
use Rattle.signctl_format.specs.Reading.{rule_in, call_at, credential_in}

-- ---- calls

-- the words of a call read as it, with the words after it
pub call_at-words : (call : CallId) (rest : List (List ℕ)) → IsLineCall call
    → call_at (call_words call ++ rest) ≡ Some (call, rest)
unfolding call_at
call_at-words call rest fits = rw (number_at-decimal greatest_u32 call.handle (decimal call.number ∷ rest) fits.handle (omega arith), number_at-decimal greatest_u64 call.number rest fits.number (omega arith)) refl

-- the words begin with this call's, which a line may name
abbrev pub SpellsCall : List (List ℕ) → CallId → List (List ℕ) → Type 0
SpellsCall ws call rest = (ws ≡ call_words call ++ rest) × IsLineCall call

-- words that read as a call and others begin with its words
pub call_at-some : (ws : List (List ℕ)) (p : CallId × List (List ℕ)) → call_at ws ≡ Some p
    → SpellsCall ws p.0 p.1
unfolding call_at
call_at-some ws p e =
    let a = bind_some (number_at greatest_u32 ws) (λ (h : ℕ × List (List ℕ)). number_at greatest_u64 h.1 >>= λ (n : ℕ × List (List ℕ)). Some (record { handle = h.0; number = n.0 }, n.1)) p e in
    let h = a.0 in
    let b = bind_some (number_at greatest_u64 h.1) (λ (n : ℕ × List (List ℕ)). Some (record { handle = h.0; number = n.0 }, n.1)) p a.2 in
    let n = b.0 in
    let made : CallId × List (List ℕ) = (record { handle = h.0; number = n.0 }, n.1) in
    let first = number_at-some greatest_u32 ws h a.1 in
    let second = number_at-some greatest_u64 h.1 n b.1 in
    subst (λ (q : CallId × List (List ℕ)). SpellsCall ws q.0 q.1) (some_is made p b.2)
    (first.0 ∙ ap (λ (w : List (List ℕ)). decimal h.0 ∷ w) second.0, record { handle = first.1; number = second.1 })

-- ---- credentials

-- the words of a credential read as it
pub credential_in-words : (version : ScriptVersion) (c : ScriptCredential) → IsLineCredential version c
    → credential_in version (credential_words version c) ≡ Some c
unfolding credential_in
credential_in-words version c fits =
    let required = moment_word version c.required ∷ [] in
    let expires = moment_word version c.expires ∷ required in
    rw (number_at-decimal greatest_u64 c.generation (moment_word version c.fresh ∷ expires) fits.generation (omega arith), moment_at-word version c.fresh expires fits.fresh, moment_at-word version c.expires required fits.expires, moment_at-word version c.required [] fits.required) refl

-- the words are this credential's, which a line may name
abbrev pub SpellsCredential : ScriptVersion → List (List ℕ) → ScriptCredential → Type 0
SpellsCredential version ws c = (ws ≡ credential_words version c) × IsLineCredential version c

credential_parted : (version : ScriptVersion) (c : ScriptCredential) (ws a b d rest : List (List ℕ))
    → ws ≡ decimal c.generation ∷ a → a ≡ moment_word version c.fresh ∷ b
    → b ≡ moment_word version c.expires ∷ d → d ≡ moment_word version c.required ∷ rest → rest ≡ []
    → ws ≡ credential_words version c
credential_parted version c ws a b d rest p q r s t = cc

-- words that read as a credential are its words
pub credential_in-some : (version : ScriptVersion) (ws : List (List ℕ)) (c : ScriptCredential)
    → credential_in version ws ≡ Some c → SpellsCredential version ws c
unfolding credential_in
credential_in-some version ws c e =
    let a = bind_some (number_at greatest_u64 ws) (λ (g : ℕ × List (List ℕ)). moment_at version g.1 >>= λ (f : ℤ × List (List ℕ)). moment_at version f.1 >>= λ (x : ℤ × List (List ℕ)). moment_at version x.1 >>= λ (r : ℤ × List (List ℕ)). at_end_of_line (record { generation = g.0; fresh = f.0; expires = x.0; required = r.0 }) r.1) c e in
    let g = a.0 in
    let b = bind_some (moment_at version g.1) (λ (f : ℤ × List (List ℕ)). moment_at version f.1 >>= λ (x : ℤ × List (List ℕ)). moment_at version x.1 >>= λ (r : ℤ × List (List ℕ)). at_end_of_line (record { generation = g.0; fresh = f.0; expires = x.0; required = r.0 }) r.1) c a.2 in
    let f = b.0 in
    let d = bind_some (moment_at version f.1) (λ (x : ℤ × List (List ℕ)). moment_at version x.1 >>= λ (r : ℤ × List (List ℕ)). at_end_of_line (record { generation = g.0; fresh = f.0; expires = x.0; required = r.0 }) r.1) c b.2 in
    let x = d.0 in
    let h = bind_some (moment_at version x.1) (λ (r : ℤ × List (List ℕ)). at_end_of_line (record { generation = g.0; fresh = f.0; expires = x.0; required = r.0 }) r.1) c d.2 in
    let r = h.0 in
    let made : ScriptCredential = record { generation = g.0; fresh = f.0; expires = x.0; required = r.0 } in
    let last = ended_some made c r.1 h.2 in
    let p = number_at-some greatest_u64 ws g a.1 in
    let q = moment_at-some version g.1 f b.1 in
    let s = moment_at-some version f.1 x d.1 in
    let t = moment_at-some version x.1 r h.1 in
    subst (λ (y : ScriptCredential). SpellsCredential version ws y) {x = made} last.0
    (credential_parted version made ws g.1 f.1 x.1 r.1 p.0 q.0 s.0 t.0 last.1, record { generation = p.1; fresh = q.1; expires = s.1; required = t.1 })

-- ---- rules

-- the word of a rule reads as it
pub rule_in-word : (r : ScriptRule) → rule_in (rule_word r) ≡ Some r
rule_in-word Now = refl
rule_in-word Cred = refl

-- a word that reads as a rule is its word
pub rule_in-some : (word : List ℕ) (r : ScriptRule) → rule_in word ≡ Some r → word ≡ rule_word r
rule_in-some word r e = elim (chosen (bytes_eq word (codes "now")) (Some Now) (cond (bytes_eq word (codes "cred")) (Some Cred) None) (Some r) e) [
  | inl here ↦ same_word word (codes "now") here.0 ∙ ap rule_word (some_is Now r here.1)
  | inr there ↦
      let p = passed_test (bytes_eq word (codes "cred")) (Some Cred) r there.1 in
      same_word word (codes "cred") p.0 ∙ ap rule_word (some_is Cred r p.1)
]
