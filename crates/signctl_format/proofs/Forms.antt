-- Each form of a line: what spells it reads as it, and what reads as it spells it.
use Rattle.std.proofs.Common.{◌≡◌, ℕ, ◌≤◌, cond, List, [], ◌∷◌, ◌++◌, Option, Some, None, refl, subst, inl, inr, arith}
use Rattle.std.specs.Prelude.{ℤ, codes}
use Rattle.std.specs.Str.{bytes_eq}
use Rattle.std.specs.Fmt.{decimal}
use Rattle.std.specs.declared.time.Duration.{Duration}
use Rattle.sign_base.specs.declared.head.Head.{Head}
use Rattle.sign_base.specs.declared.call_id.CallId.{CallId}
use Rattle.sequential_signer.specs.declared.event.Answer.TheVariants.{Found, Missing}
use Rattle.sequential_signer.specs.declared.event.Answer.TheVariants as answer
use Rattle.sequential_signer.specs.declared.event.Event.TheVariants.{Begin, Poll, Provided, Signed, Cancel}
use Rattle.sequential_signer.specs.declared.event.Loader.TheVariants.{Single, Chain}
use Rattle.sequential_signer.specs.declared.event.Verdict.TheVariants.{Accepted}
use Rattle.sequential_signer.specs.declared.event.Verdict.TheVariants as verdict
use Rattle.line_words.specs.declared.moment.ScriptVersion.{ScriptVersion}
use Rattle.line_words.specs.Words.{words, greatest_u32, greatest_u64}
use Rattle.line_words.specs.Moments.{moment_word, IsLineMoment, duration_word, IsLineDuration, duration_of, moment_at}
use Rattle.line_words.specs.Heads.{head_words, IsLineHead, head_in}
use Rattle.line_words.specs.Steps.{◌>>=◌, first_word, at_end_of_line, number_at}
use Rattle.line_words.proofs.ReadingSteps.{same_word, some_is, chosen, passed_test, bind_some, first_word_some, ended_some}
use Rattle.line_words.proofs.Seconds.{duration_of-word, duration_of-some}
use Rattle.line_words.proofs.Headers.{head_in-words, head_in-some}
use Rattle.line_words.proofs.Places.{number_at-decimal, number_at-some, moment_at-word, moment_at-some}
use Rattle.signctl_format.specs.declared.credential.ScriptCredential.{ScriptCredential}
use Rattle.signctl_format.specs.declared.credential.ScriptRule.{ScriptRule}
use Rattle.signctl_format.specs.declared.item.Item.TheVariants.{Cache, Handle, Event}
use Rattle.signctl_format.specs.ScriptEvents.{ScriptItem}
use Rattle.signctl_format.specs.Lines.{call_words, credential_words}
use Rattle.signctl_format.specs.Grammar.{IsLineCall, IsLineCredential, rule_word, Spells}
use Rattle.signctl_format.specs.Reading.{rule_in, call_at, credential_in, chain_form, cache_form, handle_form, begin_form, poll_form, found_form, missing_form, failed_form, accept_form, reject_form, cancel_form}
use Rattle.signctl_format.proofs.Calls.{call_at-words, call_at-some, credential_in-words, credential_in-some, rule_in-word, rule_in-some}

-- the line has this name and these words after it
abbrev pub Has : List ℕ → List ℕ → List (List ℕ) → Type 0
Has line name rest = words line ≡ name ∷ rest

-- ---- cache

-- the words after the name of `cache chain N` read as it
pub chain_form-words : (providers : ℕ) → providers ≤ greatest_u32
    → chain_form (decimal providers ∷ []) ≡ Some (Cache (Chain providers))
unfolding chain_form
chain_form-words providers fits = rw (number_at-decimal greatest_u32 providers [] fits (omega arith)) refl

chain_form-some : (version : ScriptVersion) (line : List ℕ) (ws : List (List ℕ)) (item : ScriptItem)
    → Has line (codes "cache") (codes "chain" ∷ ws) → chain_form ws ≡ Some item → Spells version line item
unfolding chain_form
chain_form-some version line ws item has e =
    let n = bind_some (number_at greatest_u32 ws) (λ (n : ℕ × List (List ℕ)). at_end_of_line (Cache (Chain n.0)) n.1) item e in
    let last = ended_some (Cache (Chain n.0.0)) item n.0.1 n.2 in
    let number = number_at-some greatest_u32 ws n.0 n.1 in
    subst (λ (i : ScriptItem). Spells version line i) {x = Cache (Chain n.0.0)} last.0 (number.1, cc (has, number.0, last.1))

-- a line of `cache` that reads as an item spells it
pub cache_form-some : (version : ScriptVersion) (line : List ℕ) (ws : List (List ℕ)) (item : ScriptItem)
    → Has line (codes "cache") ws → cache_form ws ≡ Some item → Spells version line item
unfolding cache_form
cache_form-some version line [] item has e = absurd cc
cache_form-some version line (kind ∷ rest) item has e = elim (chosen (bytes_eq kind (codes "single")) (at_end_of_line (Cache Single) rest) (cond (bytes_eq kind (codes "chain")) (chain_form rest) None) (Some item) e) [
  | inl here ↦
      let last = ended_some (Cache Single) item rest here.1 in
      let single = same_word kind (codes "single") here.0 in
      subst (λ (i : ScriptItem). Spells version line i) {x = Cache Single} last.0 (tt, cc (has, single, last.1))
  | inr there ↦
      let p = passed_test (bytes_eq kind (codes "chain")) (chain_form rest) item there.1 in
      let chain = same_word kind (codes "chain") p.0 in
      chain_form-some version line rest item (cc (has, chain)) p.1
]

-- ---- handle

-- the words after the name of `handle C RULE` read as it
pub handle_form-words : (cache : ℕ) (rule : ScriptRule) → cache ≤ greatest_u32
    → handle_form (decimal cache ∷ rule_word rule ∷ []) ≡ Some (Handle cache rule)
unfolding handle_form
handle_form-words cache rule fits = rw (number_at-decimal greatest_u32 cache (rule_word rule ∷ []) fits (omega arith), rule_in-word rule) refl

-- a line of `handle C RULE` that reads as an item spells it
pub handle_form-some : (version : ScriptVersion) (line : List ℕ) (ws : List (List ℕ)) (item : ScriptItem)
    → Has line (codes "handle") ws → handle_form ws ≡ Some item → Spells version line item
unfolding handle_form
handle_form-some version line ws item has e =
    let n = bind_some (number_at greatest_u32 ws) (λ (n : ℕ × List (List ℕ)). first_word rule_in n.1 >>= λ (r : ScriptRule × List (List ℕ)). at_end_of_line (Handle n.0 r.0) r.1) item e in
    let r = bind_some (first_word rule_in n.0.1) (λ (r : ScriptRule × List (List ℕ)). at_end_of_line (Handle n.0.0 r.0) r.1) item n.2 in
    let last = ended_some (Handle n.0.0 r.0.0) item r.0.1 r.2 in
    let number = number_at-some greatest_u32 ws n.0 n.1 in
    let first = first_word_some rule_in n.0.1 r.0 r.1 in
    let rule = rule_in-some first.0 r.0.0 first.2 in
    subst (λ (i : ScriptItem). Spells version line i) {x = Handle n.0.0 r.0.0} last.0 (number.1, cc (has, number.0, first.1, rule, last.1))

-- ---- events

-- the words after the name of `begin H N D HEAD` read as it
pub begin_form-words : (version : ScriptVersion) (call : CallId) (head : Head) (d : Option Duration)
    → IsLineCall call → IsLineDuration version d → IsLineHead head
    → begin_form version (call_words call ++ duration_word version d ∷ head_words head)
    ≡ Some (Event (Begin call head d))
unfolding begin_form
begin_form-words version call head d is_call is_duration is_head = rw (call_at-words call (duration_word version d ∷ head_words head) is_call, duration_of-word version d is_duration, head_in-words head is_head) refl

-- a line of `begin H N D HEAD` that reads as an item spells it
pub begin_form-some : (version : ScriptVersion) (line : List ℕ) (ws : List (List ℕ)) (item : ScriptItem)
    → Has line (codes "begin") ws → begin_form version ws ≡ Some item → Spells version line item
unfolding begin_form
begin_form-some version line ws item has e =
    let c = bind_some (call_at ws) (λ (c : CallId × List (List ℕ)). first_word (duration_of version) c.1 >>= λ (d : Option Duration × List (List ℕ)). head_in d.1 >>= λ (h : Head). Some (Event (Begin c.0 h d.0))) item e in
    let d = bind_some (first_word (duration_of version) c.0.1) (λ (d : Option Duration × List (List ℕ)). head_in d.1 >>= λ (h : Head). Some (Event (Begin c.0.0 h d.0))) item c.2 in
    let h = bind_some (head_in d.0.1) (λ (h : Head). Some (Event (Begin c.0.0 h d.0.0))) item d.2 in
    let call = call_at-some ws c.0 c.1 in
    let first = first_word_some (duration_of version) c.0.1 d.0 d.1 in
    let duration = duration_of-some version first.0 d.0.0 first.2 in
    let head = head_in-some d.0.1 h.0 h.1 in
    subst (λ (i : ScriptItem). Spells version line i) {x = Event (Begin c.0.0 h.0 d.0.0)} (some_is (Event (Begin c.0.0 h.0 d.0.0)) item h.2)
    ((call.1, duration.1, head.1), cc (has, call.0, first.1, duration.0, head.0))

-- the words after the name of `poll H N T` read as it
pub poll_form-words : (version : ScriptVersion) (call : CallId) (now : ℤ) → IsLineCall call
    → IsLineMoment version now
    → poll_form version (call_words call ++ moment_word version now ∷ []) ≡ Some (Event (Poll call now))
unfolding poll_form
poll_form-words version call now is_call is_moment = rw (call_at-words call (moment_word version now ∷ []) is_call, moment_at-word version now [] is_moment) refl

-- a line of `poll H N T` that reads as an item spells it
pub poll_form-some : (version : ScriptVersion) (line : List ℕ) (ws : List (List ℕ)) (item : ScriptItem)
    → Has line (codes "poll") ws → poll_form version ws ≡ Some item → Spells version line item
unfolding poll_form
poll_form-some version line ws item has e =
    let c = bind_some (call_at ws) (λ (c : CallId × List (List ℕ)). moment_at version c.1 >>= λ (t : ℤ × List (List ℕ)). at_end_of_line (Event (Poll c.0 t.0)) t.1) item e in
    let t = bind_some (moment_at version c.0.1) (λ (t : ℤ × List (List ℕ)). at_end_of_line (Event (Poll c.0.0 t.0)) t.1) item c.2 in
    let last = ended_some (Event (Poll c.0.0 t.0.0)) item t.0.1 t.2 in
    let call = call_at-some ws c.0 c.1 in
    let now = moment_at-some version c.0.1 t.0 t.1 in
    subst (λ (i : ScriptItem). Spells version line i) {x = Event (Poll c.0.0 t.0.0)} last.0 ((call.1, now.1), cc (has, call.0, now.0, last.1))

-- the words after the name of `found H N T CREDENTIAL` read as it
pub found_form-words : (version : ScriptVersion) (call : CallId) (now : ℤ) (k : ScriptCredential)
    → IsLineCall call → IsLineMoment version now → IsLineCredential version k
    → found_form version (call_words call ++ moment_word version now ∷ credential_words version k)
    ≡ Some (Event (Provided call now (Found k)))
unfolding found_form
found_form-words version call now k is_call is_moment is_credential = rw (call_at-words call (moment_word version now ∷ credential_words version k) is_call, moment_at-word version now (credential_words version k) is_moment, credential_in-words version k is_credential) refl

-- a line of `found H N T CREDENTIAL` that reads as an item spells it
pub found_form-some : (version : ScriptVersion) (line : List ℕ) (ws : List (List ℕ)) (item : ScriptItem)
    → Has line (codes "found") ws → found_form version ws ≡ Some item → Spells version line item
unfolding found_form
found_form-some version line ws item has e =
    let c = bind_some (call_at ws) (λ (c : CallId × List (List ℕ)). moment_at version c.1 >>= λ (t : ℤ × List (List ℕ)). credential_in version t.1 >>= λ (k : ScriptCredential). Some (Event (Provided c.0 t.0 (Found k)))) item e in
    let t = bind_some (moment_at version c.0.1) (λ (t : ℤ × List (List ℕ)). credential_in version t.1 >>= λ (k : ScriptCredential). Some (Event (Provided c.0.0 t.0 (Found k)))) item c.2 in
    let k = bind_some (credential_in version t.0.1) (λ (k : ScriptCredential). Some (Event (Provided c.0.0 t.0.0 (Found k)))) item t.2 in
    let call = call_at-some ws c.0 c.1 in
    let now = moment_at-some version c.0.1 t.0 t.1 in
    let credential = credential_in-some version t.0.1 k.0 k.1 in
    subst (λ (i : ScriptItem). Spells version line i) {x = Event (Provided c.0.0 t.0.0 (Found k.0))} (some_is (Event (Provided c.0.0 t.0.0 (Found k.0))) item k.2)
    ((call.1, now.1, credential.1), cc (has, call.0, now.0, credential.0))

-- the words after the name of `missing H N T` read as it
pub missing_form-words : (version : ScriptVersion) (call : CallId) (now : ℤ) → IsLineCall call
    → IsLineMoment version now
    → missing_form version (call_words call ++ moment_word version now ∷ [])
    ≡ Some (Event (Provided call now Missing))
unfolding missing_form
missing_form-words version call now is_call is_moment = rw (call_at-words call (moment_word version now ∷ []) is_call, moment_at-word version now [] is_moment) refl

-- a line of `missing H N T` that reads as an item spells it
pub missing_form-some : (version : ScriptVersion) (line : List ℕ) (ws : List (List ℕ)) (item : ScriptItem)
    → Has line (codes "missing") ws → missing_form version ws ≡ Some item → Spells version line item
unfolding missing_form
missing_form-some version line ws item has e =
    let c = bind_some (call_at ws) (λ (c : CallId × List (List ℕ)). moment_at version c.1 >>= λ (t : ℤ × List (List ℕ)). at_end_of_line (Event (Provided c.0 t.0 Missing)) t.1) item e in
    let t = bind_some (moment_at version c.0.1) (λ (t : ℤ × List (List ℕ)). at_end_of_line (Event (Provided c.0.0 t.0 Missing)) t.1) item c.2 in
    let last = ended_some (Event (Provided c.0.0 t.0.0 Missing)) item t.0.1 t.2 in
    let call = call_at-some ws c.0 c.1 in
    let now = moment_at-some version c.0.1 t.0 t.1 in
    subst (λ (i : ScriptItem). Spells version line i) {x = Event (Provided c.0.0 t.0.0 Missing)} last.0 ((call.1, now.1), cc (has, call.0, now.0, last.1))

-- the words after the name of `failed H N T E` read as it
pub failed_form-words : (version : ScriptVersion) (call : CallId) (now : ℤ) (error : ℕ) → IsLineCall call
    → IsLineMoment version now → error ≤ greatest_u64
    → failed_form version (call_words call ++ moment_word version now ∷ decimal error ∷ [])
    ≡ Some (Event (Provided call now (answer.Failed error)))
unfolding failed_form
failed_form-words version call now error is_call is_moment fits = rw (call_at-words call (moment_word version now ∷ decimal error ∷ []) is_call, moment_at-word version now (decimal error ∷ []) is_moment, number_at-decimal greatest_u64 error [] fits (omega arith)) refl

-- a line of `failed H N T E` that reads as an item spells it
pub failed_form-some : (version : ScriptVersion) (line : List ℕ) (ws : List (List ℕ)) (item : ScriptItem)
    → Has line (codes "failed") ws → failed_form version ws ≡ Some item → Spells version line item
unfolding failed_form
failed_form-some version line ws item has e =
    let c = bind_some (call_at ws) (λ (c : CallId × List (List ℕ)). moment_at version c.1 >>= λ (t : ℤ × List (List ℕ)). number_at greatest_u64 t.1 >>= λ (n : ℕ × List (List ℕ)). at_end_of_line (Event (Provided c.0 t.0 (answer.Failed n.0))) n.1) item e in
    let t = bind_some (moment_at version c.0.1) (λ (t : ℤ × List (List ℕ)). number_at greatest_u64 t.1 >>= λ (n : ℕ × List (List ℕ)). at_end_of_line (Event (Provided c.0.0 t.0 (answer.Failed n.0))) n.1) item c.2 in
    let n = bind_some (number_at greatest_u64 t.0.1) (λ (n : ℕ × List (List ℕ)). at_end_of_line (Event (Provided c.0.0 t.0.0 (answer.Failed n.0))) n.1) item t.2 in
    let last = ended_some (Event (Provided c.0.0 t.0.0 (answer.Failed n.0.0))) item n.0.1 n.2 in
    let call = call_at-some ws c.0 c.1 in
    let now = moment_at-some version c.0.1 t.0 t.1 in
    let number = number_at-some greatest_u64 t.0.1 n.0 n.1 in
    subst (λ (i : ScriptItem). Spells version line i) {x = Event (Provided c.0.0 t.0.0 (answer.Failed n.0.0))} last.0 ((call.1, now.1, number.1), cc (has, call.0, now.0, number.0, last.1))

-- the words after the name of `accept H N HEAD` read as it
pub accept_form-words : (call : CallId) (head : Head) → IsLineCall call → IsLineHead head
    → accept_form (call_words call ++ head_words head) ≡ Some (Event (Signed call (Accepted head)))
unfolding accept_form
accept_form-words call head is_call is_head = rw (call_at-words call (head_words head) is_call, head_in-words head is_head) refl

-- a line of `accept H N HEAD` that reads as an item spells it
pub accept_form-some : (version : ScriptVersion) (line : List ℕ) (ws : List (List ℕ)) (item : ScriptItem)
    → Has line (codes "accept") ws → accept_form ws ≡ Some item → Spells version line item
unfolding accept_form
accept_form-some version line ws item has e =
    let c = bind_some (call_at ws) (λ (c : CallId × List (List ℕ)). head_in c.1 >>= λ (h : Head). Some (Event (Signed c.0 (Accepted h)))) item e in
    let h = bind_some (head_in c.0.1) (λ (h : Head). Some (Event (Signed c.0.0 (Accepted h)))) item c.2 in
    let call = call_at-some ws c.0 c.1 in
    let head = head_in-some c.0.1 h.0 h.1 in
    subst (λ (i : ScriptItem). Spells version line i) {x = Event (Signed c.0.0 (Accepted h.0))} (some_is (Event (Signed c.0.0 (Accepted h.0))) item h.2) ((call.1, head.1), cc (has, call.0, head.0))

-- the words after the name of `reject H N E` read as it
pub reject_form-words : (call : CallId) (error : ℕ) → IsLineCall call → error ≤ greatest_u64
    → reject_form (call_words call ++ decimal error ∷ []) ≡ Some (Event (Signed call (verdict.Failed error)))
unfolding reject_form
reject_form-words call error is_call fits = rw (call_at-words call (decimal error ∷ []) is_call, number_at-decimal greatest_u64 error [] fits (omega arith)) refl

-- a line of `reject H N E` that reads as an item spells it
pub reject_form-some : (version : ScriptVersion) (line : List ℕ) (ws : List (List ℕ)) (item : ScriptItem)
    → Has line (codes "reject") ws → reject_form ws ≡ Some item → Spells version line item
unfolding reject_form
reject_form-some version line ws item has e =
    let c = bind_some (call_at ws) (λ (c : CallId × List (List ℕ)). number_at greatest_u64 c.1 >>= λ (n : ℕ × List (List ℕ)). at_end_of_line (Event (Signed c.0 (verdict.Failed n.0))) n.1) item e in
    let n = bind_some (number_at greatest_u64 c.0.1) (λ (n : ℕ × List (List ℕ)). at_end_of_line (Event (Signed c.0.0 (verdict.Failed n.0))) n.1) item c.2 in
    let last = ended_some (Event (Signed c.0.0 (verdict.Failed n.0.0))) item n.0.1 n.2 in
    let call = call_at-some ws c.0 c.1 in
    let number = number_at-some greatest_u64 c.0.1 n.0 n.1 in
    subst (λ (i : ScriptItem). Spells version line i) {x = Event (Signed c.0.0 (verdict.Failed n.0.0))} last.0 ((call.1, number.1), cc (has, call.0, number.0, last.1))

-- the words after the name of `cancel H N` read as it
pub cancel_form-words : (call : CallId) → IsLineCall call
    → cancel_form (call_words call) ≡ Some (Event (Cancel call))
unfolding cancel_form
cancel_form-words call is_call = rw (call_at-words call [] is_call) refl

-- a line of `cancel H N` that reads as an item spells it
pub cancel_form-some : (version : ScriptVersion) (line : List ℕ) (ws : List (List ℕ)) (item : ScriptItem)
    → Has line (codes "cancel") ws → cancel_form ws ≡ Some item → Spells version line item
unfolding cancel_form
cancel_form-some version line ws item has e =
    let c = bind_some (call_at ws) (λ (c : CallId × List (List ℕ)). at_end_of_line (Event (Cancel c.0)) c.1) item e in
    let last = ended_some (Event (Cancel c.0.0)) item c.0.1 c.2 in
    let call = call_at-some ws c.0 c.1 in
    subst (λ (i : ScriptItem). Spells version line i) {x = Event (Cancel c.0.0)} last.0 (call.1, cc (has, call.0, last.1))
