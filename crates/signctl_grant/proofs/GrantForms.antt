-- Each form of a granter's own: what spells it reads as it, and what reads as it spells it.
use Rattle.std.proofs.Common.{◌≡◌, ◌≤◌, ℕ, List, [], ◌∷◌, ◌++◌, Option, Some, refl, subst, arith}
use Rattle.std.specs.Prelude.{ℤ, codes}
use Rattle.std.specs.Fmt.{decimal}
use Rattle.std.specs.declared.time.Duration.{Duration}
use Rattle.sign_base.specs.declared.call_id.CallId.{CallId}
use Rattle.sequential_signer.specs.declared.grant_event.GrantEvent.TheVariants.{Begin, Granted}
use Rattle.sequential_signer.specs.declared.grant_event.Made.TheVariants.{Made, Failed}
use Rattle.line_words.specs.declared.moment.ScriptVersion.TheVariants.{One}
use Rattle.line_words.specs.Words.{greatest_u64}
use Rattle.line_words.specs.Moments.{moment_word, IsLineMoment, duration_word, IsLineDuration, duration_of, moment_at}
use Rattle.line_words.specs.Steps.{◌>>=◌, first_word, at_end_of_line, number_at}
use Rattle.line_words.proofs.ReadingSteps.{some_is, bind_some, first_word_some, ended_some}
use Rattle.line_words.proofs.Seconds.{duration_of-word, duration_of-some}
use Rattle.line_words.proofs.Places.{number_at-decimal, number_at-some, moment_at-word, moment_at-some}
use Rattle.signctl_format.specs.declared.credential.ScriptCredential.{ScriptCredential}
use Rattle.signctl_format.specs.declared.item.Item.TheVariants.{Event}
use Rattle.signctl_format.specs.Lines.{call_words, credential_words}
use Rattle.signctl_format.specs.Grammar.{IsLineCall, IsLineCredential}
use Rattle.signctl_format.specs.Reading.{call_at, credential_in}
use Rattle.signctl_format.proofs.Calls.{call_at-words, call_at-some, credential_in-words, credential_in-some}
use Rattle.signctl_format.proofs.Forms.{Has}
use Rattle.signctl_grant.specs.GrantEvents.{GrantItem}
use Rattle.signctl_grant.specs.GrantGrammar.{failure_moment, SpellsGrant}
use Rattle.signctl_grant.specs.GrantReading.{begin_form, made_form, fail_form}

-- the words after the name of `begin H N D` read as it
pub begin_form-words : (call : CallId) (d : Option Duration) → IsLineCall call → IsLineDuration One d
    → begin_form (call_words call ++ duration_word One d ∷ []) ≡ Some (Event (Begin call d))
unfolding begin_form
begin_form-words call d is_call is_duration = rw (call_at-words call (duration_word One d ∷ []) is_call, duration_of-word One d is_duration) refl

-- a line of `begin H N D` that reads as an item spells it
pub begin_form-some : (line : List ℕ) (ws : List (List ℕ)) (item : GrantItem) → Has line (codes "begin") ws
    → begin_form ws ≡ Some item → SpellsGrant line item
unfolding begin_form
begin_form-some line ws item has e =
    let c = bind_some (call_at ws) (λ (c : CallId × List (List ℕ)). first_word (duration_of One) c.1 >>= λ (d : Option Duration × List (List ℕ)). at_end_of_line (Event (Begin c.0 d.0)) d.1) item e in
    let d = bind_some (first_word (duration_of One) c.0.1) (λ (d : Option Duration × List (List ℕ)). at_end_of_line (Event (Begin c.0.0 d.0)) d.1) item c.2 in
    let last = ended_some (Event (Begin c.0.0 d.0.0)) item d.0.1 d.2 in
    let call = call_at-some ws c.0 c.1 in
    let first = first_word_some (duration_of One) c.0.1 d.0 d.1 in
    let duration = duration_of-some One first.0 d.0.0 first.2 in
    subst (λ (i : GrantItem). SpellsGrant line i) {x = Event (Begin c.0.0 d.0.0)} last.0 (call.1, duration.1, cc (has, call.0, first.1, duration.0, last.1))

-- the words after the name of `made H N T CREDENTIAL` read as it
pub made_form-words : (call : CallId) (now : ℤ) (k : ScriptCredential) → IsLineCall call
    → IsLineMoment One now → IsLineCredential One k
    → made_form (call_words call ++ moment_word One now ∷ credential_words One k)
    ≡ Some (Event (Granted call now (Made k)))
unfolding made_form
made_form-words call now k is_call is_moment is_credential = rw (call_at-words call (moment_word One now ∷ credential_words One k) is_call, moment_at-word One now (credential_words One k) is_moment, credential_in-words One k is_credential) refl

-- a line of `made H N T CREDENTIAL` that reads as an item spells it
pub made_form-some : (line : List ℕ) (ws : List (List ℕ)) (item : GrantItem) → Has line (codes "made") ws
    → made_form ws ≡ Some item → SpellsGrant line item
unfolding made_form
made_form-some line ws item has e =
    let c = bind_some (call_at ws) (λ (c : CallId × List (List ℕ)). moment_at One c.1 >>= λ (t : ℤ × List (List ℕ)). credential_in One t.1 >>= λ (k : ScriptCredential). Some (Event (Granted c.0 t.0 (Made k)))) item e in
    let t = bind_some (moment_at One c.0.1) (λ (t : ℤ × List (List ℕ)). credential_in One t.1 >>= λ (k : ScriptCredential). Some (Event (Granted c.0.0 t.0 (Made k)))) item c.2 in
    let k = bind_some (credential_in One t.0.1) (λ (k : ScriptCredential). Some (Event (Granted c.0.0 t.0.0 (Made k)))) item t.2 in
    let call = call_at-some ws c.0 c.1 in
    let now = moment_at-some One c.0.1 t.0 t.1 in
    let credential = credential_in-some One t.0.1 k.0 k.1 in
    subst (λ (i : GrantItem). SpellsGrant line i) {x = Event (Granted c.0.0 t.0.0 (Made k.0))} (some_is (Event (Granted c.0.0 t.0.0 (Made k.0))) item k.2) (call.1, now.1, credential.1, cc (has, call.0, now.0, credential.0))

-- the words after the name of `fail H N E` read as it
pub fail_form-words : (call : CallId) (error : ℕ) → IsLineCall call → error ≤ greatest_u64
    → fail_form (call_words call ++ decimal error ∷ [])
    ≡ Some (Event (Granted call failure_moment (Failed error)))
unfolding fail_form
fail_form-words call error is_call fits = rw (call_at-words call (decimal error ∷ []) is_call, number_at-decimal greatest_u64 error [] fits (omega arith)) refl

-- a line of `fail H N E` that reads as an item spells it
pub fail_form-some : (line : List ℕ) (ws : List (List ℕ)) (item : GrantItem) → Has line (codes "fail") ws
    → fail_form ws ≡ Some item → SpellsGrant line item
unfolding fail_form
fail_form-some line ws item has e =
    let c = bind_some (call_at ws) (λ (c : CallId × List (List ℕ)). number_at greatest_u64 c.1 >>= λ (n : ℕ × List (List ℕ)). at_end_of_line (Event (Granted c.0 failure_moment (Failed n.0))) n.1) item e in
    let n = bind_some (number_at greatest_u64 c.0.1) (λ (n : ℕ × List (List ℕ)). at_end_of_line (Event (Granted c.0.0 failure_moment (Failed n.0))) n.1) item c.2 in
    let last = ended_some (Event (Granted c.0.0 failure_moment (Failed n.0.0))) item n.0.1 n.2 in
    let call = call_at-some ws c.0 c.1 in
    let number = number_at-some greatest_u64 c.0.1 n.0 n.1 in
    subst (λ (i : GrantItem). SpellsGrant line i) {x = Event (Granted c.0.0 failure_moment (Failed n.0.0))} last.0 (call.1, refl, number.1, cc (has, call.0, number.0, last.1))
