-- What follows for a load from one answer of a send.
use Rattle.std.proofs.Common.{◌≡◌, ◌⊎◌, ℕ, false, List, inl, inr, Option, Some, None, Result, Ok, Err, refl, sym, subst, ◌∙◌}
use Rattle.http.specs.declared.request.Request.{Request}
use Rattle.http.specs.declared.response.Response.{Response}
use Rattle.sign_base.specs.declared.head.Head.{Head}
use Rattle.credentials.specs.declared.polled.Polled.{Polled}
use Rattle.credentials.specs.declared.polled.Polled.TheVariants.{Pending, Ready, Failed, OutOfMemory}
use Rattle.credentials.specs.Polled.{CanBePolledAgain}
use Rattle.aws_credentials.specs.Session.{Session}
use Rattle.aws_json.specs.Reading.{Reading}
use Rattle.aws_endpoints.specs.Asking.{IsSendOf, GivesAsked, GivesPolled, GivesRead}
use Rattle.aws_instance.specs.Instance.{InstanceGives, LeadsTo, NotSent, IsWordOf, EndsAt}

-- an allocation that failed is given
pub memory_is_given : (variables : List ℕ → Option (List ℕ)) (Answers : Request (List ℕ) → Polled (Response (List ℕ)) → Type 0) → InstanceGives variables Answers OutOfMemory
unfolding InstanceGives
memory_is_given variables Answers = inr refl

-- what is pending can be polled again
pub again : {T : Type 0} (polled : Polled T) → polled ≡ Pending → CanBePolledAgain polled
again Pending e = tt
again OutOfMemory e = tt
again (Ready value) e = absurd cc
again (Failed error) e = absurd cc

-- a load that waits is one whose send is pending
read-pending : {A : Type 0} (reading : Reading (Option A)) → GivesRead (λ word other. ⊥) reading Pending → ⊥
read-pending (Ok (Some word)) gives = gives
read-pending (Ok None) gives = absurd cc
read-pending (Err message) gives = absurd cc

polled-pending : (read : Response (List ℕ) → Reading (Option (List ℕ))) (polled : Polled (Response (List ℕ)))
    → EndsAt read polled Pending → polled ≡ Pending
polled-pending read (Ready response) (inl gives) = absurd (read-pending (read response) gives)
polled-pending read (Failed error) (inl gives) = absurd cc
polled-pending read Pending (inl gives) = refl
polled-pending read OutOfMemory (inl gives) = absurd cc
polled-pending read polled (inr memory) = absurd cc

pub ends-pending : (read : Response (List ℕ) → Reading (Option (List ℕ))) (polled : Polled (Response (List ℕ)))
    (answer : Polled (Option Session)) → EndsAt read polled answer → answer ≡ Pending → polled ≡ Pending
ends-pending read polled answer ends pending =
    let P : Polled (Option Session) → Type 0 = λ a. EndsAt read polled a in polled-pending read polled (subst P pending ends)

-- what ends a load at a step is given at that step, whatever comes next
read-ends : {A : Type 0} (Next : A → Polled (Option Session) → Type 0) (reading : Reading (Option A)) (answer : Polled (Option Session))
    → GivesRead (λ word other. ⊥) reading answer → GivesRead Next reading answer
read-ends Next (Ok (Some word)) answer gives = absurd gives
read-ends Next (Ok None) answer gives = gives
read-ends Next (Err message) answer gives = gives

polled-ends : (Next : List ℕ → Polled (Option Session) → Type 0) (read : Response (List ℕ) → Reading (Option (List ℕ)))
    (polled : Polled (Response (List ℕ))) (answer : Polled (Option Session))
    → GivesPolled read (λ word other. ⊥) polled answer → GivesPolled read Next polled answer
polled-ends Next read (Ready response) answer gives = read-ends Next (read response) answer gives
polled-ends Next read (Failed error) answer gives = gives
polled-ends Next read Pending answer gives = gives
polled-ends Next read OutOfMemory answer gives = gives

-- nothing that was not sent is pending
pub not_sent-over : (head : Head) (place : List ℕ) (answer : Polled (Option Session)) → NotSent head place answer → answer ≡ Pending → ⊥
not_sent-over head place answer (inl (refused, is)) pending = cc
not_sent-over head place answer (inr memory) pending = cc

module _ {S : Type 0} (Begun : Request (List ℕ) → S → Type 0) where
  -- a send is ready, where each that is begun is
  pub send_is_ready : (IsReady : S → Type 0) (head : Head) (send : S)
      → ((req : Request (List ℕ)) (send : S) → Begun req send → IsReady send) → IsSendOf Begun head send → IsReady send
  send_is_ready IsReady head send ready (req, of, begun) = ready req send begun

  -- a send stays one of its head, where it is pending
  pub stays : (head : Head) (before after : S) (polled : Polled (Response (List ℕ)))
      → ((req : Request (List ℕ)) → Begun req before → CanBePolledAgain polled → Begun req after)
      → polled ≡ Pending → IsSendOf Begun head before → IsSendOf Begun head after
  stays head before after polled kept pending (req, of, begun) = (req, of, kept req begun (again polled pending))

module _ {S : Type 0} (Begun : Request (List ℕ) → S → Type 0) (Answers : Request (List ℕ) → Polled (Response (List ℕ)) → Type 0)
    (variables : List ℕ → Option (List ℕ)) {A : Type 0} (head : Head) (place : List ℕ) (read : Response (List ℕ) → Reading (Option A))
    (Next : A → Polled (Option Session) → Type 0) (leads : LeadsTo (GivesAsked Answers head place read Next) (InstanceGives variables Answers)) where
  -- what is given at an answer of the send is given
  pub answered : (send : S) (polled : Polled (Response (List ℕ))) (answer : Polled (Option Session)) → IsSendOf Begun head send
      → ((req : Request (List ℕ)) → Begun req send → Answers req polled)
      → GivesPolled read Next polled answer → InstanceGives variables Answers answer
  answered send polled answer (req, of, begun) answers gives =
      leads answer (inl (req, of, (polled, answers req begun, gives)))

  -- the same, or an allocation failed
  pub answered_or_memory : (send : S) (polled : Polled (Response (List ℕ))) (answer : Polled (Option Session)) → IsSendOf Begun head send
      → ((req : Request (List ℕ)) → Begun req send → Answers req polled)
      → GivesPolled read Next polled answer ⊎ (answer ≡ OutOfMemory) → InstanceGives variables Answers answer
  answered_or_memory send polled answer of answers (inl gives) = answered send polled answer of answers gives
  answered_or_memory send polled answer of answers (inr memory) =
      subst (InstanceGives variables Answers) (sym memory) (memory_is_given variables Answers)

-- where nothing was sent, what the load ends with is given
pub not_sent : (Answers : Request (List ℕ) → Polled (Response (List ℕ)) → Type 0) (variables : List ℕ → Option (List ℕ)) {A : Type 0}
    (head : Head) (place : List ℕ) (read : Response (List ℕ) → Reading (Option A)) (Next : A → Polled (Option Session) → Type 0)
    → LeadsTo (GivesAsked Answers head place read Next) (InstanceGives variables Answers)
    → (answer : Polled (Option Session)) → NotSent head place answer → InstanceGives variables Answers answer
not_sent Answers variables head place read Next leads answer (inl refused) = leads answer (inr refused)
not_sent Answers variables head place read Next leads answer (inr memory) =
    subst (InstanceGives variables Answers) (sym memory) (memory_is_given variables Answers)

module _ {S : Type 0} (Begun : Request (List ℕ) → S → Type 0) (Answers : Request (List ℕ) → Polled (Response (List ℕ)) → Type 0)
    (variables : List ℕ → Option (List ℕ)) (head : Head) (place : List ℕ) (read : Response (List ℕ) → Reading (Option (List ℕ)))
    (Next : List ℕ → Polled (Option Session) → Type 0) (leads : LeadsTo (GivesAsked Answers head place read Next) (InstanceGives variables Answers)) where
  -- where the answer of the send ends the load, that is given
  pub ended : (send : S) (polled : Polled (Response (List ℕ))) (answer : Polled (Option Session)) → IsSendOf Begun head send
      → ((req : Request (List ℕ)) → Begun req send → Answers req polled)
      → EndsAt read polled answer → InstanceGives variables Answers answer
  ended send polled answer of answers (inl gives) =
      answered Begun Answers variables head place read Next leads send polled answer of answers (polled-ends Next read polled answer gives)
  ended send polled answer of answers (inr memory) =
      subst (InstanceGives variables Answers) (sym memory) (memory_is_given variables Answers)

  -- with a word that is read of it, what is given from there on is given
  pub goes_on : (send : S) (polled : Polled (Response (List ℕ))) (word : List ℕ) → IsSendOf Begun head send
      → ((req : Request (List ℕ)) → Begun req send → Answers req polled)
      → IsWordOf read polled word → LeadsTo (Next word) (InstanceGives variables Answers)
  goes_on send polled word of answers (response, is, reads) answer gives =
      let P : Polled (Response (List ℕ)) → Type 0 = λ p. GivesPolled read Next p answer in
      let Q : Reading (Option (List ℕ)) → Type 0 = λ r. GivesRead Next r answer in
      answered Begun Answers variables head place read Next leads send polled answer of answers
      (subst P (sym is) (subst Q (sym reads) gives))
