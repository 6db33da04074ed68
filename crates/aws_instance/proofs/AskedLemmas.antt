-- What holds of a load at each of its steps.
use Rattle.std.proofs.Common.{◌≡◌, ◌⊎◌, ℕ, List, [], inl, inr, Option, Some, None, Ok, Err, refl, sym, subst, ap, ◌∙◌}
use Rattle.http.specs.declared.request.Request.{Request}
use Rattle.http.specs.declared.response.Response.{Response}
use Rattle.sign_base.specs.Error.{ErrorParts, new_error}
use Rattle.sign_base.specs.declared.error_kind.ErrorKind.TheVariants as kind
use Rattle.credentials.specs.declared.polled.Polled.{Polled}
use Rattle.credentials.specs.declared.polled.Polled.TheVariants.{Pending, Ready, Failed, OutOfMemory}
use Rattle.credentials.specs.Polled.{CanBePolledAgain}
use Rattle.aws_credentials.specs.Session.{Session}
use Rattle.aws_json.specs.Reading.{Reading}
use Rattle.aws_endpoints.specs.Asking.{IsSendOf, GivesPolled, GivesRead}
use Rattle.aws_endpoints.specs.Answer.{session_in_answer, EndsWith}
use Rattle.aws_instance.specs.Requests.{service_root, token_head, role_head, credential_head}
use Rattle.aws_instance.specs.Answers.{word_place, word_in_answer}
use Rattle.aws_instance.specs.declared.asked_word.AskedWord.TheVariants.{Token, Role}
use Rattle.aws_instance.specs.Instance.{InstanceGives, GivesToken, GivesRole, GivesCredential, LeadsTo, IsWordOf, EndsAt}
use Rattle.aws_instance.specs.Instance.{TokenAsked, RoleAsked, CredentialAsked, credential_place}
use Rattle.aws_instance.proofs.StepLemmas.{answered_or_memory, ended, goes_on, stays, send_is_ready}

module _ (Answers : Request (List ℕ) → Polled (Response (List ℕ)) → Type 0) (variables : List ℕ → Option (List ℕ)) where
  -- what is given from the token on is given, where the environment names this address
  pub root_leads : (root : List ℕ) → service_root variables ≡ Ok (Some root)
      → LeadsTo (GivesToken Answers root) (InstanceGives variables Answers)
  unfolding InstanceGives
  root_leads root is answer gives =
      let P : Reading (Option (List ℕ)) → Type 0 = λ r. GivesRead (GivesToken Answers) r answer in
      inl (subst P (sym is) gives)

  -- that there is no credential is given, where the environment switches the service off
  pub none_is_given : service_root variables ≡ Ok None → InstanceGives variables Answers (Ready None)
  unfolding InstanceGives
  none_is_given is =
      let P : Reading (Option (List ℕ)) → Type 0 = λ r. GivesRead (GivesToken Answers) r (Ready None) in
      inl (subst P (sym is) refl)

  -- why the environment names no address is given
  pub refusal_is_given : (e : ErrorParts) (answer : Polled (Option Session))
      → (e ≡ new_error kind.OutOfMemory []) ⊎ ((message : List ℕ) × (service_root variables ≡ Err message) × (e ≡ new_error kind.CredentialInvalid message))
      → (e.kind ≡ kind.OutOfMemory → answer ≡ OutOfMemory) → ((e.kind ≡ kind.OutOfMemory → ⊥) → answer ≡ Failed e)
      → InstanceGives variables Answers answer
  unfolding InstanceGives
  refusal_is_given e answer (inl memory) same other = inr (same (ap (λ (x : ErrorParts). x.kind) memory))
  refusal_is_given e answer (inr (message, is, refused)) same other =
      let P : Reading (Option (List ℕ)) → Type 0 = λ r. GivesRead (GivesToken Answers) r answer in
      let failed : answer ≡ Failed e = other (λ k. let both : kind.CredentialInvalid ≡ kind.OutOfMemory = sym (ap (λ (x : ErrorParts). x.kind) refused) ∙ k in absurd cc) in
      inl (subst P (sym is) (failed ∙ ap (λ (x : ErrorParts). Failed x) refused))

module _ {S : Type 0} (Begun : Request (List ℕ) → S → Type 0) (Answers : Request (List ℕ) → Polled (Response (List ℕ)) → Type 0)
    (variables : List ℕ → Option (List ℕ)) where
  -- a token that was asked for at this address
  pub token_asked : (root : List ℕ) (send : S) → service_root variables ≡ Ok (Some root)
      → IsSendOf Begun (token_head root) send → TokenAsked Begun Answers variables root send
  unfolding TokenAsked
  token_asked root send is of = (of, root_leads Answers variables root is)

  -- it is ready, where each send that is begun is
  pub token_is_ready : (IsReady : S → Type 0) (root : List ℕ) (send : S)
      → ((req : Request (List ℕ)) (send : S) → Begun req send → IsReady send)
      → TokenAsked Begun Answers variables root send → IsReady send
  unfolding TokenAsked
  token_is_ready IsReady root send ready (of, leads) = send_is_ready Begun IsReady (token_head root) send ready of

  -- a send that waits stays what it is
  pub token_stays : (root : List ℕ) (before after : S) (polled : Polled (Response (List ℕ)))
      → ((req : Request (List ℕ)) → Begun req before → CanBePolledAgain polled → Begun req after)
      → polled ≡ Pending → TokenAsked Begun Answers variables root before → TokenAsked Begun Answers variables root after
  unfolding TokenAsked
  token_stays root before after polled kept pending (of, leads) =
      (stays Begun (token_head root) before after polled kept pending of, leads)

  pub role_stays : (root token : List ℕ) (before after : S) (polled : Polled (Response (List ℕ)))
      → ((req : Request (List ℕ)) → Begun req before → CanBePolledAgain polled → Begun req after)
      → polled ≡ Pending → RoleAsked Begun Answers variables root token before → RoleAsked Begun Answers variables root token after
  unfolding RoleAsked
  role_stays root token before after polled kept pending (of, leads) =
      (stays Begun (role_head root token) before after polled kept pending of, leads)

  pub credential_stays : (before after : S) (polled : Polled (Response (List ℕ)))
      → ((req : Request (List ℕ)) → Begun req before → CanBePolledAgain polled → Begun req after)
      → polled ≡ Pending → CredentialAsked Begun Answers variables before → CredentialAsked Begun Answers variables after
  unfolding CredentialAsked
  credential_stays before after polled kept pending (root, token, role, of, leads) =
      (root, token, role, stays Begun (credential_head root token role) before after polled kept pending of, leads)

  -- what its answer ends with is given
  pub token_ended : (root : List ℕ) (send : S) (polled : Polled (Response (List ℕ))) (answer : Polled (Option Session))
      → ((req : Request (List ℕ)) → Begun req send → Answers req polled) → EndsAt (word_in_answer Token) polled answer
      → TokenAsked Begun Answers variables root send → InstanceGives variables Answers answer
  unfolding TokenAsked
  token_ended root send polled answer answers ends (of, leads) =
      ended Begun Answers variables (token_head root) (word_place Token) (word_in_answer Token) (GivesRole Answers root) leads
      send polled answer of answers ends

  pub role_ended : (root token : List ℕ) (send : S) (polled : Polled (Response (List ℕ))) (answer : Polled (Option Session))
      → ((req : Request (List ℕ)) → Begun req send → Answers req polled) → EndsAt (word_in_answer Role) polled answer
      → RoleAsked Begun Answers variables root token send → InstanceGives variables Answers answer
  unfolding RoleAsked
  role_ended root token send polled answer answers ends (of, leads) =
      ended Begun Answers variables (role_head root token) (word_place Role) (word_in_answer Role) (GivesCredential Answers root token) leads
      send polled answer of answers ends

  pub credential_ended : (send : S) (polled : Polled (Response (List ℕ))) (answer : Polled (Option Session))
      → ((req : Request (List ℕ)) → Begun req send → Answers req polled)
      → GivesPolled (session_in_answer credential_place) EndsWith polled answer ⊎ (answer ≡ OutOfMemory)
      → CredentialAsked Begun Answers variables send → InstanceGives variables Answers answer
  unfolding CredentialAsked
  credential_ended send polled answer answers gives (root, token, role, of, leads) =
      answered_or_memory Begun Answers variables (credential_head root token role) credential_place
      (session_in_answer credential_place) EndsWith leads send polled answer of answers gives

  -- with the word of its answer, what is given from there on is given
  pub token_leads : (root : List ℕ) (send : S) (polled : Polled (Response (List ℕ))) (token : List ℕ)
      → ((req : Request (List ℕ)) → Begun req send → Answers req polled) → IsWordOf (word_in_answer Token) polled token
      → TokenAsked Begun Answers variables root send → LeadsTo (GivesRole Answers root token) (InstanceGives variables Answers)
  unfolding TokenAsked
  token_leads root send polled token answers is (of, leads) =
      goes_on Begun Answers variables (token_head root) (word_place Token) (word_in_answer Token) (GivesRole Answers root) leads
      send polled token of answers is

  pub role_leads : (root token : List ℕ) (send : S) (polled : Polled (Response (List ℕ))) (role : List ℕ)
      → ((req : Request (List ℕ)) → Begun req send → Answers req polled) → IsWordOf (word_in_answer Role) polled role
      → RoleAsked Begun Answers variables root token send
      → LeadsTo (GivesCredential Answers root token role) (InstanceGives variables Answers)
  unfolding RoleAsked
  role_leads root token send polled role answers is (of, leads) =
      goes_on Begun Answers variables (role_head root token) (word_place Role) (word_in_answer Role) (GivesCredential Answers root token) leads
      send polled role of answers is

  -- what was sent next is at its step
  pub role_asked : (root token : List ℕ) (send : S) → IsSendOf Begun (role_head root token) send
      → LeadsTo (GivesRole Answers root token) (InstanceGives variables Answers) → RoleAsked Begun Answers variables root token send
  unfolding RoleAsked
  role_asked root token send of leads = (of, leads)

  pub credential_asked : (root token role : List ℕ) (send : S) → IsSendOf Begun (credential_head root token role) send
      → LeadsTo (GivesCredential Answers root token role) (InstanceGives variables Answers) → CredentialAsked Begun Answers variables send
  unfolding CredentialAsked
  credential_asked root token role send of leads = (root, token, role, of, leads)
