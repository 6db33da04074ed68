-- The auditor of a fresh desk: nobody is in line, and nothing was counted.
use Rattle.std.proofs.Common.{◌≡◌, ℕ, zero, suc, ◌-◌, Bool, false, if◌then◌else◌, List, [], ◌∷◌, ◌++◌, Some, Result, Ok, Err, is_ok, is_err, option_map, slice_get, length, take, replicate, refl, sym, ◌∙◌, ap, arith}
use Rattle.sign_base.specs.declared.call_id.CallId.{CallId}
use Rattle.sequential_signer.specs.Policy.{Policy}
use Rattle.sequential_signer.specs.Turn.{poll_order}
use Rattle.sequential_signer.specs.Setup.{Setup}
use Rattle.sequential_signer.specs.Transcript.{committed_entries}
use Rattle.desk_parts.specs.Queue.{Queue}
use Rattle.desk_parts.specs.Tables.{setup_of}
use Rattle.sign_desk.specs.DeskState.{DeskState, Represents}
use Rattle.sign_desk.specs.TranscriptQueue.{queue_of}
use Rattle.sign_audit.specs.AuditState.{AuditRepresents}
use Rattle.sign_audit.specs.IsAudit.{IsAudit}
use Rattle.sign_audit.specs.OrderChange.{orders_of}
use Rattle.sign_audit.specs.declared.counts.Counts.{Counts}

-- no replies
abbrev pub none : Counts
none = record { asks = 0; signs = 0; refused = 0; cancelled = 0; missed = 0 }

-- a list of one value for each item of another
replicate-at : {A B : Type 0} (v : B) (xs : List A) (i : ℕ)
    → slice_get (replicate (length xs) v) i ≡ option_map (λ _. v) (slice_get xs i)
replicate-at v [] i = refl
replicate-at v (x ∷ xs) zero = refl
replicate-at v (x ∷ xs) (suc i) = replicate-at v xs i

no_line : (K D : Type 0) (setup : Setup D) (i : ℕ)
    → (queue_of setup (committed_entries {K = K} []) i).line ≡ []
unfolding committed_entries poll_order
no_line K D setup i = refl

item-is : {A : Type 0} (x y : A) → Some x ≡ Some y → x ≡ y
item-is x y e = cc

lines-none : {A : Type 0} (queues : List Queue) (loaders : List A) (q : ℕ → Queue)
    → ((i : ℕ) → (q i).line ≡ [])
    → ((i : ℕ) → slice_get queues i ≡ option_map (λ _. q i) (slice_get loaders i))
    → orders_of queues ≡ replicate (length loaders) []
lines-none [] [] q e h = refl
lines-none [] (l ∷ ls) q e h = let no = h 0 in absurd (cc)
lines-none (x ∷ xs) [] q e h = let no = h 0 in absurd (cc)
lines-none (x ∷ xs) (l ∷ ls) q e h =
    let first : x.line ≡ [] = ap (λ (y : Queue). y.line) (item-is x (q 0) (h 0)) ∙ e 0 in
    let rest : orders_of xs ≡ replicate (length ls) [] = lines-none xs ls (λ i. q (suc i)) (λ i. e (suc i)) (λ i. h (suc i)) in
    rw (first, rest) refl

module _ {K D : Type 0} (policy : Policy K D) (desk : DeskState K D) (counts : List Counts) (caches : ℕ) (stood : Represents policy desk []) (all : caches ≡ length desk.loaders) (zeros : counts ≡ replicate caches none) where
  -- it represents no claims
  pub represents-new : AuditRepresents policy (record { desk = desk; counts = counts }) []
  represents-new = record {
    desk = stood;
    counts = λ i. ap (λ cs. slice_get cs i) zeros ∙ ap (λ n. slice_get (replicate n none) i) all ∙ replicate-at none desk.loaders i;
  }

  -- it is an auditor
  pub audit-new : (lines : List (List CallId)) → lines ≡ replicate caches []
      → IsAudit policy (record { desk = desk; counts = counts }) lines
  audit-new lines empty = record {
    entries = [];
    represents = represents-new;
    orders_are = empty ∙ ap (λ n. replicate n []) all ∙ sym (lines-none desk.queues desk.loaders (λ i. queue_of (setup_of desk) (committed_entries []) i) (no_line K D (setup_of desk)) stood.queues);
  }

take-none : {A : Type 0} (n : ℕ) → take {A = A} n [] ≡ []
take-none zero = refl
take-none (suc n) = refl

all-left : (n len : ℕ) → len ≡ 0 → n - len ≡ n
all-left n len none-yet = omega (arith, none-yet)

-- an empty list that is filled up
pub filled : {E : Type 0} (r : Result (Unit {0}) E) (n len : ℕ) (old new : List Counts) (v : Counts)
    (failed : Bool) → old ≡ [] → len ≡ 0 → v ≡ none → failed ≡ false → failed ≡ is_err r
    → new ≡ (if is_ok r then take n old ++ replicate (n - len) v else old) → new ≡ replicate n none
filled (Ok x) n len old new v failed empty zeros is fine at h =
    h ∙ ap (λ (xs : List Counts). take n xs ++ replicate (n - len) v) empty ∙ ap (λ (xs : List Counts). xs ++ replicate (n - len) v) (take-none n) ∙ ap (λ k. replicate k v) (all-left n len zeros) ∙ ap (λ w. replicate n w) is
filled (Err e) n len old new v failed empty zeros is fine at h = absurd (cc)
