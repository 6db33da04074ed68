-- The counts of an auditor: there is one for each cache, and they are the numbers themselves where these fit
-- the type.
use Rattle.std.proofs.Common.{◌≡◌, ◌<◌, ◌≤◌, ◌^◌, ℕ, Bool, true, false, List, [], ◌∷◌, Option, Some, None, option_map, slice_get, length, filter, refl, ◌∙◌, arith}
use Rattle.std.proofs.lemmas.Option.{slice_get_within, slice_get-get_or}
use Rattle.sequential_signer.specs.Replies.{is_sign, is_ask, is_refused, is_cancelled}
use Rattle.sequential_signer.specs.Policy.{Policy}
use Rattle.sequential_signer.specs.Setup.{Setup}
use Rattle.sequential_signer.specs.Transcript.{is_out_of_memory}
use Rattle.sequential_signer.specs.declared.event.Entry.{Entry}
use Rattle.sequential_signer.specs.declared.event.Reply.{Reply}
use Rattle.desk_parts.specs.Tables.{setup_of}
use Rattle.sign_audit.specs.AuditState.{AuditState, AuditRepresents}
use Rattle.sign_audit.specs.Counts.{is_kind_at, number_at, counts_of, up_to_end, counts_up_to_end}
use Rattle.sign_audit.specs.declared.counts.Counts.{Counts}
use Rattle.sign_audit.proofs.Counting.{same_counts}

-- a list that has an item where another has one
within-both : {A B : Type 0} (xs : List A) (ys : List B) (i : ℕ) (x : A) (o : Option B) → slice_get ys i ≡ o
    → slice_get xs i ≡ option_map (λ _. x) o → i < length ys → i < length xs
within-both xs ys i x (Some y) at is few = slice_get_within xs i x is
within-both xs [] i x None at is few = omega (arith, few)
within-both xs (y ∷ ys) i x None at is few = let some : slice_get (y ∷ ys) i ≡ Some _ = slice_get-get_or (y ∷ ys) i y few in absurd (cc)

taken-few : {A : Type 0} (p : A → Bool) (xs : List A) → length (filter p xs) ≤ length xs
taken-few p [] = omega arith
taken-few p (x ∷ xs) = by_test (p x) refl (taken-few p xs)
  where
    by_test : (b : Bool) → p x ≡ b → length (filter p xs) ≤ length xs
        → length (filter p (x ∷ xs)) ≤ length (x ∷ xs)
    by_test true h rest = rw h (omega (arith, rest))
    by_test false h rest = rw h (omega (arith, rest))

fits-end : (n m : ℕ) → n ≤ m → m < 2 ^ 64 → up_to_end n ≡ n
fits-end n m few end = omega (arith, few, end)

module _ {K D : Type 0} (setup : Setup D) (entries : List (Entry K)) (few : length entries < 2 ^ 64) (i : ℕ) where
  number-fits : (kind : Reply K → Bool)
      → up_to_end (number_at setup i kind entries) ≡ number_at setup i kind entries
  number-fits kind = fits-end (number_at setup i kind entries) (length entries) (taken-few (is_kind_at setup i kind) entries) few

  -- counts of no more entries than the type has numbers stand still nowhere
  pub counts-fit : counts_up_to_end (counts_of setup entries i) ≡ counts_of setup entries i
  counts-fit = same_counts (counts_up_to_end (counts_of setup entries i)) (counts_of setup entries i) (number-fits is_ask) (number-fits is_sign) (number-fits is_refused) (number-fits is_cancelled) (number-fits is_out_of_memory)

module _ {K D : Type 0} (policy : Policy K D) (audit : AuditState K D) (entries : List (Entry K)) (stood : AuditRepresents policy audit entries) (i : ℕ) (there : i < length audit.desk.loaders) where
  -- each cache has its counts
  pub has-counts : i < length audit.counts
  has-counts = within-both audit.counts audit.desk.loaders i (counts_up_to_end (counts_of (setup_of audit.desk) entries i)) (slice_get audit.desk.loaders i) refl (stood.counts i) there

  counts-by : (o : Option _) → slice_get audit.desk.loaders i ≡ o → (c : Counts)
      → Some c ≡ option_map (λ _. counts_up_to_end (counts_of (setup_of audit.desk) entries i)) o
      → c ≡ counts_up_to_end (counts_of (setup_of audit.desk) entries i)
  counts-by None at c is = absurd (cc)
  counts-by (Some l) at c is = cc

  -- they are those of the claims
  pub counts-are : (c : Counts) → Some c ≡ slice_get audit.counts i → length entries < 2 ^ 64
      → c ≡ counts_of (setup_of audit.desk) entries i
  counts-are c is few = counts-by (slice_get audit.desk.loaders i) refl c (is ∙ stood.counts i) ∙ counts-fit (setup_of audit.desk) entries few i
