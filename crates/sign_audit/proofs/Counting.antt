-- The counts after one more reply.
use Rattle.std.proofs.Common.{◌≡◌, ◌≤◌, ◌==◌, ℕ, zero, suc, ◌+◌, Bool, true, false, if◌then◌else◌, List, [], ◌∷◌, ◌++◌, Option, Some, None, filter, length, option_map, slice_get, refl, sym, ◌∙◌, ap, subst, arith}
use Rattle.std.proofs.lemmas.List.{length_push}
use Rattle.sequential_signer.specs.Replies.{is_sign, is_ask, is_refused, is_cancelled}
use Rattle.sequential_signer.specs.Setup.{Setup, cache_of, is_of_cache, is_number}
use Rattle.sequential_signer.specs.Transcript.{call_of, is_out_of_memory}
use Rattle.sequential_signer.specs.declared.event.Entry.{Entry}
use Rattle.sequential_signer.specs.declared.event.Reply.{Reply}
use Rattle.sequential_signer.specs.declared.event.Reply.TheVariants.{Begun, Pending, NotNow, OutOfMemory, Ask, Sign, Refused, Done, Cancelled}
use Rattle.sequential_signer.proofs.Lists.{filter-more_yes, filter-more_no}
use Rattle.sign_base.proofs.Truth.{number_refl, same_number}
use Rattle.desk_parts.specs.Queue.{with_changed}
use Rattle.desk_parts.proofs.ChangedAt.{changed-same, changed-other}
use Rattle.sign_audit.specs.Counts.{is_kind_at, number_at, counts_of, up_to_end, counts_up_to_end, counted}
use Rattle.sign_audit.specs.declared.counts.Counts.{Counts}

-- counts that have the same numbers
pub same_counts : (a b : Counts) → a.asks ≡ b.asks → a.signs ≡ b.signs → a.refused ≡ b.refused
    → a.cancelled ≡ b.cancelled → a.missed ≡ b.missed → a ≡ b
same_counts a b asks signs refused cancelled missed = λ i. record { asks = asks i; signs = signs i; refused = refused i; cancelled = cancelled i; missed = missed i }

-- one more, up to the end
next : (n m : ℕ) → m ≡ n + 1 → up_to_end m ≡ up_to_end (up_to_end n + 1)
next n m e = omega (arith, e)

module _ {K : Type 0} (f g : (Reply K → Bool) → ℕ) where
  -- the counts by the number of each kind
  abbrev by_kind : ((Reply K → Bool) → ℕ) → Counts
  by_kind n = record { asks = up_to_end (n is_ask); signs = up_to_end (n is_sign); refused = up_to_end (n is_refused); cancelled = up_to_end (n is_cancelled); missed = up_to_end (n is_out_of_memory) }

  -- where no number changes
  none_more : ((kind : Reply K → Bool) → g kind ≡ f kind) → by_kind g ≡ by_kind f
  none_more h = same_counts (by_kind g) (by_kind f) (ap up_to_end (h is_ask)) (ap up_to_end (h is_sign)) (ap up_to_end (h is_refused)) (ap up_to_end (h is_cancelled)) (ap up_to_end (h is_out_of_memory))

  -- where each kind of the reply has one more
  one_more : (reply : Reply K)
      → ((kind : Reply K → Bool) → g kind ≡ (if kind reply then f kind + 1 else f kind))
      → by_kind g ≡ counted reply (by_kind f)
  one_more (Ask k) h = same_counts (by_kind g) (counted {K = K} (Ask k) (by_kind f)) (next (f is_ask) (g is_ask) (h is_ask)) (ap up_to_end (h is_sign)) (ap up_to_end (h is_refused)) (ap up_to_end (h is_cancelled)) (ap up_to_end (h is_out_of_memory))
  one_more (Sign c wake) h = same_counts (by_kind g) (counted (Sign c wake) (by_kind f)) (ap up_to_end (h is_ask)) (next (f is_sign) (g is_sign) (h is_sign)) (ap up_to_end (h is_refused)) (ap up_to_end (h is_cancelled)) (ap up_to_end (h is_out_of_memory))
  one_more (Refused why wake) h = same_counts (by_kind g) (counted {K = K} (Refused why wake) (by_kind f)) (ap up_to_end (h is_ask)) (ap up_to_end (h is_sign)) (next (f is_refused) (g is_refused) (h is_refused)) (ap up_to_end (h is_cancelled)) (ap up_to_end (h is_out_of_memory))
  one_more (Cancelled wake) h = same_counts (by_kind g) (counted {K = K} (Cancelled wake) (by_kind f)) (ap up_to_end (h is_ask)) (ap up_to_end (h is_sign)) (ap up_to_end (h is_refused)) (next (f is_cancelled) (g is_cancelled) (h is_cancelled)) (ap up_to_end (h is_out_of_memory))
  one_more OutOfMemory h = same_counts (by_kind g) (counted {K = K} OutOfMemory (by_kind f)) (ap up_to_end (h is_ask)) (ap up_to_end (h is_sign)) (ap up_to_end (h is_refused)) (ap up_to_end (h is_cancelled)) (next (f is_out_of_memory) (g is_out_of_memory) (h is_out_of_memory))
  one_more Begun h = same_counts (by_kind g) (by_kind f) (ap up_to_end (h is_ask)) (ap up_to_end (h is_sign)) (ap up_to_end (h is_refused)) (ap up_to_end (h is_cancelled)) (ap up_to_end (h is_out_of_memory))
  one_more Pending h = same_counts (by_kind g) (by_kind f) (ap up_to_end (h is_ask)) (ap up_to_end (h is_sign)) (ap up_to_end (h is_refused)) (ap up_to_end (h is_cancelled)) (ap up_to_end (h is_out_of_memory))
  one_more NotNow h = same_counts (by_kind g) (by_kind f) (ap up_to_end (h is_ask)) (ap up_to_end (h is_sign)) (ap up_to_end (h is_refused)) (ap up_to_end (h is_cancelled)) (ap up_to_end (h is_out_of_memory))
  one_more (Done head) h = same_counts (by_kind g) (by_kind f) (ap up_to_end (h is_ask)) (ap up_to_end (h is_sign)) (ap up_to_end (h is_refused)) (ap up_to_end (h is_cancelled)) (ap up_to_end (h is_out_of_memory))

module _ {K D : Type 0} (setup : Setup D) (entries : List (Entry K)) (e : Entry K) where
  number-here : (i : ℕ) → is_of_cache setup i (call_of e.event) ≡ true → (kind : Reply K → Bool)
      → number_at setup i kind (entries ++ e ∷ [])
      ≡ (if kind e.reply then number_at setup i kind entries + 1 else number_at setup i kind entries)
  number-here i here kind = by_kind_of (kind e.reply) refl
    where
      by_kind_of : (b : Bool) → kind e.reply ≡ b
          → number_at setup i kind (entries ++ e ∷ [])
          ≡ (if b then number_at setup i kind entries + 1 else number_at setup i kind entries)
      by_kind_of true k = ap length (filter-more_yes (is_kind_at setup i kind) entries e (rw (here, k) refl)) ∙ length_push (filter (is_kind_at setup i kind) entries) e
      by_kind_of false k = ap length (filter-more_no (is_kind_at setup i kind) entries e (rw (here, k) refl))

  number-elsewhere : (i : ℕ) → is_of_cache setup i (call_of e.event) ≡ false → (kind : Reply K → Bool)
      → number_at setup i kind (entries ++ e ∷ []) ≡ number_at setup i kind entries
  number-elsewhere i other kind = ap length (filter-more_no (is_kind_at setup i kind) entries e (rw other refl))

  -- at the cache of its call an entry is counted
  pub counts-here : (i : ℕ) → is_of_cache setup i (call_of e.event) ≡ true
      → counts_up_to_end (counts_of setup (entries ++ e ∷ []) i)
      ≡ counted e.reply (counts_up_to_end (counts_of setup entries i))
  counts-here i here = one_more (λ kind. number_at setup i kind entries) (λ kind. number_at setup i kind (entries ++ e ∷ [])) e.reply (number-here i here)

  -- at others it is not
  pub counts-elsewhere : (i : ℕ) → is_of_cache setup i (call_of e.event) ≡ false
      → counts_up_to_end (counts_of setup (entries ++ e ∷ []) i)
      ≡ counts_up_to_end (counts_of setup entries i)
  counts-elsewhere i other = none_more (λ kind. number_at setup i kind entries) (λ kind. number_at setup i kind (entries ++ e ∷ [])) (number-elsewhere i other)

  -- an entry of no cache is counted nowhere
  pub counts-unset : cache_of setup (call_of e.event) ≡ None → (i : ℕ)
      → counts_up_to_end (counts_of setup (entries ++ e ∷ []) i)
      ≡ counts_up_to_end (counts_of setup entries i)
  counts-unset none i = counts-elsewhere i (ap (is_number i) none)

  module _ {L : Type 0} (counts : List Counts) (loaders : List L) (stood : (i : ℕ) → slice_get counts i ≡ option_map (λ _. counts_up_to_end (counts_of setup entries i)) (slice_get loaders i)) where
    -- the counts where the entry is of no cache
    pub counts-same : cache_of setup (call_of e.event) ≡ None → (i : ℕ)
        → slice_get counts i
        ≡ option_map (λ _. counts_up_to_end (counts_of setup (entries ++ e ∷ []) i)) (slice_get loaders i)
    counts-same none i = stood i ∙ ap (λ c. option_map (λ _. c) (slice_get loaders i)) (sym (counts-unset none i))

    -- the counts where the entry is counted at its cache
    pub counts-after : (cache : ℕ) → cache_of setup (call_of e.event) ≡ Some cache → (i : ℕ)
        → slice_get (with_changed (counted e.reply) cache counts) i
        ≡ option_map (λ _. counts_up_to_end (counts_of setup (entries ++ e ∷ []) i)) (slice_get loaders i)
    counts-after cache at i = by_place (i == cache) refl
      where
        of : is_of_cache setup i (call_of e.event) ≡ (i == cache)
        of = ap (is_number i) at

        mapped : (o : Option L) (c : Counts)
            → option_map (counted e.reply) (option_map (λ _. c) o) ≡ option_map (λ _. counted e.reply c) o
        mapped None c = refl
        mapped (Some l) c = refl

        here : i ≡ cache → is_of_cache setup i (call_of e.event) ≡ true
            → slice_get (with_changed (counted e.reply) cache counts) i
            ≡ option_map (λ _. counts_up_to_end (counts_of setup (entries ++ e ∷ []) i)) (slice_get loaders i)
        here same h =
            ap (λ (k : ℕ). slice_get (with_changed (counted e.reply) k counts) i) (sym same)
            ∙ changed-same (counted e.reply) counts i
            ∙ ap (option_map (counted e.reply)) (stood i)
            ∙ mapped (slice_get loaders i) (counts_up_to_end (counts_of setup entries i))
            ∙ ap (λ c. option_map (λ _. c) (slice_get loaders i)) (sym (counts-here i h))

        by_place : (b : Bool) → (i == cache) ≡ b
            → slice_get (with_changed (counted e.reply) cache counts) i
            ≡ option_map (λ _. counts_up_to_end (counts_of setup (entries ++ e ∷ []) i)) (slice_get loaders i)
        by_place true k = here (same_number i cache k) (of ∙ k)
        by_place false k =
            changed-other (counted e.reply) counts cache i (λ same. let t : (i == cache) ≡ true = subst (λ n. (i == n) ≡ true) (sym same) (number_refl i) in absurd (cc))
            ∙ stood i
            ∙ ap (λ c. option_map (λ _. c) (slice_get loaders i)) (sym (counts-elsewhere i (of ∙ k)))

-- a change at no place of a list does nothing
pub changed-beyond : {A : Type 0} (f : A → A) (xs : List A) (i : ℕ) → length xs ≤ i
    → with_changed f i xs ≡ xs
changed-beyond f [] i h = refl
changed-beyond f (x ∷ xs) zero h = absurd (omega (arith, h))
changed-beyond f (x ∷ xs) (suc i) h = ap (λ zs. x ∷ zs) (changed-beyond f xs i (omega (arith, h)))
