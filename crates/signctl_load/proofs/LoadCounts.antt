-- The counts of `load`, reply by reply.
use Rattle.std.proofs.Common.{◌≡◌, ◌<◌, ◌+◌, ◌-◌, ◌^◌, ℕ, Bool, true, false, cond, List, [], ◌∷◌, ◌++◌, length, length-append, refl, sym, ap, ◌∙◌, arith}
use Rattle.std.specs.List.{count_by}
use Rattle.std.proofs.lemmas.List.Sums.{sum_by-append, count_by-le-length}
use Rattle.sequential_signer.specs.Phase.{is_begun, is_pending, is_not_now}
use Rattle.sequential_signer.specs.Replies.{is_sign, is_ask, is_done, is_refused, is_cancelled}
use Rattle.sequential_signer.specs.declared.event.Entry.{Entry}
use Rattle.sequential_signer.specs.declared.event.Reply.{Reply}
use Rattle.signctl_format.specs.declared.credential.ScriptCredential.{ScriptCredential}
use Rattle.signctl_load.specs.Load.{count_of, counts_of}
use Rattle.signctl_load.specs.LoadState.{counted, with_reply, AreCounts}
use Rattle.signctl_load.specs.declared.counts.Counts.{Counts}

-- no replies
pub counts-none : (counts : Counts) → counts ≡ counts_of [] → AreCounts counts []
counts-none counts e = λ room. e

-- one more, where it fits
one-counted : (b : Bool) (n m : ℕ) → m < 2 ^ 64 - 1 → n ≡ m + cond b 1 0 → n ≡ counted b m
one-counted true n m h e = omega arith
one-counted false n m h e = omega arith

module _ (entries : List (Entry ScriptCredential)) (entry : Entry ScriptCredential) (room : length (entries ++ entry ∷ []) < 2 ^ 64) where
  -- a kind of reply, with one more
  kind-more : (kind : Reply ScriptCredential → Bool)
      → count_of kind (entries ++ entry ∷ []) ≡ counted (kind entry.reply) (count_of kind entries)
  kind-more kind =
      let of : Entry ScriptCredential → Bool = λ e. kind e.reply in
      let few : count_by of entries < 2 ^ 64 - 1 = omega (arith, count_by-le-length of entries, length-append entries (entry ∷ []), room) in
      let sum : count_by of (entries ++ entry ∷ []) ≡ count_by of entries + cond (of entry) 1 0 =
      sum_by-append (λ e. cond (of e) 1 0) entries (entry ∷ []) ∙ omega arith in
      one-counted (kind entry.reply) (count_by of (entries ++ entry ∷ [])) (count_by of entries) few sum

  all-more : counts_of (entries ++ entry ∷ []) ≡ with_reply entry.reply (counts_of entries)
  unfolding counts_of
  all-more =
      rw (
        kind-more is_begun,
        kind-more is_pending,
        kind-more is_ask,
        kind-more is_sign,
        kind-more is_done,
        kind-more is_refused,
        kind-more is_cancelled,
        kind-more is_not_now,
      ) refl

-- one more reply
pub counts-more : (counts : Counts) (entries : List (Entry ScriptCredential)) (entry : Entry ScriptCredential)
    → AreCounts counts entries → AreCounts (with_reply entry.reply counts) (entries ++ entry ∷ [])
counts-more counts entries entry are = λ room.
    let less : length entries < 2 ^ 64 = omega (arith, length-append entries (entry ∷ []), room) in
    ap (λ (c : Counts). with_reply entry.reply c) (are less) ∙ sym (all-more entries entry room)
