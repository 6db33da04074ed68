-- How often calls of a cache were replied to, by the kind of the reply.
use Rattle.std.specs.Prelude.{ℕ, ◌+◌, Bool, ◌&&◌, List, filter, length, min}
use Rattle.sequential_signer.specs.Replies.{is_sign, is_ask, is_cancelled, is_refused}
use Rattle.sequential_signer.specs.Setup.{Setup, is_of_cache}
use Rattle.sequential_signer.specs.Transcript.{call_of, is_out_of_memory}
use Rattle.sequential_signer.specs.declared.event.Entry.{Entry}
use Rattle.sequential_signer.specs.declared.event.Reply.{Reply}
use Rattle.sequential_signer.specs.declared.event.Reply.TheVariants.{OutOfMemory, Ask, Sign, Refused}
use Rattle.sequential_signer.specs.declared.event.Reply.TheVariants.{Cancelled}
use Rattle.sign_audit.specs.declared.counts.Counts.{Counts}

-- whether an entry is of a call of cache i, and its reply of this kind
abbrev pub is_kind_at : {K D : Type 0} → Setup D → ℕ → (Reply K → Bool) → Entry K → Bool
is_kind_at setup i kind e = is_of_cache setup i (call_of e.event) && kind e.reply

-- the number of such entries
abbrev pub number_at : {K D : Type 0} → Setup D → ℕ → (Reply K → Bool) → List (Entry K) → ℕ
number_at setup i kind entries = length (filter (is_kind_at setup i kind) entries)

-- how often calls of cache i were replied to, by the kind of the reply
abbrev pub counts_of : {K D : Type 0} → Setup D → List (Entry K) → ℕ → Counts
counts_of setup entries i = record {
  asks = number_at setup i is_ask entries;
  signs = number_at setup i is_sign entries;
  refused = number_at setup i is_refused entries;
  cancelled = number_at setup i is_cancelled entries;
  missed = number_at setup i is_out_of_memory entries;
}

-- a number that stands still at the end of its type
abbrev pub up_to_end : ℕ → ℕ
up_to_end n = min n 18446744073709551615

-- the counts, each of which stands still at the end of its type
abbrev pub counts_up_to_end : Counts → Counts
counts_up_to_end c = record {
  asks = up_to_end c.asks;
  signs = up_to_end c.signs;
  refused = up_to_end c.refused;
  cancelled = up_to_end c.cancelled;
  missed = up_to_end c.missed;
}

-- the counts with one more reply
abbrev pub counted : {K : Type 0} → Reply K → Counts → Counts
counted (Ask provider) c = record c { asks = up_to_end (c.asks + 1) }
counted (Sign credential wake) c = record c { signs = up_to_end (c.signs + 1) }
counted (Refused why wake) c = record c { refused = up_to_end (c.refused + 1) }
counted (Cancelled wake) c = record c { cancelled = up_to_end (c.cancelled + 1) }
counted OutOfMemory c = record c { missed = up_to_end (c.missed + 1) }
counted _ c = c
