-- Tickets: which are the same, lists in which none stands twice, and what is left of a list when some are
-- checked off.
use Rattle.std.proofs.Common.{◌≡◌, ◌≢◌, ℕ, ◌+◌, Bool, true, false, cond, ◌&&◌, ◌==◌, List, [], ◌∷◌, ◌++◌, Some, None, is_some, length, get_or, refl, sym, ◌∙◌, ap, subst, arith, ⊎_elim, Decides}
use Rattle.std.specs.Prelude.{AllPairs, Contains, IsPermutation}
use Rattle.std.specs.List.{IsDistinct}
use Rattle.std.specs.Map.{lookup, remove_entry, keys_of}
use Rattle.std.proofs.lemmas.Bool.{false≢true}
use Rattle.std.proofs.lemmas.List.{append_assoc, length-append, get_or_append_left, get_or-append-add, get_or_default}
use Rattle.std.proofs.lemmas.List.Elements.{All-contains_itself, Contains-append_cases}
use Rattle.std.proofs.lemmas.List.Sorted.{IsPermutation-refl, IsPermutation-cons, IsPermutation-trans, IsPermutation-map, IsPermutation-append_right, IsPermutation-middle, All-permutation, Contains-permutation}
use Rattle.std.proofs.lemmas.Map.Keys.{IsDistinct-IsPermutation}
use Rattle.std.proofs.lemmas.Map.Made.{is_some-lookup, is_member-Decides, AllPairs-from_IsDistinct, IsDistinct-from_AllPairs}
use Rattle.sign_base.proofs.Truth.{number_refl, same_number, number_comm, and_left, and_right}
use Rattle.pool_books.specs.Index.{AreOnceAmong}
use Rattle.pool_books.specs.declared.job.Ticket.{Ticket}
use Rattle.pool_books.proofs.Joined.{all-left}

-- whether two tickets are the same
abbrev pub same_ticket : Ticket → Ticket → Bool
same_ticket a b = (a.submitter == b.submitter) && (a.number == b.number)

same_ticket-refl : (a : Ticket) → same_ticket a a ≡ true
same_ticket-refl a = ap (λ v. v && (a.number == a.number)) (number_refl a.submitter) ∙ number_refl a.number

pub same_ticket-eq : (a b : Ticket) → same_ticket a b ≡ true → a ≡ b
same_ticket-eq a b h =
    let e : a.submitter ≡ b.submitter = same_number a.submitter b.submitter (and_left _ _ h) in
    let f : a.number ≡ b.number = same_number a.number b.number (and_right _ _ h) in
    ap (λ (n : ℕ). let r : Ticket = record { submitter = n; number = a.number } in r) e
    ∙ ap (λ (n : ℕ). let r : Ticket = record { submitter = b.submitter; number = n } in r) f

same_ticket-comm : (a b : Ticket) → same_ticket a b ≡ same_ticket b a
same_ticket-comm a b =
    ap (λ v. v && (a.number == b.number)) (number_comm a.submitter b.submitter) ∙ ap (λ v. (b.submitter == a.submitter) && v) (number_comm a.number b.number)

pub tickets-decide : (a b : Ticket) → Decides (same_ticket a b) (a ≡ b)
tickets-decide a b = (same_ticket-eq a b, λ e. ap (same_ticket a) (sym e) ∙ same_ticket-refl a)

-- none stands twice
abbrev pub Apart : List Ticket → Type 0
Apart tickets = AllPairs (λ a b. a ≢ b) tickets

pub apart-distinct : (tickets : List Ticket) → IsDistinct same_ticket tickets → Apart tickets
apart-distinct tickets h = AllPairs-from_IsDistinct {eq = same_ticket} tickets-decide tickets h

pub apart-moved : (xs ys : List Ticket) → IsPermutation xs ys → Apart xs → Apart ys
apart-moved xs ys moved apart =
    apart-distinct ys
    (IsDistinct-IsPermutation same_ticket same_ticket-comm xs ys moved (IsDistinct-from_AllPairs {eq = same_ticket} tickets-decide xs apart))

pub apart-left : (xs ys : List Ticket) → Apart (xs ++ ys) → Apart xs
apart-left xs ys apart = λ i j d before within same.
    let n : length (xs ++ ys) ≡ length xs + length ys = length-append xs ys in
    let a = get_or_append_left xs ys d i (omega (arith, before, within)) in
    let b = get_or_append_left xs ys d j within in
    apart i j d before (omega (arith, n, within)) (a ∙ same ∙ sym b)

-- a ticket that stands behind some is none of them
pub not-before : (before rest : List Ticket) (ticket : Ticket) → Apart (before ++ ticket ∷ rest)
    → Contains before ticket → ⊥
not-before before rest ticket apart (k, within, is) =
    let n : length (before ++ ticket ∷ rest) ≡ length before + length (ticket ∷ rest) = length-append before (ticket ∷ rest) in
    let a = get_or_append_left before (ticket ∷ rest) ticket k within in
    let b = get_or-append-add before (ticket ∷ rest) 0 ticket in
    apart k (length before + 0) ticket (omega (arith, within)) (omega (arith, n)) (a ∙ is ∙ sym b)

-- tickets behind others are among what these leave
pub among-rest : (those done rest more : List Ticket) → IsPermutation those (done ++ rest)
    → AreOnceAmong those (done ++ more) → AreOnceAmong rest more
among-rest those done rest more moved once = record {
  among = λ k d below.
      let n : length (done ++ more) ≡ length done + length more = length-append done more in
      let here : get_or (done ++ more) (length done + k) d ≡ get_or more k d = get_or-append-add done more k d in
      let ticket : Ticket = get_or more k d in
      let in_those : Contains those ticket = subst (Contains those) here (once.among (length done + k) d (omega (arith, n, below))) in
      let in_all : Contains (done ++ rest) ticket = Contains-permutation those (done ++ rest) ticket moved in_those in
      let twice : Contains done ticket → Contains rest ticket = λ (j, before, is). absurd (
      once.apart j (length done + k) d (omega (arith, before)) (omega (arith, n, below))
      (get_or_append_left done more d j before ∙ get_or_default done j d ticket before ∙ is ∙ sym here)) in
      ⊎_elim twice (λ c. c) (Contains-append_cases done rest ticket in_all);
  apart = λ i j d before within same.
      let n : length (done ++ more) ≡ length done + length more = length-append done more in
      once.apart (length done + i) (length done + j) d (omega (arith, before)) (omega (arith, n, within))
      (get_or-append-add done more i d ∙ same ∙ sym (get_or-append-add done more j d));
}

pub among-left : (those xs ys : List Ticket) → AreOnceAmong those (xs ++ ys) → AreOnceAmong those xs
among-left those xs ys once = record { among = all-left (Contains those) xs ys once.among; apart = apart-left xs ys once.apart }

-- the same tickets in another order are among them, each once
pub among-same : (those tickets : List Ticket) → IsPermutation those tickets → Apart those
    → AreOnceAmong those tickets
among-same those tickets moved apart = record {
  among = All-permutation (Contains those) those tickets moved (All-contains_itself those);
  apart = apart-moved those tickets moved apart;
}

-- more are checked off of what was left
pub checked_off-more : (those done rest more left : List Ticket) → IsPermutation those (done ++ rest)
    → IsPermutation rest (more ++ left) → IsPermutation those ((done ++ more) ++ left)
checked_off-more those done rest more left moved now =
    IsPermutation-trans those (done ++ rest) ((done ++ more) ++ left) moved
    (subst (λ l. IsPermutation (done ++ rest) l) (sym (append_assoc done more left)) (IsPermutation-append_right done rest (more ++ left) now))

module _ {X : Type 0} where
  -- the key of an entry that is taken out
  pub keys-removed : (test : Ticket → Bool) (ticket : Ticket) → ((x : Ticket) → test x ≡ true → x ≡ ticket)
      → (es : List (Ticket × X)) (v : X) → lookup test es ≡ Some v
      → IsPermutation (keys_of es) (ticket ∷ keys_of (remove_entry test es))
  keys-removed test ticket one [] v h = absurd (cc)
  keys-removed test ticket one (e ∷ es) v h = by_head (keys-removed test ticket one es v) (test e.0) refl h
    where
      by_head : (lookup test es ≡ Some v
          → IsPermutation (keys_of es) (ticket ∷ keys_of (remove_entry test es)))
          → (b : Bool) → test e.0 ≡ b → cond b (Some e.1) (lookup test es) ≡ Some v
          → IsPermutation (e.0 ∷ keys_of es) (ticket ∷ keys_of (cond b es (e ∷ remove_entry test es)))
      by_head later true t k = subst (λ (x : Ticket). IsPermutation (e.0 ∷ keys_of es) (x ∷ keys_of es)) (one e.0 t) (IsPermutation-refl (e.0 ∷ keys_of es))
      by_head rest false t k =
          let later : List Ticket = keys_of (remove_entry test es) in
          IsPermutation-trans (e.0 ∷ keys_of es) (e.0 ∷ (ticket ∷ later)) (ticket ∷ (e.0 ∷ later))
          (IsPermutation-cons e.0 (keys_of es) (ticket ∷ later) (rest k))
          (IsPermutation-middle (e.0 ∷ []) ticket later)

  -- a ticket is among the keys exactly where it is found
  pub found-key : (es : List (Ticket × X)) (ticket : Ticket) (v : X) → lookup (same_ticket ticket) es ≡ Some v
      → Contains (keys_of es) ticket
  found-key es ticket v h =
      (is_member-Decides {eq = same_ticket} tickets-decide (keys_of es) ticket).0 (sym (is_some-lookup (same_ticket ticket) es) ∙ ap is_some h)

  pub no-key : (es : List (Ticket × X)) (ticket : Ticket) → lookup (same_ticket ticket) es ≡ None
      → Contains (keys_of es) ticket → ⊥
  no-key es ticket h c =
      let there = (is_member-Decides {eq = same_ticket} tickets-decide (keys_of es) ticket).1 c in
      false≢true (ap is_some (sym h) ∙ is_some-lookup (same_ticket ticket) es ∙ there)

  -- the keys after the entry of a ticket was taken out
  pub checked_off-key : (old new : List (Ticket × X)) (ticket : Ticket) (v : X)
      → lookup (same_ticket ticket) old ≡ Some v → IsPermutation (remove_entry (same_ticket ticket) old) new
      → IsPermutation (keys_of old) (ticket ∷ keys_of new)
  checked_off-key old new ticket v found moved =
      let left : List (Ticket × X) = remove_entry (same_ticket ticket) old in
      IsPermutation-trans (keys_of old) (ticket ∷ keys_of left) (ticket ∷ keys_of new)
      (keys-removed (same_ticket ticket) ticket (λ x t. sym (same_ticket-eq ticket x t)) old v found)
      (IsPermutation-cons ticket (keys_of left) (keys_of new) (IsPermutation-map (λ (e : Ticket × X). e.0) left new moved))
