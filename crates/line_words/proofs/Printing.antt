-- Printers that call printers: what each of them adds stands in a row.
use Rattle.std.specs.Prelude.{Result, Ok, Err, IsErr}
use Rattle.std.specs.Global.{Vec}
use Rattle.std.proofs.Common.{◌≡◌, ℕ, ◌+◌, ◌<◌, ◌≤◌, List, [], ◌∷◌, ◌++◌, length, vec_capacity, refl, sym, ap, subst, ◌∙◌, append_assoc, append-nil, arith}
use Rattle.std.proofs.lemmas.List.{length-append}
use Rattle.std.proofs.lemmas.Result.{on_ok_weaker, on_err_weaker}
use Rattle.line_words.specs.Printing.{RunsShort, Prints}

-- memory runs short at once
pub short_at_once : {A E : Type 0} {e : E} (old new : Vec ℕ) (bytes : List ℕ) → new.items ≡ old.items
    → vec_capacity old < length old.items + length bytes → vec_capacity old ≤ vec_capacity new
    → Prints {A = A} old new (Err e) bytes
short_at_once old new bytes same full grown = record {
  ok = tt;
  err = record { part = []; rest = bytes; parts = refl; text = same ∙ sym (append-nil old.items); room = full };
  capacity = grown;
}

-- memory runs short in the first part of what is to be added
pub prints_short : {A B E F : Type 0} {e : E} {result : Result B F} {old new : Vec ℕ} {first : List ℕ}
    (behind : List ℕ) → IsErr result → Prints {A = A} old new (Err e) first
    → Prints old new result (first ++ behind)
prints_short {result = Ok x} behind failed p = absurd cc
prints_short {result = Err f} {first = first} behind failed p = record {
  ok = tt;
  err = record {
    part = p.err.part;
    rest = p.err.rest ++ behind;
    parts = ap (λ (t : List ℕ). t ++ behind) p.err.parts ∙ append_assoc p.err.part p.err.rest behind;
    text = p.err.text;
    room = rw (length-append first behind) (omega (arith, p.err.room));
  };
  capacity = p.capacity;
}

-- the first part was added, and then another is, or is not
pub prints_then : {A B D E : Type 0} {x : A} {result : Result B E} {old mid new : Vec ℕ}
    {first behind : List ℕ} → Prints {E = D} old mid (Ok x) first → Prints mid new result behind
    → Prints old new result (first ++ behind)
prints_then {result = result} {old = old} {mid = mid} {first = first} {behind = behind} p q = record {
  ok = on_ok_weaker result (λ added. added ∙ ap (λ (t : List ℕ). t ++ behind) p.ok ∙ append_assoc old.items first behind) q.ok;
  err = on_err_weaker result (λ short. record {
    part = first ++ short.part;
    rest = short.rest;
    parts = ap (λ (t : List ℕ). first ++ t) short.parts ∙ sym (append_assoc first short.part short.rest);
    text = short.text ∙ ap (λ (t : List ℕ). t ++ short.part) p.ok ∙ append_assoc old.items first short.part;
    room = let longer : length mid.items ≡ length old.items + length first = ap length p.ok ∙ length-append old.items first in
        rw (length-append first behind) (omega (arith, short.room, longer, p.capacity));
  }) q.err;
  capacity = omega (arith, p.capacity, q.capacity);
}

-- the last of several words
pub prints_last : {A E : Type 0} {result : Result A E} {old new : Vec ℕ} {line : List ℕ}
    → Prints old new result line → Prints old new result (line ++ [])
prints_last {result = result} {old = old} {new = new} {line = line} p =
    subst (Prints old new result) (sym (append-nil line)) p

-- ---- loops

-- of these bytes all was added but the rest
pub record PrintsAllBut (rest bytes : List ℕ) (old new : Vec ℕ) : Type 0 where
  pub done : List ℕ
  pub parts : bytes ≡ done ++ rest
  pub added : Prints {A = Unit {0}} {E = Unit {0}} old new (Ok tt) done

-- nothing yet
pub all_to_print : (text : Vec ℕ) (bytes : List ℕ) → PrintsAllBut bytes bytes text text
all_to_print text bytes = record {
  done = [];
  parts = refl;
  added = record { ok = sym (append-nil text.items); err = tt; capacity = omega arith };
}

-- one part more
pub one_more : {A E : Type 0} {x : A} {rest bytes : List ℕ} {old mid new : Vec ℕ} {first : List ℕ}
    (behind : List ℕ) → rest ≡ first ++ behind → PrintsAllBut rest bytes old mid
    → Prints {E = E} mid new (Ok x) first → PrintsAllBut behind bytes old new
one_more {first = first} behind cut so_far p =
    let more = prints_then so_far.added p in record {
      done = so_far.done ++ first;
      parts = so_far.parts ∙ ap (λ (t : List ℕ). so_far.done ++ t) cut ∙ sym (append_assoc so_far.done first behind);
      added = record { ok = more.ok; err = tt; capacity = more.capacity };
    }

-- memory runs short in that part
pub short_in_rest : {A B E F : Type 0} {e : E} {result : Result B F} {rest bytes : List ℕ}
    {old mid new : Vec ℕ}
    {first : List ℕ} (behind : List ℕ) → rest ≡ first ++ behind → PrintsAllBut rest bytes old mid
    → IsErr result → Prints {A = A} mid new (Err e) first → Prints old new result bytes
short_in_rest {result = result} {old = old} {new = new} behind cut so_far failed p =
    subst (Prints old new result) (sym (so_far.parts ∙ ap (λ (t : List ℕ). so_far.done ++ t) cut))
    (prints_then so_far.added (prints_short behind failed p))

-- no rest
pub all_printed : {A E : Type 0} {x : A} {rest bytes : List ℕ} {old new : Vec ℕ} → rest ≡ []
    → PrintsAllBut rest bytes old new → Prints {E = E} old new (Ok x) bytes
all_printed {old = old} none whole =
    let done = whole.parts ∙ ap (λ (t : List ℕ). whole.done ++ t) none ∙ append-nil whole.done in
    record { ok = whole.added.ok ∙ ap (λ (t : List ℕ). old.items ++ t) (sym done); err = tt; capacity = whole.added.capacity }
