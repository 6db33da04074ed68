-- The map of the live calls, read by the names of calls.
use Rattle.std.proofs.Common.{◌≡◌, ℕ, cond, ◌&&◌, ◌==◌, List, [], ◌∷◌, length, Option, Some, None, if◌then◌else◌, ◌+◌, add-zero, is_some, true, MutBor, refl, sym, ◌∙◌, ap, nat_cmp, arith}
use Rattle.std.proofs.lemmas.Bool.Decides.{nat_tests}
use Rattle.std.specs.declared.cmp.Ordering.{Ordering}
use Rattle.std.specs.declared.cmp.Ordering.TheVariants.{Less, Equal, Greater}
use Rattle.std.specs.Ordering.{is_eq, ordering_then}
use Rattle.std.specs.BTreeMap.{BTreeMap, get, is_at}
use Rattle.std.specs.Map.{lookup}
use Rattle.std.specs.Option.{option_copied_mut}
use Rattle.sign_base.specs.declared.call_id.CallId.{CallId}
use Rattle.sign_base.specs.Calls.{same_call}
use Rattle.desk_parts.specs.Tables.{DeskTables, find_call}
use Rattle.desk_parts.specs.Change.{ChangesOnlyCall, one_if}
use Rattle.desk_parts.specs.declared.call_record.CallRecord.{CallRecord}
use Rattle.sign_base.proofs.Calls.{same_call-refl}

module _ {H : Type 0} (cmp : CallId → CallId → Ordering)
    (same : (a b : CallId) → is_eq (cmp a b) ≡ same_call a b) where
  lookup_is : (q : CallId) (es : List (CallId × CallRecord H)) → lookup (is_at (cmp q)) es ≡ find_call q es
  lookup_is q [] = refl
  lookup_is q (e ∷ es) = rw (same q e.0, lookup_is q es) refl

  -- what the map has under a name is what is found under it
  pub get_is : (m : BTreeMap CallId (CallRecord H)) (q : CallId) → get cmp m q ≡ find_call q m.entries
  get_is m q = lookup_is q m.entries

  -- after a change at one call
  pub find_call-after : (m n : BTreeMap CallId (CallRecord H)) (k : CallId) (w : Option (CallRecord H))
      → ((q : CallId) → get cmp n q ≡ cond (is_at (cmp k) q) w (get cmp m q)) → (q : CallId)
      → find_call q n.entries ≡ cond (same_call k q) w (find_call q m.entries)
  find_call-after m n k w h q = sym (get_is n q) ∙ h q ∙ ap (λ v. cond v w (get cmp m q)) (same k q) ∙ ap (λ v. cond (same_call k q) w v) (get_is m q)

-- a desk in whose map one call changed keeps all else
pub calls-insert_record : {K D Q H : Type 0} (base : DeskTables K D Q H)
    (entries : List (CallId × CallRecord H)) (call : CallId) (w : Option (CallRecord H))
    → ((q : CallId) → find_call q entries ≡ cond (same_call call q) w (find_call q base.calls))
    → length entries + one_if (find_call call base.calls) ≡ length base.calls + one_if w
    → ChangesOnlyCall base call w (record base { calls = entries })
calls-insert_record base entries call w after count = record {
  loaders = refl;
  rules = refl;
  handles = refl;
  caches = refl;
  queues = refl;
  greatest = refl;
  started = refl;
  this_call = after call ∙ ap (λ v. cond v w (find_call call base.calls)) (same_call-refl call);
  other_calls = λ q other. after q ∙ ap (λ v. cond v w (find_call q base.calls)) other;
  count = count;
}

number_eq : (a b : ℕ) → is_eq (nat_cmp a b) ≡ (a == b)
number_eq a b = grind (arith, nat_tests)

then_eq : (o p : Ordering) → is_eq (ordering_then o p) ≡ (is_eq o && is_eq p)
then_eq Less p = refl
then_eq Equal p = refl
then_eq Greater p = refl

-- what the derived order of names says
pub call_order : (a b : CallId)
    → is_eq (ordering_then (nat_cmp a.handle b.handle) (nat_cmp a.number b.number)) ≡ same_call a b
call_order a b =
    then_eq (nat_cmp a.handle b.handle) (nat_cmp a.number b.number)
    ∙ ap (λ v. v && is_eq (nat_cmp a.number b.number)) (number_eq a.handle b.handle)
    ∙ ap (λ v. (a.handle == b.handle) && v) (number_eq a.number b.number)

-- a lent record is there where its value is
pub copied_some : {T : Type 0} (o : Option (MutBor T)) → is_some (option_copied_mut o) ≡ true
    → is_some o ≡ true
copied_some None h = cc
copied_some (Some x) h = refl

-- the number of records after a change at one call
pub count-removed : {X : Type 0} (n m : ℕ) (result kept : Option X) → result ≡ kept
    → n + (if is_some result then 1 else 0) ≡ m → n + one_if kept ≡ m + 0
count-removed n m None kept e h = rw (← e) (h ∙ sym (add-zero m))
count-removed n m (Some x) kept e h = rw (← e) (h ∙ sym (add-zero m))

-- the same, where the call is added
pub count-added : {X : Type 0} (n m : ℕ) (old kept : Option X) → old ≡ kept
    → n ≡ m + (if is_some old then 0 else 1) → n + one_if kept ≡ m + 1
count-added n m None kept e h = rw (← e) (ap (λ k. k + 0) h ∙ add-zero (m + 1))
count-added n m (Some x) kept e h = rw (← e) (ap (λ k. k + 1) h ∙ ap (λ k. k + 1) (add-zero m))
