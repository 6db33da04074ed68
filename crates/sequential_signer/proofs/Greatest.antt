-- The greatest number that was begun under a handle.
use Rattle.std.proofs.Common.{◌≡◌, ℕ, true, false, not, cond, ◌&&◌, ◌||◌, nat_lt, max, List, [], ◌∷◌, ◌++◌, Option, Some, None, refl, sym, ap, arith}
use Rattle.std.specs.List.{list_all}
use Rattle.std.proofs.lemmas.Bool.Decides.{nat_tests}
use Rattle.sign_base.specs.declared.call_id.CallId.{CallId}
use Rattle.sequential_signer.specs.Transcript.{call_of}
use Rattle.sequential_signer.specs.Phase.{is_begin_under, is_new_number}
use Rattle.sequential_signer.specs.LiveCall.{greater, greatest_begun}
use Rattle.sequential_signer.specs.LiveCall.{is_above}
use Rattle.sequential_signer.specs.declared.event.Entry.{Entry}

above_max : (n m k : ℕ) → nat_lt (max m k) n ≡ (nat_lt m n && nat_lt k n)
above_max n m k = grind (arith, nat_tests)

above_greater : (n m : ℕ) (o : Option ℕ) → is_above n (greater m o) ≡ (nat_lt m n && is_above n o)
above_greater n m None = elim (nat_lt m n) as (λ v. v ≡ (v && true)) [ true ↦ refl | false ↦ refl ]
above_greater n m (Some k) = above_max n m k

greater_swap : (n m : ℕ) (o : Option ℕ) → greater n (greater m o) ≡ greater m (greater n o)
greater_swap n m None = ap Some (max_swap n m)
  where
    max_swap : (a b : ℕ) → max a b ≡ max b a
    max_swap a b = omega arith
greater_swap n m (Some k) = ap Some (max_swap n m k)
  where
    max_swap : (a b c : ℕ) → max a (max b c) ≡ max b (max a c)
    max_swap a b c = omega arith

module _ {K : Type 0} where
  above_all : (call : CallId) (entries : List (Entry K))
      → list_all
      (λ (e : Entry K). not (is_begin_under call.handle e) || nat_lt (call_of e.event).number call.number)
      entries
      ≡ is_above call.number (greatest_begun call.handle entries)
  above_all call [] = refl
  above_all call (e ∷ rest) =
      rw (above_all call rest)
      (elim (is_begin_under call.handle e) as (λ v. ((not v || nat_lt (call_of e.event).number call.number) && is_above call.number (greatest_begun call.handle rest)) ≡ is_above call.number (cond v (greater (call_of e.event).number (greatest_begun call.handle rest)) (greatest_begun call.handle rest)))
      [ true ↦ sym (above_greater call.number (call_of e.event).number (greatest_begun call.handle rest)) | false ↦ refl ])

  -- a number is new where it is above the greatest
  pub is_new_number-is : (entries : List (Entry K)) (call : CallId)
      → is_new_number entries call ≡ is_above call.number (greatest_begun call.handle entries)
  unfolding is_new_number
  is_new_number-is entries call = above_all call entries

  -- a begin under the handle raises the greatest number, and any other entry leaves it
  pub greatest_begun-more : (h : ℕ) (entries : List (Entry K)) (e : Entry K)
      → greatest_begun h (entries ++ e ∷ [])
      ≡ cond (is_begin_under h e) (greater (call_of e.event).number (greatest_begun h entries))
      (greatest_begun h entries)
  greatest_begun-more h [] e = refl
  greatest_begun-more h (x ∷ xs) e =
      rw (greatest_begun-more h xs e)
      (elim (is_begin_under h e) as (λ v. cond (is_begin_under h x) (greater (call_of x.event).number (cond v (greater (call_of e.event).number (greatest_begun h xs)) (greatest_begun h xs))) (cond v (greater (call_of e.event).number (greatest_begun h xs)) (greatest_begun h xs))
      ≡ cond v (greater (call_of e.event).number (cond (is_begin_under h x) (greater (call_of x.event).number (greatest_begun h xs)) (greatest_begun h xs))) (cond (is_begin_under h x) (greater (call_of x.event).number (greatest_begun h xs)) (greatest_begun h xs))) [
        | true ↦ elim (is_begin_under h x) as (λ v. cond v (greater (call_of x.event).number (greater (call_of e.event).number (greatest_begun h xs))) (greater (call_of e.event).number (greatest_begun h xs)) ≡ greater (call_of e.event).number (cond v (greater (call_of x.event).number (greatest_begun h xs)) (greatest_begun h xs)))
            [ true ↦ greater_swap (call_of x.event).number (call_of e.event).number (greatest_begun h xs) | false ↦ refl ]
        | false ↦ refl
      ])

-- a number that is above is the greatest from then on
pub greater_above : (n : ℕ) (o : Option ℕ) → is_above n o ≡ true → greater n o ≡ Some n
greater_above n None h = refl
greater_above n (Some m) h = ap Some (top n m h)
  where
    top : (a b : ℕ) → nat_lt b a ≡ true → max a b ≡ a
    top a b h = grind (arith, nat_tests)
