-- States that are kept by the numbers of their calls stay so, whatever is done with one call.
use Rattle.std.proofs.Common.{◌≡◌, ◌<◌, ◌+◌, ◌⊎◌, ℕ, true, false, List, [], ◌∷◌, ◌++◌, length, Option, Some}
use Rattle.std.proofs.Common.{None, slice_get, slice_set, ◌≢◌, inl, inr, sym, ◌∙◌, ap, subst, arith}
use Rattle.std.proofs.Math.Dec.{eqb}
use Rattle.std.proofs.lemmas.Bool.Decides.{eqb_tells}
use Rattle.std.proofs.lemmas.List.{length-append, length-set}
use Rattle.std.proofs.lemmas.Option.{slice_get_within}
use Rattle.sequential_signer.proofs.Places.{slice_get-set_other}
use Rattle.sign_base.specs.declared.call_id.CallId.{CallId}
use Rattle.desk_driver.specs.NumberedCalls.{AreNumbered}
use Rattle.desk_driver.proofs.Rows.{appended, written}

module _ {X : Type 0} (call_of : X → CallId) where
  -- there are none before the first begin
  pub numbered-none : (IsSuch : X → Type 0) (begun : ℕ) → begun ≡ 0 → AreNumbered call_of IsSuch begun []
  numbered-none IsSuch begun none = record { begun_are = sym none; at = λ n state is. absurd (cc) }

  -- a call that is over, or is not kept
  pub numbered-without : {IsSuch : X → Type 0} {begun : ℕ} (calls : List (Option X)) (n : ℕ)
      → AreNumbered call_of IsSuch begun calls → AreNumbered call_of IsSuch begun (slice_set calls n None)
  numbered-without {IsSuch} calls n all = record {
    begun_are = length-set calls n None ∙ all.begun_are;
    at = λ k state is. by_place k state is (eqb_tells n k);
  }
    where
      by_place : (k : ℕ) (state : X) → slice_get (slice_set calls n None) k ≡ Some (Some state)
          → ((eqb n k ≡ true) × (n ≡ k)) ⊎ ((eqb n k ≡ false) × (n ≢ k))
          → ((call_of state).number ≡ k) × IsSuch state
      by_place k state is (inl h) =
          let e : (let x : Option X = None in x) ≡ Some state = written calls n None (Some state) (ap (λ j. slice_get (slice_set calls n None) j) h.1 ∙ is) in
          absurd (cc)
      by_place k state is (inr h) = all.at k state (sym (slice_get-set_other calls n k None h.1) ∙ is)

  module _ {Was Is : X → Type 0} {begun next : ℕ} (calls : List (Option X)) (state : X)
      (all : AreNumbered call_of Was begun calls)
      (keeps : (other : X) → (call_of other ≡ call_of state → ⊥) → Was other → Is other) where
    -- the next call is begun, and the states of the others stay such
    pub numbered-begun : (call_of state).number ≡ begun → next ≡ begun + 1 → Is state
        → AreNumbered call_of Is next (calls ++ Some state ∷ [])
    numbered-begun number more is = record {
      begun_are = length-append calls (Some state ∷ []) ∙ ap (λ n. n + 1) all.begun_are ∙ sym more;
      at = λ n other there. by_place n other (appended calls (Some state) (Some other) n there);
    }
      where
        by_place : (n : ℕ) (other : X)
            → (slice_get calls n ≡ Some (Some other))
            ⊎ ((n ≡ length calls) × ((let x : Option X = Some state in x) ≡ Some other))
            → ((call_of other).number ≡ n) × Is other
        by_place n other (inl h) =
            let was = all.at n other h in
            let below : n < length calls = slice_get_within calls n (Some other) h in (
              was.0,
              keeps other (λ same.
                  let e : n ≡ length calls = sym was.0 ∙ ap (λ (c : CallId). c.number) same ∙ number ∙ sym all.begun_are in
                  absurd (omega arith)) was.1,
            )
        by_place n other (inr h) =
            let same : state ≡ other = cc in
            subst (λ (x : X). ((call_of x).number ≡ n) × Is x) same (number ∙ sym all.begun_are ∙ sym h.0, is)

    -- what is done with a call leaves the others where they are, and at its place its state or none
    pub numbered-set : (n : ℕ) → slice_get calls n ≡ Some (Some state) → next ≡ begun → (left : Option X)
        → ((x : X) → left ≡ Some x → (call_of x ≡ call_of state) × Is x)
        → AreNumbered call_of Is next (slice_set calls n left)
    numbered-set n there same left here = record {
      begun_are = length-set calls n left ∙ all.begun_are ∙ sym same;
      at = λ k x is. by_place k x is (eqb_tells n k);
    }
      where
        by_place : (k : ℕ) (x : X) → slice_get (slice_set calls n left) k ≡ Some (Some x)
            → ((eqb n k ≡ true) × (n ≡ k)) ⊎ ((eqb n k ≡ false) × (n ≢ k))
            → ((call_of x).number ≡ k) × Is x
        by_place k x is (inl h) =
            let own = here x (written calls n left (Some x) (ap (λ j. slice_get (slice_set calls n left) j) h.1 ∙ is)) in
            (ap (λ (c : CallId). c.number) own.0 ∙ (all.at n state there).0 ∙ h.1, own.1)
        by_place k x is (inr h) =
            let was = all.at k x (sym (slice_get-set_other calls n k left h.1) ∙ is) in
            (was.0, keeps x (λ own. h.1 (sym (all.at n state there).0 ∙ sym (ap (λ (c : CallId). c.number) own) ∙ was.0)) was.1)
