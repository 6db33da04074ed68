-- A journal that is empty, of a desk without live calls.
use Rattle.std.proofs.Common.{◌≡◌, List, [], length, ℕ, refl, sym, ap, ◌∙◌, subst, append-nil, arith}
use Rattle.sequential_signer.specs.Policy.{Policy}
use Rattle.sequential_signer.specs.LiveCall.{live_calls, begun_calls}
use Rattle.sequential_signer.specs.declared.event.Entry.{Entry}
use Rattle.sequential_signer.proofs.Run.{committed_entries-none}
use Rattle.sign_desk.specs.DeskState.{DeskState, Represents}
use Rattle.sign_desk.specs.Idle.{RepresentsSome}
use Rattle.signer_book.specs.BookState.{IsJournaled}

module _ {K D : Type 0} (policy : Policy K D) (desk : DeskState K D) where
  none_live : length (live_calls {K = K} []) ≡ 0
  unfolding begun_calls
  none_live = refl

  -- a fresh desk has no live call
  pub fresh-idle : Represents policy desk [] → length desk.calls ≡ 0
  fresh-idle fresh = fresh.live ∙ ap (λ (es : List (Entry K)). length (live_calls es)) committed_entries-none ∙ none_live

  -- with no live call and no entry there is room enough
  pub journaled-none : RepresentsSome policy desk → length desk.calls ≡ 0 → (capacity : ℕ)
      → IsJournaled policy desk [] capacity
  journaled-none some idle capacity = record {
    past = some.0;
    represents = subst (Represents policy desk) (sym (append-nil some.0)) some.1;
    room = omega (arith, idle);
  }
