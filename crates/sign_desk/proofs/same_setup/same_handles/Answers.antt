-- Handles are the same where what contracts see of them is.
use Rattle.std.proofs.Common.{◌≡◌, ◌≢◌, Bool, true, false, MatchBool, List, [], ◌∷◌, map, refl, ap}
use Rattle.sequential_signer.specs.Setup.{Handle}
use Rattle.desk_parts.specs.TablesView.{handle_view}
use Rattle.desk_parts.specs.declared.tables.HandleRecord.{HandleRecord}
use Rattle.sign_desk.proofs.same_setup.same_handles.Goals as goal

same_by_view : (x y : HandleRecord) → handle_view x ≡ handle_view y → x ≡ y
same_by_view x y e =
    let cache : x.cache ≡ y.cache = ap (λ (h : Handle). h.cache) e in
    let rule : x.rule ≡ y.rule = ap (λ (h : Handle). h.rule) e in
    λ i. record { cache = cache i; rule = rule i }

same_by_views : (xs ys : List HandleRecord) → map handle_view xs ≡ map handle_view ys → xs ≡ ys
same_by_views [] [] e = refl
same_by_views [] (y ∷ ys) e = absurd (cc)
same_by_views (x ∷ xs) [] e = absurd (cc)
same_by_views (x ∷ xs) (y ∷ ys) e =
    let head : handle_view x ≡ handle_view y = cc in
    let tail : map handle_view xs ≡ map handle_view ys = cc in
    let first = same_by_view x y head in
    let rest = same_by_views xs ys tail in
    λ i. first i ∷ rest i

cases : (b : Bool) (xs ys : List HandleRecord) → MatchBool b (xs ≡ ys) (xs ≢ ys)
    → MatchBool b (map handle_view xs ≡ map handle_view ys) (map handle_view xs ≢ map handle_view ys)
cases true xs ys e = ap (map handle_view) e
cases false xs ys differ = λ e. differ (same_by_views xs ys e)

pub returns : goal.returns
returns c = cases c.are_same.result c.args.a.now c.args.b.now c.are_same.ensures
