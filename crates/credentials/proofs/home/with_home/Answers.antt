use Rattle.std.proofs.Common.{◌≡◌, ◌∙◌, ap, lit<, List, ℕ, map, Ok}
use Rattle.std.specs.List.{join_by, slice_split}
use denote.Ref.{Bor}
use Rattle.std.proofs.lemmas.Iterator.Consumers.{map_from_collect}
use Rattle.std.proofs.lemmas.Iterator.Splits.{YieldsList-from_str_split}
use Rattle.credentials.specs.Home.{is_tilde}
use Rattle.credentials.proofs.Tildes.{join-split, join-borrowed}
use Rattle.credentials.proofs.home.with_home.Goals as goal

pub returns : goal.returns
returns c =
    let pieces : map (λ (x : Bor (List ℕ)). x.now) c.in_ok-pieces.pieces.items ≡ slice_split is_tilde c.args.path.now =
    map_from_collect {E = Unit {0}} (Ok c.in_ok-pieces.pieces) c.in_ok-pieces.ensures.ran
    (YieldsList-from_str_split {s = c.split.result} 126 c.args.path.now (lit< tt) c.split.ensures.text c.split.ensures.has_more c.split.ensures.pattern) in
    c.in_ok-join.ensures.ok
    ∙ (ap (λ (xs : List (Bor (List ℕ))). join_by (λ x. x.now) c.args.home.now xs) c.deref.ensures.value
    ∙ (join-borrowed c.args.home.now c.in_ok-pieces.pieces.items
    ∙ (ap (λ (xs : List (List ℕ)). join_by (λ (y : List ℕ). y) c.args.home.now xs) pieces
    ∙ join-split c.args.home.now c.args.path.now)))
