-- A closed handle owns its two words: null, and the allocator.
use Rattle.std.proofs.Common.{◌≡◌, List, [], ◌∷◌, ◌++◌, None, refl, sym, subst}
use mir.Val.{Val}
use base.Logic.{SProp, ent, emp, id⊢}
use prog.Wp.{WpFn}
use types.Kit.{‵, raw, ◌⊛◌, ◌$◌, ◌∵◌, !, qed, by, move, keep, split, fsplit, fjoin, suffices, use0, feq_i, rewrite}
use types.Run.{lit, no_more, and_then, returns, enter}
use types.ByLocal.{alloc_all, pass_all, free_all, look_at, get, sets}
use types.Part.{agg}
use contract.Monad.{fact, fact_i}
use contract.Running.{tables}
use denote.Exit.{yes}
use denote.RattleType.{owns}
use denote.Signature.{types_at, plain}
use denote.RawPtr.{Ptr, null_ptr}
use denote.Steps.{nothing}
use denote.Param.{layout}
use denote.Triple.Entry.{alive}
use denote.Triple.Walked.{Stays, stay_dropped, walk_of, Goes-dropped}
use Rattle.std.proofs.cell.Inside.{one}
use Rattle.std.proofs.raw_atomic.Walks.{proved_at, leaves}
use Rattle.domreth_handle.proofs.TwoWords.{words, words_good}
use Rattle.domreth_handle.proofs.HandleOwned.{Z, LZ, Handle, handle_in}
use Rattle.domreth_handle.specs.contracts.desk_handle.DeskHandle.closed as f
use Rattle.domreth_handle.proofs.desk_handle.DeskHandle.closed.Statement.{statement}
use Rattle.domreth_handle.proofs.desk_handle.DeskHandle.closed.Code as code

abbrev stayed : Stays f.ended.signature.params f.ended.kept
stayed = (stay_dropped (plain (λ _. Z)) yes, tt)

pub closed_spec : {M : Type 1} → statement M
closed_spec 𝓤 𝓛 𝓜 𝓡 wired =
    let c = f.clauses 𝓛 𝓜.mem 𝓡.returns in let 𝓣 = tables 𝓤 𝓛.H 𝓜 𝓡 𝓡.env in
    proved_at 𝓛 f.ended stayed c 𝓜 𝓡 (Goes-dropped 𝓛 0 (plain (λ _. Z)) yes (λ κs x w. refl), tt)
    f.Key.name code.function (code.unfolded 𝓤 𝓛.H 𝓜 𝓡 wired) (λ y are.
    let Post : Val → SProp 𝓤 = (walk_of 𝓛 f.ended stayed c).post y in let runs : List Val → SProp 𝓤 = λ ws. WpFn 𝓤 𝓛.H 𝓣.C 𝓣.Λ code.function ws Post in
    let a = y.0.3.0 in let word = one (layout Z) y.0.4.0 ((LZ.lawful 𝓛).typed a y.0.4.0 are.0) in let h = word.0 in
    let made : Handle.Denot = record { at = null_ptr; alloc = a; desk = None } in
    qed 𝓛 ((raw (alive 𝓛 f.signature y.0.0 y.0.1) ⊛ ‵ (owns (types_at f.signature.params y.0.0) y.0.3 y.0.4)) ∷ raw ((c y.0.0 y.0.3).requires y.1) ∷ []) ∵
    split ! $ move ! (1 ∷ []) $ fsplit ! $ rewrite ! 0 (λ (vs : List Val). ‵ (Z.own_val a vs)) word.1 refl $
    -- [the allocator; nothing; the tokens; the empty `requires`]
    feq_i ! Ptr null_ptr null_ptr refl $ move ! (1 ∷ 0 ∷ []) $ handle_in ! null_ptr a None h $
    suffices ! (runs (h ∷ [])) (subst (λ (vs : List Val). ent 𝓤 (runs (h ∷ [])) (runs vs)) (sym (λ i. word.1 i ++ [])) (id⊢ 𝓤 _)) $
    enter ! 𝓣.C 𝓣.Λ code.function (h ∷ []) Post $ alloc_all ! (λ l. pass_all ! refl (word.2, tt) $
    sets ! (agg ! (and_then ! (lit ! tt) (and_then ! (get ! refl) (no_more !)))) refl (words_good Z LZ null_ptr h word.2) $
    returns ! (look_at ! 0 refl) $ free_all ! refl $
    use0 𝓛 (raw (fact 𝓤 (made.desk ≡ None))) (fact_i 𝓤 (made.desk ≡ None) (emp 𝓤) refl) $ nothing ! $ nothing ! $ fjoin ! $
    -- [what is left of the parameter; the `ensures`; the handle; nothing; the tokens]
    keep ! (4 ∷ 0 ∷ 2 ∷ 1 ∷ []) $ by ! (leaves 𝓛 f.ended stayed c y (words null_ptr h) made (tt, tt) (tt, tt))))
