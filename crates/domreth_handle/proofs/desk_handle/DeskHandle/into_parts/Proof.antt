-- A handle gives its two words up: no parts where the first is null, and else those of the box whose block lies there.
use Rattle.std.proofs.Common.{◌≡◌, List, [], ◌∷◌, ◌++◌, ◌∙◌, Some, None, refl, sym, ap, subst, lit<}
use mir.Val.{Val, vcons, vnil}
use mir.Raw.{raw as bare}
use base.Logic.{SProp, ent, emp, via, snd∗, id⊢, guard_i}
use base.Fraction.{full_share}
use prog.Wp.{WpFn}
use types.Logic.{sem}
use types.Kit.{‵, raw, ◌⊛◌, given, at_ret, ◌$◌, ◌∵◌, !, qed, by, move, keep, split, fsplit, fjoin, suffices, use0, use1, learn}
use types.Run.{stop, fld, lit, of_opd, bin, no_more, and_then, first, branches, exec, returns, enter}
use types.ByLocal.{alloc_all, pass_all, free_all, look_at, get, get_in, sets, sets_last, env}
use types.Part.{agg, sub, whole}
use types.Match.{live}
use contract.Monad.{fact, fact_i, fact_use}
use contract.Running.{tables}
use denote.Exit.{yes}
use denote.RattleType.{RattleType, owns}
use denote.Memory.{lone}
use denote.Signature.{types_at, type_at, plain}
use denote.RawPtr.{Ptr, block_ptr, null_ptr, lies_at, tests_null, Testable}
use denote.Steps.{nothing}
use denote.Param.{layout}
use denote.Triple.Entry.{alive}
use denote.Triple.Walked.{Stays, stay_dropped, walk_of}
use Rattle.std.proofs.alloc.Calls.{Goes-blank}
use Rattle.std.proofs.alloc.Shapes.{after}
use Rattle.std.proofs.cell.Inside.{Good}
use Rattle.std.proofs.option.Made.{Some-of, none_of}
use Rattle.std.proofs.ResultValues.{and_tt}
use Rattle.std.proofs.GlobalToken.{dealloc_token-Testable}
use Rattle.std.specs.contracts.impls.GlobalAllocator.TheImpl.{ghosts}
use Rattle.std.proofs.raw_atomic.Walks.{proved_at, leaves}
use Rattle.domreth_handle.proofs.TwoWords.{words, words_good}
use Rattle.domreth_handle.proofs.PartsOwned.{Parts, Block, parts_in}
use Rattle.domreth_handle.proofs.HandleOwned.{R, Z, LZ, Handle, handle_out, open_or_closed}
use Rattle.domreth_handle.specs.contracts.desk_handle.DeskHandle.into_parts as f
use Rattle.domreth_handle.proofs.desk_handle.DeskHandle.into_parts.Statement.{statement}
use Rattle.domreth_handle.proofs.desk_handle.DeskHandle.into_parts.Code as code

abbrev Taken : RattleType
Taken = Parts R Z LZ ghosts

abbrev stayed : Stays f.ended.signature.params f.ended.kept
stayed = (stay_dropped (plain (λ _. Handle)) yes, tt)

pub into_parts_spec : {M : Type 1} → statement M
into_parts_spec 𝓤 𝓛 𝓜 𝓡 wired =
    let c = f.clauses 𝓛 𝓜.mem 𝓡.returns in let 𝓣 = tables 𝓤 𝓛.H 𝓜 𝓡 𝓡.env in
    proved_at 𝓛 f.ended stayed c 𝓜 𝓡 (Goes-blank 𝓛 0 (plain (λ _. Handle)) yes (λ κs x w. tt), tt)
    f.Key.name code.function (code.unfolded 𝓤 𝓛.H 𝓜 𝓡 wired) (λ y are.
    let Post : Val → SProp 𝓤 = (walk_of 𝓛 f.ended stayed c).post y in let runs : List Val → SProp 𝓤 = λ ws. WpFn 𝓤 𝓛.H 𝓣.C 𝓣.Λ code.function ws Post in
    let Out : RattleType = type_at f.signature.result y.0.0 in let held = y.0.3.0 in let a = held.alloc in
    qed 𝓛 ((raw (alive 𝓛 f.signature y.0.0 y.0.1) ⊛ ‵ (owns (types_at f.signature.params y.0.0) y.0.3 y.0.4)) ∷ raw ((c y.0.0 y.0.3).requires y.1) ∷ []) ∵
    split ! $ move ! (1 ∷ []) $ fsplit ! $ handle_out ! held y.0.4.0 (λ h as_words fits. move ! (1 ∷ []) $ open_or_closed ! a held.at held.desk
    (λ null none. let w : Val = words null_ptr h in let is : y.0.4.0 ≡ w ∷ [] = as_words ∙ ap (λ (p : Ptr). words p h ∷ []) null in
    let small : Good (layout Out) (live 0 vnil) = (tt, (record { fits = lit< tt }, tt)) in
    suffices ! (runs (w ∷ [])) (subst (λ (vs : List Val). ent 𝓤 (runs (w ∷ [])) (runs vs)) (sym (λ i. is i ++ [])) (id⊢ 𝓤 _)) $
    enter ! 𝓣.C 𝓣.Λ code.function (w ∷ []) Post $ alloc_all ! (λ l. pass_all ! refl (words_good Z LZ null_ptr h fits, tt) $ let E = env code.function.locals l in
    sets ! (of_opd ! (get_in ! (fld ! refl (stop !)) (sub ! 0 refl (whole !)))) refl (tt, record { fits = lit< tt }) $
    sets ! (of_opd ! (get_in ! (fld ! refl (stop !)) (sub ! 1 refl (whole !)))) refl fits $
    sets ! (bin ! (get ! refl) (lit ! tt) tt) refl (tt, tt) $ first ! $ branches ! (get ! refl)
    (λ _. sets_last ! (agg ! (and_then ! (lit ! tt) (no_more !))) refl small $
    exec ! 𝓣.C 𝓣.Λ E (after 4 code.function.body) (at_ret E Post) $ sets ! (of_opd ! (get ! refl)) refl small $
    -- [the allocator; nothing; the tokens; the empty `requires`]
    use0 𝓛 (‵ (Out.own_val None (live 0 vnil ∷ []))) (none_of 𝓛 Taken) $
    use0 𝓛 (raw (fact 𝓤 (None ≡ held.desk))) (fact_i 𝓤 (None ≡ held.desk) (emp 𝓤) (sym none)) $ nothing ! $ nothing ! $ fjoin ! $
    returns ! (look_at ! 0 refl) $ free_all ! refl $
    keep ! (5 ∷ 0 ∷ 2 ∷ 1 ∷ []) $ by ! (leaves 𝓛 f.ended stayed c y (live 0 vnil) None (tt, tt) (tt, tt)))
    (λ never. absurd never)))
    (λ b o x at some. let p : Ptr = block_ptr b o in let w : Val = words p h in let is : y.0.4.0 ≡ w ∷ [] = as_words ∙ ap (λ (q : Ptr). words q h ∷ []) at in
    let good = words_good Z LZ p h fits in let v : Val = live 1 (vcons w vnil) in let d : Taken.Denot = record { at = p; alloc = a; value = x } in
    let large : Good (layout Out) v = (and_tt _ good.0, (record { fits = lit< tt }, (good.1, tt))) in
    -- the right to free the block says that its address may be tested
    use1 𝓛 (given (Testable p) (‵ (Block R Z LZ ghosts a p x)))
    (fact_use 𝓤 (Testable p) (via 𝓤 _ (snd∗ 𝓤 (sem 𝓛 (lies_at R full_share p x)) (sem 𝓛 (ghosts.dealloc_token a (bare (lone R.mir)) p))) (dealloc_token-Testable 𝓛 a (bare (lone R.mir)) p))
    (guard_i 𝓤 (Testable p) (sem 𝓛 (Block R Z LZ ghosts a p x)))) $ learn ! (λ tested.
    move ! (1 ∷ 0 ∷ []) $ parts_in R Z LZ ghosts ! p a x h $
    suffices ! (runs (w ∷ [])) (subst (λ (vs : List Val). ent 𝓤 (runs (w ∷ [])) (runs vs)) (sym (λ i. is i ++ [])) (id⊢ 𝓤 _)) $
    enter ! 𝓣.C 𝓣.Λ code.function (w ∷ []) Post $ alloc_all ! (λ l. pass_all ! refl (good, tt) $ let E = env code.function.locals l in
    sets ! (of_opd ! (get_in ! (fld ! refl (stop !)) (sub ! 0 refl (whole !)))) refl (tt, tt) $
    sets ! (of_opd ! (get_in ! (fld ! refl (stop !)) (sub ! 1 refl (whole !)))) refl fits $
    sets ! (bin ! (get ! refl) (lit ! tt) (tests_null p tested)) refl (tt, tt) $ first ! $ branches ! (get ! refl) (λ never. absurd never) (λ _.
    sets ! (of_opd ! (get ! refl)) refl (tt, tt) $ sets ! (agg ! (and_then ! (get ! refl) (and_then ! (get ! refl) (no_more !)))) refl good $
    sets_last ! (agg ! (and_then ! (lit ! tt) (and_then ! (get ! refl) (no_more !)))) refl large $
    exec ! 𝓣.C 𝓣.Λ E (after 4 code.function.body) (at_ret E Post) $ sets ! (of_opd ! (get ! refl)) refl large $
    -- [the parts; nothing; the tokens; the empty `requires`]
    use1 𝓛 (‵ (Out.own_val (Some d) (v ∷ []))) (Some-of 𝓛 Taken d w) $
    use0 𝓛 (raw (fact 𝓤 (Some x ≡ held.desk))) (fact_i 𝓤 (Some x ≡ held.desk) (emp 𝓤) (sym some)) $ nothing ! $ nothing ! $ fjoin ! $
    returns ! (look_at ! 0 refl) $ free_all ! refl $
    keep ! (4 ∷ 0 ∷ 2 ∷ 1 ∷ []) $ by ! (leaves 𝓛 f.ended stayed c y v (Some d) (tt, tt) (tt, tt))))))))
