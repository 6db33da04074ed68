-- The two words go to std's call, which makes a box of them.
use Rattle.std.proofs.Common.{◌≡◌, List, [], ◌∷◌, ◌++◌, refl, sym, subst}
use mir.Syntax.{a_type, dcons, dnil}
use mir.MapTy.{inst_fn}
use mir.Val.{Val, vptr}
use base.Logic.{SProp, ent, emp, id⊢}
use base.Fml.{ftrue}
use prog.Wp.{WpFn}
use types.Kit.{‵, raw, ◌⊛◌, some, later, at_ret, ◌$◌, ◌∵◌, !, qed, by, move, keep, drop, split, join, fsplit, fjoin, pick, await, feq_i, use0, use1, suffices}
use types.Run.{stop, fld, of_opd, no_more, and_then, first, blocks, exec, returns, enter}
use types.ByLocal.{alloc_all, pass_all, free_all, look_at, get, get_in, sets, lands_last, env}
use types.Part.{sub, whole}
use contract.BorrowLft.{◌⊑◌}
use contract.Monad.{fact, fact_i}
use contract.Running.{tables}
use denote.Exit.{no}
use denote.Laws.{Is, shows}
use denote.RattleType.{RattleType, owns}
use denote.RawPtr.{block_ptr}
use denote.Steps.{nothing, heard, peeks}
use denote.Signature.{plain, types_at}
use denote.Param.{param, bounded}
use denote.Param.Laws.{Laws, param_laws}
use denote.Triple.Call.{calls_at_last}
use denote.Triple.Clauses.{Lasts, lasts}
use denote.Triple.Entry.{alive}
use denote.Triple.Spec.{triple_of}
use denote.Triple.Table.{framed}
use denote.Triple.Walked.{Stays, stay_dropped, walk_of}
use Rattle.std.proofs.alloc.Calls.{Goes-blank}
use Rattle.std.proofs.alloc.Shapes.{after}
use Rattle.std.proofs.raw_atomic.Walks.{proved_at, leaves}
use Rattle.std.specs.contracts.boxed.Box as boxes
use Rattle.std.proofs.boxed.Box.TheLaws as box_laws
use Rattle.std.specs.contracts.boxed.Box.from_raw as joining
use Rattle.std.proofs.boxed.Box.from_raw.Met as joining_is
use Rattle.domreth_handle.proofs.TwoWords.{words, words_good}
use Rattle.domreth_handle.proofs.PartsOwned.{Parts, parts_out}
use Rattle.domreth_handle.specs.contracts.unboxed.put_together as f
use Rattle.domreth_handle.proofs.unboxed.put_together.Statement.{statement}
use Rattle.domreth_handle.proofs.unboxed.put_together.Code as code

pub put_together_spec : {M : Type 1} → statement M
put_together_spec 𝓤 𝓛 𝓜 𝓡 wired T A LT LA g da dt dz ma mt mz =
    let H = 𝓛.H in let 𝓣 = tables 𝓤 H 𝓜 𝓡 𝓡.env in let R : RattleType = param 0 T in let Z : RattleType = param 1 A in
    let LZ : Laws Z = param_laws 1 A LA in
    let inst = bounded (a_type ∷ a_type ∷ []) (T, (A, tt)) (dcons da (dcons dt (dcons dz dnil))) in let fn = inst_fn inst code.function in
    let En = f.ended T A g da dt dz in let c = f.clauses T A g da dt dz 𝓛 𝓜.mem 𝓡.returns in let Held : RattleType = Parts R Z LZ g in
    let Whole : RattleType = boxes.the_row R Z g in let LW : Laws Whole = box_laws.the_row_laws R Z g (param_laws 0 T LT) LZ in
    let told = joining.ended T A g da dz in let G = triple_of 𝓛 (joining.signature T A g da dz) (joining.spec T A g da dz 𝓛 𝓜.mem 𝓡.returns) in
    let met = joining_is.met 𝓤 𝓛 𝓜 𝓡 (code.calls-std_alloc::boxed::Box::from_raw 𝓡.env wired) T A LT LA g da dz ma mz in
    let hs : Stays En.signature.params En.kept = (stay_dropped (plain (λ _. Held)) no, tt) in
    proved_at 𝓛 En hs c 𝓜 𝓡 (Goes-blank 𝓛 2 (plain (λ _. Held)) no (λ κs x w. tt), tt) (f.Key.name inst) fn (code.unfolded 𝓤 H 𝓜 𝓡 wired (T, (A, tt)) da dt dz) (λ z are.
    let κs = z.0.0 in let qs = z.0.1 in let d = z.0.3.0 in let Post : Val → SProp 𝓤 = (walk_of 𝓛 En hs c).post z in let Run : List Val → SProp 𝓤 = λ ws. WpFn 𝓤 H 𝓣.C 𝓣.Λ fn ws Post in
    qed 𝓛 ((raw (alive 𝓛 En.signature κs qs) ⊛ ‵ (owns (types_at En.signature.params κs) z.0.3 z.0.4)) ∷ raw (fact 𝓤 (κs.0 ⊑ T.lives)) ∷ raw (fact 𝓤 (κs.1.0 ⊑ A.lives)) ∷ ‵ ftrue ∷ []) ∵
    split ! $ move ! (1 ∷ []) $ fsplit ! $ parts_out R Z LZ g ! d z.0.4.0 (λ b o h ws fits.
    let y : G.Ghost = ((κs, qs, z.0.2, (d.alloc, (block_ptr b o, tt)), (h ∷ [], (vptr b o ∷ [], tt))), d.value) in
    let w : Val = words (block_ptr b o) h in let typed = words_good Z LZ (block_ptr b o) h fits in
    suffices ! (Run (w ∷ [])) (subst (λ (us : List Val). ent 𝓤 (Run (w ∷ [])) (Run us)) (sym (λ i. ws i ++ [])) (id⊢ 𝓤 _)) $
    enter ! 𝓣.C 𝓣.Λ fn (w ∷ []) Post $ alloc_all ! (λ l. pass_all ! refl (typed, tt) $
    sets ! (of_opd ! (get_in ! (fld ! refl (stop !)) (sub ! 0 refl (whole !)))) refl (tt, tt) $ sets ! (of_opd ! (get_in ! (fld ! refl (stop !)) (sub ! 1 refl (whole !)))) refl fits $
    first ! $ blocks ! $ sets ! (of_opd ! (get ! refl)) refl fits $
    -- [the block; the allocator; nothing; the tokens; how long T and A last; nothing]
    move ! (5 ∷ 0 ∷ []) $ join ! $ move ! (4 ∷ 0 ∷ []) $ join ! $ nothing ! $ feq_i ! (List Val) (vptr b o ∷ []) (vptr b o ∷ []) refl $ fjoin ! $
    move ! (2 ∷ 0 ∷ []) $ fjoin ! $ move ! (3 ∷ 0 ∷ []) $ join ! $ join ! $ use1 𝓛 (raw (G.pre y)) (id⊢ 𝓤 _) $
    calls_at_last ! (framed 𝓤 H 𝓜 𝓣) G met y (and_then ! (get ! refl) (and_then ! (get ! refl) (no_more !))) (λ v.
    use1 𝓛 (later (some (λ (r : Whole.Denot). (raw (alive 𝓛 En.signature κs qs) ⊛ ‵ (Whole.own_val r (v ∷ []))) ⊛ some (λ (ws : Lasts told κs y.0.3).
    ‵ (lasts told κs y.0.3 ws) ⊛ (raw (fact 𝓤 (r.value ≡ d.value)) ⊛ raw (fact 𝓤 (r.alloc ≡ d.alloc))))))) (id⊢ 𝓤 _) $
    await ! tt $ pick ! (λ r. split ! $ move ! (1 ∷ []) $ pick ! (λ ws. split ! $ drop ! $ split ! $ heard ! (r.value ≡ d.value) (λ same. drop ! $
    split ! $ move ! (1 ∷ []) $ peeks ! Whole (Is Whole) (shows 𝓛 Whole) r (v ∷ []) (λ is. let good = ((LW.lawful 𝓛).typed r (v ∷ []) is).0 in
    -- [the box; the tokens]
    lands_last ! refl good $ exec ! 𝓣.C 𝓣.Λ (env fn.locals l) (after 3 fn.body) (at_ret (env fn.locals l) Post) $ sets ! (of_opd ! (get ! refl)) refl good $
    use0 𝓛 (raw (fact 𝓤 (r.value ≡ d.value))) (fact_i 𝓤 (r.value ≡ d.value) (emp 𝓤) same) $ nothing ! $ nothing ! $ fjoin ! $
    returns ! (look_at ! 0 refl) $ free_all ! refl $ keep ! (3 ∷ 0 ∷ 2 ∷ 1 ∷ []) $ by ! (leaves 𝓛 En hs c z v r ((tt, (tt, tt)), tt) (tt, tt))))))))))
