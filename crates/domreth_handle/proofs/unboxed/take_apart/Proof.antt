-- A box is taken apart by std's call, and its two words are put side by side.
use Rattle.std.proofs.Common.{◌≡◌, List, [], ◌∷◌, ◌++◌, ◌∙◌, refl, sym, ap, subst}
use mir.Syntax.{a_type, dcons, dnil}
use mir.MapTy.{inst_fn}
use mir.Val.{Val}
use base.Logic.{SProp, ent, emp, id⊢}
use prog.Wp.{WpFn}
use types.Kit.{‵, raw, ◌⊛◌, some, later, ◌$◌, ◌∵◌, !, qed, by, move, keep, drop, split, fjoin, pick, await, rewrite, use0, use1, suffices}
use types.Run.{stop, fld, of_opd, no_more, and_then, returns, enter}
use types.ByLocal.{alloc_all, pass_all, free_all, look_at, get, get_in, sets, lands_as}
use types.Part.{agg, sub, whole}
use contract.Monad.{fact, fact_i}
use contract.Running.{tables}
use denote.Exit.{no}
use denote.RattleType.{RattleType}
use denote.RawPtr.{Ptr, block_ptr}
use denote.Steps.{nothing, only, heard}
use denote.Signature.{plain}
use denote.Param.{param, layout, bounded}
use denote.Param.Laws.{Laws, param_laws}
use denote.Triple.Clauses.{Lasts, lasts}
use denote.Triple.Entry.{alive}
use denote.Triple.Spec.{triple_of}
use denote.Triple.Call.{calls_at}
use denote.Triple.Table.{framed}
use denote.Triple.Walked.{Stays, stay_dropped, walk_of}
use Rattle.std.proofs.alloc.Calls.{Goes-blank}
use Rattle.std.proofs.cell.Inside.{one}
use Rattle.std.proofs.raw_atomic.Walks.{proved_at, leaves}
use Rattle.domreth_handle.proofs.TwoWords.{Two, words, words_good, two_out}
use Rattle.domreth_handle.proofs.PartsOwned.{Block, Parts, block_lies, parts_in}
use Rattle.std.specs.contracts.boxed.Box as boxes
use Rattle.std.proofs.boxed.Box.TheLaws as box_laws
use Rattle.std.specs.contracts.boxed.Box.into_raw_with_allocator as parting
use Rattle.std.proofs.boxed.Box.into_raw_with_allocator.Met as parting_is
use Rattle.domreth_handle.specs.contracts.unboxed.take_apart as f
use Rattle.domreth_handle.proofs.unboxed.take_apart.Statement.{statement}
use Rattle.domreth_handle.proofs.unboxed.take_apart.Code as code

pub take_apart_spec : {M : Type 1} → statement M
take_apart_spec 𝓤 𝓛 𝓜 𝓡 wired T A LT LA g da dt dz ma mt mz =
    let H = 𝓛.H in let 𝓣 = tables 𝓤 H 𝓜 𝓡 𝓡.env in let R : RattleType = param 0 T in let Z : RattleType = param 1 A in
    let inst = bounded (a_type ∷ a_type ∷ []) (T, (A, tt)) (dcons da (dcons dt (dcons dz dnil))) in let fn = inst_fn inst code.function in
    let En = f.ended T A g da dt dz in let c = f.clauses T A g da dt dz 𝓛 𝓜.mem 𝓡.returns in
    let Whole : RattleType = boxes.the_row R Z g in let LW : Laws Whole = box_laws.the_row_laws R Z g (param_laws 0 T LT) (param_laws 1 A LA) in
    let hs : Stays En.signature.params En.kept = (stay_dropped (plain (λ _. Whole)) no, tt) in
    let G = triple_of 𝓛 (parting.signature T A g da dz dt) (parting.spec T A g da dz dt 𝓛 𝓜.mem 𝓡.returns) in
    let met = parting_is.met 𝓤 𝓛 𝓜 𝓡 (code.calls-std_alloc::boxed::Box::into_raw_with_allocator 𝓡.env wired) T A LT LA g da dz dt ma mz mt in
    proved_at 𝓛 En hs c 𝓜 𝓡 (Goes-blank 𝓛 2 (plain (λ _. Whole)) no (λ κs x w. tt), tt) (f.Key.name inst) fn (code.unfolded 𝓤 H 𝓜 𝓡 wired (T, (A, tt)) da dt dz) (λ z are.
    let κs = z.0.0 in let qs = z.0.1 in let Post : Val → SProp 𝓤 = (walk_of 𝓛 En hs c).post z in let Run : List Val → SProp 𝓤 = λ ws. WpFn 𝓤 H 𝓣.C 𝓣.Λ fn ws Post in
    let word = one (layout Whole) z.0.4.0 ((LW.lawful 𝓛).typed z.0.3.0 z.0.4.0 are.0) in
    let LZ : Laws Z = param_laws 1 A LA in let told = parting.ended T A g da dz dt in let a : A.Denot = z.0.3.0.alloc in let x : T.Denot = z.0.3.0.value in
    let asked : List Val → G.Ghost = λ us. ((κs, qs, z.0.2, z.0.3, (us, tt)), tt) in
    qed 𝓛 (raw (G.pre (asked z.0.4.0)) ∷ []) ∵
    use1 𝓛 (raw (G.pre (asked (word.0 ∷ [])))) (subst (λ (us : List Val). ent 𝓤 (G.pre (asked z.0.4.0)) (G.pre (asked us))) word.1 (id⊢ 𝓤 _)) $
    suffices ! (Run (word.0 ∷ [])) (subst (λ (us : List Val). ent 𝓤 (Run (word.0 ∷ [])) (Run us)) (sym (λ i. word.1 i ++ [])) (id⊢ 𝓤 _)) $
    enter ! 𝓣.C 𝓣.Λ fn (word.0 ∷ []) Post $ alloc_all ! (λ l. pass_all ! refl (word.2, tt) $
    sets ! (of_opd ! (get ! refl)) refl word.2 $
    calls_at ! (framed 𝓤 H 𝓜 𝓣) G met (asked (word.0 ∷ [])) (and_then ! (get ! refl) (no_more !)) (λ v.
    use1 𝓛 (later (some (λ (r : Ptr × A.Denot). (raw (alive 𝓛 En.signature κs qs) ⊛ ‵ ((Two Z LZ).own_val r (v ∷ []))) ⊛ some (λ (ws : Lasts told κs z.0.3).
    ‵ (lasts told κs z.0.3 ws) ⊛ (raw (fact 𝓤 (r.1 ≡ a)) ⊛ ‵ (Block R Z LZ g a r.0 x)))))) (id⊢ 𝓤 _) $
    await ! tt $ pick ! (λ r. split ! $ move ! (1 ∷ []) $ pick ! (λ ws. split ! $ drop ! $ split ! $ heard ! (r.1 ≡ a) (λ same.
    block_lies R Z LZ g ! a r.0 x (λ b o at.
    move ! (1 ∷ []) $ split ! $ move ! (1 ∷ []) $ two_out Z LZ g ! r.0 r.1 (v ∷ []) (λ h are fits. rewrite ! 0 (λ (s : A.Denot). ‵ (Z.own_val s (h ∷ []))) same refl $
    -- [the allocator; the tokens; the block]
    let two = words_good Z LZ (block_ptr b o) h fits in let d : (Parts R Z LZ g).Denot = record { at = block_ptr b o; alloc = a; value = x } in
    lands_as ! (ap only are ∙ ap (λ (p : Ptr). words p h) at) refl two $
    sets ! (of_opd ! (get_in ! (fld ! refl (stop !)) (sub ! 0 refl (whole !)))) refl (tt, tt) $ sets ! (of_opd ! (get_in ! (fld ! refl (stop !)) (sub ! 1 refl (whole !)))) refl fits $
    sets ! (of_opd ! (get ! refl)) refl fits $ sets ! (agg ! (and_then ! (get ! refl) (and_then ! (get ! refl) (no_more !)))) refl two $
    move ! (0 ∷ 2 ∷ []) $ parts_in R Z LZ g ! (block_ptr b o) a x h $
    use0 𝓛 (raw (fact 𝓤 (x ≡ x))) (fact_i 𝓤 (x ≡ x) (emp 𝓤) refl) $ nothing ! $ nothing ! $ fjoin ! $
    returns ! (look_at ! 0 refl) $ free_all ! refl $ keep ! (3 ∷ 0 ∷ 2 ∷ 1 ∷ []) $ by ! (leaves 𝓛 En hs c z (words (block_ptr b o) h) d ((tt, (tt, tt)), tt) (tt, tt))))))))))
