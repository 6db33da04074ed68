-- An address and an allocator side by side, which lie in memory as two words: how such a pair is read, and made. Assumes `Logic`.
use Rattle.std.proofs.Common.{◌≡◌, List, [], ◌∷◌, ◌++◌, refl, subst, lit<}
use mathlib.Core.Bool.{◌&&◌, true}
use lib.Dec.{T}
use seplogic.Ra.Ura.{Ura}
use mir.Syntax.{impl, tnil, dnil}
use mir.Val.{Val, vstruct, vcons, vnil, of_list, has_ty, WT}
use base.Fml.{fsep, feq}
use types.Logic.{Logic}
use types.Kit.{Item, Goal, Seq, Step, step, ‵, ◌$◌, move, drop, fsplit, fjoin, fpick, fpack, feq_i, feq_l}
use denote.RattleType.{RattleType, Valss, owns}
use denote.Builtin.{RawPtr}
use denote.RawPtr.{Ptr, block_ptr, null_ptr, ptr_val}
use denote.Steps.{nothing}
use denote.Param.{layout}
use denote.Param.Laws.{Laws}
use denote.Struct.Tuple.{Tuple}
use Rattle.std.specs.declared.alloc.Allocator.{Ghosts}
use Rattle.std.proofs.alloc.Calls.{Al, handle_tells}
use Rattle.std.proofs.cell.Inside.{Good}
use Rattle.std.proofs.ResultValues.{and_tt}

-- the two words
abbrev pub words : Ptr → Val → Val
words p h = vstruct (vcons (ptr_val p) (vcons h vnil))

module _ (Z : RattleType) (LZ : Laws Z) where
  -- a value with these words is one of its type
  pub words_good : (p : Ptr) (h : Val) → Good (layout Z) h → T (has_ty (layout Z) h && true) × WT (words p h)
  words_good null_ptr h fits = (and_tt (has_ty (layout Z) h) fits.0, (record { fits = lit< tt }, (fits.1, tt)))
  words_good (block_ptr b o) h fits = (and_tt (has_ty (layout Z) h) fits.0, (tt, (fits.1, tt)))

  abbrev pub Two : RattleType
  Two = Tuple (RawPtr ∷ Z ∷ [])

  module _ (g : Ghosts Z.Denot) where
    abbrev al : Al
    al = record { row = Z; laws = LZ; g = g; d = impl [] tnil dnil; drops = impl [] tnil dnil }

    module _ {M : Type 1} {𝓤 : Ura M} {𝓛 : Logic 𝓤} {K : Type 0} {Γ : List (Item 𝓤)} {G : Goal 𝓤 𝓛.H} where
      -- read: the second word is the allocator's
      pub two_out : K → (p : Ptr) (a : Z.Denot) (vs : List Val)
          → ((h : Val) → vs ≡ words p h ∷ [] → Good (layout Z) h → Seq K 𝓛 (‵ (Z.own_val a (h ∷ [])) ∷ Γ) G)
          → Seq K 𝓛 (‵ (Two.own_val (p, a) vs) ∷ Γ) G
      two_out t p a vs k =
          let laid : List Val → List Val → List Val = λ ps hs. vstruct (of_list (ps ++ (hs ++ []))) ∷ [] in
          fpick t (λ vss. fsplit t $ feq_l t (λ as_one. fsplit t $ feq_l t (λ as_ptr. fsplit t $ handle_tells al t a vss.1.0 (λ h as_h fits.
          move t (1 ∷ []) $ drop t $ k h (subst (λ hs. vs ≡ laid (ptr_val p ∷ []) hs) as_h (subst (λ ps. vs ≡ laid ps vss.1.0) as_ptr as_one)) fits))))

  module _ {M : Type 1} {𝓤 : Ura M} {𝓛 : Logic 𝓤} {K : Type 0} {Γ : List (Item 𝓤)} {G : Goal 𝓤 𝓛.H} where
    -- made, of what is owned of the allocator
    pub two_in : K → (p : Ptr) (a : Z.Denot) (h : Val)
        → Step K 𝓛 (‵ (Two.own_val (p, a) (words p h ∷ [])) ∷ Γ) G (‵ (Z.own_val a (h ∷ [])) ∷ Γ) G
    two_in t p a h = step (λ s. let here = words p h ∷ [] in
        nothing t $ move t (1 ∷ 0 ∷ []) $ fjoin t $ feq_i t (List Val) (ptr_val p ∷ []) (ptr_val p ∷ []) refl $ fjoin t $
        feq_i t (List Val) here here refl $ fjoin t $
        fpack t (Valss (RawPtr ∷ Z ∷ [])) (λ vss. fsep (feq (List Val) here (vstruct (of_list (vss.0 ++ (vss.1.0 ++ []))) ∷ [])) (owns (RawPtr ∷ Z ∷ []) (p, (a, tt)) vss))
        (ptr_val p ∷ [], (h ∷ [], tt)) $ s)
