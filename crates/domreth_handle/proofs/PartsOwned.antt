-- What the parts of a box own: two words, and the block. Assumes `Logic`.
use Rattle.std.proofs.Common.{◌≡◌, ℕ, List, [], ◌∷◌, ◌∙◌, ap}
use seplogic.Ra.Ura.{Ura}
use mir.Raw.{raw as bare}
use mir.Val.{Val}
use base.Logic.{never, fst∗}
use base.Fml.{Fml}
use types.Logic.{Logic, sem}
use types.Kit.{Item, Goal, Seq, Step, step, ‵, ◌$◌, move, fsplit, fjoin}
use denote.RattleType.{RattleType}
use denote.Memory.{lone}
use denote.RawPtr.{Ptr, block_ptr, null_ptr, in_a_block}
use denote.Param.{layout}
use denote.Param.Laws.{Laws}
use Rattle.std.specs.declared.alloc.Allocator.{Ghosts}
use Rattle.std.specs.Box.Ownership.{box_owns}
use Rattle.std.proofs.cell.Inside.{Good}
use Rattle.domreth_handle.specs.contracts.unboxed.Unboxed as parts
use Rattle.domreth_handle.proofs.TwoWords.{words, two_out, two_in}

module _ (R Z : RattleType) (LZ : Laws Z) (g : Ghosts Z.Denot) where
  abbrev pub Parts : RattleType
  Parts = parts.the_row R Z g

  -- the block of a value, which the allocator may free
  abbrev pub Block : Z.Denot → Ptr → R.Denot → Fml
  Block a p x = box_owns (g.dealloc_token a) R p x

  module _ {M : Type 1} {𝓤 : Ura M} {𝓛 : Logic 𝓤} {K : Type 0} {Γ : List (Item 𝓤)} {G : Goal 𝓤 𝓛.H} where
    -- nothing lies at null
    pub block_lies : K → (a : Z.Denot) (p : Ptr) (x : R.Denot)
        → ((b o : ℕ) → p ≡ block_ptr b o → Seq K 𝓛 (‵ (Block a (block_ptr b o) x) ∷ Γ) G) → Seq K 𝓛 (‵ (Block a p x) ∷ Γ) G
    block_lies t a p x = in_a_block t p (λ q. Block a q x) (fst∗ 𝓤 (never 𝓤) (sem 𝓛 (g.dealloc_token a (bare (lone R.mir)) null_ptr)))

  module _ {M : Type 1} {𝓤 : Ura M} {𝓛 : Logic 𝓤} {K : Type 0} {Γ : List (Item 𝓤)} {G : Goal 𝓤 𝓛.H} where
    pub parts_out : K → (d : Parts.Denot) (vs : List Val)
        → ((b o : ℕ) (h : Val) → vs ≡ words (block_ptr b o) h ∷ [] → Good (layout Z) h → Seq K 𝓛 (‵ (Block d.alloc (block_ptr b o) d.value) ∷ ‵ (Z.own_val d.alloc (h ∷ [])) ∷ Γ) G)
        → Seq K 𝓛 (‵ (Parts.own_val d vs) ∷ Γ) G
    parts_out t d vs k =
        fsplit t $ two_out Z LZ g t d.at d.alloc vs (λ h are fits. move t (1 ∷ []) $
        block_lies t d.alloc d.at d.value (λ b o at. k b o h (are ∙ ap (λ (p : Ptr). words p h ∷ []) at) fits))

    pub parts_in : K → (p : Ptr) (a : Z.Denot) (x : R.Denot) (h : Val)
        → Step K 𝓛 (‵ (Parts.own_val (record { at = p; alloc = a; value = x }) (words p h ∷ [])) ∷ Γ) G (‵ (Z.own_val a (h ∷ [])) ∷ ‵ (Block a p x) ∷ Γ) G
    parts_in t p a x h = step (λ s. two_in Z LZ t p a h $ fjoin t $ s)
