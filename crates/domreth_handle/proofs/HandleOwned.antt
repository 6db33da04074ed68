-- What a handle owns: two words, and the desk that it holds, if it holds one. Assumes `Logic`.
use Rattle.std.proofs.Common.{◌≡◌, ℕ, List, [], ◌∷◌, Option, Some, None, refl}
use seplogic.Ra.Ura.{Ura}
use mir.Val.{Val}
use types.Logic.{Logic}
use types.Kit.{Item, Goal, Seq, Step, step, ‵, ◌$◌, fsplit, fjoin, feq_l}
use denote.RattleType.{RattleType}
use denote.RawPtr.{Ptr, block_ptr, null_ptr}
use denote.Param.{layout}
use denote.Param.Laws.{Laws}
use Rattle.std.proofs.cell.Inside.{Good}
use Rattle.std.specs.declared.alloc.Global.{Global}
use Rattle.std.specs.contracts.alloc.Global as global
use Rattle.std.proofs.alloc.Global.TheLaws as global_laws
use Rattle.std.specs.contracts.impls.GlobalAllocator.TheImpl.{ghosts}
use Rattle.domreth_handle.specs.Held.{held_at}
use Rattle.domreth_desk.specs.contracts.ticket_desk.TicketDesk as desk
use Rattle.domreth_handle.specs.contracts.desk_handle.DeskHandle as handle
use Rattle.domreth_handle.proofs.TwoWords.{words, two_out, two_in}
use Rattle.domreth_handle.proofs.PartsOwned.{Block, block_lies}

abbrev pub R : RattleType
R = desk.the_row

abbrev pub Z : RattleType
Z = global.the_row

abbrev pub LZ : Laws Z
LZ = global_laws.the_row_laws

abbrev pub Handle : RattleType
Handle = handle.the_row

module _ {M : Type 1} {𝓤 : Ura M} {𝓛 : Logic 𝓤} {K : Type 0} {Γ : List (Item 𝓤)} {G : Goal 𝓤 𝓛.H} where
  pub handle_out : K → (d : Handle.Denot) (vs : List Val)
      → ((h : Val) → vs ≡ words d.at h ∷ [] → Good (layout Z) h → Seq K 𝓛 (‵ (Z.own_val d.alloc (h ∷ [])) ∷ ‵ (held_at d.alloc d.at d.desk) ∷ Γ) G)
      → Seq K 𝓛 (‵ (Handle.own_val d vs) ∷ Γ) G
  handle_out t d vs k = fsplit t $ two_out Z LZ ghosts t d.at d.alloc vs k

  pub handle_in : K → (p : Ptr) (a : Global) (held : Option R.Denot) (h : Val)
      → Step K 𝓛 (‵ (Handle.own_val (record { at = p; alloc = a; desk = held }) (words p h ∷ [])) ∷ Γ) G (‵ (Z.own_val a (h ∷ [])) ∷ ‵ (held_at a p held) ∷ Γ) G
  handle_in t p a held h = step (λ s. two_in Z LZ t p a h $ fjoin t $ s)

  -- closed and null, or open and the address of a block
  pub open_or_closed : K → (a : Global) (p : Ptr) (held : Option R.Denot)
      → (p ≡ null_ptr → held ≡ None → Seq K 𝓛 Γ G)
      → ((b o : ℕ) (x : R.Denot) → p ≡ block_ptr b o → held ≡ Some x → Seq K 𝓛 (‵ (Block R Z LZ ghosts a (block_ptr b o) x) ∷ Γ) G)
      → Seq K 𝓛 (‵ (held_at a p held) ∷ Γ) G
  open_or_closed t a p None closed opened = feq_l t (λ null. closed null refl)
  open_or_closed t a p (Some x) closed opened = block_lies R Z LZ ghosts t a p x (λ b o at. opened b o x at refl)
