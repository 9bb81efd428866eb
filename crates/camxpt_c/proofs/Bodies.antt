-- Boxes whose pointers may be null, beside an allocator: what a `Body` or a `RecorderBody` owns. Assumes `Logic`.
use Rattle.std.proofs.Common.{◌≡◌, List, [], ◌∷◌, refl, subst}
use Rattle.std.specs.Prelude.{Option, None, Some, IsTrue, is_some}
use mathlib.Core.Bool.{Bool, not}
use lib.Dec.{T}
use seplogic.Ra.Ura.{Ura}
use mir.Raw.{raw}
use mir.Val.{Val, vnull}
use base.Fml.{Fml, fex, fsep, ftrue}
use base.Fraction.{full_share}
use base.Shift.{Keyless}
use types.Logic.{Logic}
use types.Kit.{Item, Goal, Step, step, ‵, ◌$◌, move, fjoin, fpack, feq_i}
use denote.RattleType.{RattleType, Valss}
use denote.Builtin.{RawPtr}
use denote.Exit.{Exit, unchanged, leaves, hidden, under}
use denote.Memory.{lone}
use denote.RawPtr.{Ptr, block_ptr, null_ptr, lies_at}
use denote.Steps.{nothing}
use denote.Param.Laws.{Laws}
use denote.Param.Send.{IsSend, Quiet, part_keyless}
use denote.Struct.Struct.{within}
use denote.Struct.Owning.{shape}
use Rattle.std.proofs.Crossing as crossing
use Rattle.std.specs.contracts.alloc.Global as heap
use Rattle.std.proofs.alloc.Global.TheLaws as heap_laws
use Rattle.std.specs.contracts.impls.GlobalAllocator.TheImpl.{ghosts}
use Rattle.camxpt_c.proofs.RawBoxes.{two}
use Rattle.camxpt_c.specs.contracts.raw_box.RawBox as raw_box
use Rattle.camxpt_c.specs.Held.{held}

-- the allocator as a type
abbrev pub Z : RattleType
Z = heap.the_row

abbrev pub LZ : Laws Z
LZ = heap_laws.the_row_laws

-- what is there
pub found : {A : Type 0} (o : Option A) → IsTrue (is_some o) → (x : A) × (o ≡ Some x)
found (Some x) is = (x, refl)
found None is = absurd (subst (λ (b : Bool). T (not b)) is tt)

-- what a body owns whose pointer is null
abbrev pub empty : RattleType → Z.Denot → List Val → Fml
empty R alloc words = fsep (fex (Valss (RawPtr ∷ Z ∷ [])) (within (shape (raw_box.the_type R Z ghosts)) (null_ptr, (alloc, tt)) words)) ftrue

module _ {M : Type 1} {𝓤 : Ura M} {𝓛 : Logic 𝓤} {K : Type 0} {Γ : List (Item 𝓤)} {G : Goal 𝓤 𝓛.H} where
  -- null beside the allocator
  pub none_in : (R : RattleType) → K → (a : Val) (alloc : Z.Denot) → Step K 𝓛 (‵ (empty R alloc (two vnull a ∷ [])) ∷ Γ) G (‵ (Z.own_val alloc (a ∷ [])) ∷ Γ) G
  none_in R k a alloc = step (λ rest.
      let Words = Valss (RawPtr ∷ Z ∷ []) in let whole : List Val = two vnull a ∷ [] in
      nothing k $ nothing k $ move k (2 ∷ 0 ∷ []) $ fjoin k $ feq_i k (List Val) (vnull ∷ []) (vnull ∷ []) refl $ fjoin k $ feq_i k (List Val) whole whole refl $ fjoin k $
      fpack k Words (within (shape (raw_box.the_type R Z ghosts)) (null_ptr, (alloc, tt)) whole) (vnull ∷ [], (a ∷ [], tt)) $ move k (1 ∷ 0 ∷ []) $ move k (1 ∷ 0 ∷ []) $ fjoin k $ rest)

-- ---- other threads

pub quiet : {D X : Type 0} (to : D → X) (e : Exit X) → Quiet e → Quiet (hidden (under to e))
quiet to unchanged q = λ x w. tt
quiet to (leaves L l S s r₀) q = λ d. q (to d)

lies : (T : RattleType) → IsSend T → (p : Ptr) (x : T.Denot) → Keyless (lies_at T full_share p x)
lies T s (block_ptr b o) x = part_keyless T s full_share x b o
lies T s null_ptr x = tt

-- what is there may cross, as a box may
pub held_crosses : (R : RattleType) → IsSend R → (a : Z.Denot) (p : Ptr) (x : Option R.Denot) → Keyless (held (ghosts.dealloc_token a) R p x)
held_crosses R s a p (Some x) = (lies R s p x, crossing.frees.frees a (raw (lone R.mir)) p)
held_crosses R s a p None = tt
