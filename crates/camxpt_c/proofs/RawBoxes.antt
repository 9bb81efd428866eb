-- The machine values of a `RawBox`: a struct of a pointer and an allocator. Assumes `Logic`.
use Rattle.std.proofs.Common.{◌≡◌, ℕ, List, [], ◌∷◌, ◌++◌, refl, subst}
use mathlib.Core.Bool.{true, ◌&&◌}
use lib.Dec.{T}
use seplogic.Ra.Ura.{Ura}
use mir.Syntax.{impl, tnil, dnil}
use mir.Raw.{raw as bare}
use mir.Val.{Val, vptr, vstruct, vcons, vnil, of_list, has_ty, WT}
use base.Logic.{never, fst∗}
use types.Logic.{Logic, sem}
use types.Kit.{Item, Goal, Seq, Step, step, ‵, ◌$◌, move, drop, fsplit, fjoin, fpick, fpack, feq_i, feq_l}
use denote.RattleType.{RattleType, Valss}
use denote.Builtin.{RawPtr}
use denote.Memory.{lone}
use denote.RawPtr.{Ptr, block_ptr, null_ptr, ptr_val, in_a_block}
use denote.Steps.{nothing}
use denote.Param.{layout}
use denote.Param.Laws.{Laws}
use denote.Struct.Struct.{within}
use denote.Struct.Owning.{shape}
use Rattle.std.specs.declared.alloc.Allocator.{Ghosts}
use Rattle.std.proofs.alloc.Calls.{Al, handle_tells}
use Rattle.std.proofs.cell.Inside.{Good}
use Rattle.std.specs.Box.Ownership.{box_owns}
use Rattle.std.proofs.ResultValues.{and_tt}
use Rattle.camxpt_c.specs.contracts.raw_box.RawBox as raw_box

-- a struct of two fields
abbrev pub two : Val → Val → Val
two first second = vstruct (vcons first (vcons second vnil))

module _ (R Z : RattleType) (LZ : Laws Z) (g : Ghosts Z.Denot) where
  abbrev pub Raw : RattleType
  Raw = raw_box.the_row R Z g

  -- a pointer beside an allocator that fits has the type's layout
  pub two_fit : (b o : ℕ) (a : Val) → Good (layout Z) a → T (has_ty (layout Z) a && true) × WT (two (vptr b o) a)
  two_fit b o a fits = (and_tt (has_ty (layout Z) a) fits.0, (tt, (fits.1, tt)))

  abbrev allocator : Al
  allocator = record { row = Z; laws = LZ; g = g; d = impl [] tnil dnil; drops = impl [] tnil dnil }

  module _ {M : Type 1} {𝓤 : Ura M} {𝓛 : Logic 𝓤} {K : Type 0} {Γ : List (Item 𝓤)} {G : Goal 𝓤 𝓛.H} where
    -- What a `RawBox` owns: its value is two words, the first a pointer into a block.
    pub raw_out : K → (raw : Raw.Denot) (words : List Val)
        → ((b o : ℕ) (a : Val) → raw.at ≡ block_ptr b o → words ≡ two (vptr b o) a ∷ [] → Good (layout Z) a
        → Seq K 𝓛 (‵ (box_owns (g.dealloc_token raw.alloc) R (block_ptr b o) raw.value) ∷ ‵ (Z.own_val raw.alloc (a ∷ [])) ∷ Γ) G)
        → Seq K 𝓛 (‵ (Raw.own_val raw words) ∷ Γ) G
    raw_out k raw words then =
        let Holds = λ (p : Ptr). box_owns (g.dealloc_token raw.alloc) R p raw.value in
        let nowhere = fst∗ 𝓤 (never 𝓤) (sem 𝓛 (g.dealloc_token raw.alloc (bare (lone R.mir)) null_ptr)) in
        fsplit k $ fpick k (λ vss. fsplit k $ feq_l k (λ whole. fsplit k $ feq_l k (λ pointer. fsplit k $
        handle_tells allocator k raw.alloc vss.1.0 (λ a alone fits. move k (1 ∷ []) $ drop k $ move k (1 ∷ []) $
        in_a_block k raw.at Holds nowhere (λ b o at.
        let by_pointer : words ≡ vstruct (of_list (ptr_val raw.at ∷ (vss.1.0 ++ []))) ∷ [] = subst (λ (ps : List Val). words ≡ vstruct (of_list (ps ++ (vss.1.0 ++ []))) ∷ []) pointer whole in
        let by_allocator : words ≡ vstruct (of_list (ptr_val raw.at ∷ a ∷ [])) ∷ [] = subst (λ (ws : List Val). words ≡ vstruct (of_list (ptr_val raw.at ∷ (ws ++ []))) ∷ []) alone by_pointer in
        then b o a at (subst (λ (p : Ptr). words ≡ vstruct (of_list (ptr_val p ∷ a ∷ [])) ∷ []) at by_allocator) fits)))))

    -- The converse.
    pub raw_in : K → (b o : ℕ) (a : Val) (alloc : Z.Denot) (x : R.Denot)
        → Step K 𝓛 (‵ (Raw.own_val (record { at = block_ptr b o; alloc = alloc; value = x }) (two (vptr b o) a ∷ [])) ∷ Γ) G
        (‵ (box_owns (g.dealloc_token alloc) R (block_ptr b o) x) ∷ ‵ (Z.own_val alloc (a ∷ [])) ∷ Γ) G
    raw_in k b o a alloc x = step (λ rest.
        let Words = Valss (RawPtr ∷ Z ∷ []) in let whole : List Val = two (vptr b o) a ∷ [] in
        nothing k $ move k (2 ∷ 0 ∷ []) $ fjoin k $ feq_i k (List Val) (vptr b o ∷ []) (vptr b o ∷ []) refl $ fjoin k $
        feq_i k (List Val) whole whole refl $ fjoin k $
        fpack k Words (within (shape (raw_box.the_type R Z g)) (block_ptr b o, (alloc, tt)) whole) (vptr b o ∷ [], (a ∷ [], tt)) $ fjoin k $ rest)
