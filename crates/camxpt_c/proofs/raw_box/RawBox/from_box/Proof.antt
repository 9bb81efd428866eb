-- `from_box` puts the two that `Box::into_raw_with_allocator` answers into a struct.
use Rattle.std.proofs.Common.{◌≡◌, List, [], ◌∷◌, ◌++◌, refl, sym, ap, ◌∙◌, subst}
use mir.Syntax.{a_type, dcons, dnil}
use mir.Raw.{raw as bare}
use mir.Val.{Val, vptr, vstruct, of_list}
use mir.MapTy.{inst_fn}
use base.Logic.{SProp, ent, emp, never, id⊢, fst∗}
use base.Fml.{ftrue, fsep, flft}
use prog.Wp.{WpFn}
use types.Logic.{sem}
use types.Kit.{‵, raw, ◌⊛◌, some, later, ◌$◌, ◌∵◌, !, qed, by, move, keep, drop, split, split3, join, fsplit, fjoin, fpick, pick, suffices, use0, use1, await, rewrite, feq_l}
use types.Run.{stop, fld, of_opd, no_more, and_then, returns, enter}
use types.ByLocal.{alloc_all, pass_all, free_all, look_at, get, get_in, sets, lands_as}
use types.Part.{agg, sub, whole}
use contract.Monad.{fact, fact_i}
use contract.Running.{tables}
use denote.Exit.{no}
use denote.RattleType.{RattleType, owns}
use denote.Signature.{types_at, plain}
use denote.Builtin.{RawPtr}
use denote.RawPtr.{Ptr, block_ptr, null_ptr, ptr_val, in_a_block}
use denote.Steps.{nothing, only, heard}
use denote.Param.{param, layout, bounded}
use denote.Param.Laws.{param_laws}
use denote.Struct.Tuple.{Tuple}
use denote.Triple.Spec.{triple_of}
use denote.Triple.Call.{calls_at}
use denote.Triple.Walked.{Stays, stay_dropped, walk_of}
use Rattle.std.proofs.alloc.Calls.{Goes-blank, handle_tells}
use Rattle.std.proofs.raw_atomic.Calls.{fm}
use Rattle.std.specs.Box.Ownership.{box_owns}
use Rattle.std.proofs.BoxSteps.Form as form
use Rattle.std.proofs.BoxSteps.Steps.{box_out, box_in}
use Rattle.std.proofs.raw_atomic.Walks.{proved_at, leaves}
use Rattle.std.specs.contracts.boxed.Box.into_raw_with_allocator as callee
use Rattle.std.proofs.boxed.Box.into_raw_with_allocator.Met.{met}
use Rattle.camxpt_c.proofs.RawBoxes.{two, two_fit, raw_in}
use Rattle.camxpt_c.specs.contracts.raw_box.RawBox.from_box.{ended, clauses}
use Rattle.camxpt_c.specs.contracts.raw_box.RawBox.from_box.Key.{name as #self}
use Rattle.camxpt_c.proofs.raw_box.RawBox.from_box.Statement.{statement}
use Rattle.camxpt_c.proofs.raw_box.RawBox.from_box.Code as code

pub from_box_spec : {M : Type 1} → statement M
from_box_spec 𝓤 𝓛 𝓜 𝓡 wired T A L LA g d dx dd allocator glue glued =
    let H = 𝓛.H in let 𝓣 = tables 𝓤 H 𝓜 𝓡 𝓡.env in
    let R : RattleType = param 0 T in let Z : RattleType = param 1 A in let LZ = param_laws 1 A LA in
    let end = ended T A g d dx dd in let stated = clauses T A g d dx dd 𝓛 𝓜.mem 𝓡.returns in
    let inst = bounded (a_type ∷ a_type ∷ []) (T, (A, tt)) (dcons d (dcons dx (dcons dd dnil))) in let fn = inst_fn inst code.function in
    let F : form.Bx = record { row = T; laws = L; al = record { row = A; laws = LA; g = g; d = d; drops = dd } } in let B : RattleType = form.B F in
    let stays : Stays end.signature.params end.kept = (stay_dropped (plain (λ _. B)) no, tt) in
    proved_at 𝓛 end stays stated 𝓜 𝓡 (Goes-blank 𝓛 2 (plain (λ _. B)) no (λ κs x f. tt), tt) (#self inst) fn (code.unfolded 𝓤 H 𝓜 𝓡 wired (T, (A, tt)) d dx dd) (λ z are.
    let κs = z.0.0 in let qs = z.0.1 in let taken = z.0.3.0 in
    let Post : Val → SProp 𝓤 = (walk_of 𝓛 end stays stated).post z in
    let Run : List Val → SProp 𝓤 = λ words. WpFn 𝓤 H 𝓣.C 𝓣.Λ fn words Post in
    let alive = ‵ (flft κs.0 qs.0) ⊛ ‵ (flft κs.1.0 qs.1.0) ⊛ ‵ ftrue in
    let given = (alive ⊛ ‵ (owns (types_at end.signature.params κs) z.0.3 z.0.4)) ∷ raw ((stated κs z.0.3).requires z.1) ∷ [] in
    -- the box goes to the callee as it is
    qed 𝓛 given ∵ split ! $ move ! (1 ∷ []) $ fsplit ! $ box_out F ! taken z.0.4.0 (λ b o a at words fits. box_in F ! taken b o taken.value at refl $
    let held : Val = form.word F a b o in let held_fits = two_fit R Z LZ g b o a fits in
    let k = triple_of 𝓛 (callee.signature T A g d dd dx) (callee.spec T A g d dd dx 𝓛 𝓜.mem 𝓡.returns) in
    let y : k.Ghost = ((κs, qs, tt, (taken, tt), (held ∷ [], tt)), tt) in
    fjoin ! $ move ! (1 ∷ 0 ∷ []) $ join ! $ join ! $ use1 𝓛 (raw (k.pre y)) (id⊢ 𝓤 _) $
    suffices ! (Run (held ∷ [])) (subst (λ (us : List Val). ent 𝓤 (Run (held ∷ [])) (Run us)) (sym (λ i. words i ++ [])) (id⊢ 𝓤 (Run (held ∷ [])))) $
    enter ! 𝓣.C 𝓣.Λ fn (held ∷ []) Post $ alloc_all ! (λ l. pass_all ! refl (held_fits, tt) $ sets ! (of_opd ! (get ! refl)) refl held_fits $
    let callee_met = met 𝓤 𝓛 𝓜 𝓡 (code.calls-std_alloc::boxed::Box::into_raw_with_allocator 𝓡.env wired) T A L LA g d dd dx allocator glued glue in
    calls_at ! (fm 𝓛 𝓜 𝓡) k callee_met y (and_then ! (get ! refl) (no_more !)) (λ u.
    -- it answers a pointer that owns the value, and the allocator
    let Pair = Tuple (RawPtr ∷ Z ∷ []) in let Given = (Unit {0} × (Unit {0} × Unit {0})) × Unit {0} in
    let answered = later (some (λ (r : Ptr × A.Denot). (alive ⊛ ‵ (Pair.own_val r (u ∷ []))) ⊛
    some (λ (_ : Given). ‵ (fsep (fsep ftrue (fsep ftrue ftrue)) ftrue) ⊛ (raw (fact 𝓤 (r.1 ≡ taken.alloc)) ⊛ ‵ (box_owns (g.dealloc_token taken.alloc) R r.0 taken.value))))) in
    use1 𝓛 answered (id⊢ 𝓤 _) $ await ! tt $ pick ! (λ r. split ! $ move ! (1 ∷ []) $ pick ! (λ _. split3 ! $ drop ! $ heard ! (r.1 ≡ taken.alloc) (λ same.
    let Holds = λ (p : Ptr). box_owns (g.dealloc_token taken.alloc) R p taken.value in
    let nowhere = fst∗ 𝓤 (never 𝓤) (sem 𝓛 (g.dealloc_token taken.alloc (bare (layout T)) null_ptr)) in
    in_a_block ! r.0 Holds nowhere (λ b' o' at'.
    move ! (1 ∷ []) $ split ! $ move ! (1 ∷ []) $ fpick ! (λ vss. fsplit ! $ feq_l ! (λ whole_is. fsplit ! $ feq_l ! (λ pointer_is. fsplit ! $
    rewrite ! 0 (λ (s : A.Denot). ‵ (A.own_val s vss.1.0)) same refl $ handle_tells F.al ! taken.alloc vss.1.0 (λ a' alone fits'.
    let made : Val = two (vptr b' o') a' in let made_fits = two_fit R Z LZ g b' o' a' fits' in
    let words_are = whole_is ∙ (λ j. vstruct (of_list ((pointer_is ∙ ap (λ (p : Ptr). ptr_val p ∷ []) at') j ++ (alone j ++ []))) ∷ []) in
    lands_as ! (ap only words_are) refl made_fits $
    sets ! (of_opd ! (get_in ! (fld ! refl (stop !)) (sub ! 0 refl (whole !)))) refl (tt, tt) $
    sets ! (of_opd ! (get_in ! (fld ! refl (stop !)) (sub ! 1 refl (whole !)))) refl fits' $
    sets ! (of_opd ! (get ! refl)) refl fits' $
    sets ! (agg ! (and_then ! (get ! refl) (and_then ! (get ! refl) (no_more !)))) refl made_fits $
    -- both are the struct's
    move ! (3 ∷ 0 ∷ []) $ raw_in R Z LZ g ! b' o' a' taken.alloc taken.value $
    use0 𝓛 (raw (fact 𝓤 (taken.value ≡ taken.value))) (fact_i 𝓤 (taken.value ≡ taken.value) (emp 𝓤) refl) $ nothing ! $ nothing ! $ fjoin ! $
    returns ! (look_at ! 0 refl) $ free_all ! refl $ keep ! (4 ∷ 0 ∷ 2 ∷ 1 ∷ []) $
    by ! (leaves 𝓛 end stays stated z made (record { at = block_ptr b' o'; alloc = taken.alloc; value = taken.value }) ((tt, (tt, tt)), tt) (tt, tt))))))))))))))
