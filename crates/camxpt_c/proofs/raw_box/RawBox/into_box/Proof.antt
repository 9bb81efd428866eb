-- `into_box` hands pointer and allocator to `Box::from_raw`.
use Rattle.std.proofs.Common.{◌≡◌, List, [], ◌∷◌, ◌++◌, refl, sym, ap, subst}
use mir.Syntax.{a_type, dcons, dnil}
use mir.Val.{Val, vptr}
use mir.MapTy.{inst_fn}
use base.Logic.{SProp, ent, id⊢}
use base.Fml.{ftrue, flft}
use prog.Wp.{WpFn}
use types.Kit.{‵, raw, ◌⊛◌, some, later, at_ret, ◌$◌, ◌∵◌, !, qed, by, move, keep, drop, split, split3, join, fsplit, fjoin, pick, suffices, use1, await, rewrite, feq_i}
use types.Run.{stop, fld, of_opd, no_more, and_then, first, blocks, exec, returns, enter}
use types.ByLocal.{alloc_all, pass_all, free_all, look_at, get, get_in, sets, lands_last, env}
use types.Part.{sub, whole}
use contract.Monad.{fact}
use contract.BorrowLft.{◌⊑◌}
use contract.Running.{tables}
use denote.Exit.{no}
use denote.RattleType.{RattleType, owns}
use denote.Signature.{types_at, plain}
use denote.RawPtr.{block_ptr}
use denote.Steps.{nothing, only}
use denote.Param.{param, layout, bounded}
use denote.Param.Laws.{param_laws}
use denote.Triple.Clauses.{Lasts, lasts}
use denote.Triple.Spec.{triple_of}
use denote.Triple.Call.{calls_at_last}
use denote.Triple.Walked.{Stays, stay_dropped, walk_of}
use Rattle.std.proofs.alloc.Calls.{Goes-blank}
use Rattle.std.proofs.alloc.Shapes.{after}
use Rattle.std.proofs.raw_atomic.Calls.{fm}
use Rattle.std.proofs.cell.Inside.{Good}
use Rattle.std.proofs.BoxSteps.Form as form
use Rattle.std.proofs.BoxSteps.Steps.{box_out, box_in}
use Rattle.std.proofs.raw_atomic.Walks.{proved_at, leaves}
use Rattle.std.specs.contracts.boxed.Box.from_raw as callee
use Rattle.std.proofs.boxed.Box.from_raw.Met.{met}
use Rattle.camxpt_c.proofs.RawBoxes.{two, Raw, two_fit, raw_out}
use Rattle.camxpt_c.specs.contracts.raw_box.RawBox.into_box.{ended, clauses}
use Rattle.camxpt_c.specs.contracts.raw_box.RawBox.into_box.Key.{name as #self}
use Rattle.camxpt_c.proofs.raw_box.RawBox.into_box.Statement.{statement}
use Rattle.camxpt_c.proofs.raw_box.RawBox.into_box.Code as code

pub into_box_spec : {M : Type 1} → statement M
into_box_spec 𝓤 𝓛 𝓜 𝓡 wired T A L LA g d dx dd allocator glue glued =
    let H = 𝓛.H in let 𝓣 = tables 𝓤 H 𝓜 𝓡 𝓡.env in
    let R : RattleType = param 0 T in let Z : RattleType = param 1 A in let LZ = param_laws 1 A LA in
    let end = ended T A g d dx dd in let stated = clauses T A g d dx dd 𝓛 𝓜.mem 𝓡.returns in
    let inst = bounded (a_type ∷ a_type ∷ []) (T, (A, tt)) (dcons d (dcons dx (dcons dd dnil))) in let fn = inst_fn inst code.function in
    let F : form.Bx = record { row = T; laws = L; al = record { row = A; laws = LA; g = g; d = d; drops = dd } } in let B : RattleType = form.B F in
    let stays : Stays end.signature.params end.kept = (stay_dropped (plain (λ _. Raw R Z LZ g)) no, tt) in
    proved_at 𝓛 end stays stated 𝓜 𝓡 (Goes-blank 𝓛 2 (plain (λ _. Raw R Z LZ g)) no (λ κs x f. tt), tt) (#self inst) fn (code.unfolded 𝓤 H 𝓜 𝓡 wired (T, (A, tt)) d dx dd) (λ z are.
    let κs = z.0.0 in let qs = z.0.1 in let taken = z.0.3.0 in
    let Post : Val → SProp 𝓤 = (walk_of 𝓛 end stays stated).post z in
    let Run : List Val → SProp 𝓤 = λ words. WpFn 𝓤 H 𝓣.C 𝓣.Λ fn words Post in
    let alive = ‵ (flft κs.0 qs.0) ⊛ ‵ (flft κs.1.0 qs.1.0) ⊛ ‵ ftrue in
    let given = (alive ⊛ ‵ (owns (types_at end.signature.params κs) z.0.3 z.0.4)) ∷ raw ((stated κs z.0.3).requires z.1) ∷ [] in
    -- what is owned, and what the callee asks for
    qed 𝓛 given ∵ split ! $ move ! (1 ∷ []) $ fsplit ! $ raw_out R Z LZ g ! taken z.0.4.0 (λ b o a at words fits.
    let held : Val = two (vptr b o) a in let held_fits = two_fit R Z LZ g b o a fits in
    let k = triple_of 𝓛 (callee.signature T A g d dd) (callee.spec T A g d dd 𝓛 𝓜.mem 𝓡.returns) in
    let y : k.Ghost = ((κs, qs, tt, (taken.alloc, (block_ptr b o, tt)), (a ∷ [], (vptr b o ∷ [], tt))), taken.value) in
    let asked = raw (fact 𝓤 (κs.0 ⊑ T.lives)) ⊛ raw (fact 𝓤 (κs.1.0 ⊑ A.lives)) ⊛ ‵ ftrue in
    move ! (4 ∷ []) $ use1 𝓛 asked (id⊢ 𝓤 _) $ split3 ! $ move ! (2 ∷ []) $ drop ! $ move ! (1 ∷ 2 ∷ []) $ join ! $ move ! (1 ∷ 0 ∷ []) $ join ! $
    move ! (2 ∷ []) $ feq_i ! (List Val) (vptr b o ∷ []) (vptr b o ∷ []) refl $ fjoin ! $ move ! (2 ∷ 0 ∷ []) $ fjoin ! $ move ! (2 ∷ 0 ∷ []) $ join ! $ join ! $
    use1 𝓛 (raw (k.pre y)) (id⊢ 𝓤 _) $
    -- the two fields are moved out, and the call is made
    suffices ! (Run (held ∷ [])) (subst (λ (us : List Val). ent 𝓤 (Run (held ∷ [])) (Run us)) (sym (λ i. words i ++ [])) (id⊢ 𝓤 (Run (held ∷ [])))) $
    enter ! 𝓣.C 𝓣.Λ fn (held ∷ []) Post $ alloc_all ! (λ l. pass_all ! refl (held_fits, tt) $ let locals = env fn.locals l in
    sets ! (of_opd ! (get_in ! (fld ! refl (stop !)) (sub ! 0 refl (whole !)))) refl (tt, tt) $
    sets ! (of_opd ! (get_in ! (fld ! refl (stop !)) (sub ! 1 refl (whole !)))) refl fits $
    first ! $ blocks ! $ sets ! (of_opd ! (get ! refl)) refl fits $
    let callee_met = met 𝓤 𝓛 𝓜 𝓡 (code.calls-std_alloc::boxed::Box::from_raw 𝓡.env wired) T A L LA g d dd allocator glued in
    calls_at_last ! (fm 𝓛 𝓜 𝓡) k callee_met y (and_then ! (get ! refl) (and_then ! (get ! refl) (no_more !))) (λ made.
    let answered = later (some (λ (r : B.Denot). (alive ⊛ ‵ (B.own_val r (made ∷ []))) ⊛
    some (λ (ls : Lasts (callee.ended T A g d dd) κs y.0.3). ‵ (lasts (callee.ended T A g d dd) κs y.0.3 ls) ⊛ (raw (fact 𝓤 (r.value ≡ taken.value)) ⊛ raw (fact 𝓤 (r.alloc ≡ taken.alloc)))))) in
    use1 𝓛 answered (id⊢ 𝓤 (k.post y made)) $ await ! tt $ pick ! (λ r. split ! $ move ! (1 ∷ []) $ pick ! (λ _. split3 ! $ drop ! $ move ! (2 ∷ []) $ split ! $ move ! (1 ∷ []) $
    -- the box that was made is returned
    box_out F ! r (made ∷ []) (λ b' o' a' at' words' fits'. box_in F ! r b' o' r.value at' refl $ rewrite ! 0 (λ (us : List Val). ‵ (B.own_val r us)) (sym words') refl $
    let made_fits : Good (layout B) made = subst (Good (layout B)) (sym (ap only words')) (two_fit R Z LZ g b' o' a' fits') in
    lands_last ! refl made_fits $ exec ! 𝓣.C 𝓣.Λ locals (after 3 fn.body) (at_ret locals Post) $
    sets ! (of_opd ! (get ! refl)) refl made_fits $ nothing ! $ nothing ! $ fjoin ! $ returns ! (look_at ! 0 refl) $ free_all ! refl $
    keep ! (2 ∷ 0 ∷ 1 ∷ 3 ∷ []) $ by ! (leaves 𝓛 end stays stated z made r ((tt, (tt, tt)), tt) (tt, tt)))))))))
