-- `unpack` hands them back, if the pointer isn't null.
use Rattle.std.proofs.Common.{◌≡◌, List, [], ◌∷◌, ◌++◌, refl, sym, subst}
use mir.Val.{Val, vptr}
use Rattle.std.specs.Prelude.{Option, Some, IsTrue, is_some}
use base.Logic.{SProp, ent, emp, id⊢}
use prog.Wp.{WpFn}
use types.Kit.{‵, raw, ◌⊛◌, ◌$◌, ◌∵◌, !, qed, by, move, keep, split, fsplit, fjoin, suffices, use0, rewrite}
use types.Run.{stop, fld, of_opd, no_more, and_then, returns, enter}
use types.ByLocal.{alloc_all, pass_all, free_all, look_at, get, get_in, sets}
use types.Part.{agg, sub, whole}
use contract.Monad.{fact, fact_i}
use contract.Running.{tables}
use denote.Exit.{yes}
use denote.RattleType.{owns}
use denote.Signature.{types_at, plain}
use denote.RawPtr.{block_ptr}
use denote.Steps.{nothing, heard}
use denote.Triple.Entry.{alive}
use denote.Triple.Walked.{Stays, stay_dropped, walk_of}
use Rattle.std.proofs.alloc.Calls.{Goes-blank}
use Rattle.std.proofs.raw_atomic.Walks.{proved_at, leaves}
use Rattle.std.specs.contracts.impls.GlobalAllocator.TheImpl.{ghosts}
use Rattle.camxpt_c.proofs.RawBoxes.{two, two_fit, raw_in, raw_out}
use Rattle.camxpt_c.proofs.Bodies.{Z, LZ, found}
use Rattle.camxpt_c.specs.contracts.recorder_port.RecorderPort.{the_row as R}
use Rattle.camxpt_c.specs.contracts.recorder_body.RecorderBody.{the_row as B}
use Rattle.camxpt_c.specs.contracts.recorder_body.RecorderBody.unpack.{ended, clauses}
use Rattle.camxpt_c.specs.contracts.recorder_body.RecorderBody.unpack.Key.{name as #self}
use Rattle.camxpt_c.proofs.recorder_body.RecorderBody.unpack.Statement.{statement}
use Rattle.camxpt_c.proofs.recorder_body.RecorderBody.unpack.Code as code

pub unpack_spec : {M : Type 1} → statement M
unpack_spec 𝓤 𝓛 𝓜 𝓡 wired =
    let H = 𝓛.H in let 𝓣 = tables 𝓤 H 𝓜 𝓡 𝓡.env in let stated = clauses 𝓛 𝓜.mem 𝓡.returns in let fn = code.function in
    let stays : Stays ended.signature.params ended.kept = (stay_dropped (plain (λ _. B)) yes, tt) in
    proved_at 𝓛 ended stays stated 𝓜 𝓡 (Goes-blank 𝓛 0 (plain (λ _. B)) yes (λ κs x f. tt), tt) #self fn (code.unfolded 𝓤 H 𝓜 𝓡 wired) (λ z are.
    let κs = z.0.0 in let qs = z.0.1 in let taken = z.0.3.0 in
    let Post : Val → SProp 𝓤 = (walk_of 𝓛 ended stays stated).post z in
    let Run : List Val → SProp 𝓤 = λ words. WpFn 𝓤 H 𝓣.C 𝓣.Λ fn words Post in
    let given = (raw (alive 𝓛 ended.signature κs qs) ⊛ ‵ (owns (types_at ended.signature.params κs) z.0.3 z.0.4)) ∷ raw ((stated κs z.0.3).requires z.1) ∷ [] in
    qed 𝓛 given ∵ split ! $ move ! (1 ∷ []) $ fsplit ! $ move ! (3 ∷ []) $ heard ! (IsTrue (is_some taken.kept)) (λ there.
    let x = (found taken.kept there).0 in let is = (found taken.kept there).1 in
    rewrite ! 0 (λ (y : Option R.Denot). ‵ (B.own_val (record { at = taken.at; alloc = taken.alloc; kept = y }) z.0.4.0)) is refl $
    raw_out R Z LZ ghosts ! (record { at = taken.at; alloc = taken.alloc; value = x }) z.0.4.0 (λ b o a at words fits.
    let held : Val = two (vptr b o) a in let held_fits = two_fit R Z LZ ghosts b o a fits in
    -- both fields are moved out and into the other struct; the cast leaves the pointer as it is
    suffices ! (Run (held ∷ [])) (subst (λ (us : List Val). ent 𝓤 (Run (held ∷ [])) (Run us)) (sym (λ i. words i ++ [])) (id⊢ 𝓤 (Run (held ∷ [])))) $
    enter ! 𝓣.C 𝓣.Λ fn (held ∷ []) Post $ alloc_all ! (λ l. pass_all ! refl (held_fits, tt) $
    sets ! (of_opd ! (get_in ! (fld ! refl (stop !)) (sub ! 0 refl (whole !)))) refl (tt, tt) $
    sets ! (of_opd ! (get_in ! (fld ! refl (stop !)) (sub ! 1 refl (whole !)))) refl fits $
    sets ! (of_opd ! (get ! refl)) refl (tt, tt) $
    sets ! (agg ! (and_then ! (get ! refl) (and_then ! (get ! refl) (no_more !)))) refl held_fits $
    raw_in R Z LZ ghosts ! b o a taken.alloc x $
    use0 𝓛 (raw (fact 𝓤 (taken.kept ≡ Some x))) (fact_i 𝓤 (taken.kept ≡ Some x) (emp 𝓤) is) $ nothing ! $ nothing ! $ fjoin ! $
    returns ! (look_at ! 0 refl) $ free_all ! refl $ keep ! (4 ∷ 0 ∷ 2 ∷ 1 ∷ []) $
    by ! (leaves 𝓛 ended stays stated z held (record { at = block_ptr b o; alloc = taken.alloc; value = x }) (_, tt) (tt, tt))))))
