-- `none` puts null beside the allocator.
use Rattle.std.proofs.Common.{◌≡◌, List, [], ◌∷◌, ◌++◌, refl, sym, subst, lit<}
use mir.Val.{Val, vnull}
use Rattle.std.specs.Prelude.{Option, None}
use base.Logic.{SProp, ent, emp, id⊢}
use prog.Wp.{WpFn}
use types.Kit.{‵, raw, ◌⊛◌, ◌$◌, ◌∵◌, !, qed, by, move, keep, split, fsplit, fjoin, suffices, use0, rewrite}
use types.Run.{lit, no_more, and_then, returns, enter}
use types.ByLocal.{alloc_all, pass_all, free_all, look_at, get, sets}
use types.Part.{agg}
use contract.Monad.{fact, fact_i}
use contract.Running.{tables}
use denote.Exit.{yes}
use denote.RattleType.{owns}
use denote.Param.{layout}
use denote.Signature.{types_at, plain}
use denote.RawPtr.{null_ptr}
use denote.Steps.{nothing}
use denote.Triple.Entry.{alive}
use denote.Triple.Walked.{Stays, stay_dropped, walk_of, Goes-dropped}
use Rattle.std.proofs.ResultValues.{and_tt}
use Rattle.std.proofs.cell.Inside.{one}
use Rattle.std.proofs.raw_atomic.Walks.{proved_at, leaves}
use Rattle.camxpt_c.proofs.RawBoxes.{two}
use Rattle.camxpt_c.proofs.Bodies.{Z, LZ, none_in}
use Rattle.camxpt_c.specs.contracts.port.Port.{the_row as R}
use Rattle.camxpt_c.specs.contracts.body.Body.none.{ended, clauses}
use Rattle.camxpt_c.specs.contracts.body.Body.none.Key.{name as #self}
use Rattle.camxpt_c.proofs.body.Body.none.Statement.{statement}
use Rattle.camxpt_c.proofs.body.Body.none.Code as code

pub none_spec : {M : Type 1} → statement M
none_spec 𝓤 𝓛 𝓜 𝓡 wired =
    let H = 𝓛.H in let 𝓣 = tables 𝓤 H 𝓜 𝓡 𝓡.env in let stated = clauses 𝓛 𝓜.mem 𝓡.returns in let fn = code.function in
    let no_one : Option R.Denot = None in
    let stays : Stays ended.signature.params ended.kept = (stay_dropped (plain (λ _. Z)) yes, tt) in
    proved_at 𝓛 ended stays stated 𝓜 𝓡 (Goes-dropped 𝓛 0 (plain (λ _. Z)) yes (λ κs x f. refl), tt) #self fn (code.unfolded 𝓤 H 𝓜 𝓡 wired) (λ z are.
    let κs = z.0.0 in let qs = z.0.1 in let taken = z.0.3.0 in
    let Post : Val → SProp 𝓤 = (walk_of 𝓛 ended stays stated).post z in
    let Run : List Val → SProp 𝓤 = λ words. WpFn 𝓤 H 𝓣.C 𝓣.Λ fn words Post in
    let given = (raw (alive 𝓛 ended.signature κs qs) ⊛ ‵ (owns (types_at ended.signature.params κs) z.0.3 z.0.4)) ∷ raw ((stated κs z.0.3).requires z.1) ∷ [] in
    let h = one (layout Z) z.0.4.0 ((LZ.lawful 𝓛).typed taken z.0.4.0 are.0) in let made : Val = two vnull h.0 in
    qed 𝓛 given ∵ split ! $ move ! (1 ∷ []) $ fsplit ! $ rewrite ! 0 (λ (us : List Val). ‵ (Z.own_val taken us)) h.1 refl $ none_in R ! h.0 taken $
    suffices ! (Run (h.0 ∷ [])) (subst (λ (us : List Val). ent 𝓤 (Run (h.0 ∷ [])) (Run us)) (sym (λ i. h.1 i ++ [])) (id⊢ 𝓤 (Run (h.0 ∷ [])))) $
    enter ! 𝓣.C 𝓣.Λ fn (h.0 ∷ []) Post $ alloc_all ! (λ l. pass_all ! refl (h.2, tt) $
    sets ! (agg ! (and_then ! (lit ! tt) (and_then ! (get ! refl) (no_more !)))) refl (and_tt _ h.2.0, (record { fits = lit< tt }, (h.2.1, tt))) $
    use0 𝓛 (raw (fact 𝓤 (no_one ≡ no_one))) (fact_i 𝓤 (no_one ≡ no_one) (emp 𝓤) refl) $ nothing ! $ nothing ! $ fjoin ! $
    returns ! (look_at ! 0 refl) $ free_all ! refl $ keep ! (4 ∷ 0 ∷ 2 ∷ 1 ∷ []) $
    by ! (leaves 𝓛 ended stays stated z made (record { at = null_ptr; alloc = taken; kept = None }) (_, tt) (tt, tt))))
