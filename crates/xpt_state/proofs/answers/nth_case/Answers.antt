use Rattle.std.proofs.Common.{◌∙◌, ap, sym, subst, cond, None, option_and_then, IfSome, IsTrue}
use Rattle.xpt_state.specs.Words.{is_recovering, last_class, is_alive}
use Rattle.xpt_state.specs.Looks.{case_of}
use Rattle.xpt_state.proofs.RowLaws.{nth_case_alive}
use Rattle.xpt_state.proofs.answers.nth_case.Goals as goal

pub returns-in-Some : goal.returns-in-Some
returns-in-Some c =
    let t = c.args.state.now in
    let first = c.nth_case.ensures.same in
    c.case_of.ensures ∙ ap (case_of c.in-Some.ccb) c.class.ensures
    ∙ ap (option_and_then (λ n. case_of n (cond (is_alive t.events n) (last_class t.events n) None))) (sym c.in-Some.is ∙ first)
    ∙ nth_case_alive t.rules t.config t.events c.args.number c.events-events.ensures.legal (subst (λ o. IfSome o (λ n. IsTrue (is_recovering t.events n))) first c.nth_case.ensures.recovering)
