use Rattle.std.proofs.Common.{◌≡◌, ◌+◌, ◌==◌, ◌∙◌, true, false, sym, ap, eqb-true, arith}
use Rattle.sim_worker.proofs.RestLemmas.{quiet, looks_quiet}
use Rattle.sim_worker.proofs.endings.is_quiet.Goals as goal

pub returns : goal.returns
returns c = record {
  quiet = λ none.
      let all : c.look-look.result.waiting + c.look-look.result.in_flight + c.look-look.result.cases ≡ 0 = eqb-true _ _ none in
      quiet c.args.xpt.now c.look-look.result c.look-look.ensures (omega (arith, all)) (omega (arith, all)) (omega (arith, all));
  left = λ some h.
      let q = looks_quiet c.args.xpt.now c.look-look.result c.look-look.ensures h in
      let all : c.look-look.result.waiting + c.look-look.result.in_flight + c.look-look.result.cases ≡ 0 = omega (arith, q.0, q.1, q.2) in
      never (sym (ap (λ n. n == 0) all) ∙ some);
}
  where
    never : true ≡ false → ⊥
    never e = absurd (cc)
