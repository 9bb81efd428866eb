use Rattle.std.proofs.Common.{◌∙◌, ap, refl, sym, arith, get_or, set, Some, None}
use Rattle.wait_causes.specs.declared.explained_stay.ExplainedStay.{ExplainedStay}
use Rattle.wait_causes.proofs.WayLemmas.{below_put, below_kept, below_all}
use Rattle.wait_causes.proofs.blame.in_way.note.Goals as goal
use Rattle.wait_causes.proofs.blame.in_way.note.Goals.{then-is_candidate, else-is_candidate}

pub loop-before-preserved : goal.loop-before-preserved
loop-before-preserved c =
    let o = c.args.explanation.now.origin in
    let s = c.args.stay.now in
    let size = c.requires.all in
    elim c.if-is_candidate.branch [
      | then-is_candidate w ↦
          below_put o c.args.device s c.loop-before.before c.args.ways.now c.loop-before.ways c.if-is_candidate.ways (get_or c.loop-before.ways c.loop-before.before None) None c.loop-before.invariant
          (omega (arith, size, c.loop-before-test.true, c.last_of-last.ensures.within)) (sym c.is_candidate.ensures ∙ w.if-is_candidate.true) refl
          (w.ways-is ∙ ap (λ (r : ExplainedStay). set c.loop-before.ways c.loop-before.before (Some r)) w.rather.ensures)
      | else-is_candidate w ↦ rw (w.ways-is) (below_kept o c.args.device s c.loop-before.before c.args.ways.now c.loop-before.ways c.loop-before.invariant (sym c.is_candidate.ensures ∙ w.if-is_candidate.false))
    ]

pub returns : goal.returns
returns c = below_all c.args.explanation.now.origin c.args.device c.args.stay.now c.loop-before.before c.args.ways.now c.loop-before.ways c.requires.all (omega (arith, c.last_of-last.ensures.last, c.loop-before-test.false)) c.loop-before.invariant
