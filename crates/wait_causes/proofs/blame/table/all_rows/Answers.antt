use Rattle.std.proofs.Common.{◌≡◌, ◌+◌, ◌∙◌, ap, arith, flat_map}
use Rattle.wait_causes.specs.Tables.{greatest}
use Rattle.wait_causes.specs.BlameLists.{stays_in, who_in}
use Rattle.wait_causes.specs.BlameRows.{everybody, rows_for, all_rows}
use Rattle.wait_causes.proofs.BlameTableLemmas.{everybody_more}
use Rattle.wait_causes.proofs.blame.table.all_rows.Goals as goal

pub loop-number-preserved : goal.loop-number-preserved
loop-number-preserved c =
    everybody_more (rows_for (who_in c.args.explanation.now c.args.by) c.args.by (stays_in c.args.explanation.now) (c.greatest.result + 1)) c.loop-number.rows.items c.push_rows-in-loop-number.new.rows.items c.loop-number.number c.loop-number.invariant c.in_ok-push_rows-2.ensures

pub returns : goal.returns
unfolding all_rows
returns c =
    let e = c.args.explanation.now in
    let count : c.greatest.result + 1 ≡ greatest c.args.by (stays_in e) + 1 = ap (λ n. n + 1) (c.greatest.ensures ∙ ap (greatest c.args.by) c.stays.ensures.stays) in
    let all : c.loop-number.number ≡ c.greatest.result + 1 = omega (arith, c.loop-number-test.false, c.loop-number.auto.number-end) in
    c.loop-number.invariant ∙ ap (λ n. flat_map (rows_for (who_in e c.args.by) c.args.by (stays_in e) (c.greatest.result + 1)) (everybody n)) all ∙ ap (λ n. flat_map (rows_for (who_in e c.args.by) c.args.by (stays_in e) n) (everybody n)) count
