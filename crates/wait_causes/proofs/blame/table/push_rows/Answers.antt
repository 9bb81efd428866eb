use Rattle.std.proofs.Common.{◌≡◌, ◌++◌, ◌∙◌, ap, sym, arith, length, flat_map, get_or, append-nil, zero-add, List}
use Rattle.std.specs.List.{range_with_len}
use Rattle.std.proofs.lemmas.List.FromFn.{get_or-map-range_with_len, length-map-range_with_len}
use Rattle.wait_causes.specs.BlameAmounts.{Amounts}
use Rattle.wait_causes.specs.BlameLists.{stays_in, who_in, AreTotals}
use Rattle.wait_causes.specs.BlameRows.{row_of, rows_for}
use Rattle.wait_causes.proofs.BlameAmountLemmas.{amounts_at}
use Rattle.wait_causes.proofs.BlameTableLemmas.{rows_more}
use Rattle.wait_causes.proofs.blame.table.push_rows.Goals as goal

pub amounts_of-requires-clause-totals : goal.amounts_of-requires-clause-totals
amounts_of-requires-clause-totals c = (c.args.number, rw c.deref.ensures.value (c.in_ok-totals.ensures c.args.explanation.now c.args.by c.requires.lists))

pub loop-waiting-init : goal.loop-waiting-init
loop-waiting-init c = sym (append-nil c.args.rows.now.items)

pub index-requires : goal.index-requires
index-requires c =
    let e = c.args.explanation.now in
    let totals : AreTotals e c.args.by c.args.number c.deref.result.now = rw c.deref.ensures.value (c.in_ok-totals.ensures e c.args.by c.requires.lists) in
    let are = c.in_ok-amounts.ensures c.args.number totals in
    omega (arith, ap (λ (xs : List Amounts). length xs) are, length-map-range_with_len (amounts_at (who_in e c.args.by) c.args.number c.args.by (stays_in e)) 0 c.args.count, c.loop-waiting-test.true)

pub loop-waiting-preserved : goal.loop-waiting-preserved
loop-waiting-preserved c =
    let e = c.args.explanation.now in
    let totals : AreTotals e c.args.by c.args.number c.deref.result.now = rw c.deref.ensures.value (c.in_ok-totals.ensures e c.args.by c.requires.lists) in
    let are = c.in_ok-amounts.ensures c.args.number totals in
    let f = amounts_at (who_in e c.args.by) c.args.number c.args.by (stays_in e) in
    let here : c.index.result.now ≡ f c.loop-waiting.waiting = c.index.ensures ∙ ap (λ (xs : List Amounts). get_or xs c.loop-waiting.waiting c.index.result.now) are ∙ get_or-map-range_with_len f 0 c.args.count c.loop-waiting.waiting c.loop-waiting.waiting c.index.result.now c.loop-waiting-test.true (zero-add c.loop-waiting.waiting) in
    rows_more (λ n. row_of n c.args.number (f n)) c.args.rows.now.items c.loop-waiting.rows.items c.push_row.new.rows.items c.loop-waiting.waiting c.loop-waiting.invariant
    (c.in_ok-push_row.ensures ∙ ap (λ (a : Amounts). c.loop-waiting.rows.items ++ row_of c.loop-waiting.waiting c.args.number a) here)

pub returns : goal.returns
unfolding rows_for
returns c =
    let e = c.args.explanation.now in
    let all : c.loop-waiting.waiting ≡ c.args.count = omega (arith, c.loop-waiting-test.false, c.loop-waiting.auto.waiting-end) in
    c.loop-waiting.invariant ∙ ap (λ k. c.args.rows.now.items ++ flat_map (λ n. row_of n c.args.number (amounts_at (who_in e c.args.by) c.args.number c.args.by (stays_in e) n)) (range_with_len 0 k)) all
