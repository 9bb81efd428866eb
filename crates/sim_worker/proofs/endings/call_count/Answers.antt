use Rattle.std.proofs.Common.{◌≡◌, ℕ, ◌+◌, ◌<◌, ◌∙◌, true, false, get_or, Option, Some, None, List, length, take, is_some, refl, sym, ap, arith, length-append, option_to_list}
use Rattle.event_rules.proofs.ListFacts.{filter_map-push}
use Rattle.sim_worker.specs.Words.{Event, Step}
use Rattle.sim_worker.specs.Logs.{act, acts}
use Rattle.sim_worker.proofs.RunListFacts.{get_is, take_one, take_whole}
use Rattle.sim_worker.proofs.endings.call_count.Goals as goal

no_call : (o : Option Event) → false ≡ is_some o → length (option_to_list o) ≡ 0
no_call None h = refl
no_call (Some e) h = absurd (cc)

one_call : (o : Option Event) → true ≡ is_some o → length (option_to_list o) ≡ 1
one_call None h = absurd (cc)
one_call (Some e) h = refl

-- with one row more
counted : (rows : List Step) (i : ℕ) (row : Step) → i < length rows → row ≡ get_or rows i row → length (acts (take (i + 1) rows)) ≡ length (acts (take i rows)) + length (option_to_list (act row))
counted rows i row lt is = ap (λ rs. length (acts rs)) (take_one rows i row (get_is rows i row lt is)).1 ∙ ap length (filter_map-push act (take i rows) row) ∙ length-append (acts (take i rows)) (option_to_list (act row))

pub loop-row-preserved-then-not-is_call : goal.loop-row-preserved-then-not-is_call
loop-row-preserved-then-not-is_call c =
    let more = counted c.args.rows.now c.loop-row.row-index c.row-item.result c.loop-row-test.true c.row-item.is in
    let none = no_call (act c.row-item.result) (sym c.if-not-is_call.true ∙ c.is_call.ensures) in
    record { counted = omega (arith, c.loop-row.invariant.counted, more, none); few = omega (arith, c.loop-row.invariant.few) }

pub loop-row-preserved : goal.loop-row-preserved
loop-row-preserved c =
    let more = counted c.args.rows.now c.loop-row.row-index c.row-item.result c.loop-row-test.true c.row-item.is in
    let one = one_call (act c.row-item.result) (sym c.if-not-is_call.false ∙ c.is_call.ensures) in
    record { counted = omega (arith, c.loop-row.invariant.counted, more, one); few = omega (arith, c.loop-row.invariant.few) }

pub returns : goal.returns
returns c = c.loop-row.invariant.counted ∙ ap (λ rs. length (acts rs)) (take_whole c.args.rows.now _ (omega (arith, c.loop-row-test.false)))
