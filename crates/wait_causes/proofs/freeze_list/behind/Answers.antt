use Rattle.std.proofs.Common.{◌≡◌, sym, ap, ◌∙◌}
use Rattle.wait_causes.specs.Words.{flag_in, round, Transport}
use Rattle.wait_causes.proofs.FreezeLemmas.{behind_here, behind_next, behind_none}
use Rattle.wait_causes.proofs.freeze_list.behind.Goals as goal

pub returns-then-not-is_frozen : goal.returns-then-not-is_frozen
returns-then-not-is_frozen c =
    let last : c.round-last.result ≡ round c.args.table.now.events = c.round-last.ensures ∙ ap (λ (t : Transport). round t.events) (c.devices.ensures ∙ c.end.ensures) in
    behind_here (flag_in c.args.kind c.args.table.now.config c.args.table.now.events c.args.number) c.args.first (round c.args.table.now.events) c.loop-round.round (rw last at c.loop-round-test.true) (sym c.is_frozen.ensures ∙ c.if-not-is_frozen.true) c.loop-round.invariant

pub loop-round-preserved : goal.loop-round-preserved
loop-round-preserved c =
    let last : c.round-last.result ≡ round c.args.table.now.events = c.round-last.ensures ∙ ap (λ (t : Transport). round t.events) (c.devices.ensures ∙ c.end.ensures) in
    behind_next (flag_in c.args.kind c.args.table.now.config c.args.table.now.events c.args.number) c.args.first (round c.args.table.now.events) c.loop-round.round (rw last at c.loop-round-test.true) (sym c.is_frozen.ensures ∙ c.if-not-is_frozen.false) c.loop-round.invariant

pub returns : goal.returns
returns c =
    let last : c.round-last.result ≡ round c.args.table.now.events = c.round-last.ensures ∙ ap (λ (t : Transport). round t.events) (c.devices.ensures ∙ c.end.ensures) in
    last ∙ behind_none (flag_in c.args.kind c.args.table.now.config c.args.table.now.events c.args.number) c.args.first (round c.args.table.now.events) c.loop-round.round (rw last at c.loop-round-test.false) c.loop-round.invariant
