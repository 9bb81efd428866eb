use Rattle.std.proofs.Common.{◌≡◌, sym, ap, ◌∙◌}
use Rattle.wait_causes.specs.Words.{cause_in, flag_in, round, Transport}
use Rattle.wait_causes.specs.Freezes.{begins, freeze_from, freezes_at}
use Rattle.wait_causes.proofs.FreezeLemmas.{rows_here, rows_next, rows_none}
use Rattle.wait_causes.proofs.freeze_list.push_number.Goals as goal
use Rattle.wait_causes.proofs.freeze_list.push_number.Goals.{then-begins+in_ok-push, else-begins}

pub loop-round-preserved : goal.loop-round-preserved
loop-round-preserved c =
    let last : c.round-round-end.result ≡ round c.args.table.now.events = c.round-round-end.ensures ∙ ap (λ (t : Transport). round t.events) (c.devices.ensures ∙ c.end.ensures) in
    elim c.if-begins.branch [
      | then-begins+in_ok-push w ↦ rw w.freezes-is (
          rows_here (freeze_from c.args.kind c.args.number (flag_in c.args.kind c.args.table.now.config c.args.table.now.events c.args.number) (round c.args.table.now.events) (cause_in c.args.table.now.config c.args.table.now.events) c.args.there.now)
          (begins (flag_in c.args.kind c.args.table.now.config c.args.table.now.events c.args.number)) c.loop-round.round (round c.args.table.now.events) c.loop-round.freezes.items w.push.new.self.items _ w.freeze_from.result
          (rw last at c.loop-round-test.true) (sym c.begins.ensures ∙ w.if-begins.true) w.freeze_from.ensures w.in_ok-push.ensures.items c.loop-round.invariant)
      | else-begins w ↦ rw w.freezes-is (
          rows_next (freeze_from c.args.kind c.args.number (flag_in c.args.kind c.args.table.now.config c.args.table.now.events c.args.number) (round c.args.table.now.events) (cause_in c.args.table.now.config c.args.table.now.events) c.args.there.now)
          (begins (flag_in c.args.kind c.args.table.now.config c.args.table.now.events c.args.number)) c.loop-round.round (round c.args.table.now.events) c.loop-round.freezes.items _
          (rw last at c.loop-round-test.true) (sym c.begins.ensures ∙ w.if-begins.false) c.loop-round.invariant)
    ]

pub returns : goal.returns
unfolding freezes_at
returns c =
    let last : c.round-round-end.result ≡ round c.args.table.now.events = c.round-round-end.ensures ∙ ap (λ (t : Transport). round t.events) (c.devices.ensures ∙ c.end.ensures) in
    rows_none (freeze_from c.args.kind c.args.number (flag_in c.args.kind c.args.table.now.config c.args.table.now.events c.args.number) (round c.args.table.now.events) (cause_in c.args.table.now.config c.args.table.now.events) c.args.there.now)
    (begins (flag_in c.args.kind c.args.table.now.config c.args.table.now.events c.args.number)) c.loop-round.round (round c.args.table.now.events) c.loop-round.freezes.items _ (rw last at c.loop-round-test.false) c.loop-round.invariant
