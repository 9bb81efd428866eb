use Rattle.std.proofs.Common.{◌≡◌, ◌<◌, ◌-◌, ◌∙◌, sym, arith}
use Rattle.event_rules.specs.Counts.{round}
use Rattle.round_net.specs.Caps.{cap}
use Rattle.recording_file.proofs.RunLemmas.{none_more, none_all, found_next}
use Rattle.conversions.proofs.runs.run_last.Goals as goal

pub returns-then-cap-most : goal.returns-then-cap-most
returns-then-cap-most c =
    let h = c.args.history.now in
    let number = cap h.config h.events c.args.row in
    let rounds = c.round-rounds.ensures.same in
    let lt : c.loop-more.more < round h.events - c.args.first = omega (arith, c.loop-more-test.true) in
    found_next number (round h.events) c.args.first c.loop-more.more lt c.loop-more.invariant (λ same. c.if-cap-most.true (c.cap.ensures.same ∙ same ∙ sym c.cap-most.ensures.same))

pub loop-more-preserved : goal.loop-more-preserved
loop-more-preserved c =
    let h = c.args.history.now in
    none_more (cap h.config h.events c.args.row) c.args.first c.loop-more.more c.loop-more.invariant (sym c.cap.ensures.same ∙ c.if-cap-most.false ∙ c.cap-most.ensures.same)

pub returns : goal.returns
returns c =
    let h = c.args.history.now in
    let rounds = c.round-rounds.ensures.same in
    let all : c.loop-more.more ≡ round h.events - c.args.first = omega (arith, c.loop-more-test.false, c.loop-more.auto.more-end) in
    rounds ∙ none_all (cap h.config h.events c.args.row) (round h.events) c.args.first (rw all at c.loop-more.invariant)
