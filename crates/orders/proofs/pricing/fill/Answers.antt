use Rattle.std.proofs.Common.{◌≡◌, ℕ, ◌+◌, ◌*◌, ◌-◌, List, set, slice_index, Vec, Global, length, ◌<◌, ◌≤◌, ap, ◌∙◌, subst, arith}
use Rattle.std.proofs.lemmas.List.{get_or_default}
use Rattle.round_net.specs.Instance.{rows}
use Rattle.round_net.proofs.CellLemmas.{cell_in}
use Rattle.orders.specs.ClosedPrices.{IsFirstAfter}
use Rattle.orders.specs.FirstWaiting.{IsFirstOrNobody}
use Rattle.round_net.specs.Rows.{cell, instance_of_rows, live_of_rows}
use Rattle.orders.proofs.FillLemmas.{IsFilling-none, IsFilling-some}
use Rattle.orders.proofs.pricing.fill.Goals as goal
use Rattle.orders.proofs.pricing.fill.Goals.{in-Some, in_default}

pub loop-round-preserved : goal.loop-round-preserved
loop-round-preserved c =
    let net = instance_of_rows c.args.net.now in
    let f = slice_index c.args.schedule.now in
    elim c.match-firsts-round.branch [
      | in-Some w ↦
          let now : List ℕ = c.loop-round.worth.items in
          let round : ℕ = c.loop-round.round in
          let h : ℕ = w.in-Some.first in
          let rounds = c.rounds-rounds.ensures.same in
          let weight : w.from.result ≡ net.weight h = w.from.ensures ∙ w.weight.ensures.same in
          let span : w.from-in-Some.result ≡ f h - round = w.from-in-Some.ensures ∙ ap (λ (x : ℕ). x - round) w.round-goes.ensures in
          let from : w.cell.result ≡ cell net.rounds c.args.device (f h) = w.cell.ensures ∙ ap (λ (n : ℕ). cell n c.args.device w.round-goes.result) rounds ∙ ap (cell net.rounds c.args.device) w.round-goes.ensures in
          let to : w.cell-in-Some.result ≡ cell net.rounds c.args.device round = w.cell-in-Some.ensures ∙ ap (λ (n : ℕ). cell n c.args.device round) rounds in
          let first : IsFirstAfter net f c.args.device round h = subst (IsFirstOrNobody net f c.args.device round) w.in-Some.is (c.requires.firsts round c.loop-round-test.true c.loop-round.invariant.within) in
          let sent : f h ≤ net.rounds = c.requires.sent h first.waits.within in
          let known : cell net.rounds c.args.device (f h) < length now = cell_in now net.rounds (rows net) c.args.device (f h) (c.loop-round.invariant.long ∙ c.requires.cells) (omega (arith, c.requires.device)) (omega (arith, first.waits.later)) sent in
          let later : w.index-later.result.now ≡ slice_index now (cell net.rounds c.args.device (f h)) = w.index-later.ensures ∙ get_or_default now w.cell.result w.index-later.result.now 0 (omega (arith, from, known)) ∙ ap (slice_index now) from in
          let value : w.from.result * w.from-in-Some.result + w.index-later.result.now ≡ net.weight h * (f h - round) + slice_index now (cell net.rounds c.args.device (f h)) = ap (λ (x : ℕ). x * w.from-in-Some.result + w.index-later.result.now) weight ∙ ap (λ (x : ℕ). net.weight h * x + w.index-later.result.now) span ∙ ap (λ (x : ℕ). net.weight h * (f h - round) + x) later in
          IsFilling-some net (live_of_rows c.args.net.now) f c.args.device c.args.firsts.now c.args.worth.now.items now c.match-firsts-round.worth.items round h c.rounds-rounds.ensures.sound c.requires.device c.requires.firsts c.requires.sent c.requires.cells c.loop-round-test.true w.in-Some.is c.loop-round.invariant (ap (λ (v : Vec ℕ Global). v.items) w.worth-is ∙ ap (λ (k : ℕ). set now k (w.from.result * w.from-in-Some.result + w.index-later.result.now)) to ∙ ap (set now (cell net.rounds c.args.device round)) value)
      | in_default w ↦ rw w.worth-is (IsFilling-none net f c.args.device c.args.firsts.now c.args.worth.now.items c.loop-round.worth.items c.loop-round.round c.loop-round-test.true w.in_default.is c.loop-round.invariant)
    ]
