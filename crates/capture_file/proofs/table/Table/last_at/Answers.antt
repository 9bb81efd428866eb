use Rattle.std.proofs.Common.{ap, ◌∙◌, sym}
use Rattle.std.specs.BTreeSet.{contains}
use Rattle.capture_file.specs.declared.spot.Queue.{Queue}
use Rattle.capture_file.specs.Spots.{last_at, spot_cmp}
use Rattle.capture_file.proofs.TableLemmas.{none_last, found_last}
use Rattle.capture_file.proofs.table.Table.last_at.Goals as goal

pub returns-in_err-spot-clause-last : goal.returns-in_err-spot-clause-last
returns-in_err-spot-clause-last c =
    let a = c.self.inside in
    let queue : Queue = record { lane = c.args.lane; size = c.args.size } in
    let none = (c.range.ensures.in_range tt).5 c.in_err-spot.ensures.steps.0 in
    c.from_residual.ensures ∙ sym (none_last a.by_id (contains spot_cmp a.spots) queue c.self.invariant.rising c.self.invariant.tied none)
    ∙ ap (last_at queue) c.self.view_is

pub returns-clause-last : goal.returns-clause-last
returns-clause-last c =
    let a = c.self.inside in
    let queue : Queue = record { lane = c.args.lane; size = c.args.size } in
    let s = c.in_ok-spot.spot.now in
    let steps = c.in_ok-spot.ensures.steps in
    let range = c.range.ensures.in_range tt in
    let last = range.3 s _ steps in
    let greatest = range.4 s _ steps in
    c.get.ensures.found ∙ sym (found_last a.by_id (contains spot_cmp a.spots) queue c.self.invariant.rising c.self.invariant.tied s last.0 greatest last.1)
    ∙ ap (last_at queue) c.self.view_is
