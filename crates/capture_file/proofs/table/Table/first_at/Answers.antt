use Rattle.std.proofs.Common.{ap, ◌∙◌, sym}
use Rattle.std.specs.BTreeSet.{contains}
use Rattle.capture_file.specs.Spots.{first_at, spot_cmp}
use Rattle.capture_file.proofs.OrderLemmas.{same_queue, other_queue}
use Rattle.capture_file.proofs.TableLemmas.{none_first, other_first, found_first}
use Rattle.capture_file.proofs.table.Table.first_at.Goals as goal

pub returns-in_err-spot-clause-first : goal.returns-in_err-spot-clause-first
returns-in_err-spot-clause-first c =
    let a = c.self.inside in
    let none = (c.range.ensures.in_range tt).5 c.in_err-spot.ensures.steps.0 in
    c.from_residual.ensures ∙ sym (none_first a.by_id (contains spot_cmp a.spots) c.args.queue c.args.from c.self.invariant.rising c.self.invariant.tied (λ q h. none q (h, tt)))
    ∙ ap (first_at c.args.queue c.args.from) c.self.view_is

pub returns-then-ne-clause-first : goal.returns-then-ne-clause-first
returns-then-ne-clause-first c =
    let a = c.self.inside in
    let s = c.in_ok-spot.spot.now in
    let steps = c.in_ok-spot.ensures.steps in
    let range = c.range.ensures.in_range tt in
    let first = rw steps at range.1 in
    let least = rw steps at range.2 in
    sym (other_first a.by_id (contains spot_cmp a.spots) c.args.queue c.args.from c.self.invariant.rising c.self.invariant.tied s first.0.0 (λ q h t. least q (h, tt) t) (other_queue s.queue c.args.queue c.if-ne.ensures))
    ∙ ap (first_at c.args.queue c.args.from) c.self.view_is

pub returns-clause-first : goal.returns-clause-first
returns-clause-first c =
    let a = c.self.inside in
    let s = c.in_ok-spot.spot.now in
    let steps = c.in_ok-spot.ensures.steps in
    let range = c.range.ensures.in_range tt in
    let first = rw steps at range.1 in
    let least = rw steps at range.2 in
    c.get.ensures.found ∙ sym (found_first a.by_id (contains spot_cmp a.spots) c.args.queue c.args.from c.self.invariant.rising c.self.invariant.tied s first.0.0 (λ q h t. least q (h, tt) t) first.1 (same_queue s.queue c.args.queue c.if-ne.ensures))
    ∙ ap (first_at c.args.queue c.args.from) c.self.view_is
