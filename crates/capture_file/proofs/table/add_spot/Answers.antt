use Rattle.std.proofs.Common.{◌||◌, ◌∙◌, ap}
use Rattle.std.specs.BTreeSet.{contains}
use Rattle.std.specs.Ordering.{is_eq}
use Rattle.capture_file.specs.Spots.{spot_cmp, is_at_spot}
use Rattle.capture_file.proofs.TableLemmas.{added_as_or}
use Rattle.capture_file.proofs.table.add_spot.Goals as goal

pub returns-in_ok-insert-clause-ok : goal.returns-in_ok-insert-clause-ok
returns-in_ok-insert-clause-ok c = λ q.
    let before = contains spot_cmp c.args.spots.now q in
    c.in_ok-insert.ensures.updates.0 q ∙ added_as_or (is_eq (spot_cmp c.in-Some.spot q)) before ∙ ap (λ o. is_at_spot o q || before) c.in-Some.ensures
