use Rattle.std.proofs.Common.{not, ◌&&◌, ◌∙◌, ap}
use Rattle.std.specs.BTreeSet.{contains}
use Rattle.std.specs.Ordering.{is_eq}
use Rattle.capture_file.specs.Spots.{spot_cmp, is_at_spot}
use Rattle.capture_file.proofs.TableLemmas.{removed_as_and}
use Rattle.capture_file.proofs.table.remove_spot.Goals as goal

pub returns-in-Some : goal.returns-in-Some
returns-in-Some c = λ q.
    let before = contains spot_cmp c.args.spots.now q in
    c.remove.ensures.updates.0 q ∙ removed_as_and (is_eq (spot_cmp c.in-Some.spot q)) before ∙ ap (λ o. not (is_at_spot o q) && before) c.in-Some.ensures
