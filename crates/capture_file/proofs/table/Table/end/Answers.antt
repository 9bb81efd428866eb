use Rattle.std.proofs.Common.{List, ◌∙◌, sym, ap, subst}
use Rattle.std.specs.BTreeSet.{contains}
use Rattle.capture_file.specs.Attempts.{Attempt, IsRising, with_id}
use Rattle.capture_file.specs.Spots.{spot_cmp}
use Rattle.capture_file.specs.Tables.{IsTied}
use Rattle.capture_file.proofs.TableLemmas.{IsTied-put, IsRising-put, AreApart-none}
use Rattle.capture_file.proofs.table.Table.end.Goals as goal

pub invariant_of-self : goal.invariant_of-self
invariant_of-self c =
    let all = c.self.inside.by_id in
    let a = c.args.attempt in
    let before = ap (with_id a.id) c.self.view_is ∙ c.requires.before in
    record {
      rising = subst IsRising (sym c.put.ensures) (IsRising-put all a c.self.invariant.rising);
      tied = subst (λ (bs : List Attempt). IsTied bs (contains spot_cmp c.remove_spot.new.spots)) (sym c.put.ensures)
          (IsTied-put all (contains spot_cmp c.self.inside.spots) (contains spot_cmp c.remove_spot.new.spots) a c.args.before before (AreApart-none c.args.before a c.requires.ended) c.self.invariant.tied
          (λ q. rw c.requires.ended (c.remove_spot.ensures q)));
    }
