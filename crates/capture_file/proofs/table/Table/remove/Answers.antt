use Rattle.std.proofs.Common.{◌≡◌, List, ◌∙◌, sym, subst}
use Rattle.std.specs.BTreeSet.{contains}
use Rattle.capture_file.specs.Attempts.{Attempt, IsRising, without}
use Rattle.capture_file.specs.Spots.{spot_cmp}
use Rattle.capture_file.specs.Tables.{IsTied}
use Rattle.capture_file.proofs.TableLemmas.{IsTied-without, IsRising-without, without-none}
use Rattle.capture_file.proofs.table.Table.remove.Goals as goal

pub invariant_of-self : goal.invariant_of-self
invariant_of-self c =
    let all = c.self.inside.by_id in
    let found = sym c.get.ensures.found ∙ c.in-Some.is in
    record {
      rising = subst IsRising (sym c.remove.ensures) (IsRising-without all c.args.id c.self.invariant.rising);
      tied = subst (λ (bs : List Attempt). IsTied bs (contains spot_cmp c.remove_spot.new.spots)) (sym c.remove.ensures)
          (IsTied-without all (contains spot_cmp c.self.inside.spots) (contains spot_cmp c.remove_spot.new.spots) c.args.id c.in-Some.attempt found c.self.invariant.tied c.remove_spot.ensures);
    }

pub returns-in_default : goal.returns-in_default
returns-in_default c =
    let found = sym c.get.ensures.found ∙ c.in_default.is in
    sym (subst (λ (bs : List Attempt). without c.args.id bs ≡ bs) c.self.view_is (without-none c.self.inside.by_id c.args.id found))
