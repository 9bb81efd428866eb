use Rattle.std.proofs.Common.{List, ◌∙◌, sym, ap, subst, refl}
use Rattle.std.specs.BTreeSet.{contains}
use Rattle.capture_file.specs.Attempts.{Attempt, IsRising, with_id}
use Rattle.capture_file.specs.Spots.{spot_cmp}
use Rattle.capture_file.specs.Tables.{IsTied}
use Rattle.capture_file.proofs.TableLemmas.{IsTied-put, IsRising-put}
use Rattle.capture_file.proofs.table.Table.replace.Goals as goal

pub invariant_of-self-2 : goal.invariant_of-self-2
invariant_of-self-2 c =
    let all = c.self.inside.by_id in
    let a = c.args.attempt in
    let before = ap (with_id a.id) c.self.view_is ∙ c.requires.before in
    record {
      rising = subst IsRising (sym c.put.ensures) (IsRising-put all a c.self.invariant.rising);
      tied = subst (λ (bs : List Attempt). IsTied bs (contains spot_cmp c.remove_spot.new.spots)) (sym c.put.ensures)
          (IsTied-put all (contains spot_cmp c.self.inside.spots) (contains spot_cmp c.remove_spot.new.spots) a c.args.before before c.requires.apart c.self.invariant.tied
          (λ q. rw (c.remove_spot.ensures q, c.in_ok-add_spot.ensures.ok q) refl));
    }
