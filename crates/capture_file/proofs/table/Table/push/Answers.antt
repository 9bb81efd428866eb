use Rattle.std.proofs.Common.{◌≡◌, ℕ, ◌<◌, List, ◌∙◌, sym, ap, subst}
use Rattle.std.specs.List.{AllByRecursion}
use Rattle.std.specs.BTreeSet.{contains}
use Rattle.capture_file.specs.Attempts.{Attempt, IsRising, without}
use Rattle.capture_file.specs.Spots.{spot_cmp}
use Rattle.capture_file.specs.Tables.{IsTied}
use Rattle.capture_file.proofs.TableLemmas.{IsTied-push, IsRising-push, without-push, IsTied-same}
use Rattle.capture_file.proofs.table.Table.push.Goals as goal

AreLower : ℕ → List Attempt → Type 0
AreLower id all = AllByRecursion (λ (b : Attempt). b.id < id) all

pub invariant_of-self-in-Err : goal.invariant_of-self-in-Err
unfolding AreLower
invariant_of-self-in-Err c =
    let all = c.self.inside.by_id in
    let a = c.args.attempt in
    let low = subst (AreLower a.id) (sym c.self.view_is) c.requires in
    let same : c.remove.new.self ≡ all = c.remove.ensures ∙ ap (without a.id) c.in_ok-push.ensures.ok ∙ without-push all a low in
    record {
      rising = subst IsRising (sym same) c.self.invariant.rising;
      tied = subst (λ (bs : List Attempt). IsTied bs (contains spot_cmp c.add_spot.new.spots)) (sym same) (IsTied-same all (contains spot_cmp c.self.inside.spots) (contains spot_cmp c.add_spot.new.spots) c.self.invariant.tied c.in-Err.ensures.err);
    }

pub returns-in-Err-clause-err : goal.returns-in-Err-clause-err
unfolding AreLower
returns-in-Err-clause-err c =
    let all = c.self.inside.by_id in
    let a = c.args.attempt in
    let low = subst (AreLower a.id) (sym c.self.view_is) c.requires in
    c.remove.ensures ∙ ap (without a.id) c.in_ok-push.ensures.ok ∙ without-push all a low ∙ c.self.view_is

pub invariant_of-self-in_default : goal.invariant_of-self-in_default
unfolding AreLower
invariant_of-self-in_default c =
    let all = c.self.inside.by_id in
    let a = c.args.attempt in
    let low = subst (AreLower a.id) (sym c.self.view_is) c.requires in
    record {
      rising = subst IsRising (sym c.in_ok-push.ensures.ok) (IsRising-push all a low c.self.invariant.rising);
      tied = subst (λ (bs : List Attempt). IsTied bs (contains spot_cmp c.add_spot.new.spots)) (sym c.in_ok-push.ensures.ok)
          (IsTied-push all (contains spot_cmp c.self.inside.spots) (contains spot_cmp c.add_spot.new.spots) a low c.self.invariant.tied c.in_default.ensures.ok);
    }
