use Rattle.std.proofs.Common.{◌≡◌, List, Option, ◌∙◌, refl, sym, ap, subst}
use Rattle.std.specs.BTreeSet.{contains}
use Rattle.capture_file.specs.declared.attempt.Arrival.{Arrival}
use Rattle.capture_file.specs.Attempts.{Attempt, IsRising, with_id, put}
use Rattle.capture_file.specs.Events.{with_tag}
use Rattle.capture_file.specs.Spots.{spot_cmp}
use Rattle.capture_file.specs.Tables.{IsTied}
use Rattle.capture_file.proofs.FirstLemmas.{id_at}
use Rattle.capture_file.proofs.TableLemmas.{IsTied-retag, IsRising-put}
use Rattle.capture_file.proofs.table.Table.retag.Goals as goal

pub put-requires : goal.put-requires
put-requires c =
    let all = c.self.inside.by_id in
    let there = sym c.get.ensures.found ∙ c.in-Some.is in
    rw (ap (λ n. with_id n all) (id_at all c.args.id c.in-Some.before there) ∙ there) refl

pub invariant_of-self : goal.invariant_of-self
invariant_of-self c =
    let all = c.self.inside.by_id in
    let b = c.in-Some.before in
    let there = sym c.get.ensures.found ∙ c.in-Some.is in
    let found = ap (λ n. with_id n all) (id_at all c.args.id b there) ∙ there in
    let same : c.put.new.self ≡ put (with_tag c.args.tag b) all = c.put.ensures ∙ ap (λ (o : Option Arrival). put (record b { arrival = o }) all) c.tagged-arrival.ensures in
    record {
      rising = subst IsRising (sym same) (IsRising-put all (with_tag c.args.tag b) c.self.invariant.rising);
      tied = subst (λ (bs : List Attempt). IsTied bs (contains spot_cmp c.self.inside.spots)) (sym same) (IsTied-retag all (contains spot_cmp c.self.inside.spots) c.args.tag b found c.self.invariant.tied);
    }
