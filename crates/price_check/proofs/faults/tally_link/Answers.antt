use Rattle.std.proofs.Common.{◌≡◌, ◌∙◌, [], ◌∷◌, Some, refl, sym, arith, slice_index}
use Rattle.price_check.specs.Words.{adapter, link, adapter_resource, link_resource, instance_of_rows, cell}
use Rattle.round_net.proofs.PathLemmas.{uses-link}
use Rattle.price_check.proofs.TallyLemmas.{IsPlace, few_here, here_counted, link_place, link_new, tallied_with, over_link}
use Rattle.price_check.proofs.faults.tally_link.Goals as goal

pub count-requires-clause-few : goal.count-requires-clause-few
count-requires-clause-few c =
    let net = instance_of_rows c.args.net.now in
    let f = slice_index c.args.schedule.now in
    let s = c.args.stay in
    let l = c.in-Some.link in
    let few = c.rounds.ensures.sound.few_stays in
    let device = c.rounds.ensures.sound.on_device s c.requires.stay in
    let place : IsPlace net f s (link_resource net l) = link_place net f s l c.requires.first c.requires.last c.in-Some.ensures.within in
    let new = link_new net s l device (c.rounds.ensures.sound.on_adapter (net.device s) device) in
    let at : c.cell-at.result ≡ cell net.rounds (link_resource net l) (f s) = c.cell-at.ensures ∙ rw (c.rounds.ensures.same, c.link_resource.ensures.same, c.round-round.ensures) refl in
    few_here net f c.args.counts.now s (link_resource net l) c.cell-at.result (net.device s ∷ adapter_resource net (adapter net s) ∷ []) c.requires.counted place new (omega (arith, c.requires.stay, few)) at

pub returns-clause-over : goal.returns-clause-over
returns-clause-over c =
    let net = instance_of_rows c.args.net.now in
    let f = slice_index c.args.schedule.now in
    let s = c.args.stay in
    let l = c.in-Some.link in
    let device = c.rounds.ensures.sound.on_device s c.requires.stay in
    let place : IsPlace net f s (link_resource net l) = link_place net f s l c.requires.first c.requires.last c.in-Some.ensures.within in
    let new = link_new net s l device (c.rounds.ensures.sound.on_adapter (net.device s) device) in
    let at : c.cell-at.result ≡ cell net.rounds (link_resource net l) (f s) = c.cell-at.ensures ∙ rw (c.rounds.ensures.same, c.link_resource.ensures.same, c.round-round.ensures) refl in
    let is : link net s ≡ Some l = sym c.in-Some.ensures.same in
    let here = here_counted net f c.args.counts.now s (link_resource net l) c.cell-at.result c.count.result (net.device s ∷ adapter_resource net (adapter net s) ∷ []) c.requires.counted place new (uses-link net s l is) at c.count.ensures.now in
    over_link net f s l c.link_cap.result c.count.result is (c.link_cap.ensures.same ∙ rw c.round-round.ensures refl) here

pub returns-clause-tally : goal.returns-clause-tally
returns-clause-tally c =
    let net = instance_of_rows c.args.net.now in
    let f = slice_index c.args.schedule.now in
    let s = c.args.stay in
    let l = c.in-Some.link in
    let device = c.rounds.ensures.sound.on_device s c.requires.stay in
    let place : IsPlace net f s (link_resource net l) = link_place net f s l c.requires.first c.requires.last c.in-Some.ensures.within in
    let new = link_new net s l device (c.rounds.ensures.sound.on_adapter (net.device s) device) in
    let at : c.cell-at.result ≡ cell net.rounds (link_resource net l) (f s) = c.cell-at.ensures ∙ rw (c.rounds.ensures.same, c.link_resource.ensures.same, c.round-round.ensures) refl in
    tallied_with net f c.args.counts.now c.count.new.counts s l c.cell-at.result (sym c.in-Some.ensures.same) c.requires.counted place new c.requires.cells at c.count.ensures.counted
