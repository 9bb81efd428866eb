use Rattle.std.proofs.Common.{◌≡◌, ◌<◌, length, ap, sym, ◌∙◌, Some, option_and_then, slice_get}
use Rattle.std.proofs.lemmas.Option.{slice_get-get_or}
use Rattle.round_net.specs.Rows.{instance_of_rows}
use Rattle.round_net.proofs.SoundLemmas.{within_links}
use Rattle.round_net.proofs.net.Net.link_of.Goals as goal

pub returns-clause-within : goal.returns-clause-within
unfolding instance_of_rows
returns-clause-within c =
    let lt : c.args.adapter < length c.self.inside.link_of.items = rw (← c.self.view_is) at c.requires in
    let there : slice_get c.self.inside.link_of.items c.args.adapter ≡ Some c.index.result.now = slice_get-get_or c.self.inside.link_of.items c.args.adapter c.index.result.now lt ∙ ap (λ link. Some link) (sym c.index.ensures) in
    rw (← c.self.view_is) (within_links c.index.result.now c.self.inside.links (λ l e. c.self.invariant.sound.on_link c.args.adapter l (ap (option_and_then (λ link. link)) there ∙ e)))
