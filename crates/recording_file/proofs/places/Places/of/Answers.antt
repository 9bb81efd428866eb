use Rattle.std.proofs.Common.{◌≡◌}
use Rattle.cam_types.specs.Questions.{device_adapter}
use Rattle.recording_file.proofs.PlaceLemmas.{are_cells, link_there, adapter_is}
use Rattle.recording_file.proofs.places.Places.of.Goals as goal

pub cell_of-requires-clause-cell : goal.cell_of-requires-clause-cell
cell_of-requires-clause-cell c =
    let all = are_cells c.args.rounds c.args.config.now c.args.device c.args.round c.device_adapter.ensures.kept c.requires.device c.requires.some c.requires.last in
    rw c.part.ensures all.device

pub cell_of-requires-2-clause-cell : goal.cell_of-requires-2-clause-cell
cell_of-requires-2-clause-cell c =
    let t = c.args.config.now in
    let all = are_cells c.args.rounds t c.args.device c.args.round c.device_adapter.ensures.kept c.requires.device c.requires.some c.requires.last in
    let is : c.unwrap_or-adapter.result ≡ device_adapter t c.args.device = adapter_is t c.args.device _ _ c.device_adapter.ensures.same c.unwrap_or-adapter.ensures in
    rw (c.part-2.ensures, is) all.adapter

pub link_place-requires-clause-link : goal.link_place-requires-clause-link
link_place-requires-clause-link c = rw c.adapter_link-link.ensures.same (link_there c.args.config.now c.unwrap_or-adapter.result c.device_adapter.ensures.kept)
