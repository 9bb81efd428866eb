use Rattle.std.proofs.Common.{rules, ◌≡◌, length, refl, ap, arith, ◌∙◌, slice_index}
use Rattle.std.proofs.lemmas.List.{get_or_read_under}
use Rattle.round_net.specs.Rows.{instance_of_rows}
use Rattle.round_net.proofs.CellLemmas.{cap_in}
use Rattle.round_net.proofs.net.Net.cap.Goals as goal

pub index-requires : goal.index-requires
unfolding instance_of_rows
index-requires c =
    let row = rw (← c.self.view_is) at c.requires.row in
    let last = rw (← c.self.view_is) at c.requires.last in
    let within = cap_in _ c.args.row c.args.round c.self.invariant row c.requires.first last in
    let len : length c.self.inside.caps.items ≡ c.self.inside.caps.len = search rules in
    rw (c.cell.ensures, ← len) within

pub returns-clause-same : goal.returns-clause-same
unfolding instance_of_rows
returns-clause-same c =
    let row = rw (← c.self.view_is) at c.requires.row in
    let last = rw (← c.self.view_is) at c.requires.last in
    let within = cap_in _ c.args.row c.args.round c.self.invariant row c.requires.first last in
    let there : length c.self.inside.caps.items ≡ length c.self.inside.caps.items = refl in
    rw (← c.self.view_is) (get_or_read_under c.self.inside.caps.items c.cell.result (length c.self.inside.caps.items) c.index.result.now 0 c.index.ensures (rw c.cell.ensures within) there ∙ ap (slice_index c.self.inside.caps.items) c.cell.ensures)

pub returns-clause-most : goal.returns-clause-most
returns-clause-most c = omega (arith, returns-clause-same c, (rw c.self.view_is at c.self.invariant.sound.small_cap) c.args.row c.args.round)
