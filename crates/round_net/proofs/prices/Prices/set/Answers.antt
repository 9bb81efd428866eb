use Rattle.std.proofs.Common.{rules, ◌≡◌, length, refl}
use Rattle.round_net.proofs.CellLemmas.{price_in}
use Rattle.round_net.proofs.PriceLemmas.{set_rows}
use Rattle.round_net.proofs.prices.Prices.set.Goals as goal

pub index_mut-requires : goal.index_mut-requires
index_mut-requires c =
    let row = rw (← c.self.view_is) at c.requires.row in
    let last = rw (← c.self.view_is) at c.requires.last in
    let within = price_in _ c.args.row c.args.round c.self.invariant row c.requires.first last in
    let len : length c.self.inside.prices.items ≡ c.self.inside.prices.len = search rules in
    rw (c.cell-at.ensures, ← len) within

pub returns-clause-ok : goal.returns-clause-ok
returns-clause-ok c = rw (← c.self.view_is) (set_rows _ _ _ _ _ c.self.invariant (search rules) (search rules) (search rules) (rw c.cell-at.ensures refl))
