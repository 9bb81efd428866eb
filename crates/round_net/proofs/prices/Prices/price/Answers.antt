use Rattle.std.proofs.Common.{rules, ◌≡◌, length, refl, ap, arith, ◌∙◌, slice_index}
use Rattle.std.proofs.lemmas.List.{get_or_read_under}
use Rattle.round_net.specs.PriceRows.{PriceRows, pricing_of_rows}
use Rattle.round_net.proofs.CellLemmas.{price_in}
use Rattle.round_net.proofs.prices.Prices.price.Goals as goal

pub index-requires : goal.index-requires
index-requires c =
    let row = rw (← c.self.view_is) at c.requires.row in
    let last = rw (← c.self.view_is) at c.requires.last in
    let within = price_in _ c.args.row c.args.round c.self.invariant row c.requires.first last in
    let len : length c.self.inside.prices.items ≡ c.self.inside.prices.len = search rules in
    rw (c.cell.ensures, ← len) within

pub returns-clause-same : goal.returns-clause-same
unfolding pricing_of_rows
returns-clause-same c =
    let row = rw (← c.self.view_is) at c.requires.row in
    let last = rw (← c.self.view_is) at c.requires.last in
    let within = price_in _ c.args.row c.args.round c.self.invariant row c.requires.first last in
    rw (← c.self.view_is) (get_or_read_under c.self.inside.prices.items c.cell.result (length c.self.inside.prices.items) c.index.result.now 0 c.index.ensures (rw c.cell.ensures within) refl ∙ ap (slice_index c.self.inside.prices.items) c.cell.ensures)

pub returns-clause-most : goal.returns-clause-most
returns-clause-most c =
    let row = rw (← c.self.view_is) at c.requires.row in
    let last = rw (← c.self.view_is) at c.requires.last in
    let within = price_in _ c.args.row c.args.round c.self.invariant row c.requires.first last in
    let small = c.self.invariant.small c.cell.result c.index.result.now (rw c.cell.ensures within) in
    omega (arith, c.index.ensures, small, ap (λ (p : PriceRows). p.max_price) c.self.view_is)
