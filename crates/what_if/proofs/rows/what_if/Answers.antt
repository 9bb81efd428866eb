use Rattle.std.proofs.Common.{◌≡◌, ◌∙◌, length, rules}
use Rattle.std.proofs.lemmas.List.{with_items_is}
use Rattle.what_if.proofs.RowLemmas.{AreRowsOf-made, all_from}
use Rattle.what_if.proofs.rows.what_if.Goals as goal

pub returns : goal.returns
returns g c =
    let full : length c.make_all.new.made ≡ c.in_ok-made.made.len = search rules in
    let same : c.deref.result.now ≡ c.make_all.new.made = c.deref.ensures.value ∙ with_items_is c.in_ok-made.made c.make_all.new.made full in
    let long : length c.make_all.new.made ≡ length c.args.lists.now = search rules in
    all_from c.all_made.result c.all_made.ensures (λ v is. AreRowsOf-made c.args.net.now c.args.lists.now c.make_all.new.made v.items (is ∙ same) long c.make_all.ensures.each)
