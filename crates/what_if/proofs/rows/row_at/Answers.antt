use Rattle.std.proofs.Common.{◌≡◌, List, Vec, Global, get_or, sym, ap, ◌∙◌, subst}
use Rattle.std.proofs.lemmas.List.{get_or_default}
use Rattle.what_if.specs.Caps.{changed_net}
use Rattle.what_if.specs.declared.change.Change.{Change}
use Rattle.round_net.specs.Rows.{instance_of_rows}
use Rattle.what_if.specs.Costs.{AreCosts}
use Rattle.what_if.proofs.RowLemmas.{from_ok}
use Rattle.what_if.proofs.rows.row_at.Goals as goal

pub returns : goal.returns
returns g c = λ list.
    let n = c.args.net.now in
    let costs = from_ok (AreCosts (instance_of_rows (changed_net n c.deref.result.now))) c.costs_with.result c.in_ok-costs.costs (sym c.ok.ensures.value ∙ c.in_ok-costs.was) c.costs_with.ensures in
    let own : c.deref.result.now ≡ (get_or c.args.lists.now c.args.at list).items = c.deref.ensures.value ∙ ap (λ (v : Vec Change Global). v.items) (c.index-lists-at.is ∙ get_or_default c.args.lists.now c.args.at c.index-lists-at.result list c.requires.at) in
    subst (λ (xs : List Change). AreCosts (instance_of_rows (changed_net n xs)) c.in_ok-costs.costs) own costs
