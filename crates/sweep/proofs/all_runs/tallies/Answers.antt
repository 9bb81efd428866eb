use Rattle.std.proofs.Common.{◌≡◌, ◌*◌, ◌∙◌, length, rules}
use Rattle.std.proofs.lemmas.List.{with_items_is}
use Rattle.sweep.proofs.RunLemmas.{ok_from, made_of}
use Rattle.sweep.proofs.all_runs.tallies.Goals as goal

pub returns : goal.returns
returns g c =
    let full : length c.run_all.new.made ≡ c.in_ok-made.made.len = search rules in
    let same : c.deref.result.now ≡ c.run_all.new.made = c.deref.ensures.value ∙ with_items_is c.in_ok-made.made c.run_all.new.made full in
    let long : length c.run_all.new.made ≡ length c.args.settings.now * c.args.seeds = search rules in
    ok_from c.all_made.result c.all_made.ensures (λ v is.
    made_of (g.W.Runner.comes_to c.args.runner.now) c.args.script.now c.args.seeds c.args.settings.now c.run_all.new.made v.items (is ∙ same) long c.run_all.ensures.each)
