use Rattle.std.proofs.Common.{ap, ◌∙◌, rules}
use Rattle.std.proofs.lemmas.List.Sorted.{answers_always}
use Rattle.event_rules.specs.Sorted.{sorted_by}
use Rattle.event_rules.proofs.StableLemmas.{sorted_by-stable_by_key}
use Rattle.wait_causes.specs.BlameRows.{row_key, blame_of}
use Rattle.wait_causes.proofs.blame.table.blame_of.Goals as goal

pub returns : goal.returns
unfolding blame_of
returns c =
    let keys = answers_always _ _ _ (λ f a r next called. search rules) in
    let made = c.in_ok-sort_by_key.ensures in
    sorted_by-stable_by_key row_key _ _ (made.sorted row_key keys) (made.stable row_key keys) ∙ ap (sorted_by row_key) c.in_ok-rows.ensures
