use Rattle.std.proofs.Common.{ap, ◌∙◌, rules}
use Rattle.std.proofs.lemmas.List.Sorted.{answers_always}
use Rattle.event_rules.specs.Sorted.{sorted_by}
use Rattle.event_rules.proofs.StableLemmas.{sorted_by-stable_by_number}
use Rattle.conversions.specs.Arrivals.{Arrival, round_key, requested}
use Rattle.conversions.proofs.requested.requested.Goals as goal

pub returns : goal.returns
unfolding requested
returns c =
    let round = λ (a : Arrival). a.round in
    let keys = answers_always _ _ _ (λ f a r next called. search rules) in
    let made = c.in_ok-sort_by_key.ensures in
    sorted_by-stable_by_number round _ _ (made.sorted round keys) (made.stable round keys) ∙ ap (sorted_by round_key) c.in_ok-found.ensures
