use Rattle.std.proofs.Common.{◌≡◌, ℕ, ◌<◌, List, length, get_or, ◌∙◌, ap, map, subst}
use Rattle.cost_plan.specs.Turns.{AreInTurnWithin, AreSpared}
use Rattle.cost_plan.specs.Words.{instance_of_rows}
use Rattle.cost_plan.proofs.KindLemmas.{IsKindTurned-made, windows-kind, ends-kind, long-kind}
use Rattle.cost_plan.proofs.one_kind.turn_kind.Goals as goal

pub in_turn_within-requires-clause-windows : goal.in_turn_within-requires-clause-windows
in_turn_within-requires-clause-windows c = windows-kind _ _ _ _ _ _ c.requires.kind c.requires.admissible (c.deref-2.ensures.value ∙ c.in_ok-arrivals.ensures) (c.deref-3.ensures.value ∙ c.in_ok-lasts.ensures) (c.deref-4.ensures.value ∙ c.in_ok-own.ensures ∙ ap (λ (xs : List ℕ). map (λ s. get_or xs s 0) c.args.members.now) c.deref.ensures.value)

pub in_turn_within-requires-clause-end : goal.in_turn_within-requires-clause-end
in_turn_within-requires-clause-end c = ends-kind _ _ _ _ _ c.rounds.ensures.sound c.requires.kind (c.deref-3.ensures.value ∙ c.in_ok-lasts.ensures) c.rounds.ensures.same

pub put_back-requires-clause-long : goal.put_back-requires-clause-long
put_back-requires-clause-long c = ap length c.deref-5.ensures.value ∙ long-kind _ _ _ c.args.rounds.now.items (c.deref-4.ensures.value ∙ c.in_ok-own.ensures ∙ ap (λ (xs : List ℕ). map (λ s. get_or xs s 0) c.args.members.now) c.deref.ensures.value) c.in_ok-answer.ensures.permutation

pub returns : goal.returns
returns c =
    let members = c.args.members.now in
    let net = instance_of_rows c.args.net.now in
    let Turned : ℕ → Type 0 = λ end. ¬ AreSpared end c.deref-3.result.now → AreInTurnWithin c.deref-2.result.now c.deref-3.result.now c.in_ok-answer.answer.items in
    let Own : List ℕ → Type 0 = λ xs. (k : ℕ) → k < length members → get_or c.put_back.new.rounds.items (get_or members k 0) 0 ≡ get_or xs k 0 in
    IsKindTurned-made net members c.deref-2.result.now c.deref-3.result.now c.deref-4.result.now c.in_ok-answer.answer.items c.args.rounds.now.items c.put_back.new.rounds.items c.requires.kind c.requires.long c.requires.admissible
    (c.deref-2.ensures.value ∙ c.in_ok-arrivals.ensures) (c.deref-3.ensures.value ∙ c.in_ok-lasts.ensures)
    (c.deref-4.ensures.value ∙ c.in_ok-own.ensures ∙ ap (λ (xs : List ℕ). map (λ s. get_or xs s 0) members) c.deref.ensures.value)
    c.in_ok-answer.ensures.permutation c.in_ok-answer.ensures.windows (subst Turned c.rounds.ensures.same c.in_ok-answer.ensures.in_turn)
    c.put_back.ensures.long (subst Own c.deref-5.ensures.value c.put_back.ensures.own) c.put_back.ensures.others
