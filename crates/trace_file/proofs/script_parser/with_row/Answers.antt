use Rattle.std.proofs.Common.{◌≡◌, ◌<◌, ◌≤◌, ◌+◌, ◌∙◌, ℕ, Bool, true, false, ap, arith, sym, subst, length, sum_by, Ok}
use Rattle.std.proofs.lemmas.Bool.{and_parts, leb-true, ltb-true}
use Rattle.trace_file.specs.ScriptReading.{has_room, ScriptItem}
use Rattle.trace_file.specs.declared.script_row.ScriptItem.TheVariants as item
use Rattle.trace_file.specs.Scenarios.{IsScenario, Scenario, add_item, MAX_ROWS, Step}
use Rattle.trace_file.specs.Histories.{Outcome}
use Rattle.trace_file.specs.Sound.{IsSoundScript}
use Rattle.trace_file.proofs.ScriptItems.{asked}
use Rattle.trace_file.proofs.ScriptLists.{sum_pushed}
use Rattle.trace_file.proofs.script_parser.with_row.Goals as goal

step_room : (b : Bool) (k a : ℕ) → false ≡ b → has_room b k a ≡ true → k < MAX_ROWS
step_room true k a e h = absurd cc
step_room false k a e h = ltb-true k MAX_ROWS h

answer_room : (b : Bool) (k a : ℕ) → true ≡ b → has_room b k a ≡ true → a < MAX_ROWS
answer_room true k a e h = ltb-true a MAX_ROWS h
answer_room false k a e h = absurd cc

-- the counts after a step more, and after an answer more
step_counted : (s t : Scenario) (k a driver : ℕ) (one : Step) → IsScenario s → driver ≤ 7 → k ≡ sum_by length s.drivers → a ≡ sum_by length s.answers → t ≡ add_item s (item.Step driver one)
    → (k + 1 ≡ sum_by length t.drivers) × (a ≡ sum_by length t.answers)
step_counted s t k a driver one h few steps answers e =
    let eight = h.eight in
    rw e (ap (λ (n : ℕ). n + 1) steps ∙ sym (sum_pushed s.drivers driver one (omega arith)), answers)

answer_counted : (s t : Scenario) (k a lane : ℕ) (outcome : Outcome) → IsScenario s → lane < length s.config.lanes → k ≡ sum_by length s.drivers → a ≡ sum_by length s.answers → t ≡ add_item s (item.Answer lane outcome)
    → (k ≡ sum_by length t.drivers) × (a + 1 ≡ sum_by length t.answers)
answer_counted s t k a lane outcome h few steps answers e =
    let lanes = h.lanes in
    rw e (steps, ap (λ (n : ℕ). n + 1) answers ∙ sym (sum_pushed s.answers lane outcome (omega arith)))

pub with_step-requires-clause-driver : goal.with_step-requires-clause-driver
with_step-requires-clause-driver c =
    let k = asked _ _ _ _ c.requires.driver (rw c.config.ensures at c.item_of.ensures) (c.in-Ok-Step.is ∙ ap (λ (i : ScriptItem). Ok i) c.in-Ok-Step.field-0-is) in
    leb-true _ _ (and_parts _ _ k.0).0

pub with_step-requires-clause-ruled : goal.with_step-requires-clause-ruled
with_step-requires-clause-ruled c =
    let k = asked _ _ _ _ c.requires.driver (rw c.config.ensures at c.item_of.ensures) (c.in-Ok-Step.is ∙ ap (λ (i : ScriptItem). Ok i) c.in-Ok-Step.field-0-is) in
    (and_parts _ _ k.0).1

pub with_step-requires-clause-room : goal.with_step-requires-clause-room
unfolding IsSoundScript
with_step-requires-clause-room c =
    let k = asked _ _ _ _ c.requires.driver (rw c.config.ensures at c.item_of.ensures) (c.in-Ok-Step.is ∙ ap (λ (i : ScriptItem). Ok i) c.in-Ok-Step.field-0-is) in
    subst (λ (n : ℕ). n < MAX_ROWS) c.requires.counted.0 (step_room _ c.args.steps c.args.answers k.1 c.requires.room)

pub with_answer-requires-clause-lane : goal.with_answer-requires-clause-lane
with_answer-requires-clause-lane c =
    let k = asked _ _ _ _ c.requires.driver (rw c.config.ensures at c.item_of.ensures) (c.in-Ok-Answer.is ∙ ap (λ (i : ScriptItem). Ok i) c.in-Ok-Answer.field-0-is) in
    (and_parts _ _ k.0).0

pub with_answer-requires-clause-status : goal.with_answer-requires-clause-status
with_answer-requires-clause-status c =
    let k = asked _ _ _ _ c.requires.driver (rw c.config.ensures at c.item_of.ensures) (c.in-Ok-Answer.is ∙ ap (λ (i : ScriptItem). Ok i) c.in-Ok-Answer.field-0-is) in
    (and_parts _ _ k.0).1

pub with_answer-requires-clause-room : goal.with_answer-requires-clause-room
unfolding IsSoundScript
with_answer-requires-clause-room c =
    let k = asked _ _ _ _ c.requires.driver (rw c.config.ensures at c.item_of.ensures) (c.in-Ok-Answer.is ∙ ap (λ (i : ScriptItem). Ok i) c.in-Ok-Answer.field-0-is) in
    subst (λ (n : ℕ). n < MAX_ROWS) c.requires.counted.1 (answer_room _ c.args.steps c.args.answers k.1 c.requires.room)

pub returns-in-Ok-clause-sound : goal.returns-in-Ok-clause-sound
unfolding IsSoundScript
returns-in-Ok-clause-sound c =
    let k = asked _ _ _ _ c.requires.driver (rw c.config.ensures at c.item_of.ensures) (c.in-Ok-Step.is ∙ ap (λ (i : ScriptItem). Ok i) c.in-Ok-Step.field-0-is) in
    step_counted c.args.script c.in-Ok.script c.args.steps c.args.answers c.in-Ok-Step.driver c.in-Ok-Step.step (subst IsScenario c.script.view_is c.script.invariant)
    (leb-true _ _ (and_parts _ _ k.0).0) c.requires.counted.0 c.requires.counted.1 c.in-Ok.ensures

pub returns-in-Ok-with_answer-clause-sound : goal.returns-in-Ok-with_answer-clause-sound
unfolding IsSoundScript
returns-in-Ok-with_answer-clause-sound c =
    let k = asked _ _ _ _ c.requires.driver (rw c.config.ensures at c.item_of.ensures) (c.in-Ok-Answer.is ∙ ap (λ (i : ScriptItem). Ok i) c.in-Ok-Answer.field-0-is) in
    answer_counted c.args.script c.in-Ok-with_answer.script c.args.steps c.args.answers c.in-Ok-Answer.lane c.in-Ok-Answer.outcome (subst IsScenario c.script.view_is c.script.invariant)
    (ltb-true _ _ (and_parts _ _ k.0).0) c.requires.counted.0 c.requires.counted.1 c.in-Ok-with_answer.ensures
