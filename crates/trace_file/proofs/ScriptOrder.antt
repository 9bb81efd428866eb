-- A scenario's lists are the rows in order.
use Rattle.std.proofs.Common.{◌≡◌, ◌<◌, ℕ, List, [], ◌∷◌, ◌++◌, length, get_or, refl, sym, ap, ◌∙◌, arith, append-nil, append_assoc, Result, Ok, flat_map, fold}
use Rattle.std.proofs.lemmas.List.{get_or-replicate, length-replicate}
use Rattle.trace_file.specs.ScriptRows.{ScriptRow}
use Rattle.trace_file.specs.ScriptReading.{limits_of, ScriptItem}
use Rattle.trace_file.specs.declared.script_row.ScriptItem.TheVariants as item
use Rattle.trace_file.specs.Scenarios.{Scenario, empty_scenario, item_of, Step}
use Rattle.trace_file.specs.Histories.{Outcome, Refusal, Topology}
use Rattle.trace_file.specs.Script.{Manuscript, parsed_answers, answers_of, put_item, put_row, scenario_of, parsed_steps, steps_of}
use Rattle.trace_file.proofs.ScriptLaws.{put_config}
use Rattle.trace_file.proofs.ScriptLists.{length-pushed, grown}

-- one row adds to a scenario's lists what it says to each
abbrev Adds : {X : Type 0} → (Scenario → List (List X)) → (Result ScriptItem Refusal → List X) → ℕ → Type 0
Adds lists parsed i = (s : Scenario) (r : Result ScriptItem Refusal) → i < length (lists s)
    → (get_or (lists (put_item s r)) i [] ≡ get_or (lists s) i [] ++ parsed r) × (length (lists (put_item s r)) ≡ length (lists s))

one_step : (d : ℕ) → Adds (λ s. s.drivers) (parsed_steps d) d
one_step d s (Ok (item.Step by one)) h = (grown s.drivers by d one (λ e. h), length-pushed s.drivers by one)
one_step d s _ h = (sym (append-nil (get_or s.drivers d [])), refl)

one_answer : (l : ℕ) → Adds (λ s. s.answers) (parsed_answers l) l
one_answer l s (Ok (item.Answer by outcome)) h = (grown s.answers by l outcome (λ e. h), length-pushed s.answers by outcome)
one_answer l s _ h = (sym (append-nil (get_or s.answers l [])), refl)

-- and so do rows
rows_add : {X : Type 0} (lists : Scenario → List (List X)) (parsed : Result ScriptItem Refusal → List X) (i : ℕ) (c : Topology) (s : Scenario) (rows : List ScriptRow) → Adds lists parsed i → s.config ≡ c → i < length (lists s)
    → get_or (lists (fold put_row s rows)) i [] ≡ get_or (lists s) i [] ++ flat_map (λ x. parsed (item_of c x)) rows
rows_add lists parsed i c s [] one is h = sym (append-nil (get_or (lists s) i []))
rows_add {X = X} lists parsed i c s (x ∷ xs) one is h =
    let r = item_of s.config x in
    let added = one s r h in
    let size = added.1 in
    let same : item_of s.config x ≡ item_of c x = ap (λ (y : Topology). item_of y x) is in
    rows_add lists parsed i c (put_row s x) xs one (put_config s r ∙ is) (omega arith)
    ∙ ap (λ (l : List X). l ++ flat_map (λ y. parsed (item_of c y)) xs) (added.0 ∙ ap (λ (q : Result ScriptItem Refusal). get_or (lists s) i [] ++ parsed q) same)
    ∙ append_assoc (get_or (lists s) i []) (parsed (item_of c x)) (flat_map (λ y. parsed (item_of c y)) xs)

pub steps_in_order : (m : Manuscript) (driver : ℕ) → driver < 8 → get_or (scenario_of m).drivers driver [] ≡ steps_of m.config driver m.rows
unfolding scenario_of steps_of
steps_in_order m driver h =
    let s = empty_scenario m.config (limits_of m.limits) in
    let eight = length-replicate {A = List Step} 8 [] in
    rows_add (λ s. s.drivers) (parsed_steps driver) driver m.config s m.rows (one_step driver) refl (omega arith) ∙ ap (λ (l : List Step). l ++ flat_map (λ parsed. parsed_steps driver (item_of m.config parsed)) m.rows) (get_or-replicate 8 driver [] [] h)

pub answers_in_order : (m : Manuscript) (lane : ℕ) → lane < length m.config.lanes → get_or (scenario_of m).answers lane [] ≡ answers_of m.config lane m.rows
unfolding scenario_of answers_of
answers_in_order m lane h =
    let s = empty_scenario m.config (limits_of m.limits) in
    let size = length-replicate {A = List Outcome} (length m.config.lanes) [] in
    rows_add (λ s. s.answers) (parsed_answers lane) lane m.config s m.rows (one_answer lane) refl (omega arith) ∙ ap (λ (l : List Outcome). l ++ flat_map (λ parsed. parsed_answers lane (item_of m.config parsed)) m.rows) (get_or-replicate (length m.config.lanes) lane [] [] h)
