-- What is written of a scenario is a manuscript of that scenario.
use Rattle.std.proofs.Common.{◌≡◌, ◌<◌, ◌≤◌, ◌==◌, ℕ, zero, suc, List, [], ◌∷◌, ◌++◌, length, take, map, get_or, Bool, true, false, not, cond, refl, sym, ap, ◌∙◌, arith, subst, append-nil, append_assoc, flat_map, fold, nat_lt, nat_le, sum_by, Some, None, Result, Ok, Err, is_ok}
use Rattle.std.specs.List.{AllByRecursion, list_any}
use Rattle.std.proofs.lemmas.Bool.{and_parts, eq-eqb, eqb-true, ltb-true, lt-ltb, or_parts}
use Rattle.std.proofs.lemmas.Bool.Decides.{nat_tests}
use Rattle.std.proofs.lemmas.List.{length-replicate}
use Rattle.std.proofs.lemmas.List.Concat.{flat_map-append}
use Rattle.std.proofs.lemmas.List.Sums.{position_or_len_is, sum_by-append}
use Rattle.cam_types.specs.Bounds.{Bounds, are_within}
use Rattle.cam_types.specs.Questions.{names_adapter, names_device, names_lane}
use Rattle.cam_types.specs.Topology.{IsConfig, address_fault, are_openings, is_same_address}
use Rattle.cam_types.specs.declared.limits.TheConstants.{MAX_DEVICES, MAX_LUN, MAX_PRIORITY, MAX_RETRIES}
use Rattle.cam_types.proofs.ConfigLemmas.{device_items}
use Rattle.sense_class.specs.Classes.{status_of}
use Rattle.event_rules.specs.Legal.{is_count}
use Rattle.event_rules.specs.declared.event.Event.TheVariants as event
use Rattle.cam_path.specs.Paths.{address_of}
use Rattle.trace_file.specs.Histories.{Device, Outcome, Refusal, Topology, config_fault, device_fault}
use Rattle.trace_file.specs.Records.{holds}
use Rattle.trace_file.specs.declared.version.Version.TheVariants as version
use Rattle.trace_file.specs.declared.step.Step.TheVariants as step
use Rattle.trace_file.specs.ScriptRows.{ScriptRow}
use Rattle.trace_file.specs.declared.script_row.ScriptRow.TheVariants as row
use Rattle.trace_file.specs.ScriptReading.{ScriptItem}
use Rattle.trace_file.specs.declared.script_row.ScriptItem.TheVariants as item
use Rattle.trace_file.specs.ScriptVersions.{least_script, trace_version}
use Rattle.trace_file.specs.Scenarios.{IsScenario, Scenario, device_number, empty_scenario, is_answer, is_answer_row, is_at, is_ruled, item_of, scenario_by, Step}
use Rattle.trace_file.specs.Script.{FitsRow, IsManuscript, answer_rows, parsed_answers, answers_of, put_item, put_row, scenario_of, step_rows, parsed_steps, steps_of}
use Rattle.trace_file.specs.ScriptWriting.{manuscript_of, numbered, path_of, rows_of, step_row}
use Rattle.record_text.proofs.ListLemmas.{Along, none_along}
use Rattle.record_text.proofs.ConfigLemmas.{cond_none}
use Rattle.trace_file.proofs.ScriptLaws.{scenario_config}
use Rattle.trace_file.proofs.ScriptLists.{length-pushed}
use Rattle.trace_file.proofs.ScriptNumbered.{all_both, all_mapped, count_numbered, keep_all, all_parsed, silent_all}
use Rattle.trace_file.proofs.ScriptOrder.{answers_in_order, steps_in_order}

-- ---- a device's path names it

along_at : {X : Type 0} (P : List X → X → Type 0) (before xs : List X) (i : ℕ) (z : X) → Along P before xs → i < length xs → P (before ++ take i xs) (get_or xs i z)
along_at P before [] i z h lt = absurd (omega arith)
along_at P before (x ∷ xs) zero z h lt = subst (λ (b : List _). P b x) (sym (append-nil before)) h.0
along_at P before (x ∷ xs) (suc i) z h lt =
    subst (λ (b : List _). P b (get_or xs i z)) (append_assoc before (x ∷ []) (take i xs)) (along_at P (before ++ x ∷ []) xs i z h.1 (omega arith))

not_any : {X : Type 0} (p : X → Bool) (xs : List X) (k i : ℕ) (z : X) → k < i → i ≤ length xs → list_any p (take i xs) ≡ false → p (get_or xs k z) ≡ false
not_any p [] k i z lt le e = absurd (omega arith)
not_any p (x ∷ xs) k zero z lt le e = absurd (omega arith)
not_any p (x ∷ xs) zero (suc i) z lt le e = (or_parts (p x) (list_any p (take i xs)) e).0
not_any p (x ∷ xs) (suc k) (suc i) z lt le e = not_any p xs k i z (omega arith) (omega arith) (or_parts (p x) (list_any p (take i xs)) e).1

apart : (n : ℕ) (before : List Device) (d : Device) → device_fault n (before, d) ≡ None → list_any (is_same_address d) before ≡ false
unfolding device_fault address_fault
apart n before d e =
    let a = cond_none (nat_le MAX_DEVICES (length before)) _ _ e in
    let b = cond_none (not (are_openings d.openings)) _ _ a.1 in
    let c = cond_none (nat_le n d.bus) _ _ b.1 in
    let l = cond_none (nat_lt MAX_LUN d.lun) _ _ c.1 in
    (cond_none (list_any (is_same_address d) before) _ _ l.1).0

other_address : (d e : Device) → is_same_address d e ≡ false → is_at (address_of d) e ≡ false
other_address d e h = grind (arith, nat_tests)

own_address : (d : Device) → is_at (address_of d) d ≡ true
own_address d = rw (eq-eqb d.bus d.bus refl, eq-eqb d.target d.target refl, eq-eqb d.lun d.lun refl) refl

device_again : (c : Topology) (device : ℕ) → config_fault c ≡ None → names_device c device ≡ true → device_number c (path_of c device) ≡ Some device
device_again c device kept named =
    let n = length c.adapters in
    let z : Device = record { bus = 0; target = 0; lun = 0; openings = 0 } in
    let d = get_or c.devices device z in
    let there : device < length c.devices = ltb-true _ _ named in
    let is : IsConfig c = record { kept = kept } in
    let each = none_along (device_fault n) [] c.devices (device_items c is) in
    let alone = apart n (take device c.devices) d (along_at (λ b x. device_fault n (b, x) ≡ None) [] c.devices device z each there) in
    let place = position_or_len_is (is_at (address_of d)) c.devices device z (omega arith) (λ k less. other_address d (get_or c.devices k z) (not_any (is_same_address d) c.devices k device z less (omega arith) alone)) (λ h. own_address d) in
    rw (place, named) refl

-- ---- a step's row asks for it

within : (n most : ℕ) → nat_le n most ≡ true → nat_lt most n ≡ false
within n most h = grind (arith, nat_tests)

pub item_again : (c : Topology) (driver : ℕ) (one : Step) → config_fault c ≡ None → is_ruled c driver one ≡ true → item_of c (step_row c driver one) ≡ Ok (item.Step driver one)
unfolding item_of
item_again c driver (step.Act (event.Submit by device priority retries flags)) kept h =
    let a = and_parts _ _ h in
    let b = and_parts _ _ a.0 in
    let d = and_parts _ _ b.0 in
    let same : by ≡ driver = eqb-true by driver d.0 in
    rw (device_again c device kept d.1, within priority MAX_PRIORITY b.1, within retries MAX_RETRIES a.1)
    (ap (λ (k : ℕ). Ok (item.Step driver (step.Act (event.Submit k device priority retries flags)))) (sym same))
item_again c driver (step.Act (event.FreezeDev device count)) kept h = let a = and_parts (names_device c device) (is_count count) h in rw (device_again c device kept a.0, a.1) refl
item_again c driver (step.Act (event.ReleaseDev device count)) kept h = let a = and_parts (names_device c device) (is_count count) h in rw (device_again c device kept a.0, a.1) refl
item_again c driver (step.Act (event.FreezeSim sim count)) kept h = let a = and_parts (names_adapter c sim) (is_count count) h in rw (a.0, a.1) refl
item_again c driver (step.Act (event.ReleaseSim sim)) kept h = rw h refl
item_again c driver (step.Act (event.Adjust device openings)) kept h = let a = and_parts (names_device c device) (are_openings openings) h in rw (device_again c device kept a.0, a.1) refl
item_again c driver (step.Pause round) kept h = refl
item_again c driver _ kept h = absurd cc

answer_again : (c : Topology) (lane : ℕ) (outcome : Outcome) → names_lane c lane ≡ true → is_answer outcome ≡ true → item_of c (row.Answer lane outcome) ≡ Ok (item.Answer lane outcome)
unfolding item_of
answer_again c lane outcome named good = by (status_of outcome == 0) refl
  where
    by : (b : Bool) → (status_of outcome == 0) ≡ b → item_of c (row.Answer lane outcome) ≡ Ok (item.Answer lane outcome)
    by true e = absurd (let k = rw e at good in cc)
    by false e = rw (named, e) refl

-- ---- what the rows of drivers and lanes say

abbrev IsRuled : Topology → ℕ → Step → Type 0
IsRuled c driver one = is_ruled c driver one ≡ true

abbrev IsAnswer : Outcome → Type 0
IsAnswer outcome = is_answer outcome ≡ true

steps_say : (c : Topology) (d driver : ℕ) (xs : List Step) → config_fault c ≡ None → AllByRecursion (IsRuled c driver) xs → flat_map (λ parsed. parsed_steps d (item_of c parsed)) (map (step_row c driver) xs) ≡ cond (driver == d) xs []
steps_say c d driver [] kept h = by (driver == d)
  where
    by : (b : Bool) → [] ≡ cond {A = List Step} b [] []
    by true = refl
    by false = refl
steps_say c d driver (x ∷ xs) kept h =
    let more = steps_say c d driver xs kept h.1 in
    rw (item_again c driver x kept h.0, more) (by (driver == d))
  where
    by : (b : Bool) → cond b (x ∷ []) [] ++ cond b xs [] ≡ cond b (x ∷ xs) []
    by true = refl
    by false = refl

answers_say : (c : Topology) (l lane : ℕ) (xs : List Outcome) → names_lane c lane ≡ true → AllByRecursion IsAnswer xs → flat_map (λ parsed. parsed_answers l (item_of c parsed)) (map (row.Answer lane) xs) ≡ cond (lane == l) xs []
answers_say c l lane [] named h = by (lane == l)
  where
    by : (b : Bool) → [] ≡ cond {A = List Outcome} b [] []
    by true = refl
    by false = refl
answers_say c l lane (x ∷ xs) named h =
    let more = answers_say c l lane xs named h.1 in
    rw (answer_again c lane x named h.0, more) (by (lane == l))
  where
    by : (b : Bool) → cond b (x ∷ []) [] ++ cond b xs [] ≡ cond b (x ∷ xs) []
    by true = refl
    by false = refl

-- a driver's rows say nothing to lanes, and answers nothing to drivers
steps_silent : (c : Topology) (l driver : ℕ) (xs : List Step) → config_fault c ≡ None → AllByRecursion (IsRuled c driver) xs → flat_map (λ parsed. parsed_answers l (item_of c parsed)) (map (step_row c driver) xs) ≡ []
steps_silent c l driver [] kept h = refl
steps_silent c l driver (x ∷ xs) kept h = let more = steps_silent c l driver xs kept h.1 in rw (item_again c driver x kept h.0, more) refl

answers_silent : (c : Topology) (d lane : ℕ) (xs : List Outcome) → names_lane c lane ≡ true → AllByRecursion IsAnswer xs → flat_map (λ parsed. parsed_steps d (item_of c parsed)) (map (row.Answer lane) xs) ≡ []
answers_silent c d lane [] named h = refl
answers_silent c d lane (x ∷ xs) named h = let more = answers_silent c d lane xs named h.1 in rw (answer_again c lane x named h.0, more) refl

lane_named : (s : Scenario) (lane : ℕ) → IsScenario s → lane < length s.answers → names_lane s.config lane ≡ true
lane_named s lane h less = let lanes = h.lanes in lt-ltb lane (length s.config.lanes) (omega arith)

drivers_back : (s : Scenario) (d : ℕ) → IsScenario s → config_fault s.config ≡ None → steps_of s.config d (rows_of s) ≡ get_or s.drivers d []
unfolding steps_of
drivers_back s d h kept =
    let c = s.config in
    let parsed : ScriptRow → List Step = λ x. parsed_steps d (item_of c x) in
    let own = all_parsed (step_row c) parsed d s.drivers (λ i less. steps_say c d i (get_or s.drivers i []) kept (h.ruled i)) in
    let none = silent_all row.Answer parsed s.answers (λ i less. answers_silent c d i (get_or s.answers i []) (lane_named s i h less) (h.answered i)) in
    flat_map-append parsed (numbered (step_row c) 0 s.drivers) (numbered row.Answer 0 s.answers) ∙ rw (own, none) (append-nil (get_or s.drivers d []))

lanes_back : (s : Scenario) (l : ℕ) → IsScenario s → config_fault s.config ≡ None → answers_of s.config l (rows_of s) ≡ get_or s.answers l []
unfolding answers_of
lanes_back s l h kept =
    let c = s.config in
    let parsed : ScriptRow → List Outcome = λ x. parsed_answers l (item_of c x) in
    let none = silent_all (step_row c) parsed s.drivers (λ i less. steps_silent c l i (get_or s.drivers i []) kept (h.ruled i)) in
    let own = all_parsed row.Answer parsed l s.answers (λ i less. answers_say c l i (get_or s.answers i []) (lane_named s i h less) (h.answered i)) in
    flat_map-append parsed (numbered (step_row c) 0 s.drivers) (numbered row.Answer 0 s.answers) ∙ rw (none, own) refl

-- ---- the scenario

-- rows leave the limits, and how many lists there are
record Lists (a b : Scenario) : Type 0 where
  limits : a.limits ≡ b.limits
  drivers : length a.drivers ≡ length b.drivers
  answers : length a.answers ≡ length b.answers

put_lists : (s : Scenario) (r : Result ScriptItem Refusal) → Lists (put_item s r) s
put_lists s (Ok (item.Step driver one)) = record { limits = refl; drivers = length-pushed s.drivers driver one; answers = refl }
put_lists s (Ok (item.Answer lane outcome)) = record { limits = refl; drivers = refl; answers = length-pushed s.answers lane outcome }
put_lists s (Err cause) = record { limits = refl; drivers = refl; answers = refl }

fold_lists : (s : Scenario) (rows : List ScriptRow) → Lists (fold put_row s rows) s
fold_lists s [] = record { limits = refl; drivers = refl; answers = refl }
fold_lists s (x ∷ xs) =
    let one = put_lists s (item_of s.config x) in
    let more = fold_lists (put_row s x) xs in
    record { limits = more.limits ∙ one.limits; drivers = more.drivers ∙ one.drivers; answers = more.answers ∙ one.answers }

same_scenario : (a b : Scenario) → a.config ≡ b.config → a.limits ≡ b.limits → a.drivers ≡ b.drivers → a.answers ≡ b.answers → a ≡ b
same_scenario a b c l d o =
    ap (λ (x : Topology). scenario_by x a.limits a.drivers a.answers) c ∙ ap (λ (x : Bounds). scenario_by b.config x a.drivers a.answers) l
    ∙ ap (λ (x : List (List Step)). scenario_by b.config b.limits x a.answers) d ∙ ap (λ (x : List (List Outcome)). scenario_by b.config b.limits b.drivers x) o

-- lists of one length are equal where they have the same items
by_items : {X : Type 0} (xs ys : List (List X)) → length xs ≡ length ys → ((i : ℕ) → i < length xs → get_or xs i [] ≡ get_or ys i []) → xs ≡ ys
by_items [] [] size each = refl
by_items [] (y ∷ ys) size each = absurd (omega arith)
by_items (x ∷ xs) [] size each = absurd (omega arith)
by_items {X = X} (x ∷ xs) (y ∷ ys) size each =
    let first : x ≡ y = each 0 (omega arith) in
    let rest = by_items xs ys (omega arith) (λ i less. each (suc i) (omega arith)) in
    ap (λ (z : List X). z ∷ xs) first ∙ ap (λ (zs : List (List X)). y ∷ zs) rest

pub scenario_back : (s : Scenario) → IsScenario s → config_fault s.config ≡ None → scenario_of (manuscript_of s) ≡ s
unfolding scenario_of
scenario_back s h kept =
    let m = manuscript_of s in
    let made = scenario_of m in
    let start = empty_scenario s.config s.limits in
    let same = fold_lists start m.rows in
    let eight = h.eight in
    let lanes = h.lanes in
    let no_steps = length-replicate {A = List Step} 8 [] in
    let no_answers = length-replicate {A = List Outcome} (length s.config.lanes) [] in
    let drivers = by_items made.drivers s.drivers (same.drivers ∙ omega arith) (λ d less. let size = same.drivers in steps_in_order m d (omega arith) ∙ drivers_back s d h kept) in
    let answers = by_items made.answers s.answers (same.answers ∙ omega arith) (λ l less. let size = same.answers in answers_in_order m l (omega arith) ∙ lanes_back s l h kept) in
    same_scenario made s (scenario_config m) same.limits drivers answers

-- ---- the manuscript

least_holds : (c : Topology) → holds (trace_version (least_script c)) c ≡ true
least_holds c = by (holds version.One c) refl
  where
    by : (b : Bool) → holds version.One c ≡ b → holds (trace_version (least_script c)) c ≡ true
    by true e = rw e e
    by false e = rw e refl

no_answer : (c : Topology) (driver : ℕ) (one : Step) → is_answer_row (step_row c driver one) ≡ false
no_answer c driver (step.Pause round) = refl
no_answer c driver (step.Act (event.Submit by device priority retries flags)) = refl
no_answer c driver (step.Act (event.FreezeDev device count)) = refl
no_answer c driver (step.Act (event.ReleaseDev device count)) = refl
no_answer c driver (step.Act (event.FreezeSim sim count)) = refl
no_answer c driver (step.Act (event.ReleaseSim sim)) = refl
no_answer c driver (step.Act (event.Adjust device openings)) = refl
no_answer c driver (step.Act _) = refl

rows_counted : (s : Scenario) → (step_rows (rows_of s) ≡ sum_by length s.drivers) × (answer_rows (rows_of s) ≡ sum_by length s.answers)
rows_counted s =
    let steps = numbered (step_row s.config) 0 s.drivers in
    let answers = numbered row.Answer 0 s.answers in
    let a = count_numbered (λ x. not (is_answer_row x)) true (step_row s.config) 0 s.drivers (λ k x. ap not (no_answer s.config k x)) in
    let b = count_numbered (λ x. not (is_answer_row x)) false row.Answer 0 s.answers (λ k x. refl) in
    let p = count_numbered is_answer_row false (step_row s.config) 0 s.drivers (λ k x. no_answer s.config k x) in
    let q = count_numbered is_answer_row true row.Answer 0 s.answers (λ k x. refl) in
    let one = sum_by-append (λ x. cond (not (is_answer_row x)) 1 0) steps answers in
    let other = sum_by-append (λ x. cond (is_answer_row x) 1 0) steps answers in
    (omega arith, omega arith)

rows_ruled : (s : Scenario) → IsScenario s → config_fault s.config ≡ None → AllByRecursion (λ parsed. is_ok (item_of s.config parsed) ≡ true) (rows_of s)
rows_ruled s h kept =
    let c = s.config in
    let P : ScriptRow → Type 0 = λ parsed. is_ok (item_of c parsed) ≡ true in
    all_both P (numbered (step_row c) 0 s.drivers) (numbered row.Answer 0 s.answers)
    (keep_all P (step_row c) s.drivers (λ i less. all_mapped P (IsRuled c i) (step_row c i) (get_or s.drivers i []) (λ x ruled. rw (item_again c i x kept ruled) refl) (h.ruled i)))
    (keep_all P row.Answer s.answers (λ i less. all_mapped P IsAnswer (row.Answer i) (get_or s.answers i []) (λ x good. rw (answer_again c i x (lane_named s i h less) good) refl) (h.answered i)))

pub manuscript_kept : (s : Scenario) → IsScenario s → are_within s.limits ≡ true → config_fault s.config ≡ None → AllByRecursion (λ (d : Device). d.target ≤ 65535) s.config.devices
    → AllByRecursion FitsRow (numbered (step_row s.config) 0 s.drivers) → AllByRecursion FitsRow (numbered row.Answer 0 s.answers) → IsManuscript (manuscript_of s)
manuscript_kept s h within kept targets steps answers =
    let counted = rows_counted s in
    let few_steps = h.few_steps in
    let few_answers = h.few_answers in
    record {
      limits = within;
      config = kept;
      held = least_holds s.config;
      targets = targets;
      fits = all_both FitsRow (numbered (step_row s.config) 0 s.drivers) (numbered row.Answer 0 s.answers) steps answers;
      ruled = rows_ruled s h kept;
      steps = omega arith;
      answers = omega arith;
    }
