use Rattle.std.proofs.Common.{◌≡◌, ◌∙◌, ◌++◌, ◌∷◌, List, [], ap, arith, length, map, sym}
use Rattle.std.proofs.lemmas.List.{length-map, map-append}
use Rattle.cam_types.specs.Topology.{IsConfig}
use Rattle.event_rules.proofs.LaneCount.{few_lanes}
use Rattle.record_text.specs.Text.{Row}
use Rattle.trace_file.specs.Scenarios.{Scenario}
use Rattle.trace_file.specs.Script.{config_rows, script_records}
use Rattle.trace_file.specs.ScriptRows.{limits_row, script_header, script_row}
use Rattle.trace_file.specs.declared.script_row.ScriptRow.TheVariants as row
use Rattle.trace_file.specs.ScriptVersions.{least_script}
use Rattle.trace_file.specs.ScriptWriting.{manuscript_of, numbered, step_row, script_text}
use Rattle.trace_file.proofs.ScriptBack.{manuscript_kept, scenario_back}
use Rattle.trace_file.proofs.ScriptTextLaws.{is_script}
use Rattle.record_text.proofs.WritingLemmas.{wrote_both}
use Rattle.trace_file.proofs.script_text.text_of.Goals as goal
use Rattle.record_text.specs.Header.{header_row}

-- the records in the order in which they are written
in_order : (s : Scenario)
    → script_header (least_script s.config) ∷ (limits_row s.limits ∷ (config_rows (least_script s.config) s.config ++ (map script_row (numbered (step_row s.config) 0 s.drivers) ++ map script_row (numbered row.Answer 0 s.answers)))) ≡ script_records (manuscript_of s)
unfolding script_records
in_order s =
    ap (λ (l : List Row). script_header (least_script s.config) ∷ (limits_row s.limits ∷ (config_rows (least_script s.config) s.config ++ l)))
    (sym (map-append script_row (numbered (step_row s.config) 0 s.drivers) (numbered row.Answer 0 s.answers)))

pub write_drivers-requires-clause-ruled : goal.write_drivers-requires-clause-ruled
write_drivers-requires-clause-ruled c = rw (← c.config-config.ensures, ← c.drivers.ensures.same) at c.drivers.ensures.kept.ruled

pub write_answers-requires-clause-few : goal.write_answers-requires-clause-few
write_answers-requires-clause-few c =
    let t = c.args.script.now.config in
    let config : IsConfig t = rw c.config-config.ensures at c.in_ok-write_config.ensures.kept in
    let few = few_lanes t config in
    let lanes = c.answers.ensures.kept.lanes in
    let size = length-map c.answers.result.now (λ l. l.items) in
    let same = ap length c.answers.ensures.same in
    omega arith

pub returns-in-Ok-clause-text : goal.returns-in-Ok-clause-text
unfolding script_text header_row
returns-in-Ok-clause-text c =
    let s = c.args.script.now in
    let v = least_script s.config in
    let version : c.least-version.result ≡ v = rw c.config-config.ensures at c.least-version.ensures in
    let head = rw (c.name.ensures, version) at c.in_ok-write_row.ensures in
    let limits = rw c.limits.ensures at c.in_ok-write_limits.ensures.rows in
    let config = rw (c.traces.ensures, version, c.config-config.ensures) at c.in_ok-write_config.ensures.rows in
    let drivers = rw (c.config-config.ensures, c.drivers.ensures.same) at c.in_ok-write_drivers.ensures.rows in
    let answers = rw c.answers.ensures.same at c.in_ok-write_answers.ensures.rows in
    let all = wrote_both _ _ _ (script_header v ∷ []) _ head
    (wrote_both _ _ _ (limits_row s.limits ∷ []) _ limits
    (wrote_both _ _ _ (config_rows v s.config) _ config
    (wrote_both _ _ _ (map script_row (numbered (step_row s.config) 0 s.drivers)) (map script_row (numbered row.Answer 0 s.answers)) drivers answers))) in
    let whole = rw (in_order s) at all.text in
    let from = c.from_writer-writer.ensures in
    c.in-Ok.ensures.ok ∙ (rw (from.wtr, c.new-2.ensures.items, from.empty) at whole)

pub returns-in-Ok-clause-kept : goal.returns-in-Ok-clause-kept
returns-in-Ok-clause-kept c =
    let config = rw c.config-config.ensures at c.in_ok-write_config.ensures.kept in
    manuscript_kept c.args.script.now c.answers.ensures.kept (rw c.limits.ensures at c.in_ok-write_limits.ensures.within) config.kept (rw c.config-config.ensures at c.in_ok-write_config.ensures.fits)
    (rw (c.config-config.ensures, c.drivers.ensures.same) at c.in_ok-write_drivers.ensures.fits) (rw c.answers.ensures.same at c.in_ok-write_answers.ensures.fits)

pub returns-in-Ok-clause-script : goal.returns-in-Ok-clause-script
unfolding script_text
returns-in-Ok-clause-script c =
    let config = rw c.config-config.ensures at c.in_ok-write_config.ensures.kept in
    let kept = manuscript_kept c.args.script.now c.answers.ensures.kept (rw c.limits.ensures at c.in_ok-write_limits.ensures.within) config.kept (rw c.config-config.ensures at c.in_ok-write_config.ensures.fits)
    (rw (c.config-config.ensures, c.drivers.ensures.same) at c.in_ok-write_drivers.ensures.fits) (rw c.answers.ensures.same at c.in_ok-write_answers.ensures.fits) in
    is_script (manuscript_of c.args.script.now) kept

pub returns-in-Ok-clause-same : goal.returns-in-Ok-clause-same
returns-in-Ok-clause-same c =
    let config = rw c.config-config.ensures at c.in_ok-write_config.ensures.kept in
    scenario_back c.args.script.now c.answers.ensures.kept config.kept
