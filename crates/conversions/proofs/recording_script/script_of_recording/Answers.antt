use Rattle.std.proofs.Common.{◌≡◌, true, ap, sym, subst, ◌∙◌, arith, length}
use Rattle.std.specs.List.{list_all}
use Rattle.cam_types.specs.Topology.{Topology}
use Rattle.event_rules.specs.Laws.{is_in_range}
use Rattle.conversions.specs.Arrivals.{Arrival, requested}
use Rattle.conversions.proofs.RecordingScriptLemmas.{size_none, requested_many, requested_ranged, lanes_of, none_many, none_answer, none_few}
use Rattle.conversions.proofs.recording_script.script_of_recording.Goals as goal

pub config_of-requires : goal.config_of-requires
config_of-requires c = (size_none c.args.recording.now (sym c.size_fault.ensures ∙ c.in_default.is)).0

pub script_by-requires-clause-short : goal.script_by-requires-clause-short
script_by-requires-clause-short c =
    let few = (size_none c.args.recording.now (sym c.size_fault.ensures ∙ c.in_default.is)).1 in
    omega (arith, ap length (c.deref.ensures.value ∙ c.in_ok-all.ensures), requested_many c.requests.result.now, ap length c.requests.ensures.same, few)

pub script_by-requires-clause-ruled : goal.script_by-requires-clause-ruled
script_by-requires-clause-ruled c =
    let r = c.args.recording.now in
    let all = c.deref.ensures.value ∙ c.in_ok-all.ensures ∙ ap requested c.requests.ensures.same in
    subst (λ (t : Topology). list_all (λ (a : Arrival). is_in_range t a.submission) c.deref.result.now ≡ true) (sym c.in_ok-config.ensures.config) (rw all (requested_ranged r c.requests.ensures.kept.requests))

pub script_by-requires-clause-lanes : goal.script_by-requires-clause-lanes
script_by-requires-clause-lanes c =
    let r = c.args.recording.now in
    let adapters = ap length (c.adapters.ensures.same ∙ ap (λ (t : Topology). t.adapters) c.config.ensures.same) in
    none_many _ c.in_ok-answers.answers.items c.in_ok-answers.ensures ∙ adapters ∙ sym (lanes_of r) ∙ sym (ap (λ (t : Topology). length t.lanes) c.in_ok-config.ensures.config)

pub script_by-requires-clause-answered : goal.script_by-requires-clause-answered
script_by-requires-clause-answered c = none_answer _ c.in_ok-answers.answers.items c.in_ok-answers.ensures

pub script_by-requires-clause-few : goal.script_by-requires-clause-few
script_by-requires-clause-few c = none_few _ c.in_ok-answers.answers.items c.in_ok-answers.ensures
