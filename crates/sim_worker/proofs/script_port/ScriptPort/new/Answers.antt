use Rattle.std.proofs.Common.{◌≡◌, List, [], get_or, sym, ap, ◌∙◌, Vec, Global, length, arith}
use Rattle.std.proofs.lemmas.List.{get_or-map, length-map}
use Rattle.cam_types.specs.declared.outcome.Outcome.{Outcome}
use Rattle.sim_worker.proofs.PortLemmas.{port-none}
use Rattle.sim_worker.proofs.script_port.ScriptPort.new.Goals as goal

pub invariant_of-result : goal.invariant_of-result
invariant_of-result c =
    let at_lane : c.index-answers-lane.result.items ≡ get_or c.args.script.now.answers c.args.lane [] =
    sym (ap (λ (ls : List (List Outcome)). get_or ls c.args.lane []) (sym c.answers.ensures.same)
    ∙ get_or-map (λ (l : Vec Outcome Global). l.items) c.answers.result.now c.args.lane c.index-answers-lane.result [] (omega (arith, c.requires, c.answers.ensures.kept.lanes, ap (λ (ls : List (List Outcome)). length ls) c.answers.ensures.same, length-map c.answers.result.now (λ (l : Vec Outcome Global). l.items))) ∙ ap (λ (l : Vec Outcome Global). l.items) (sym c.index-answers-lane.is)) in
    let there : c.extend_from_slice.new.self.items ≡ get_or c.args.script.now.answers c.args.lane [] = rw (c.in_ok-extend_from_slice.ensures.items, c.new-answers.ensures.items, c.deref.ensures.value) at_lane in
    rw (c.new.ensures.items) (port-none c.extend_from_slice.new.self.items (rw there (c.answers.ensures.kept.answered c.args.lane)))
