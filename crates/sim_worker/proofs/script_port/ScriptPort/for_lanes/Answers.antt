use Rattle.std.proofs.Common.{◌≡◌, ◌<◌, ◌∙◌, ◌+◌, ℕ, List, [], ◌∷◌, ◌++◌, length, map, arith, ap, sym, subst, length-append, All, take}
use Rattle.std.proofs.lemmas.List.{map-append, take_all, take_more}
use Rattle.std.proofs.lemmas.List.Elements.{All-push}
use Rattle.sim_worker.specs.Words.{Topology, Outcome}
use Rattle.sim_worker.specs.declared.script_port.ScriptPort.{ScriptPort}
use Rattle.event_rules.proofs.LaneCount.{few_lanes}
use Rattle.sim_worker.proofs.script_port.ScriptPort.for_lanes.Goals as goal

pub overflow_cast-lane : goal.overflow_cast-lane
overflow_cast-lane c = omega (arith, c.loop-lane-test.true, few_lanes _ c.lanes-count.ensures.kept, ap (λ (ls : List ℕ). length ls) c.lanes-count.ensures.same)

pub loop-lane-preserved : goal.loop-lane-preserved
loop-lane-preserved c =
    let old = c.loop-lane.ports.items in
    let more = c.in_ok-push.ensures.items in
    let i = c.loop-lane.lane in
    let answers = c.args.script.now.answers in
    let within : i < length answers = omega (arith, c.loop-lane-test.true, c.answers-answers.ensures.kept.lanes, ap (λ (ls : List ℕ). length ls) c.lanes-count.ensures.same, ap (λ (t : Topology). length t.lanes) c.config.ensures) in
    record {
      count = ap (λ (ps : List ScriptPort). length ps) more ∙ length-append old _ ∙ ap (λ n. n + 1) c.loop-lane.invariant.count;
      answers = ap (map (λ (p : ScriptPort). p.answers)) more ∙ map-append (λ (p : ScriptPort). p.answers) old _
          ∙ ap (λ (front : List (List Outcome)). front ++ c.in_ok-new.field-0.answers ∷ []) c.loop-lane.invariant.answers
          ∙ ap (λ (one : List Outcome). take i answers ++ one ∷ []) c.in_ok-new.ensures.answers
          ∙ sym (take_more answers i [] within);
      fresh = subst (All (λ (p : ScriptPort). p.served ≡ [])) (sym more) (All-push (λ (p : ScriptPort). p.served ≡ []) old _ c.loop-lane.invariant.fresh c.in_ok-new.ensures.served);
    }

pub returns-clause-answers : goal.returns-clause-answers
returns-clause-answers c = c.loop-lane.invariant.answers
    ∙ take_all c.loop-lane.lane c.args.script.now.answers (omega (arith, c.loop-lane-test.false, c.answers-answers.ensures.kept.lanes, ap (λ (ls : List ℕ). length ls) c.lanes-count.ensures.same, ap (λ (t : Topology). length t.lanes) c.config.ensures))
