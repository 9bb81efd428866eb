use Rattle.std.proofs.Common.{◌≡◌, ◌∙◌, ◌∷◌, [], ◌++◌, length, map, get_or, sym, ap, arith, append_assoc, length-append}
use Rattle.std.specs.Vec.Iter.{into_iter_items}
use Rattle.sim_worker.proofs.PortLemmas.{in_middle}
use Rattle.sim_worker.proofs.handed.hand_in.Goals as goal

pub new-requires : goal.new-requires
new-requires g c =
    let at = c.loop-port in
    let f = g.P.Port.answers in
    let steps : into_iter_items at.port-iterator ≡ c.in-Some.port ∷ into_iter_items c.next.new.self = c.in-Some.ensures.steps.0 in
    let here : c.len-lane.result ≡ length at.yielded = omega (arith, c.len-lane.ensures, at.lanes.ok.0, at.invariant.count) in
    let all : at.yielded ++ c.in-Some.port ∷ into_iter_items c.next.new.self ≡ c.args.ports.items = rw (← steps) at.invariant.rest in
    sym (c.requires c.len-lane.result ∙ ap (λ n. get_or (map (λ p. f p) c.args.ports.items) n []) here ∙ ap (λ ps. get_or (map (λ p. f p) ps) (length at.yielded) []) (sym all)
    ∙ in_middle (λ p. f p) at.yielded c.in-Some.port (into_iter_items c.next.new.self))

pub loop-port-preserved : goal.loop-port-preserved
loop-port-preserved g c =
    let at = c.loop-port in
    let steps : into_iter_items at.port-iterator ≡ c.in-Some.port ∷ into_iter_items c.next.new.self = c.in-Some.ensures.steps.0 in
    record {
      rest = append_assoc at.yielded (c.in-Some.port ∷ []) _ ∙ rw (← steps) at.invariant.rest;
      count = omega (arith, ap length c.in_ok-push.ensures.items, length-append at.lanes.items (c.new.result ∷ []), length-append at.yielded (c.in-Some.port ∷ []), at.invariant.count);
    }
