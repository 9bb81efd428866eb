use Rattle.std.proofs.Common.{◌≡◌, length, take, drop, map, Some}
use Rattle.camxpt_c.specs.EventShapes.{event_of}
use Rattle.camxpt_c.proofs.events.copy.Given as goal

-- those before k are copied
abbrev pub invariant-loop-k : goal.invariant-loop-k
invariant-loop-k l = record {
  copied : map event_of (take l.k l.shapes) ≡ map Some (take l.k l.events);
  rest : drop l.k l.shapes ≡ drop l.k l.fn.shapes;
  long : length l.shapes ≡ length l.fn.shapes;
}
