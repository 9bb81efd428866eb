use Rattle.std.proofs.Common.{◌≡◌, ◌<◌, ◌^◌, ℕ, take, map, get_or}
use Rattle.slots.specs.Gaps.{Wait, span_waited}
use Rattle.slots.proofs.spans.spans_waited.Given as goal

-- the spans so far
abbrev pub invariant-loop-wait : goal.invariant-loop-wait
invariant-loop-wait l = record {
  spans : l.spans.items ≡ map span_waited (take l.wait-index l.waits);
  fits : (k : ℕ) (d : Wait) → k < l.wait-index → (get_or l.waits k d).start < 2 ^ 64;
}
