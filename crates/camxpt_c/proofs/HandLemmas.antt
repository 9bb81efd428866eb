-- How many CCBs go on.
use Rattle.std.proofs.Common.{◌≡◌, ℕ, List, length, sym, ap, ◌∙◌, arith}
use Rattle.std.proofs.lemmas.List.{length-map}
use Rattle.std.proofs.lemmas.List.FromFn.{length-range_with_len}
use Rattle.cam_types.specs.Bounds.{Bounds}
use Rattle.cam_types.specs.Topology.{Topology}
use Rattle.event_rules.specs.Counts.{ccbs, commands}
use Rattle.event_rules.specs.declared.event.Event.{Event}
use Rattle.event_rules.specs.declared.passage.Passage.{Passage}
use Rattle.xpt_carry.specs.Carry.{carried, carrying, left_of}
use Rattle.xpt_carry.proofs.CcbLemmas.{ccbs_kept}
use Rattle.xpt_core.specs.Transport.{Transport}
use Rattle.camxpt_c.specs.Carries.{gone_on, old_numbers}

-- a fresh transport has as many CCBs as stays were carried over
as_many : (c : Topology) (es : List Event) → commands (carrying c es) ≡ length (carried es)
as_many c es =
    omega (arith, length-map (ccbs (carrying c es)) (left_of (carrying c es)), ap length (ccbs_kept c es), length-map (carried es) (λ (p : Passage). left_of es p.ccb), length-range_with_len 0 (commands (carrying c es)))

pub carried_count : (t new : Transport) (bounds : Bounds) (ns : List ℕ) → ns ≡ old_numbers t → new ≡ gone_on t bounds → length ns ≡ commands new.events
carried_count t new bounds ns numbers made =
    ap length numbers ∙ length-map (carried t.events) (λ (p : Passage). p.ccb) ∙ sym (as_many t.config t.events) ∙ ap (λ (x : Transport). commands x.events) (sym made)
