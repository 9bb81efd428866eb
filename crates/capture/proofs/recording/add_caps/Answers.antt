use Rattle.std.proofs.Common.{◌≡◌, ◌∙◌, ap, arith}
use Rattle.std.specs.List.{flat_map}
use Rattle.recording_file.specs.Caps.{openings}
use Rattle.recording_file.specs.Recorded.{Recorded}
use Rattle.capture.specs.Captured.{cap_of, part_caps}
use Rattle.capture.proofs.CapLemmas.{caps_before, runs_of_row}
use Rattle.capture.proofs.CauseLemmas.{cap_few}
use Rattle.capture.proofs.PartLemmas.{parts_there, earlier_parts}
use Rattle.capture.proofs.RecorderLemmas.{caps_none, caps_part, caps_all}
use Rattle.capture.proofs.recording.add_caps.Goals as goal

pub loop-part-init : goal.loop-part-init
loop-part-init c = caps_none c.args.recorder.now c.requires.empty

pub cap_row-requires-clause-there : goal.cap_row-requires-clause-there
cap_row-requires-clause-there c =
    rw c.requires.parts (parts_there c.args.config.now c.loop-part.part-index _ (rw c.requires.parts at c.loop-part-test.true))

pub add_runs-requires-clause-there : goal.add_runs-requires-clause-there
add_runs-requires-clause-there c =
    rw (c.loop-part.invariant, c.requires.config, c.requires.parts) (parts_there c.args.config.now c.loop-part.part-index _ (rw c.requires.parts at c.loop-part-test.true))

pub add_runs-requires-clause-size : goal.add_runs-requires-clause-size
add_runs-requires-clause-size c = let row = c.in_ok-row.ensures in rw (c.deref.ensures.value, ← c.rounds.ensures.same) row.size

pub add_runs-requires-clause-most : goal.add_runs-requires-clause-most
add_runs-requires-clause-most c = λ round some few.
    let row = c.in_ok-row.ensures in
    let rounds : c.rounds.result ≡ c.args.recorder.now.rounds = c.rounds.ensures.same ∙ ap (λ (r : Recorded). r.rounds) c.loop-part.invariant in
    let same = c.rounds.ensures.same in
    rw (c.deref.ensures.value, row.each round (omega arith)) (cap_few c.args.config.now c.args.rated.now c.args.«open».now c.args.spare.now c.args.requests.now _ _ round c.requires.kept (c.requires.crowds round some (omega arith)))

pub add_runs-requires-clause-before : goal.add_runs-requires-clause-before
add_runs-requires-clause-before c =
    let a = c.args in
    rw (c.loop-part.invariant, c.requires.parts) (caps_before (cap_of a.config.now a.rated.now a.«open».now a.spare.now a.requests.now) (openings a.config.now) a.recorder.now.rounds _ _ (earlier_parts a.config.now c.loop-part.part-index _ (rw c.requires.parts at c.loop-part-test.true)))

pub loop-part-preserved : goal.loop-part-preserved
loop-part-preserved c =
    let a = c.args in
    let rounds : c.loop-part.recorder.rounds ≡ a.recorder.now.rounds = ap (λ (r : Recorded). r.rounds) c.loop-part.invariant in
    caps_part a.recorder.now c.loop-part.recorder c.add_runs.new.recorder (part_caps a.config.now a.rated.now a.«open».now a.spare.now a.requests.now a.recorder.now.rounds) a.parts.now c.loop-part.part-index _ _ c.loop-part-test.true c.loop-part.invariant
    (runs_of_row a.config.now a.rated.now a.«open».now a.spare.now a.requests.now _ c.in_ok-row.row.items c.deref.result.now c.openings.result c.rounds.result c.loop-part.recorder.rounds a.recorder.now.rounds c.deref.ensures.value c.in_ok-row.ensures c.openings.ensures c.rounds.ensures.same rounds)
    c.in_ok-add_runs.ensures

pub returns : goal.returns
returns c =
    let a = c.args in
    caps_all a.recorder.now c.loop-part.recorder (part_caps a.config.now a.rated.now a.«open».now a.spare.now a.requests.now a.recorder.now.rounds) a.parts.now c.loop-part.part-index c.loop-part-test.false c.loop-part.invariant ∙ ap (λ ps. record a.recorder.now { caps = flat_map (part_caps a.config.now a.rated.now a.«open».now a.spare.now a.requests.now a.recorder.now.rounds) ps }) c.requires.parts
