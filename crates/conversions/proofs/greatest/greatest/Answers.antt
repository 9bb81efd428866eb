use Rattle.std.proofs.Common.{◌≡◌, ◌+◌, ap, ◌∙◌, arith, slice_index}
use Rattle.recording_file.specs.Caps.{cap_in}
use Rattle.recording_file.specs.declared.part.Part.{Part}
use Rattle.conversions.specs.RecordingScript.{greatest, greatest_to}
use Rattle.conversions.proofs.GreatestLemmas.{greatest_more}
use Rattle.conversions.proofs.greatest.greatest.Goals as goal

pub loop-before-preserved : goal.loop-before-preserved
loop-before-preserved c =
    let r = c.args.recording.now in
    let p : Part = record { kind = c.args.kind; number = c.args.number } in
    let n = c.loop-before.before in
    let rounds = c.rounds-rounds.ensures.same in
    let held = c.requires.caps.each p (n + 1) (record { part = c.requires.part; some = omega arith; most = omega (arith, c.loop-before-test.true, rounds) }) in
    let place = rw rounds at c.cell_of.ensures.place in
    greatest_more (cap_in r.config r.caps p) n c.loop-before.most c.greater-most.result (slice_index c.args.caps.now c.cell_of.result) c.loop-before.invariant (ap (slice_index c.args.caps.now) place ∙ held) c.greater-most.ensures

pub returns : goal.returns
unfolding greatest
returns c =
    let r = c.args.recording.now in
    let all : c.loop-before.before ≡ r.rounds = omega (arith, c.loop-before-test.false, c.rounds-rounds.ensures.same, c.loop-before.auto.before-end) in
    c.loop-before.invariant ∙ ap (greatest_to (cap_in r.config r.caps (record { kind = c.args.kind; number = c.args.number }))) all
