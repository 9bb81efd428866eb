use Rattle.std.proofs.Common.{◌<◌, ◌∙◌, List, [], length, ap, arith}
use Rattle.recording_file.specs.declared.cap.Cap.{Cap}
use Rattle.window_recordings.proofs.CapLemmas.{first_cap_next, first_caps_more, first_caps_same}
use Rattle.window_recordings.proofs.adding.add_first_caps.Goals as goal
use Rattle.window_recordings.proofs.adding.add_first_caps.Goals.{then-cap-round+in_ok-add_cap, else-cap-round}

pub add_cap-requires-clause-next : goal.add_cap-requires-clause-next
add_cap-requires-clause-next c =
    let r = c.args.recording.now in
    let n = c.loop-cap.cap-index in
    let same = c.caps-cap-items.ensures.same in
    let less : n < length r.caps = omega (arith, c.loop-cap-test.true, ap (λ (xs : List Cap). length xs) same) in
    let picked = rw same at c.if-cap-round.true in
    rw (c.loop-cap.invariant, c.first_cap.ensures, same) (first_cap_next r.rounds c.args.round r.config r.caps n _ c.caps-cap-items.ensures.kept.head.caps c.requires.some less picked)

pub loop-cap-preserved : goal.loop-cap-preserved
loop-cap-preserved c =
    let r = c.args.recording.now in
    let n = c.loop-cap.cap-index in
    let same = c.caps-cap-items.ensures.same in
    let less : n < length r.caps = omega (arith, c.loop-cap-test.true, ap (λ (xs : List Cap). length xs) same) in
    elim c.if-cap-round.branch [
      | then-cap-round+in_ok-add_cap w ↦
          let picked = rw same at w.if-cap-round.true in
          w.recorder-is ∙ w.in_ok-add_cap.ensures.ok ∙ rw (c.loop-cap.invariant, w.first_cap.ensures, same) (ap (λ (caps : List Cap). record r { rounds = c.args.round; requests = []; caps = caps }) (first_caps_more c.args.round r.caps n _ less picked))
      | else-cap-round w ↦
          let left = rw same at w.if-cap-round.false in
          w.recorder-is ∙ c.loop-cap.invariant ∙ ap (λ (caps : List Cap). record r { rounds = c.args.round; requests = []; caps = caps }) (first_caps_same c.args.round r.caps n _ less left)
    ]
