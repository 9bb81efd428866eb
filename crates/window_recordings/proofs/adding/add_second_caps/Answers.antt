use Rattle.std.proofs.Common.{◌<◌, ◌-◌, ◌∙◌, List, [], length, ap, arith}
use Rattle.recording_file.specs.declared.cap.Cap.{Cap}
use Rattle.window_recordings.proofs.CapLemmas.{second_cap_next, second_caps_more, second_caps_same}
use Rattle.window_recordings.proofs.adding.add_second_caps.Goals as goal
use Rattle.window_recordings.proofs.adding.add_second_caps.Goals.{then-round-cap+in_ok-add_cap, else-round-cap}

pub add_cap-requires-clause-next : goal.add_cap-requires-clause-next
add_cap-requires-clause-next c =
    let r = c.args.recording.now in
    let n = c.loop-cap.cap-index in
    let same = c.caps-cap-items.ensures.same in
    let less : n < length r.caps = omega (arith, c.loop-cap-test.true, ap (λ (xs : List Cap). length xs) same) in
    let picked = rw same at c.if-round-cap.true in
    rw (c.loop-cap.invariant, c.second_cap.ensures, same) (second_cap_next r.rounds c.args.round r.config r.caps n _ c.caps-cap-items.ensures.kept.head.caps c.requires.some less picked)

pub loop-cap-preserved : goal.loop-cap-preserved
loop-cap-preserved c =
    let r = c.args.recording.now in
    let n = c.loop-cap.cap-index in
    let same = c.caps-cap-items.ensures.same in
    let less : n < length r.caps = omega (arith, c.loop-cap-test.true, ap (λ (xs : List Cap). length xs) same) in
    elim c.if-round-cap.branch [
      | then-round-cap+in_ok-add_cap w ↦
          let picked = rw same at w.if-round-cap.true in
          w.recorder-is ∙ w.in_ok-add_cap.ensures.ok ∙ rw (c.loop-cap.invariant, w.second_cap.ensures, same) (ap (λ (caps : List Cap). record r { rounds = r.rounds - c.args.round; requests = []; caps = caps }) (second_caps_more c.args.round r.caps n _ less picked))
      | else-round-cap w ↦
          let left = rw same at w.if-round-cap.false in
          w.recorder-is ∙ c.loop-cap.invariant ∙ ap (λ (caps : List Cap). record r { rounds = r.rounds - c.args.round; requests = []; caps = caps }) (second_caps_same c.args.round r.caps n _ less left)
    ]
