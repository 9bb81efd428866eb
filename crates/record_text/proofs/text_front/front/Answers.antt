use Rattle.std.proofs.Common.{◌≡◌, ◌-◌, arith, drop, length, length-drop, take, take_all}
use Rattle.record_text.proofs.FrontLemmas.{front_at}
use Rattle.record_text.proofs.text_front.front.Goals as goal

pub returns-in-Some : goal.returns-in-Some
returns-in-Some c =
    let found = c.in-Some.ensures in
    let mark = c.mark_bytes-mark.ensures in
    let text = c.args.text.now in
    let at = c.mark_bytes-mark.result in
    let all : take (length text - at) (drop at text) ≡ drop at text = take_all (length text - at) (drop at text) (omega (arith, length-drop at text)) in
    front_at text at c.in-Some.end mark.rest mark.size (omega arith) found.1 (rw all at found.2)
