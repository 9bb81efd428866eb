use Rattle.std.proofs.Common.{◌≡◌, ◌∙◌, ◌+◌, ◌++◌, ◌∷◌, [], ap, sym, subst, arith, length, get_or, take, List, Option}
use Rattle.std.proofs.lemmas.List.{take_more, take_all}
use Rattle.wait_causes.specs.declared.explained_stay.ExplainedStay.{ExplainedStay}
use Rattle.wait_causes.proofs.CountingLemmas.{blank}
use Rattle.wait_causes.specs.InTheWay.{ArePut}
use Rattle.wait_causes.specs.BlameLists.{stays_in}
use Rattle.wait_causes.proofs.WayLemmas.{AreWays, ways_none, ways_more, ways_all, written_back}
use Rattle.wait_causes.proofs.blame.in_way.in_way_of.Goals as goal

pub loop-stay-init : goal.loop-stay-init
loop-stay-init c = ways_none c.args.explanation.now.origin c.args.device c.rounds.result c.in_ok-ways.ways.items c.rounds.ensures c.in_ok-ways.ensures

pub note-requires-clause-all : goal.note-requires-clause-all
note-requires-clause-all c = ap (λ (ws : List (Option ExplainedStay)). length ws) c.deref_mut.ensures.value ∙ c.loop-stay.invariant.all

pub loop-stay-preserved : goal.loop-stay-preserved
loop-stay-preserved c =
    let o = c.args.explanation.now.origin in
    let list = c.near-stay-items.result.now in
    let s : ExplainedStay = get_or list c.loop-stay.stay-index blank in
    let more : take (c.loop-stay.stay-index + 1) list ≡ take c.loop-stay.stay-index list ++ s ∷ [] = take_more list c.loop-stay.stay-index blank c.loop-stay-test.true in
    let put : ArePut o c.args.device s c.loop-stay.ways.items c.note.new.ways = rw (sym c.deref_mut.ensures.value) c.note.ensures in
    let long : length c.loop-stay.ways.items ≡ c.loop-stay.ways.len = ap (λ (ws : List (Option ExplainedStay)). length ws) (sym c.deref_mut.ensures.value) ∙ c.deref_mut.ensures.len in
    let back = written_back c.note.new.ways c.loop-stay.ways.items c.loop-stay.ways.len (put.all ∙ long) long in
    rw (more, back) (ways_more o c.args.device (take c.loop-stay.stay-index list) s c.loop-stay.ways.items c.note.new.ways c.loop-stay.invariant put)

pub returns : goal.returns
returns c =
    let e = c.args.explanation.now in
    let list = c.near-stay-items.result.now in
    let all : take c.loop-stay.stay-index list ≡ list = take_all c.loop-stay.stay-index list (omega (arith, c.loop-stay-test.false)) in
    ways_all e.origin c.args.device (stays_in e) list c.loop-stay.ways.items c.near-stay-items.ensures (subst (λ (xs : List ExplainedStay). AreWays e.origin c.args.device xs c.loop-stay.ways.items) all c.loop-stay.invariant)
