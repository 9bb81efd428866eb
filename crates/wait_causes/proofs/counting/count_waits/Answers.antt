use Rattle.std.proofs.Common.{◌≡◌, ◌∙◌, ap, arith, Vec, get_or}
use Rattle.std.specs.Global.{Global}
use Rattle.wait_causes.specs.Counting.{IsWithin, causes_before, behind_before, key_of, IsFilled}
use Rattle.wait_causes.specs.Origins.{instance_in}
use Rattle.wait_causes.specs.Stays.{counted, ExplainedStay}
use Rattle.wait_causes.specs.declared.explained_stay.CauseRounds.{CauseRounds}
use Rattle.wait_causes.proofs.CountingLemmas.{blank, list_at, lists_length, filled_at, causes_length, behind_length, rows_more}
use Rattle.wait_causes.proofs.counting.count_waits.Goals as goal

pub index-causes-requires : goal.index-causes-requires
index-causes-requires c =
    let within = c.requires.within c.loop-stay.stay-index blank c.loop-stay-test.true in
    omega (arith, within.device, lists_length (causes_before c.args.origin.now) (instance_in c.args.origin.now).devices c.in_ok-causes.causes.items c.in_ok-causes.ensures)

pub counted-requires-clause-last : goal.counted-requires-clause-last
counted-requires-clause-last c =
    let o = c.args.origin.now in
    let s : ExplainedStay = get_or c.args.stays.now c.loop-stay.stay-index blank in
    let within : IsWithin (instance_in o) s = c.requires.within c.loop-stay.stay-index blank c.loop-stay-test.true in
    let causes : c.deref.result.now ≡ causes_before o s.device = c.deref.ensures.value ∙ ap (λ (v : Vec CauseRounds Global). v.items) c.index-causes.ensures
    ∙ list_at (causes_before o) (instance_in o).devices s.device c.in_ok-causes.causes.items c.index-causes.result.now c.in_ok-causes.ensures within.device in
    omega (arith, within.last, causes_length o s.device c.deref.result.now causes)

pub counted-requires-clause-end : goal.counted-requires-clause-end
counted-requires-clause-end c =
    let o = c.args.origin.now in
    let s : ExplainedStay = get_or c.args.stays.now c.loop-stay.stay-index blank in
    let within : IsWithin (instance_in o) s = c.requires.within c.loop-stay.stay-index blank c.loop-stay-test.true in
    let weight : c.from-weight.result ≡ s.weight = c.from-weight.ensures in
    let key : c.key_of.result ≡ key_of s.device s.weight = c.key_of.ensures ∙ ap (λ w. key_of s.device w) weight in
    let filled : IsFilled o s.device s.weight c.fill.new.behinds.items = rw weight at c.in_ok-fill.ensures.filled in
    let behinds : c.deref-in-loop-stay.result.now ≡ behind_before o s.device s.weight = c.deref-in-loop-stay.ensures.value
    ∙ filled_at o s.device s.weight c.key_of.result c.fill.new.behinds.items c.index.result.now c.in_ok-fill.ensures.kept within.device within.weight key filled c.index.ensures in
    omega (arith, within.last, behind_length o s.device s.weight c.deref-in-loop-stay.result.now behinds)

pub loop-stay-preserved : goal.loop-stay-preserved
loop-stay-preserved c =
    let o = c.args.origin.now in
    let s : ExplainedStay = get_or c.args.stays.now c.loop-stay.stay-index blank in
    let within : IsWithin (instance_in o) s = c.requires.within c.loop-stay.stay-index blank c.loop-stay-test.true in
    let causes : c.deref.result.now ≡ causes_before o s.device = c.deref.ensures.value ∙ ap (λ (v : Vec CauseRounds Global). v.items) c.index-causes.ensures
    ∙ list_at (causes_before o) (instance_in o).devices s.device c.in_ok-causes.causes.items c.index-causes.result.now c.in_ok-causes.ensures within.device in
    let weight : c.from-weight.result ≡ s.weight = c.from-weight.ensures in
    let key : c.key_of.result ≡ key_of s.device s.weight = c.key_of.ensures ∙ ap (λ w. key_of s.device w) weight in
    let filled : IsFilled o s.device s.weight c.fill.new.behinds.items = rw weight at c.in_ok-fill.ensures.filled in
    let behinds : c.deref-in-loop-stay.result.now ≡ behind_before o s.device s.weight = c.deref-in-loop-stay.ensures.value
    ∙ filled_at o s.device s.weight c.key_of.result c.fill.new.behinds.items c.index.result.now c.in_ok-fill.ensures.kept within.device within.weight key filled c.index.ensures in
    record {
      rows = rows_more (counted o) c.args.stays.now c.loop-stay.stay-index c.loop-stay.rows.items c.push.new.self.items c.counted.result blank c.loop-stay.invariant.rows c.in_ok-push.ensures.items (c.counted.ensures o causes behinds) c.loop-stay-test.true;
      kept = c.in_ok-fill.ensures.kept;
    }
