use Rattle.std.proofs.Common.{◌≡◌, ◌∙◌, ap, arith, replicate, []}
use Rattle.wait_causes.proofs.CountingLemmas.{empty_more, empty_totals}
use Rattle.wait_causes.proofs.counting.no_totals.Goals as goal

pub loop-key-preserved : goal.loop-key-preserved
loop-key-preserved c = empty_more c.loop-key._key c.loop-key.totals.items c.push.new.self.items c.new.result c.loop-key.invariant c.in_ok-push.ensures.items c.new.ensures.items

pub returns : goal.returns
returns c = λ o same.
    let all : c.loop-key._key ≡ c.key_of-count.result = omega (arith, c.loop-key-test.false, c.loop-key.auto._key-end) in
    empty_totals o c.loop-key.totals.items c.key_of-count.result c.args.devices c.key_of-count.ensures same (c.loop-key.invariant ∙ ap (λ n. replicate n []) all)
