use Rattle.std.proofs.Common.{arith, refl}
use Rattle.slots.proofs.TallyLemmas.{IsTally-more}
use Rattle.slots.proofs.tally.Tally.add_span.Goals as goal

pub returns-clause-tally : goal.returns-clause-tally
returns-clause-tally c = λ times h. IsTally-more c.args.clock c.args.from c.args.until c.args.self.now.row.items c.deref_mut.result.now c.spread.new.row _ c.args.self.now.row.len c.args.self.now.total (omega (arith, c.args.self.now.row.ok.0)) c.deref_mut.ensures.value c.spread.ensures.size refl c.spread.ensures.rows times h
