use Rattle.std.proofs.Common.{◌∙◌, ap, arith, length, List}
use Rattle.wait_causes.specs.Stays.{ExplainedStay}
use Rattle.wait_causes.specs.Words.{MAX_NET_STAYS}
use Rattle.wait_causes.proofs.TableLemmas.{few_of}
use Rattle.wait_causes.proofs.limit.limit_counts.Goals as goal

pub counts_of-requires-in-Of-clause-few : goal.counts_of-requires-in-Of-clause-few
counts_of-requires-in-Of-clause-few c =
    omega (
      arith,
      ap (λ (xs : List ExplainedStay). length xs) (c.deref.ensures.value ∙ c.in_ok-chosen-in-Of.ensures),
      few_of c.in-Of.by c.args.stays.now c.in-Of.number MAX_NET_STAYS c.requires.few,
    )
