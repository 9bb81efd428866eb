use Rattle.std.proofs.Common.{ap, ◌∙◌, sym, Some}
use Rattle.std.proofs.lemmas.Option.{slice_get-get_or}
use Rattle.xpt_lock.proofs.ConsistentLemmas.{stands_if_same, stands_nowhere}
use Rattle.xpt_lock.proofs.compare.stands.Goals as goal

pub returns-in-Some : goal.returns-in-Some
returns-in-Some c =
    let found = c.in-Some.ensures.lookup in
    stands_if_same _ _ c.in-Some.other.now _ (slice_get-get_or _ _ c.in-Some.other.now found.3.0 ∙ ap Some (sym found.1)) c.is_same.ensures

pub returns-in-None : goal.returns-in-None
returns-in-None c = stands_nowhere _ _ c.in-None.ensures.lookup.3
