use Rattle.std.proofs.Common.{◌∙◌, ap, sym, refl}
use Rattle.wait_causes.specs.Behind.{behind_in, behind_by}
use Rattle.wait_causes.specs.Origins.{instance_in, live_in, cause_of}
use Rattle.wait_causes.specs.Stays.{rounds_by}
use Rattle.wait_causes.specs.Totals.{totals_by}
use Rattle.wait_causes.proofs.CountingLemmas.{causes_length, behind_length}
use Rattle.wait_causes.proofs.counting.counted.Goals as goal

pub returns : goal.returns
returns c = λ o causes behinds.
    let s = c.args.stay.now in
    let of_causes = c.rounds_between.ensures (cause_of o s.device) (causes ∙ ap (λ n. totals_by rounds_by (cause_of o s.device) n) (sym (causes_length o s.device c.args.causes.now causes))) in
    let of_behinds = c.behind_between.ensures (behind_in (instance_in o) (live_in o) (cause_of o) s.device s.weight)
    (behinds ∙ ap (λ n. totals_by behind_by (behind_in (instance_in o) (live_in o) (cause_of o) s.device s.weight) n) (sym (behind_length o s.device s.weight c.args.behinds.now behinds))) in
    rw (of_causes, of_behinds) refl
