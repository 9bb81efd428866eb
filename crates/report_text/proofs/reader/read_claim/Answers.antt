use Rattle.std.proofs.Common.{List, ℕ, subst}
use Rattle.report_text.proofs.EndLemmas.{Gives, found_law, only_law, faults_law}
use Rattle.report_text.proofs.reader.read_claim.Goals as goal

pub returns-in-Ok-clause-found : goal.returns-in-Ok-clause-found
returns-in-Ok-clause-found g c =
    found_law c.args.net.now _ _ c.in-Ok.text.items c.read_text.result (rw c.max_bytes.ensures.same at c.in-Ok.ensures.whole)
    (subst (λ (t : List ℕ). Gives c.args.net.now t c.read_text.result) c.deref.ensures.value (record { ok = c.read_text.ensures.ok; err = c.read_text.ensures.err }))

pub returns-in-Ok-clause-only : goal.returns-in-Ok-clause-only
returns-in-Ok-clause-only g c = λ claim claims targets.
    only_law c.args.net.now _ _ c.in-Ok.text.items c.read_text.result claim (rw c.max_bytes.ensures.same at c.in-Ok.ensures.whole)
    (subst (λ (t : List ℕ). Gives c.args.net.now t c.read_text.result) c.deref.ensures.value (record { ok = c.read_text.ensures.ok; err = c.read_text.ensures.err })) claims targets

pub returns-in-Ok-clause-faults : goal.returns-in-Ok-clause-faults
returns-in-Ok-clause-faults g c =
    faults_law c.args.net.now _ _ _ c.in-Ok.text.items c.read_text.result (rw c.max_bytes.ensures.same at c.in-Ok.ensures.whole)
    (subst (λ (t : List ℕ). Gives c.args.net.now t c.read_text.result) c.deref.ensures.value (record { ok = c.read_text.ensures.ok; err = c.read_text.ensures.err }))
