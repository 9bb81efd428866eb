use Rattle.std.proofs.Common.{◌≡◌, ◌<◌, ◌∙◌, ◌∷◌, ◌++◌, [], sym, ap, length, length-append, append_assoc, arith}
use Rattle.std.proofs.lemmas.Bool.{eqb-false}
use Rattle.recording_file.specs.Recorded.{Recorded}
use Rattle.capture.proofs.FaultLemmas.{name_found, name_more}
use Rattle.capture.proofs.FoundLemmas.{first_removed}
use Rattle.capture.proofs.RecorderLemmas.{named_again}
use Rattle.capture.proofs.recording.add_names.Goals as goal

pub returns-then-not-takes_name-clause-err : goal.returns-then-not-takes_name-clause-err
returns-then-not-takes_name-clause-err c = λ _.
    let h = c.loop-names.invariant in
    let some : 0 < length c.loop-names.names.items = let ne = eqb-false _ _ (sym c.is_empty.ensures ∙ c.loop-names-test.true) in omega arith in
    let split = first_removed c.loop-names.names.items c.remove-name.new.self.items c.remove-name.result some c.remove-name.ensures.value c.remove-name.ensures.items in
    name_found c.loop-names.recorder.config c.args.recorder.now.config c.loop-names.recorder.names c.loop-names.names.items c.args.names.items c.remove-name.result c.remove-name.new.self.items c.loop-names.number (ap (λ (r : Recorded). r.config) h.recorder) h.all split h.number h.none (sym c.takes_name.ensures ∙ c.if-not-takes_name.true)

pub loop-names-preserved : goal.loop-names-preserved
loop-names-preserved c =
    let h = c.loop-names.invariant in
    let some : 0 < length c.loop-names.names.items = let ne = eqb-false _ _ (sym c.is_empty.ensures ∙ c.loop-names-test.true) in omega arith in
    let split = first_removed c.loop-names.names.items c.remove-name.new.self.items c.remove-name.result some c.remove-name.ensures.value c.remove-name.ensures.items in
    let new = c.in_ok-add_name.ensures.ok in
    let names : c.add_name.new.self.names ≡ c.loop-names.recorder.names ++ c.remove-name.result ∷ [] = ap (λ (r : Recorded). r.names) new in
    let config : c.add_name.new.self.config ≡ c.loop-names.recorder.config = ap (λ (r : Recorded). r.config) new in
    record {
      recorder = named_again c.args.recorder.now c.loop-names.recorder c.add_name.new.self _ h.recorder new;
      all = rw names (append_assoc c.loop-names.recorder.names (c.remove-name.result ∷ []) c.remove-name.new.self.items ∙ ap (λ ns. c.loop-names.recorder.names ++ ns) (sym split) ∙ h.all);
      none = rw (names, config) (name_more c.loop-names.recorder.config c.loop-names.recorder.names c.remove-name.result h.none (sym c.takes_name.ensures ∙ c.if-not-takes_name.false));
      number = rw names (omega (arith, h.number, length-append c.loop-names.recorder.names (c.remove-name.result ∷ [])));
    }
