use Rattle.std.proofs.Common.{◌≡◌, ◌∙◌, ap, subst, rules, refl, inr, None, Err}
use Rattle.camxpt_c.specs.Keeping.{Keeping}
use Rattle.camxpt_c.specs.declared.codes.TheConstants.{E_MEMORY, E_WINDOW}
use Rattle.recorder.specs.Windows.{IsMaking}
use Rattle.camxpt_c.proofs.MakingLemmas.{if_none, making_weaker, none_lost, none_lost_ok}
use Rattle.camxpt_c.proofs.recorder_port.RecorderPort.make.Goals as goal

pub returns-in-Err-OutOfMemory-clause-making : goal.returns-in-Err-OutOfMemory-clause-making
returns-in-Err-OutOfMemory-clause-making c =
    let no_text : c.args.self.now.text ≡ None = search rules in
    let memory = c.in-Err-OutOfMemory.is ∙ ap Err c.in-Err-OutOfMemory.field-0-is in
    let making = making_weaker _ (E_MEMORY ≡ E_WINDOW) _ _ (none_lost c.make_window.result _ memory) c.make_window.ensures.making in
    if_none c.args.self.now.text _ _ no_text (subst (λ (k : Keeping). IsMaking (E_MEMORY ≡ E_WINDOW) k.recorded c.make_window.new.self) c.self.view_is making)

pub returns-in-Err : goal.returns-in-Err
returns-in-Err c =
    let no_text : c.args.self.now.text ≡ None = search rules in
    let making = making_weaker _ (E_WINDOW ≡ E_WINDOW) _ _ (λ _. refl) c.make_window.ensures.making in
    record {
      making = if_none c.args.self.now.text _ _ no_text (subst (λ (k : Keeping). IsMaking (E_WINDOW ≡ E_WINDOW) k.recorded c.make_window.new.self) c.self.view_is making);
      ok = tt;
      err = (search rules, inr refl);
    }

pub returns-in_default-text_of-clause-making : goal.returns-in_default-text_of-clause-making
returns-in_default-text_of-clause-making c =
    let no_text : c.args.self.now.text ≡ None = search rules in
    let making = making_weaker _ (E_MEMORY ≡ E_WINDOW) _ _ (none_lost_ok c.make_window.result c.in-Ok.field-0 _ c.in-Ok.is) c.make_window.ensures.making in
    if_none c.args.self.now.text _ _ no_text (subst (λ (k : Keeping). IsMaking (E_MEMORY ≡ E_WINDOW) k.recorded c.make_window.new.self) c.self.view_is making)
