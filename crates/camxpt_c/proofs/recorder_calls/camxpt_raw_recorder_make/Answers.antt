use Rattle.std.proofs.Common.{◌≡◌, sym, subst, rules, Ok, Err, IfSome, MatchOption, to_z, w32, true, false}
use Rattle.std.proofs.lemmas.Result.{IfErr-at_err}
use Rattle.recorder.specs.Windows.{IsMaking}
use Rattle.camxpt_c.specs.Keeping.{Keeping}
use Rattle.camxpt_c.specs.RecorderCalls.{IsMade}
use Rattle.camxpt_c.specs.declared.codes.TheConstants.{OK, NONE}
use Rattle.camxpt_c.specs.declared.record_shapes.CamxptWindow.{CamxptWindow}
use Rattle.camxpt_c.proofs.MakingLemmas.{IsThere, Lost, made_err, made_none, made_ok, recorder_call}
use Rattle.camxpt_c.proofs.recorder_calls.camxpt_raw_recorder_make.Goals as goal
use Rattle.camxpt_c.proofs.recorder_calls.camxpt_raw_recorder_make.Goals.{in-Ok-true, in-Ok-false, in-Err}

pub returns-clause-call : goal.returns-clause-call
returns-clause-call c =
    let code = to_z w32 c.match-make.code-bits in
    let is_old = c.in-Some.ensures.value in
    let k = c.in-Some.port.value in
    let making = subst (λ (k : Keeping). MatchOption k.text (IsMaking (Lost c.make.result) k.recorded c.make.new.self.recorded) (λ _. c.make.new.self ≡ k)) c.deref_mut.ensures.value c.make.ensures.making in
    recorder_call (IsMade c.args.window.now c.match-make.window) _ _ _ _ code is_old c.put.ensures (elim c.match-make.branch [
      | in-Ok-true w ↦
          let is : c.make.result ≡ Ok true = search rules in
          let ok : code ≡ OK = search rules in
          let here = subst (λ (m : Keeping). IfSome m.text (IsThere w.window.result m)) w.deref.ensures w.window.ensures in
          let there = subst (λ (a : CamxptWindow). IfSome c.make.new.self.text (IsThere a c.make.new.self)) (sym w.window-is) here in
          made_ok c.make.result k c.make.new.self c.args.window.now c.match-make.window code is ok making c.make.ensures.ok there
      | in-Ok-false w ↦
          let is : c.make.result ≡ Ok false = search rules in
          let none : code ≡ NONE = search rules in
          let same : c.match-make.window ≡ c.args.window.now = search rules in
          made_none c.make.result k c.make.new.self c.args.window.now c.match-make.window code is none same making c.make.ensures.ok
      | in-Err w ↦
          let is : c.make.result ≡ Err code = search rules in
          let same : c.match-make.window ≡ c.args.window.now = search rules in
          let err = IfErr-at_err _ is c.make.ensures.err in
          made_err c.make.result k c.make.new.self c.args.window.now c.match-make.window code is same making err.0 err.1
    ])
