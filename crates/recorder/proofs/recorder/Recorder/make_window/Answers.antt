use Rattle.std.proofs.Common.{◌≡◌, ◌∙◌, ap, rules, None, Some}
use Rattle.recorder.specs.Recorder.{Recorded}
use Rattle.recorder.proofs.MakingLemmas.{made_of_new, made_of_waiting}
use Rattle.recorder.proofs.recorder.Recorder.make_window.Goals as goal
use Rattle.recorder.proofs.recorder.Recorder.make_window.Goals.{then-is_none+in_ok-cut, else-is_none}

pub returns-in-Some-clause-making : goal.returns-in-Some-clause-making
returns-in-Some-clause-making c =
    let new = c.record.new.self in
    let with_new : Recorded → Recorded = λ r. record r { cut = new.cut; window = new.window } in
    let no_window : c.args.self.now.window ≡ None = search rules in
    elim c.if-is_none.branch [
      | then-is_none+in_ok-cut w ↦
          let no_cut : c.args.self.now.cut ≡ None = search rules in
          let is : w.cut.new.self.cut ≡ Some c.in-Some.cut = search rules in
          made_of_new _ c.args.self.now w.cut.new.self new c.in-Some.cut no_window no_cut is w.cut.ensures.cut w.cut.ensures.rest c.record.ensures.kept (c.record.ensures.rest ∙ ap with_new (c.self-2.view_is ∙ w.self-is))
      | else-is_none w ↦
          let is : c.args.self.now.cut ≡ Some c.in-Some.cut = search rules in
          made_of_waiting _ c.args.self.now new c.in-Some.cut no_window is c.record.ensures.kept (c.record.ensures.rest ∙ ap with_new (c.self-2.view_is ∙ w.self-is))
    ]
