use Rattle.std.proofs.Common.{◌≡◌, ◌∙◌, refl, rules, tests}
use Rattle.std.proofs.lemmas.Iterator.{YieldsList-from_slice}
use Rattle.std.proofs.lemmas.Iterator.Search.{position_from_yields_List}
use Rattle.trace_file.specs.Scenarios.{device_number, is_at}
use Rattle.trace_file.proofs.script_item.device_at.Goals as goal

pub returns-in-Some : goal.returns-in-Some
returns-in-Some c =
    let found : c.position.result ≡ device_number c.args.config.now c.args.path =
    position_from_yields_List (is_at c.args.path) _ _ c.position.result c.position.ensures.ran (YieldsList-from_slice _ (c.iter.ensures.rest ∙ c.devices.ensures.same)) (λ x b q k. search (rules, tests)) in
    rw (← found, c.in-Some.is) refl

pub returns-in-None : goal.returns-in-None
returns-in-None c =
    let found : c.position.result ≡ device_number c.args.config.now c.args.path =
    position_from_yields_List (is_at c.args.path) _ _ c.position.result c.position.ensures.ran (YieldsList-from_slice _ (c.iter.ensures.rest ∙ c.devices.ensures.same)) (λ x b q k. search (rules, tests)) in
    rw (← found, c.in-None.is) refl
