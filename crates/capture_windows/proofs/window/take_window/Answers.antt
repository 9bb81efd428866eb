use Rattle.std.proofs.Common.{◌<◌, length}
use Rattle.std.proofs.lemmas.List.Elements.{All-same}
use Rattle.capture_windows.specs.Attempts.{Attempt}
use Rattle.capture_windows.proofs.LawLemmas.{devices_kept}
use Rattle.capture_windows.proofs.window.take_window.Goals as goal

pub returns-clause-devices : goal.returns-clause-devices
returns-clause-devices c = All-same (λ (a : Attempt). a.request.device < length c.args.devices.now) _ _ c.in_ok-going_on.ensures (devices_kept c.args.span c.args.attempts.now (length c.args.devices.now) c.requires.devices)
