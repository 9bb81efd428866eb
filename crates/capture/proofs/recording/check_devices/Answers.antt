use Rattle.std.proofs.Common.{◌∙◌, sym}
use Rattle.capture.proofs.FaultLemmas.{device_missing, device_more, devices_there}
use Rattle.capture.proofs.recording.check_devices.Goals as goal

pub returns-then-not-names_device-clause-err : goal.returns-then-not-names_device-clause-err
returns-then-not-names_device-clause-err c = device_missing c.args.config.now c.args.requests.now c.loop-request.request-index _ c.loop-request-test.true c.loop-request.invariant (sym c.names_device.ensures ∙ c.if-not-names_device.true)

pub loop-request-preserved : goal.loop-request-preserved
loop-request-preserved c = device_more c.args.config.now c.args.requests.now c.loop-request.request-index _ c.loop-request-test.true c.loop-request.invariant (sym c.names_device.ensures ∙ c.if-not-names_device.false)

pub returns-clause-ok : goal.returns-clause-ok
returns-clause-ok c = devices_there c.args.config.now c.args.requests.now c.loop-request.request-index c.loop-request-test.false c.loop-request.invariant
