use Rattle.std.proofs.Common.{◌≡◌, take, map}
use Rattle.camxpt_c.specs.Configs.{adapter_of}
use Rattle.camxpt_c.proofs.configs.adapters_of.Given as goal

abbrev pub invariant-loop-shape : goal.invariant-loop-shape
invariant-loop-shape l = l.made.items ≡ map adapter_of (take l.shape-index l.shapes)
