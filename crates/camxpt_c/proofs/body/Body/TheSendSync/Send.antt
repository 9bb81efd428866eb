-- A body may cross threads, as the box may.
use denote.Param.Send.{IsSend, owning_send, struct_send, sendable}
use denote.Builtin.{RawPtr}
use denote.Struct.Struct.{exits_of}
use denote.Struct.Owning.{shape, fields, to}
use Rattle.std.specs.contracts.alloc.Global as heap
use Rattle.camxpt_c.proofs.port.Port.TheSendSync as port_law
use Rattle.camxpt_c.proofs.Bodies.{quiet, held_crosses}
use Rattle.camxpt_c.specs.contracts.port.Port.{the_row as R}
use Rattle.camxpt_c.specs.contracts.body.Body.{the_row, the_type}

pub send : IsSend the_row
send = let O = the_type in let ps : IsSend RawPtr = search sendable in let gs : IsSend (heap.the_field).row = search sendable depth 20 in
    owning_send O (ps, (gs, tt)) (λ d. held_crosses R port_law.the_send d.alloc d.at d.kept)
    (λ k. quiet (to O) (exits_of k (fields O)) ((struct_send (shape O) (ps, (gs, tt))).leaving k))
