-- The faults of a recording that C hands in.
use Rattle.std.proofs.Common.{◌≡◌, ◌≢◌, ℤ, inl, inr, Some}
use Rattle.camxpt_c.specs.Recordings.{Handed, Given, RecordFault, Call, Item, OutOfMemory, IsReported, IsRecordingOf, record_fault}

-- the fault is the first thing that is wrong, or that there is no memory
pub reported_fault : (h : Handed) (old new : Given) (code : ℤ) (e : RecordFault) → (e ≢ OutOfMemory → record_fault h ≡ Some e) → IsReported old new code e → IsRecordingOf h old new code
reported_fault h old new code (Call c) why reported = let first = why (λ is. cc) in inl (rw first reported)
reported_fault h old new code (Item c n) why reported = let first = why (λ is. cc) in inl (rw first reported)
reported_fault h old new code OutOfMemory why reported = inr reported
