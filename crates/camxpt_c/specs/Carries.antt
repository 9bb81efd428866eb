-- what is carried over to a fresh transport, and why nothing is
use Rattle.std.specs.Prelude.{ℕ, ℤ, ◌≡◌, ◌⊎◌, List, length, map, Option, Some, None, MatchOption}
use Rattle.cam_types.specs.Bounds.{Bounds}
use Rattle.event_rules.specs.Legal.{rules_of}
use Rattle.event_rules.specs.declared.passage.Passage.{Passage}
use Rattle.event_rules.specs.declared.refusal.Refusal.TheVariants as refusals
use Rattle.xpt_carry.specs.Carry.{carried, carrying, carry_fault}
use Rattle.xpt_carry.specs.declared.fault.CarryFault.{CarryFault}
use Rattle.xpt_carry.specs.declared.fault.CarryFault.TheVariants as faults
use Rattle.xpt_core.specs.Transport.{Transport}
use Rattle.camxpt_c.specs.Attached.{Attached, user_of}
use Rattle.camxpt_c.specs.Codes.{code_of}
use Rattle.camxpt_c.specs.Openings.{limits_in}
use Rattle.camxpt_c.specs.Tracing.{IsCopy}
use Rattle.camxpt_c.specs.declared.codes.TheConstants.{OK, E_CLOSED, E_OPEN, E_MEMORY, E_LIMIT, E_SPACE, UNDECIDED}

abbrev pub carry_code : CarryFault → ℤ
carry_code faults.InFlight = code_of refusals.InFlight
carry_code faults.Undecided = UNDECIDED
carry_code (faults.Refused why) = code_of why
carry_code faults.OutOfMemory = E_MEMORY

-- the fresh transport: the same configuration, these limits, and the events that carry over what waits
abbrev pub gone_on : Transport → Bounds → Transport
gone_on t bounds = record { config = t.config; rules = rules_of bounds; events = carrying t.config t.events }

-- the numbers in the old transport of the CCBs that go on, in the order of their new numbers
abbrev pub old_numbers : Transport → List ℕ
old_numbers t = map (λ (p : Passage). p.ccb) (carried t.events)

-- the fresh transport, with the pointers that its CCBs had in the old one
abbrev pub port_gone_on : Attached → Bounds → Attached
port_gone_on p bounds = record { xpt = gone_on p.xpt bounds; users = map (user_of p) (old_numbers p.xpt) }

-- what a call gives: what the other handle has, numbers, and how many they are
pub record CarryGiven : Type 0 where
  pub to : Option Attached
  pub numbers : List ℕ
  pub count : ℕ

-- there is no memory, or this is why nothing is carried over
abbrev pub IsUncarried : Option CarryFault → ℤ → Type 0
IsUncarried known code = (code ≡ E_MEMORY) ⊎ MatchOption known ⊥ (λ fault. code ≡ carry_code fault)

-- How many numbers there are is given. They are copied and the fresh transport is there, if there is room for them.
abbrev pub IsCarried : Attached → Bounds → CarryGiven → CarryGiven → ℤ → Type 0
IsCarried p within old new code =
    (new.count ≡ length (old_numbers p.xpt)) × IsCopy (old_numbers p.xpt) old.numbers new.numbers code
    × (((code ≡ OK) × (new.to ≡ Some (port_gone_on p within))) ⊎ ((code ≡ E_SPACE) × (new.to ≡ old.to)))

-- What waits is carried over to a transport of these limits, or the fault is reported, and nothing is given.
abbrev pub IsCarryWithin : Attached → Bounds → CarryGiven → CarryGiven → ℤ → Type 0
IsCarryWithin p within old new code =
    let known = carry_fault (rules_of within) p.xpt.config p.xpt.events in
    ((known ≡ None) × IsCarried p within old new code) ⊎ (IsUncarried known code × (new ≡ old))

-- The other handle has to be closed, and each limit in its range.
abbrev pub IsCarryFrom : Attached → Bounds → CarryGiven → CarryGiven → ℤ → Type 0
IsCarryFrom p bounds old new code =
    MatchOption old.to
    (MatchOption (limits_in bounds) ((code ≡ E_LIMIT) × (new ≡ old)) (λ within. IsCarryWithin p within old new code))
    (λ _. (code ≡ E_OPEN) × (new ≡ old))

-- The first handle has to be open.
abbrev pub IsCarry : Option Attached → Bounds → CarryGiven → CarryGiven → ℤ → Type 0
IsCarry from bounds old new code =
    MatchOption from ((code ≡ E_CLOSED) × (new ≡ old)) (λ p. IsCarryFrom p bounds old new code)
