-- what comes of gathering seats
use Rattle.std.specs.Prelude.{◌≡◌, ℕ, ◌+◌, ◌<◌, List, [], ◌∷◌, ◌++◌, length, take, Some, Result, MatchResult, IsTrue, slice_get}
use Rattle.event_rules.specs.Legal.{history_rules, is_legal}
use Rattle.event_rules.specs.Past.{Past}
use Rattle.xpt_lock.specs.Receipts.{receipts_of, all_receipts, naming, AreConsistent, AreInterleaved, Receipt}
use Rattle.xpt_lock.specs.Seats.{Held}
pub use Rattle.xpt_lock.specs.declared.fault.GatherFault.{GatherFault}
pub use Rattle.xpt_lock.specs.declared.fault.GatherFault.TheVariants.{Mismatch, Unnamed, OutOfMemory}

-- the first i seats, and the first j receipts of one more
abbrev pub up_to : List Held → ℕ → Held → ℕ → List Held
up_to seats i seat j = take i seats ++ record seat { receipts = take j seat.receipts } ∷ []

-- The receipt is the first that doesn't fit: with all before it, by seat and then by order, the seats are consistent, and
-- with it they aren't.
pub record IsMisfit (due : List Receipt) (seats : List Held) (r : Receipt) : Type 0 where
  pub i : ℕ
  pub j : ℕ
  pub seat : Held
  pub there : slice_get seats i ≡ Some seat
  pub its : slice_get seat.receipts j ≡ Some r
  pub fits : AreConsistent due (up_to seats i seat j)
  pub ends : AreConsistent due (up_to seats i seat (j + 1)) → ⊥

-- The receipts are consistent, and the place is the first that none of them names.
pub record IsUnnamed (due : List Receipt) (seats : List Held) (place : ℕ) : Type 0 where
  pub consistent : AreConsistent due seats
  pub there : place < length due
  pub free : naming place (all_receipts seats) ≡ 0
  pub first : (k : ℕ) → k < place → naming k (all_receipts seats) ≡ 1

-- What a fault says of the receipts against those of one thread. A comparison takes no memory.
abbrev pub IsFault : List Receipt → List Held → GatherFault → Type 0
IsFault due seats (Mismatch r) = IsMisfit due seats r
IsFault due seats (Unnamed place) = IsUnnamed due seats place
IsFault due seats OutOfMemory = ⊥

-- what comes of a comparison: the seats' receipts interleave to those of one thread, or a fault says where they don't
abbrev pub IsCompared : {A : Type 0} → List Receipt → List Held → Result A GatherFault → Type 0
IsCompared due seats result = MatchResult result (λ _. AreInterleaved due seats) (λ fault. IsFault due seats fault)

-- the events are legal in a history of the configuration
abbrev pub IsPast : Past → Type 0
IsPast h = IsTrue (is_legal history_rules h.config h.events)

-- the receipts that one thread would get for the history
abbrev pub due_of : Past → List Receipt
due_of h = receipts_of h.config h.events

-- why this history isn't given: memory ran out, or a fault says where the seats' receipts aren't its own
abbrev pub IsWhyNot : Past → List Held → GatherFault → Type 0
IsWhyNot h seats OutOfMemory = Unit {0}
IsWhyNot h seats (Mismatch r) = IsPast h × IsFault (due_of h) seats (Mismatch r)
IsWhyNot h seats (Unnamed place) = IsPast h × IsFault (due_of h) seats (Unnamed place)

-- The history is the one that is given, legal, and the seats' receipts interleave to its own; or this says why it isn't given.
abbrev pub IsGatheredOf : Past → List Held → Result Past GatherFault → Type 0
IsGatheredOf h seats result =
    MatchResult result (λ given. (given ≡ h) × IsPast h × AreInterleaved (due_of h) seats) (λ fault. IsWhyNot h seats fault)

-- The history that is given is legal, and the seats' receipts interleave to its own; or there is one that isn't given for
-- this fault.
abbrev pub IsGathered : List Held → Result Past GatherFault → Type 0
IsGathered seats result =
    MatchResult result (λ h. IsPast h × AreInterleaved (due_of h) seats) (λ fault. (h : Past) × IsWhyNot h seats fault)
