use Rattle.std.specs.Prelude.{ℕ, ◌%◌, ◌==◌, Bool, true, false, if◌then◌else◌, List, Option, None, slice_get, unwrap_or, option_and_then, option_map}
pub use Rattle.sense_class.specs.declared.sense.Sense.{Sense}

-- the byte at a place, and 0 where there is none
abbrev pub byte_at : List ℕ → ℕ → ℕ
byte_at bytes i = unwrap_or (slice_get bytes i) 0

-- fixed form: the key in byte 2, bits 0 to 3, and the codes in bytes 12 and 13
unfoldable pub fixed_sense : Bool → List ℕ → Option Sense
fixed_sense deferred bytes =
    option_map (λ b. record { deferred = deferred; key = b % 16; asc = byte_at bytes 12; ascq = byte_at bytes 13 }) (slice_get bytes 2)

-- descriptor form: the key in byte 1, bits 0 to 3, and the codes in bytes 2 and 3
unfoldable pub descriptor_sense : Bool → List ℕ → Option Sense
descriptor_sense deferred bytes =
    option_map (λ b. record { deferred = deferred; key = b % 16; asc = byte_at bytes 2; ascq = byte_at bytes 3 }) (slice_get bytes 1)

-- the response code is byte 0 without its highest bit
unfoldable pub read_sense : List ℕ → Option Sense
read_sense bytes = option_and_then (λ b.
    let code = b % 128 in
    if code == 0x70 then fixed_sense false bytes
    else if code == 0x71 then fixed_sense true bytes
    else if code == 0x72 then descriptor_sense false bytes
    else if code == 0x73 then descriptor_sense true bytes
    else None) (slice_get bytes 0)
