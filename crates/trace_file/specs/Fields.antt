use Rattle.std.specs.Prelude.{ℕ, ◌+◌, ◌*◌, ◌-◌, Bool, true, false, nat_le, ◌&&◌, if◌then◌else◌, List, [], ◌∷◌, length, Option, Some, None, option_and_then, option_map, Result, codes, bytes_eq, find}
use Rattle.cam_types.specs.declared.flags.Flags.{Flags}
use Rattle.record_text.specs.Fields.{field_of, formed}
use Rattle.record_text.specs.Text.{Row}

-- the value of a lower-case hexadecimal digit
unfoldable pub hex_value : ℕ → Option ℕ
hex_value digit =
    if nat_le 48 digit && nat_le digit 57 then Some (digit - 48)
    else if nat_le 97 digit && nat_le digit 102 then Some (digit - 87)
    else None

-- the byte that two digits spell
unfoldable pub hex_byte : ℕ → ℕ → Option ℕ
hex_byte high low = option_and_then (λ h. option_map (λ l. 16 * h + l) (hex_value low)) (hex_value high)

-- the one byte that a field spells
unfoldable pub byte_of : List ℕ → Option ℕ
byte_of (high ∷ low ∷ []) = hex_byte high low
byte_of _ = None

-- the bytes that a field spells, each by two digits
unfoldable pub bytes_of : List ℕ → Option (List ℕ)
bytes_of [] = Some []
bytes_of (high ∷ []) = None
bytes_of (high ∷ low ∷ rest) = option_and_then (λ b. option_map (λ bs. b ∷ bs) (bytes_of rest)) (hex_byte high low)

-- at most 18 bytes of sense data
unfoldable pub sense_of : List ℕ → Option (List ℕ)
sense_of field = if nat_le (length field) 36 then bytes_of field else None

-- what a CCB asks of the freezes of its device's queue, qfreeze and qfrzdis, as a word
abbrev pub flags_word : Bool → Bool → List ℕ
flags_word false false = codes "none"
flags_word true false = codes "qfreeze"
flags_word false true = codes "qfrzdis"
flags_word true true = codes "both"

abbrev pub flags_text : Flags → List ℕ
flags_text flags = flags_word flags.qfreeze flags.qfrzdis

abbrev pub flags_by : Bool → Bool → Flags
flags_by qfreeze qfrzdis = record { qfreeze = qfreeze; qfrzdis = qfrzdis }

-- the flags that a field spells
unfoldable pub flags_of : List ℕ → Option Flags
flags_of field =
    find (λ flags. bytes_eq field (flags_text flags)) (flags_by false false ∷ flags_by true false ∷ flags_by false true ∷ flags_by true true ∷ [])

-- a field of each form at a place, or the field's number
unfoldable pub byte_at : Row → ℕ → Result ℕ ℕ
byte_at row at = formed (byte_of (field_of row at)) at

unfoldable pub sense_at : Row → ℕ → Result (List ℕ) ℕ
sense_at row at = formed (sense_of (field_of row at)) at

unfoldable pub flags_at : Row → ℕ → Result Flags ℕ
flags_at row at = formed (flags_of (field_of row at)) at
