-- The paths of devices, as text.
use Rattle.std.specs.Prelude.{ℕ, ◌+◌, ◌≤◌, ◌==◌, nat_lt, nat_le, ◌&&◌, if◌then◌else◌, List, ◌++◌, length, take, drop, slice_index, option_map, Result, Ok, Err, ok_or, ⊤, codes, decimal}
use Rattle.std.specs.Char.{is_ascii_digit}
use Rattle.std.specs.List.{prefix_len}
use Rattle.cam_types.specs.Number.{number_of}
use Rattle.cam_types.specs.declared.device.Device.{Device}
pub use Rattle.cam_path.specs.declared.path.CamPath.{CamPath}

-- a device's bus, target and lun
abbrev pub address_of : Device → CamPath
address_of d = record { bus = d.bus; target = d.target; lun = d.lun }

-- its numbers fit
pub record Fits (p : CamPath) : Type 0 where
  pub bus : p.bus ≤ 255
  pub target : p.target ≤ 65535
  pub lun : p.lun ≤ 65535

-- bus, target and lun in decimal, with a colon between each two
unfoldable pub spelled : CamPath → List ℕ
spelled p = decimal p.bus ++ (codes ":" ++ (decimal p.target ++ (codes ":" ++ decimal p.lun)))

-- what the next step gives, where this one doesn't fail
infixl 10 ◌>>=◌
abbrev pub ◌>>=◌ : {A B E : Type 0} → Result A E → (A → Result B E) → Result B E
(Ok x) >>= f = f x
(Err e) >>= f = Err e

-- how many digits stand from an offset on
abbrev pub digits_at : List ℕ → ℕ → ℕ
digits_at text at = prefix_len is_ascii_digit (drop at text)

-- the number of at most `most` that those digits spell, and the offset after them; or else the offset at which it begins
unfoldable pub number_at : ℕ → List ℕ → ℕ → Result (ℕ × ℕ) ℕ
number_at most text at =
    ok_or (option_map (λ n. (n, at + digits_at text at)) (number_of most (take (digits_at text at) (drop at text)))) at

-- the offset after a colon, or else the offset at which it is due
unfoldable pub colon_at : List ℕ → ℕ → Result ℕ ℕ
colon_at text at = if nat_lt at (length text) && (slice_index text at == 58) then Ok (at + 1) else Err at

-- the end of the text, or else the offset at which it is due
unfoldable pub end_at : List ℕ → ℕ → Result ⊤ ℕ
end_at text at = if nat_le (length text) at then Ok tt else Err at

-- the path that a text spells, or the offset of its first fault
unfoldable pub reading : List ℕ → Result CamPath ℕ
reading text = do
  bus ← number_at 255 text 0
  colon ← colon_at text bus.1
  target ← number_at 65535 text colon
  second ← colon_at text target.1
  lun ← number_at 65535 text second
  _ ← end_at text lun.1
  Ok (record { bus = bus.0; target = target.0; lun = lun.0 })
