use Rattle.std.specs.Prelude.{◌≡◌, ℕ, ◌-◌, ◌≤◌, List, ◌++◌, length, take, replicate}
use Rattle.std.proofs.Common.{arith, sym, ap, length-take}
use Rattle.cam_types.specs.declared.sense_bytes.SenseBytes.TheInside.{Inside}

-- the bytes that count
abbrev pub kept : Inside → List ℕ
kept s = take s.len s.bytes

-- of the 18 bytes those past the ones that count are zeros
pub record IsPadded (s : Inside) : Type 0 where
  pub whole : length s.bytes ≡ 18
  pub most : s.len ≤ 18
  pub filled : s.bytes ≡ take s.len s.bytes ++ replicate (18 - s.len) 0

-- the bytes, filled up with zeros to 18
abbrev pub padded : List ℕ → Inside
padded bytes = record { bytes = bytes ++ replicate (18 - length bytes) 0; len = length bytes }

pub padded-kept : (s : Inside) → IsPadded s → padded (kept s) ≡ s
padded-kept s p =
    let n : length (take s.len s.bytes) ≡ s.len = omega (arith, length-take {A = ℕ}, p.whole, p.most) in
    rw n (ap (λ (b : List ℕ). let t : Inside = record { bytes = b; len = s.len } in t) (sym p.filled))
