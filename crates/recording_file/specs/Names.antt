-- Names for drivers, devices, adapters and links.
use Rattle.std.specs.Prelude.{ℕ, ◌-◌, ◌==◌, Bool, true, not, nat_lt, nat_le, ◌&&◌, ◌||◌, List, length, chars, encode_utf8_all, bytes_eq, slice_get, Option}
use lib.Utf8.{scalars}
use Rattle.std.specs.Char.{is_control}
use Rattle.std.specs.List.{list_all}
use Rattle.std.specs.Option.{option_map_or}
pub use Rattle.recording_file.specs.declared.name.NameKind.{NameKind}
use Rattle.recording_file.specs.declared.name.NameKind.TheVariants as kind
use Rattle.recording_file.specs.Counts.{Counts}

-- what a name is for, its number, and the name itself
pub record NameValue : Type 0 where
  pub kind : NameKind
  pub number : ℕ
  pub text : List ℕ

-- the bytes are those of characters in UTF-8
unfoldable pub is_utf8 : List ℕ → Bool
is_utf8 text = scalars (chars text) && bytes_eq (encode_utf8_all (chars text)) text

abbrev pub has_no_control : List ℕ → Bool
has_no_control text = list_all (λ c. not (is_control c)) (chars text)

-- 1 to 64 bytes of UTF-8 without control characters
unfoldable pub is_name_text : List ℕ → Bool
is_name_text text = nat_le 1 (length text) && (nat_le (length text) 64 && (is_utf8 text && has_no_control text))

-- names come in this order
abbrev pub name_rank : NameKind → ℕ
name_rank kind.Driver = 0
name_rank kind.Device = 1
name_rank kind.Adapter = 2
name_rank kind.Link = 3

-- how many of a kind may have names
abbrev pub named_count : Counts → NameKind → ℕ
named_count c kind.Driver = 256
named_count c kind.Device = c.devices
named_count c kind.Adapter = c.adapters
named_count c kind.Link = c.links

-- one name comes before a kind's number
abbrev pub is_named_before : NameValue → NameKind → ℕ → Bool
is_named_before a k n = nat_lt (name_rank a.kind) (name_rank k) || ((name_rank a.kind == name_rank k) && nat_lt a.number n)

-- the last of a list, if there is one
abbrev pub latest : {X : Type 0} → List X → Option X
latest xs = slice_get xs (length xs - 1)

-- a kind's number comes after the names before it
abbrev pub is_next_name : List NameValue → NameKind → ℕ → Bool
is_next_name before k n = option_map_or (λ a. is_named_before a k n) (latest before) true

-- a name beside those before it: there is such a thing, it comes after them, and its text has its form
unfoldable pub is_name : Counts → List NameValue × NameValue → Bool
is_name c m = nat_lt m.1.number (named_count c m.1.kind) && (is_next_name m.0 m.1.kind m.1.number && is_name_text m.1.text)
