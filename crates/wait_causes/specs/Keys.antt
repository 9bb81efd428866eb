-- what the rows of two inputs are paired by: names, or numbers
use Rattle.std.specs.Prelude.{ℕ, ◌==◌, ◌&&◌, Bool, true, false, if◌then◌else◌, nat_lt, List, find, count_by, Option, Some, None, bytes_eq}
use Rattle.std.specs.List.{list_any}
use Rattle.std.specs.Option.{option_map, option_eq}
use Rattle.recording_file.specs.Names.{NameValue}
use Rattle.recording_file.specs.declared.name.NameKind.{NameKind}
use Rattle.recording_file.specs.declared.name.NameKind.TheVariants as kind
use Rattle.wait_causes.specs.declared.table.Grouping.{Grouping}
use Rattle.wait_causes.specs.declared.keys.PairBy.{PairBy}
use Rattle.wait_causes.specs.declared.keys.PairBy.TheVariants as asked
use Rattle.wait_causes.specs.declared.table.Grouping.TheVariants as grouping

abbrev pub is_kind : NameKind → NameKind → Bool
is_kind kind.Driver kind.Driver = true
is_kind kind.Device kind.Device = true
is_kind kind.Adapter kind.Adapter = true
is_kind kind.Link kind.Link = true
is_kind _ _ = false

-- this is what a number of the kind is called
abbrev pub is_name_of : NameKind → ℕ → NameValue → Bool
is_name_of k n l = is_kind l.kind k && (l.number == n)

-- what a number of the kind is called, if it has a name
abbrev pub name_of : List NameValue → NameKind → ℕ → Option (List ℕ)
name_of names k n = option_map (λ (l : NameValue). l.text) (find (is_name_of k n) names)

-- a smaller number of the kind is called this
abbrev pub is_namesake : NameKind → ℕ → List ℕ → NameValue → Bool
is_namesake k n text l = is_kind l.kind k && (nat_lt l.number n && bytes_eq l.text text)

-- A number's key: its name, and how many smaller numbers have the same one; or no name, and the number itself.
pub record Key : Type 0 where
  pub name : Option (List ℕ)
  pub place : ℕ

abbrev pub key_called : List NameValue → NameKind → ℕ → Option (List ℕ) → Key
key_called names k n None = record { name = None; place = n }
key_called names k n (Some text) = record { name = Some text; place = count_by (is_namesake k n text) names }

-- by the names of a kind, or by the numbers alone
abbrev pub key_of : Option NameKind → List NameValue → ℕ → Key
key_of None names n = record { name = None; place = n }
key_of (Some k) names n = key_called names k n (name_of names k n)

abbrev pub is_same_key : Key → Key → Bool
is_same_key a b = option_eq bytes_eq a.name b.name && (a.place == b.place)

-- a number before and one after have the same key
abbrev pub is_pair : Option NameKind → List NameValue → List NameValue → ℕ → ℕ → Bool
is_pair by was now n m = is_same_key (key_of by was n) (key_of by now m)

-- the names that a table's rows may be paired by: those of devices and drivers
abbrev pub kind_of : Grouping → Option NameKind
kind_of grouping.Device = Some kind.Device
kind_of grouping.Driver = Some kind.Driver
kind_of grouping.Adapter = None
kind_of grouping.Level = None

-- something of the kind has a name
abbrev pub has_names : List NameValue → NameKind → Bool
has_names names k = list_any (λ (l : NameValue). is_kind l.kind k) names

-- two of the kind have one name
abbrev pub has_namesakes : List NameValue → NameKind → Bool
has_namesakes names k = list_any (λ (l : NameValue). is_kind l.kind k && list_any (is_namesake k l.number l.text) names) names

abbrev pub if_named : Option NameKind → List NameValue → List NameValue → Option NameKind
if_named None was now = None
if_named (Some k) was now = if has_names was k && has_names now k then Some k else None

-- the names that a table's rows are paired by: none if numbers are asked for, or if not both inputs have such names
abbrev pub names_for : PairBy → Grouping → List NameValue → List NameValue → Option NameKind
names_for asked.Number by was now = None
names_for asked.Name by was now = if_named (kind_of by) was now
