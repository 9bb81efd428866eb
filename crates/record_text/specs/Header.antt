-- The header of a text: the format's name and version, and the names of the other columns.
use Rattle.std.specs.Prelude.{ℕ, ◌==◌, Bool, ◌&&◌, List, [], ◌∷◌, length, codes, bytes_eq}
use Rattle.record_text.specs.Fields.{field_of}
use Rattle.record_text.specs.Text.{Row}

-- the header of this name
unfoldable pub header_row : List ℕ → Row
header_row name = name ∷ codes "a" ∷ codes "b" ∷ codes "c" ∷ codes "d" ∷ codes "e" ∷ codes "f" ∷ codes "g" ∷ []

-- the fields of the header that name the columns
unfoldable pub has_letters : Row → Bool
has_letters row =
    bytes_eq (field_of row 1) (codes "a") && bytes_eq (field_of row 2) (codes "b") && bytes_eq (field_of row 3) (codes "c")
    && bytes_eq (field_of row 4) (codes "d") && bytes_eq (field_of row 5) (codes "e") && bytes_eq (field_of row 6) (codes "f")
    && bytes_eq (field_of row 7) (codes "g")

-- a record is the header of this name
unfoldable pub is_header : List ℕ → Row → Bool
is_header name row = (length row == 8) && bytes_eq (field_of row 0) name && has_letters row
