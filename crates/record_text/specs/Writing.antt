-- How rows are written.
use Rattle.std.specs.Prelude.{◌≡◌, ℕ, false, List, Option, Some, Vec, flat_map}
use Rattle.std.specs.Global.{Global}
use Rattle.std.specs.Io.KnownBytes.{Appends}
use Rattle.csv.specs.Writing.{default_writer, fields_written, has_written, row_text, text_written, writer_setup}
use Rattle.csv.specs.declared.writer.Writer.{Writer}
use Rattle.record_text.specs.Text.{Row}

-- the text of these rows, each by CSV's defaults: commas between its fields, a line feed after it
unfoldable pub text_of : List Row → List ℕ
text_of rows = flat_map (row_text default_writer) rows

-- a writer of CSV into memory
abbrev pub TextWriter : Type 0
TextWriter = Writer (Vec ℕ Global)

-- all that it wrote so far
abbrev pub text_so_far : TextWriter → Option (List ℕ)
text_so_far writer = text_written (λ (text : Vec ℕ Global). Some text.items) writer

-- a writer with CSV's defaults, between two rows
pub record IsBetween (writer : TextWriter) : Type 0 where
  pub setup : writer_setup writer ≡ default_writer
  pub fields : fields_written writer ≡ 0
  pub clean : has_written writer ≡ false

-- a writer that has written these rows, whole
pub record Wrote (before after : TextWriter) (rows : List Row) : Type 0 where
  pub between : IsBetween after
  pub text : Appends (text_so_far before) (text_so_far after) (text_of rows)
