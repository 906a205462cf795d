-- What is seen of the parts of an image that were read.
use Rattle.std.specs.Prelude.{ℕ, List, [], ◌∷◌}
use Rattle.std.specs.declared.vec.Vec.{Vec}
use Rattle.std.specs.declared.alloc.Global.{Global}
use Rattle.relations_spec.specs.Spans.{Span, span}
use Rattle.prima_base.specs.Order.{shown}
use Rattle.history_store_spec.specs.Store.{Cell}
use Rattle.smo_ops_types.specs.Commands.{versions_of}
use Rattle.smo_ops_versions_spec.specs.Lifelines.{Lifeline, lifelines_of}
use Rattle.store_image_spec.specs.Images.{StoredLine, Image}
use Rattle.store_image_spec.specs.Encoding.{last_number}
pub use Rattle.store_image_rows.specs.Cells.{cell_seen, cells_seen}
use Rattle.store_image_reader.specs.declared.due.DueLine.{DueLine}
use Rattle.history_store.specs.declared.restoration.Cell.{Cell as ReadCell}
use Rattle.store_image_reader.specs.declared.entry.Unchecked.{Unchecked}
use Rattle.store_image_reader.specs.declared.line.ReadLine.{ReadLine}
use Rattle.store_image_reader.specs.declared.image.ReadImage.{ReadImage}

-- a lifeline
abbrev pub line_seen : DueLine → Lifeline
line_seen l = record {
  table = l.table.now;
  first = l.first;
  last = l.last;
  columns =
      l.columns.now;
}

-- its versions and its table
abbrev pub head_of : Lifeline → (ℕ × ℕ) × List ℕ
head_of l = ((l.first, last_number l.last), l.table)

-- ---- entries

-- one before it is checked
abbrev pub unchecked_seen : Unchecked → Cell
unchecked_seen c = record { id = c.id; value = shown c.value; period = span c.start c.end }

-- ---- lifelines

-- what is kept over a lifeline, by the periods of its keys and the entries of its columns
abbrev pub parts_seen : Lifeline → Vec Span Global × Vec (Vec ReadCell Global) Global → StoredLine
parts_seen line parts = record {
  line = line;
  keys = parts.0.items;
  cells =
      cells_seen parts.1.items;
}

abbrev pub stored_seen : Lifeline → ReadLine → StoredLine
stored_seen line l = record { line = line; keys = l.keys.items; cells = cells_seen l.cells.items }

-- and over each
abbrev pub lines_seen : List Lifeline → List ReadLine → List StoredLine
lines_seen [] lines = []
lines_seen (line ∷ due) [] = []
lines_seen (line ∷ due) (l ∷ lines) = stored_seen line l ∷ lines_seen due lines

abbrev pub image_seen : ReadImage → Image
image_seen i = record {
  last = i.last;
  versions = versions_of i.versions;
  lines =
      lines_seen (lifelines_of (versions_of i.versions)) i.lines.items;
}
