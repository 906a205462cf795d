-- The current rows of a lifeline that was read, in order.
use Rattle.store_image_reader.specs.Seen.{cells_seen}
use Rattle.store_image_reader.specs.declared.line.ReadLine.{ReadLine}
use Rattle.store_image_rows.specs.Showing.{AreOrdered}

abbrev pub IsOrdered : ReadLine → Type 0
IsOrdered l = AreOrdered l.keys.items (cells_seen l.cells.items) l.order.items
