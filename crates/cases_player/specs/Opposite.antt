-- Answers in the opposite order.
use Rattle.std.specs.Prelude.{reverse}
use Rattle.piece_ir_spec.specs.Rules.{Book}

abbrev pub opposite : Book → Book
opposite book op tables p = reverse (book op tables p)
