-- What contracts above say of pieces, passed on.
pub use Rattle.piece_ir.specs.Shown.{piece_of, shown_pieces}
