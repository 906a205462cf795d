-- What contracts above say of queries, passed on.
pub use Rattle.query_exec.specs.Books.{book_meaning}
pub use Rattle.query_exec.specs.Borrowed.{AreBorrowedBy, AreSpared, BorrowedByBranch}
pub use Rattle.query_exec.specs.Constants.{ValidInBranch, ValidInQuery}
pub use Rattle.query_exec.specs.QueryPieces.{ArePieces}
pub use Rattle.query_exec.specs.Reads.{explained_read, reads_of}
