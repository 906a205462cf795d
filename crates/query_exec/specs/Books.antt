-- What contracts above say of books of rules, passed on.
pub use Rattle.rewrite.specs.Books.{book_meaning}
