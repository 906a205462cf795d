-- What is wrong with a list of rules, by their kinds.
use Rattle.std.specs.Prelude.{◌≡◌, List, Some, None, Result, Ok, Err, ⊤}
use Rattle.prima_base.specs.declared.refusal.OpKind.{OpKind}
use Rattle.piece_ir_spec.specs.Books.{first_twice, first_missing}
use Rattle.rewrite_rules_book.specs.declared.book.BookFault.{BookFault}
use Rattle.rewrite_rules_book.specs.declared.book.BookFault.TheVariants.{Twice, Missing, NoMemory}

-- a book has one rule of each kind: the first kind that stands twice, and else the first that is
-- missing
abbrev pub IsBookChecked : List OpKind → Result (Unit {0}) BookFault → Type 0
IsBookChecked kinds (Ok u) = (first_twice kinds ≡ None) × (first_missing kinds ≡ None)
IsBookChecked kinds (Err (Twice kind)) = first_twice kinds ≡ Some kind
IsBookChecked kinds (Err (Missing kind)) = (first_twice kinds ≡ None)
    × (first_missing kinds ≡ Some kind)
IsBookChecked kinds (Err NoMemory) = ⊤

-- the same of what is made of them
abbrev pub IsFault : List OpKind → BookFault → Type 0
IsFault kinds fault = IsBookChecked kinds (Err fault)
