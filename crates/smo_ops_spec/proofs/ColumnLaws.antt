-- Columns in the order of their names.
use Rattle.std.proofs.Common.{◌≡◌, ◌≤◌, ◌+◌, List, [], ◌∷◌, length, refl, ap, ◌∙◌, arith}
use Rattle.std.specs.declared.cmp.Ordering.{Ordering}
use Rattle.std.specs.declared.cmp.Ordering.TheVariants.{Less, Equal, Greater}
use Rattle.relations_spec.specs.Sets.{put_in, placed, set_of}
use Rattle.relations_spec.proofs.SetLaws.{set_ascends}
use Rattle.prima_base.specs.Order.{bytes_cmp}
use Rattle.prima_base.specs.OrderLaws.{bytes_exact}
use Rattle.prima_base.specs.Columns.{Column, names_of, AreColumns}
use Rattle.smo_ops_spec.specs.Making.{column_cmp, in_order}

names_placed : (o : Ordering) (c d : Column) (ds more : List Column)
    → names_of (placed o c d ds more) ≡ placed o c.0 d.0 (names_of ds) (names_of more)
names_placed Less c d ds more = refl
names_placed Equal c d ds more = refl
names_placed Greater c d ds more = refl

pub names_put : (c : Column) (ds : List Column)
    → names_of (put_in column_cmp c ds) ≡ put_in bytes_cmp c.0 (names_of ds)
names_put c [] = refl
names_put c (d ∷ ds) =
    names_placed (bytes_cmp c.0 d.0) c d ds (put_in column_cmp c ds)
    ∙ ap (placed (bytes_cmp c.0 d.0) c.0 d.0 (names_of ds)) (names_put c ds)

pub names_in_order : (columns : List Column) → names_of (in_order columns)
    ≡ set_of bytes_cmp (names_of columns)
unfolding set_of
names_in_order [] = refl
names_in_order (c ∷ columns) = names_put c (in_order columns)
    ∙ ap (put_in bytes_cmp c.0) (names_in_order columns)

pub in_order_are_columns : (columns : List Column) → AreColumns (in_order columns)
in_order_are_columns columns = rw (names_in_order columns)
    (set_ascends bytes_cmp bytes_exact (names_of columns))

length_placed : (o : Ordering) (c d : Column) (ds more : List Column) → length more ≤ length ds + 1
    → length (placed o c d ds more) ≤ length ds + 2
length_placed Less c d ds more h = omega arith
length_placed Equal c d ds more h = omega arith
length_placed Greater c d ds more h = omega arith

pub length_put : (c : Column) (ds : List Column) → length (put_in column_cmp c ds) ≤ length ds + 1
length_put c [] = omega arith
length_put c (d ∷ ds) = (let h = length_placed (bytes_cmp c.0 d.0) c d ds (put_in column_cmp c ds)
    (length_put c ds) in omega arith)

pub in_order_length : (columns : List Column) → length (in_order columns) ≤ length columns
unfolding set_of
in_order_length [] = omega arith
in_order_length (c ∷ columns) = (let h = length_put c (in_order columns) in let k =
    in_order_length columns in omega arith)
