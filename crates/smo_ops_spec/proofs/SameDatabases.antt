-- Two databases of the same tables, neither of which has a row that the other does not have, are
-- one.
use Rattle.std.proofs.Common.{◌≡◌, ℕ, Bool, true, false, List, [], ◌∷◌, length, refl, sym, ap}
use Rattle.std.proofs.Common.{subst, ◌∙◌, inl, inr, arith}
use Rattle.std.specs.Prelude.{cond, not, Option, Some, None}
use Rattle.std.specs.FinMap.{get, entries, same_map, slice_cmp-IsAntisymmetric}
use Rattle.std.specs.FinMap.{nat_cmp-IsAntisymmetric}
use Rattle.std.specs.Cmp.Lexicographic.{nat_list_cmp_total}
use Rattle.relations_spec.specs.Sets.{In, has}
use Rattle.relations_spec.proofs.SetLaws.{has_in, one_list}
use Rattle.prima_base.specs.Order.{row_cmp}
use Rattle.prima_base.specs.OrderLaws.{row_exact}
use Rattle.prima_base.specs.Columns.{Column, IsRelation}
use Rattle.schema_catalog.specs.Tables.{Tables}
use Rattle.schema_catalog.specs.Databases.{DatabaseEntry, Rows, Lost, Database, IsEntry, IsDatabase}
use Rattle.smo_ops_spec.specs.OneRow.{Row, Relation}
use Rattle.smo_ops_spec.specs.Effects.{gained_rows, rows_under, gained_from, gained}
use Rattle.smo_ops_spec.proofs.CountingLaws.{Place, gain, found_entry}

-- each table gains nothing where all together gain nothing
each_nothing : (old : Database) (es : List Place) (e : Place) → gained_from old es ≡ 0 → In e es
    → gain old e ≡ 0
each_nothing old [] e z m = absurd m
each_nothing old (d ∷ es) e z (inl q) = (let h : gain old d ≡ 0 = omega arith in
    ap (gain old) (sym q) ∙ h)
each_nothing old (d ∷ es) e z (inr m) = each_nothing old es e (omega arith) m

all_had : (old new : Relation) → length (gained_rows old new) ≡ 0 → (row : Row) → In row new
    → In row old
all_had old [] z row m = absurd m
all_had old (r ∷ new) z row m = step (has row_cmp r old) refl z m (all_had old new)
  where
    step : (b : Bool) → has row_cmp r old ≡ b
        → length (cond (not b) (r ∷ gained_rows old new) (gained_rows old new)) ≡ 0
        → In row (r ∷ new)
        → (length (gained_rows old new) ≡ 0 → (row : Row) → In row new → In row old) → In row old
    step true e h (inl q) more = subst (λ (x : Row). In x old) q (has_in row_cmp row_exact r old e)
    step true e h (inr k) more = more h row k
    step false e h k more = absurd (omega arith)

pub same_relation : (columns : List Column) (a b : Relation) → IsRelation columns a
    → IsRelation columns b → length (gained_rows a b) ≡ 0 → length (gained_rows b a) ≡ 0 → a ≡ b
same_relation columns a b ra rb g l =
    one_list row_cmp row_exact a b ra.ascending rb.ascending
    (record { there = λ row m. all_had b a l row m; back = λ row m. all_had a b g row m })

same_entry : (o : Option (List Column)) (x y : Option DatabaseEntry) → IsEntry o x → IsEntry o y
    → length (gained_rows (rows_under x) (rows_under y)) ≡ 0
    → length (gained_rows (rows_under y) (rows_under x)) ≡ 0 → x ≡ y
same_entry None None None i j g l = refl
same_entry None (Some e) y i j g l = absurd i
same_entry None None (Some e) i j g l = absurd j
same_entry (Some columns) None y i j g l = absurd i
same_entry (Some columns) (Some (Lost k n)) y i j g l = absurd i
same_entry (Some columns) (Some (Rows a)) None i j g l = absurd j
same_entry (Some columns) (Some (Rows a)) (Some (Lost k n)) i j g l = absurd j
same_entry (Some columns) (Some (Rows a)) (Some (Rows b)) i j g l =
    ap (λ (r : Relation). Some (Rows r)) (same_relation columns a b i j g l)

nothing_at : (old new : Database) (n : List ℕ) → gained old new ≡ 0 → (x : Option DatabaseEntry)
    → get new n ≡ x → length (gained_rows (rows_under (get old n)) (rows_under x)) ≡ 0
nothing_at old new n z None e = refl
nothing_at old new n z (Some x) e = each_nothing old (entries new) (n, x) z (found_entry new n x e)

pub same_database : (tables : Tables) (a b : Database) → IsDatabase tables a → IsDatabase tables b
    → gained a b ≡ 0 → gained b a ≡ 0 → a ≡ b
same_database tables a b da db g l = same_map nat_list_cmp_total
    (slice_cmp-IsAntisymmetric nat_cmp-IsAntisymmetric) a b
    (λ n. same_entry (get tables n) (get a n) (get b n) (da n) (db n)
    (nothing_at a b n g (get b n) refl) (nothing_at b a n l (get a n) refl))
