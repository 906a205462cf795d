-- What each operator gives in the code, and that it is what is carried.
use Rattle.std.proofs.Common.{◌≡◌, ℕ, Bool, true, false, List, [], ◌∷◌, refl, sym, ap, subst, ◌∙◌}
use Rattle.std.specs.Prelude.{cond, not, ⊤, Option, Some, None, slice_get, Result, Ok, Err, IfOk}
use Rattle.std.specs.List.{filter}
use Rattle.std.specs.FinMap.{get, insert, get-insert}
use Rattle.std.specs.Cmp.Lexicographic.{nat_list_cmp_total}
use Rattle.prima_base.specs.declared.refusal.OpRefusal.TheVariants.{SameTable, ColumnExists}
use Rattle.prima_base.specs.Columns.{names_of}
use Rattle.schema_catalog.specs.Tables.{Tables}
use Rattle.schema_catalog.specs.Databases.{cell, DatabaseEntry, Rows, Database}
use Rattle.smo_ops_types.specs.declared.op.Op.{Op}
use Rattle.smo_ops_types.specs.Operators.{Operator, operator_of, nop, create_table, drop_table}
use Rattle.smo_ops_types.specs.Operators.{rename_table, copy_table, merge_table, partition_table}
use Rattle.smo_ops_types.specs.Operators.{decompose_table, join_table, add_column, drop_column}
use Rattle.smo_ops_types.specs.Operators.{rename_column}
use Rattle.cond_expr.specs.Trees.{Tree}
use Rattle.smo_ops_spec.specs.First.{first_refusal}
use Rattle.smo_ops_spec.specs.OneRow.{Relation, same, meets}
use Rattle.smo_ops_spec.specs.Effects.{columns_of}
use Rattle.smo_ops_spec.specs.Preconditions.{among, differ, is_new}
use Rattle.smo_ops_spec.specs.Making.{named, without, renamed, with_column, type_of_value, image}
use Rattle.smo_ops_spec.specs.Making.{union, added_value, moved, join_rows, from_one, from_two}
use Rattle.smo_ops_spec.specs.OperatorTable.{Made, line, made_names}
use Rattle.smo_ops_spec.specs.Touching.{made_of}
use Rattle.smo_ops_spec.specs.After.{op_fault, make_all, lose_all}
use Rattle.smo_ops_spec.proofs.Firsts.{none_of_first, met}
use Rattle.smo_ops_spec.proofs.NameLaws.{same_itself}
use Rattle.smo_maps.specs.Carrying.{AreIn, Has, AreMade, IsCarried}

-- the two relations, each by the rows that it is made of
abbrev pub Gives : Tables → Operator → Relation → Relation → Relation → Relation → Type 0
Gives tables nop first second a b = (a ≡ []) × (b ≡ [])
Gives tables (create_table r cs) first second a b = (a ≡ []) × (b ≡ [])
Gives tables (drop_table r) first second a b = (a ≡ []) × (b ≡ [])
Gives tables (rename_table r t) first second a b = (a ≡ first) × (b ≡ [])
Gives tables (copy_table r t) first second a b = (a ≡ first) × (b ≡ [])
Gives tables (merge_table r s t) first second a b = (a ≡ union first second) × (b ≡ [])
Gives tables (partition_table r s c t) first second a b =
    (a ≡ filter (meets (columns_of tables r) c) first)
    × (b ≡ filter (λ row. not (meets (columns_of tables r) c row)) first)
Gives tables (decompose_table r s xs t ys) first second a b =
    (a ≡ image (named xs (columns_of tables r)) (cell (columns_of tables r)) first)
    × (b ≡ image (named ys (columns_of tables r)) (cell (columns_of tables r)) first)
Gives tables (join_table r s t c) first second a b =
    (a ≡ join_rows (columns_of tables r) (columns_of tables s) c first second) × (b ≡ [])
Gives tables (add_column c e r) first second a b =
    (a ≡ image (with_column c (type_of_value (columns_of tables r) e) (columns_of tables r))
    (added_value (columns_of tables r) c e) first) × (b ≡ [])
Gives tables (drop_column c r) first second a b =
    (a ≡ image (without c (columns_of tables r)) (cell (columns_of tables r)) first) × (b ≡ [])
Gives tables (rename_column o r c) first second a b =
    (a ≡ image (renamed o c (columns_of tables r)) (moved (columns_of tables r) o c) first)
    × (b ≡ [])

-- made of one table, and of two
of_one : (f : Relation → Relation) (x : Option DatabaseEntry) (rows made : Relation)
    → x ≡ Some (Rows rows) → made ≡ f rows → from_one f x ≡ Rows made
of_one f x rows made h e = ap (from_one f) h ∙ ap Rows (sym e)

of_two : (f : Relation → Relation → Relation) (x y : Option DatabaseEntry)
    (first second made : Relation) → x ≡ Some (Rows first) → y ≡ Some (Rows second)
    → made ≡ f first second
    → from_two f x y ≡ Rows made
of_two f x y first second made h k e = ap (λ z. from_two f z y) h ∙ ap (from_one (f first)) k
    ∙ ap Rows (sym e)

gives_made : (tables : Tables) (op : Operator) (first second a b : Relation)
    → Gives tables op first second a b
    → (db : Database) → AreIn (made_of op) db first second → AreMade (line tables op).made db a b
gives_made tables nop first second a b g db h = g
gives_made tables (create_table r cs) first second a b g db h = (ap Rows (sym g.0), g.1)
gives_made tables (drop_table r) first second a b g db h = g
gives_made tables (rename_table r t) first second a b g db h =
    (of_one (λ rows. rows) (get db r) first a h g.0, g.1)
gives_made tables (copy_table r t) first second a b g db h =
    (of_one (λ rows. rows) (get db r) first a h g.0, g.1)
gives_made tables (merge_table r s t) first second a b g db h =
    (of_two union (get db r) (get db s) first second a h.0 h.1 g.0, g.1)
gives_made tables (partition_table r s c t) first second a b g db h = (
  of_one (filter (meets (columns_of tables r) c)) (get db r) first a h g.0,
  of_one (filter (λ row. not (meets (columns_of tables r) c row))) (get db r) first b h g.1,
)
gives_made tables (decompose_table r s xs t ys) first second a b g db h = (
  of_one (image (named xs (columns_of tables r)) (cell (columns_of tables r))) (get db r) first a h
      g.0,
  of_one (image (named ys (columns_of tables r)) (cell (columns_of tables r))) (get db r) first b h
      g.1,
)
gives_made tables (join_table r s t c) first second a b g db h = (
  of_two (join_rows (columns_of tables r) (columns_of tables s) c) (get db r) (get db s) first
      second a h.0 h.1 g.0,
  g.1,
)
gives_made tables (add_column c e r) first second a b g db h = (
  of_one (image (with_column c (type_of_value (columns_of tables r) e) (columns_of tables r))
      (added_value (columns_of tables r) c e)) (get db r) first a h g.0,
  g.1,
)
gives_made tables (drop_column c r) first second a b g db h = (
  of_one (image (without c (columns_of tables r)) (cell (columns_of tables r))) (get db r) first
      a h g.0,
  g.1,
)
gives_made tables (rename_column o r c) first second a b g db h = (
  of_one (image (renamed o c (columns_of tables r)) (moved (columns_of tables r) o c)) (get db r)
      first a h g.0,
  g.1,
)

-- what the carried database has under the names of the made tables
got : (db : Database) (n : List ℕ) (e : DatabaseEntry) → get (insert db n e) n ≡ Some e
got db n e = get-insert nat_list_cmp_total db n e n
    ∙ ap (λ b. cond b (Some e) (get db n)) (same_itself n)

still : (db : Database) (n m : List ℕ) (e : DatabaseEntry) → same n m ≡ false
    → get (insert db m e) n ≡ get db n
still db n m e h = get-insert nat_list_cmp_total db m e n ∙ ap (λ b. cond b (Some e) (get db n)) h

-- at most two tables, of two names
abbrev Apart : List Made → Type 0
Apart [] = ⊤
Apart (m ∷ []) = ⊤
Apart (m ∷ n ∷ []) = same m.name n.name ≡ false
Apart (m ∷ n ∷ o ∷ made) = ⊥

made_has : (made : List Made) (db lost : Database) (a b : Relation) → Apart made
    → AreMade made db a b → Has (made_names made) (make_all made db lost) a b
made_has [] db lost a b p h = h
made_has (m ∷ []) db lost a b p h = (got lost m.name (m.entry db) ∙ ap Some h.0, h.1)
made_has (m ∷ n ∷ []) db lost a b p h = (
  still (insert lost m.name (m.entry db)) m.name n.name (n.entry db) p
      ∙ got lost m.name (m.entry db) ∙ ap Some h.0,
  got (insert lost m.name (m.entry db)) n.name (n.entry db) ∙ ap Some h.1,
)
made_has (m ∷ n ∷ o ∷ made) db lost a b p h = absurd p

-- the second test of an operator that is not refused
pub second_met : {R : Type 0} (tests : List (Option R)) (test : Option R)
    → first_refusal tests ≡ None → slice_get tests 1 ≡ Some test → test ≡ None
second_met [] test e s = absurd (cc)
second_met (x ∷ []) test e s = absurd (cc)
second_met {R} (x ∷ y ∷ tests) test e s =
    let one : y ≡ test = some_same y test s in
    sym one ∙ (none_of_first y tests (none_of_first x (y ∷ tests) e).1).0
  where
    some_same : (p q : Option R) → Some p ≡ Some q → p ≡ q
    some_same p q h = cc

is_not : (b : Bool) → not b ≡ true → b ≡ false
is_not true h = absurd (cc)
is_not false h = refl

apart : (tables : Tables) (op : Operator) (s t : List ℕ) → op_fault tables op ≡ None
    → slice_get (line tables op).preconditions 1 ≡ Some (differ s t) → same s t ≡ false
apart tables op s t e p = is_not (same s t) (met (not (same s t)) (SameTable s)
    (second_met (line tables op).preconditions (differ s t) e p))

made_apart : (tables : Tables) (op : Operator) → op_fault tables op ≡ None
    → Apart (line tables op).made
made_apart tables nop e = tt
made_apart tables (create_table r cs) e = tt
made_apart tables (drop_table r) e = tt
made_apart tables (rename_table r t) e = tt
made_apart tables (copy_table r t) e = tt
made_apart tables (merge_table r s t) e = tt
made_apart tables (partition_table r s c t) e = apart tables (partition_table r s c t) s t e refl
made_apart tables (decompose_table r s xs t ys) e =
    apart tables (decompose_table r s xs t ys) s t e refl
made_apart tables (join_table r s t c) e = tt
made_apart tables (add_column c x r) e = tt
made_apart tables (drop_column c r) e = tt
made_apart tables (rename_column o r c) e = tt

pub gives_carried : (tables : Tables) (op : Operator) (first second a b : Relation)
    → op_fault tables op ≡ None → Gives tables op first second a b
    → IsCarried tables op first second a b
gives_carried tables op first second a b e g = record {
  made = gives_made tables op first second a b g;
  whole = λ db h. made_has (line tables op).made db (lose_all (line tables op).consumed db) a b
      (made_apart tables op e) (gives_made tables op first second a b g db h);
}

-- the column that is added is new
pub added_is_new : (tables : Tables) (c r : List ℕ) (e : Tree)
    → op_fault tables (add_column c e r) ≡ None → among c (names_of (columns_of tables r)) ≡ false
added_is_new tables c r e h =
    is_not (among c (names_of (columns_of tables r)))
    (met (not (among c (names_of (columns_of tables r)))) (ColumnExists r c)
    (second_met (line tables (add_column c e r)).preconditions
    (is_new r (columns_of tables r) c) h refl))

-- an arm of the code, for the operator that it sees
pub arm : (tables : Tables) (op seen : Op) (first second a b : Relation) → op ≡ seen
    → op_fault tables (operator_of op) ≡ None → Gives tables (operator_of seen) first second a b
    → IsCarried tables (operator_of op) first second a b
arm tables op seen first second a b is e g =
    gives_carried tables (operator_of op) first second a b e
    (subst (λ (o : Op). Gives tables (operator_of o) first second a b) (sym is) g)

pub if_both : {X E : Type 0} {P Q S : X → Type 0} (r : Result X E) → IfOk r P → IfOk r Q
    → ((v : X) → P v → Q v → S v) → IfOk r S
if_both (Ok v) p q f = f v p q
if_both (Err e) p q f = tt
