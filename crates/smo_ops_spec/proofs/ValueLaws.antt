-- Valid values stay valid: over operators, changes and commands.
use Rattle.std.proofs.Common.{◌≡◌, ◌≤◌, ℕ, Bool, true, false, List, [], ◌∷◌, ◌++◌, map, refl, sym}
use Rattle.std.proofs.Common.{subst, inl, inr, arith, pos}
use Rattle.std.specs.Prelude.{◌==◌, nat_le, cond, not, Option, Some, None, if◌then◌else◌}
use Rattle.std.specs.List.{filter}
use Rattle.std.specs.Ordering.{eq_by_cmp}
use Rattle.std.specs.FinMap.{get, insert, remove, get-empty, get-insert, get-remove}
use Rattle.std.specs.Cmp.Lexicographic.{nat_list_cmp_total}
use Rattle.relations_spec.proofs.SetLaws.{from_filter, from_map, from_flat_map, in_append, from_set}
use Rattle.relations_spec.proofs.SetLaws.{put_back}
use Rattle.prima_base.specs.declared.value.Value.{Value}
use Rattle.prima_base.specs.declared.value.Value.TheVariants.{Int}
use Rattle.prima_base.specs.Order.{bytes_cmp, row_cmp}
use Rattle.prima_base.specs.OrderLaws.{row_exact}
use Rattle.prima_base.specs.Columns.{IsValid, Column, names_of}
use Rattle.schema_catalog.specs.Tables.{Tables}
use Rattle.schema_catalog.specs.Databases.{cell, DatabaseEntry, Rows, Lost, Database}
use Rattle.cond_expr.specs.declared.expr.Whose.{Whose}
use Rattle.cond_expr.specs.declared.expr.Whose.TheVariants.{Free, Alias, Atom}
use Rattle.cond_expr.specs.Trees.{Tree, Test}
use Rattle.cond_expr.specs.Values.{value}
use Rattle.cond_expr.specs.Constants.{HasValid}
use Rattle.cond_expr.proofs.ConstantLaws.{small_number, value_valid}
use Rattle.smo_ops_types.specs.Operators.{Operator, nop, create_table, drop_table, rename_table}
use Rattle.smo_ops_types.specs.Operators.{copy_table, merge_table, partition_table, decompose_table}
use Rattle.smo_ops_types.specs.Operators.{join_table, add_column, drop_column, rename_column}
use Rattle.smo_ops_types.specs.Changes.{PlainChange, insertion, deletion, update, table_of}
use Rattle.smo_ops_spec.specs.OneRow.{Row, Relation, same, own_cells, meets, given, row_of}
use Rattle.smo_ops_spec.specs.OneRow.{set_value, with_sets, updated}
use Rattle.smo_ops_spec.specs.Effects.{columns_of, relation_after, with_changed, database_after}
use Rattle.smo_ops_spec.specs.Effects.{after_each}
use Rattle.smo_ops_spec.specs.Preconditions.{among}
use Rattle.smo_ops_spec.specs.Making.{image, union, added_value, moved, joined_columns}
use Rattle.smo_ops_spec.specs.Making.{joined_value}
use Rattle.smo_ops_spec.specs.Making.{joined_row, agree, join_rows, from_one, from_two}
use Rattle.smo_ops_spec.specs.OperatorTable.{Made, line}
use Rattle.smo_ops_spec.specs.After.{lose_all, make_all, migrate}
use Rattle.smo_ops_types.specs.Commands.{PlainBody, changing, evolving, PlainCommand, PlainVersion}
use Rattle.smo_ops_spec.specs.Past.{Past, no_database, newest_tables, newest_database, next_version}
use Rattle.smo_ops_spec.specs.Past.{database_at, next_database, next_past, past_with, beginning}
use Rattle.smo_ops_spec.specs.History.{past_after, AllAccepted}
use Rattle.smo_ops_spec.specs.ValidPast.{last_or_nought, IsPast}
use Rattle.smo_ops_spec.specs.Accepts.{command_fault}
use Rattle.smo_ops_spec.proofs.PastLaws.{newest_holds, up_to_later}
use Rattle.smo_ops_spec.proofs.PastMoments.{before_or_not}
use Rattle.smo_ops_spec.proofs.PastSteps.{stamp_accepted, counts_accepted, stays_valid, later_stamp}
use Rattle.smo_ops_spec.proofs.PastSteps.{body_accepted, before_command, from_command}
use Rattle.smo_ops_spec.specs.ValidValues.{BodyHolds, CommandsHold, EachHolds, VersionsHold}
use Rattle.smo_ops_spec.specs.ValidValues.{PastHolds, AreValues, HoldValues, EntryHolds}
use Rattle.smo_ops_spec.specs.ValidValues.{HoldsValues}
use Rattle.smo_ops_spec.specs.ValidValues.{OperatorHolds, OperatorsHold, CellsHold, SetsHold}
use Rattle.smo_ops_spec.specs.ValidValues.{ChangeHolds, ChangesHold}
use Rattle.smo_ops_spec.specs.ValidValues.{AllOperatorsHold}
use Rattle.smo_ops_spec.specs.Evolutions.{carried_each}
use Rattle.smo_ops_spec.specs.After.{schema_after}

-- ---- rows

cell_valid : (columns : List Column) (row : Row) (n : List ℕ) → AreValues row
    → IsValid (cell columns row n)
cell_valid [] row n h = small_number 0 (omega arith)
cell_valid (c ∷ columns) [] n h = small_number 0 (omega arith)
cell_valid (c ∷ columns) (v ∷ row) n h =
    elim (same c.0 n) as (λ b. IsValid (cond b v (cell columns row n))) [
      | true ↦ h v (inl refl)
      | false ↦ cell_valid columns row n (λ w m. h w (inr m))
    ]

own_valid : (columns : List Column) (row : Row) → AreValues row → (w : Whose) (n : List ℕ)
    → IsValid (own_cells columns row w n)
own_valid columns row h Free n = small_number 0 (omega arith)
own_valid columns row h (Alias a) n = small_number 0 (omega arith)
own_valid columns row h (Atom i) n =
    elim (0 == i) as (λ b. IsValid (if b then cell columns row n else Int (pos 0)))
    [ true ↦ cell_valid columns row n h | false ↦ small_number 0 (omega arith) ]

row_valid : (columns : List Column) (f : List ℕ → Value) → ((n : List ℕ) → IsValid (f n))
    → AreValues (map (λ (c : Column). f c.0) columns)
row_valid columns f h v m = (let g = from_map (λ (c : Column). f c.0) v columns m in
    subst IsValid g.2 (h g.0.0))

-- ---- relations

image_valid : (columns : List Column) (f : Row → List ℕ → Value) (rows : Relation) → HoldValues rows
    → ((row : Row) → AreValues row → (n : List ℕ) → IsValid (f row n))
    → HoldValues (image columns f rows)
image_valid columns f rows h k row m =
    let g = from_map (λ old. map (λ (c : Column). f old c.0) columns) row rows
    (from_set row_cmp row_exact row _ m) in
    subst AreValues g.2 (row_valid columns (f g.0) (k g.0 (h g.0 g.1)))

filter_valid : (p : Row → Bool) (rows : Relation) → HoldValues rows → HoldValues (filter p rows)
filter_valid p rows h row m = h row (from_filter p row rows m).0

union_valid : (a b : Relation) → HoldValues a → HoldValues b → HoldValues (union a b)
union_valid a b h k row m = elim (in_append row a b (from_set row_cmp row_exact row (a ++ b) m))
    [ inl i ↦ h row i | inr i ↦ k row i ]

join_valid : (cs ds : List Column) (c : Test) (a b : Relation) → HoldValues a → HoldValues b
    → HoldValues (join_rows cs ds c a b)
join_valid cs ds c a b h k row m =
    let f = from_filter (meets (joined_columns cs ds) c) row _
    (from_set row_cmp row_exact row _ m) in
    let g = from_flat_map (λ x. map (joined_row cs ds x) (filter (agree cs ds x) b)) row a f.0 in
    let p = from_map (joined_row cs ds g.0) row (filter (agree cs ds g.0) b) g.2 in
    let q = from_filter (agree cs ds g.0) p.0 b p.1 in
    subst AreValues p.2 (row_valid (joined_columns cs ds) (joined_value cs ds g.0 p.0) (λ n.
    elim (among n (names_of cs)) as (λ (x : Bool).
    IsValid (if x then cell cs g.0 n else cell ds p.0 n))
    [ true ↦ cell_valid cs g.0 n (h g.0 g.1) | false ↦ cell_valid ds p.0 n (k p.0 q.0) ]))

-- ---- operators

one_valid : (f : Relation → Relation) (x : Option DatabaseEntry) → EntryHolds x
    → ((rows : Relation) → HoldValues rows → HoldValues (f rows)) → EntryHolds (Some (from_one f x))
one_valid f None h k = λ row m. absurd m
one_valid f (Some (Rows rows)) h k = k rows h
one_valid f (Some (Lost j i)) h k = tt

two_valid : (f : Relation → Relation → Relation) (x y : Option DatabaseEntry) → EntryHolds x
    → EntryHolds y → ((a b : Relation) → HoldValues a → HoldValues b → HoldValues (f a b))
    → EntryHolds (Some (from_two f x y))
two_valid f None y h g k = one_valid (λ rows. []) y g (λ rows s row m. absurd m)
two_valid f (Some (Rows rows)) y h g k = one_valid (f rows) y g (λ b s. k rows b h s)
two_valid f (Some (Lost j i)) y h g k = tt

abbrev AllHold : Database → List Made → Type 0
AllHold db [] = Unit {0}
AllHold db (m ∷ made) = EntryHolds (Some (m.entry db)) × AllHold db made

module _ (tables : Tables) (db : Database) (is : HoldsValues db) where
  added_valid : (cs : List Column) (c : List ℕ) (e : Tree) → HasValid e → (row : Row)
      → AreValues row → (n : List ℕ) → IsValid (added_value cs c e row n)
  added_valid cs c e h row k n =
      elim (same c n) as (λ (b : Bool). IsValid
      (if b then value (own_cells cs row) e else cell cs row n)) [
        | true ↦ value_valid (own_cells cs row) (own_valid cs row k) e h
        | false ↦ cell_valid cs row n k
      ]

  moved_valid : (cs : List Column) (b c : List ℕ) (row : Row) → AreValues row → (n : List ℕ)
      → IsValid (moved cs b c row n)
  moved_valid cs b c row k n = elim (same c n) as (λ (x : Bool).
      IsValid (if x then cell cs row b else cell cs row n)) [
        | true ↦ cell_valid cs row b k
        | false ↦ cell_valid cs row n k
      ]

  made_valid : (op : Operator) → OperatorHolds op → AllHold db (line tables op).made
  made_valid nop g = tt
  made_valid (create_table r cs) g = (λ row m. absurd m, tt)
  made_valid (drop_table r) g = tt
  made_valid (rename_table r t) g = (one_valid _ (get db r) (is r) (λ rows h. h), tt)
  made_valid (copy_table r t) g = (one_valid _ (get db r) (is r) (λ rows h. h), tt)
  made_valid (merge_table r s t) g = (
    two_valid union (get db r) (get db s) (is r) (is s)
        union_valid,
    tt,
  )
  made_valid (partition_table r s c t) g = (
    one_valid _ (get db r) (is r) (filter_valid (meets (columns_of tables r) c)),
    (
      one_valid _ (get db r) (is r) (filter_valid
          (λ row. not (meets (columns_of tables r) c row))),
      tt,
    ),
  )
  made_valid (decompose_table r s xs t ys) g = (
    one_valid _ (get db r) (is r) (λ rows h. image_valid _ (cell (columns_of tables r)) rows h
        (λ row k n. cell_valid (columns_of tables r) row n k)),
    (
      one_valid _ (get db r) (is r) (λ rows h.
          image_valid _ (cell (columns_of tables r)) rows h
          (λ row k n. cell_valid (columns_of tables r) row n k)),
      tt,
    ),
  )
  made_valid (join_table r s t c) g = (
    two_valid (join_rows (columns_of tables r) (columns_of tables s) c) (get db r) (get db s)
        (is r) (is s) (join_valid (columns_of tables r) (columns_of tables s) c),
    tt,
  )
  made_valid (add_column c e r) g = (
    one_valid _ (get db r) (is r) (λ rows h.
        image_valid _ (added_value (columns_of tables r) c e) rows h
        (added_valid (columns_of tables r) c e g)),
    tt,
  )
  made_valid (drop_column c r) g = (
    one_valid _ (get db r) (is r) (λ rows h.
        image_valid _ (cell (columns_of tables r)) rows h
        (λ row k n. cell_valid (columns_of tables r) row n k)),
    tt,
  )
  made_valid (rename_column b r c) g = (
    one_valid _ (get db r) (is r) (λ rows h.
        image_valid _ (moved (columns_of tables r) b c) rows h
        (moved_valid (columns_of tables r) b c)),
    tt,
  )

put_valid : (db : Database) (r : List ℕ) (x : DatabaseEntry) → HoldsValues db → EntryHolds (Some x)
    → HoldsValues (insert db r x)
put_valid db r x h k n =
    subst EntryHolds (sym (get-insert nat_list_cmp_total db r x n))
    (elim (eq_by_cmp bytes_cmp n r) as (λ b. EntryHolds (cond b (Some x) (get db n))) [
      | true ↦ k
      | false ↦ h n
    ])

pub less_valid : (names : List (List ℕ)) (db : Database) → HoldsValues db
    → HoldsValues (lose_all names db)
less_valid [] db h = h
less_valid (r ∷ names) db h = less_valid names (remove db r) (λ n.
    subst EntryHolds (sym (get-remove nat_list_cmp_total db r n))
    (elim (eq_by_cmp bytes_cmp n r) as (λ b. EntryHolds (cond b None (get db n))) [
      | true ↦ tt
      | false ↦ h n
    ]))

more_valid : (made : List Made) (before db : Database) → HoldsValues db → AllHold before made
    → HoldsValues (make_all made before db)
more_valid [] before db h a = h
more_valid (m ∷ made) before db h a = more_valid made before (insert db m.name (m.entry before))
    (put_valid db m.name (m.entry before) h a.0) a.1

pub migrated_values : (tables : Tables) (op : Operator) (db : Database) → OperatorHolds op
    → HoldsValues db → HoldsValues (migrate tables op db)
migrated_values tables op db g h =
    more_valid (line tables op).made db (lose_all (line tables op).consumed db)
    (less_valid (line tables op).consumed db h) (made_valid tables db h op g)

-- ---- changes

given_valid : (cells : List (List ℕ × Value)) (n : List ℕ) → CellsHold cells
    → IsValid (given cells n)
given_valid [] n h = small_number 0 (omega arith)
given_valid (c ∷ cells) n h = elim (same c.0 n) as (λ b. IsValid (if b then c.1 else given cells n))
    [ true ↦ h.0 | false ↦ given_valid cells n h.1 ]

set_valid : (columns : List Column) (row : Row) (sets : List (List ℕ × Tree)) (n : List ℕ)
    → AreValues row → SetsHold sets → IsValid (set_value columns row sets n)
set_valid columns row [] n k h = cell_valid columns row n k
set_valid columns row (s ∷ sets) n k h =
    elim (same s.0 n) as (λ b. IsValid (if b then value (own_cells columns row) s.1
    else set_value columns row sets n)) [
      | true ↦ value_valid (own_cells columns row) (own_valid columns row k) s.1 h.0
      | false ↦ set_valid columns row sets n k h.1
    ]

updated_valid : (columns : List Column) (sets : List (List ℕ × Tree)) (c : Test) (row : Row)
    → AreValues row → SetsHold sets → AreValues (updated columns sets c row)
updated_valid columns sets c row k h =
    elim (meets columns c row) as (λ b. AreValues (if b then with_sets columns sets row else row)) [
      | true ↦ row_valid columns (set_value columns row sets)
          (λ n. set_valid columns row sets n k h)
      | false ↦ k
    ]

change_values : (columns : List Column) (change : PlainChange) (rows : Relation)
    → ChangeHolds change → HoldValues rows → HoldValues (relation_after columns change rows)
change_values columns (insertion t cells) rows g h row m =
    elim (put_back row_cmp row_exact (row_of columns cells) row rows m) [
      | inl e ↦ subst AreValues e (row_valid columns (given cells) (λ n. given_valid cells n g))
      | inr i ↦ h row i
    ]
change_values columns (deletion t c) rows g h row m =
    filter_valid (λ r. not (meets columns c r)) rows h row m
change_values columns (update t sets c) rows g h row m =
    let f = from_map (updated columns sets c) row rows (from_set row_cmp row_exact row _ m) in
    subst AreValues f.2 (updated_valid columns sets c f.0 (h f.0 f.1) g)

one_change : (tables : Tables) (change : PlainChange) (db : Database) → ChangeHolds change
    → HoldsValues db → HoldsValues (database_after tables change db)
one_change tables change db g h = step (get db (table_of change)) (h (table_of change))
  where
    step : (o : Option DatabaseEntry) → EntryHolds o
        → HoldsValues (with_changed (relation_after (columns_of tables (table_of change)) change) o
        (table_of change) db)
    step None k = h
    step (Some (Rows rows)) k = put_valid db (table_of change) _ h
        (change_values (columns_of tables (table_of change)) change rows g k)
    step (Some (Lost j i)) k = put_valid db (table_of change) _ h tt

pub changes_values : (tables : Tables) (changes : List PlainChange) (db : Database)
    → ChangesHold changes → HoldsValues db → HoldsValues (after_each tables changes db)
changes_values tables [] db g h = h
changes_values tables (c ∷ changes) db g h = changes_values tables changes
    (database_after tables c db) g.1 (one_change tables c db g.0 h)

pub each_values : (now : Tables) (ops : List Operator) (db : Database) → OperatorsHold ops
    → HoldsValues db → HoldsValues (carried_each now ops db)
each_values now [] db g h = h
each_values now (op ∷ ops) db g h = each_values (schema_after now op) ops (migrate now op db) g.1
    (migrated_values now op db g.0 h)

-- ---- moments

module _ (past : Past) (command : PlainCommand) (is : IsPast past)
    (accepted : command_fault past command ≡ None) (each : EachHolds past) where
  newest_values : HoldsValues (newest_database past)
  newest_values =
      let last : ℕ = last_or_nought past.last in
      let low : last_or_nought past.last ≤ last_or_nought past.last = omega arith in
      subst HoldsValues (newest_holds no_database past.states (last_or_nought past.last)
      (up_to_later (last_or_nought past.last) (last_or_nought past.last) past.states low
      is.ended)) (each (last_or_nought past.last))

  after_values : (body : PlainBody) → BodyHolds body → HoldsValues (next_database body past)
  after_values (changing changes) g = changes_values (newest_tables past) changes
      (newest_database past) g newest_values
  after_values (evolving op inverse) g = each_values (newest_tables past) op
      (newest_database past) g.0 newest_values

  values_stay : BodyHolds command.body → EachHolds (past_with past command)
  values_stay g m = elim (before_or_not m command.stamp) [
    | inl b ↦ subst HoldsValues (sym (before_command past command.stamp command.body m b)) (each m)
    | inr b ↦ subst HoldsValues (sym (from_command past command.stamp command.body is
        (later_stamp past command accepted) (body_accepted past command accepted) m b))
        (after_values command.body g)
  ]

-- ---- versions

one_version_more : (versions : List PlainVersion) (v : PlainVersion) → VersionsHold versions
    → OperatorsHold v.op × AllOperatorsHold v.inverse → VersionsHold (versions ++ v ∷ [])
one_version_more [] v h g = (g, tt)
one_version_more (w ∷ versions) v h g = (h.0, one_version_more versions v h.1 g)

versions_stay : (past : Past) (stamp : ℕ) (body : PlainBody) → BodyHolds body
    → VersionsHold past.versions → VersionsHold (next_past stamp body past).versions
versions_stay past stamp (changing changes) g h = h
versions_stay past stamp (evolving op inverse) g h =
    one_version_more past.versions (next_version stamp op inverse past) h g

pub past_stays : (past : Past) (command : PlainCommand) → IsPast past
    → command_fault past command ≡ None → BodyHolds command.body → PastHolds past
    → PastHolds (past_with past command)
past_stays past command is accepted g h = record {
  databases = values_stay past command is accepted h.databases g;
  versions = versions_stay past command.stamp command.body g h.versions;
}

-- ---- histories

no_values : (m : ℕ) → HoldsValues (database_at beginning m)
no_values m n = elim (nat_le 0 m) as (λ b. EntryHolds
    (get (if b then no_database else no_database) n)) [ true ↦ nothing n | false ↦ nothing n ]
  where
    nothing : (q : List ℕ) → EntryHolds (get no_database q)
    nothing q = subst EntryHolds (sym (get-empty bytes_cmp q)) tt

pub beginning_holds : PastHolds beginning
beginning_holds = record { databases = no_values; versions = tt }

pub history_holds : (past : Past) (commands : List PlainCommand) → IsPast past
    → AllAccepted past commands → CommandsHold commands → PastHolds past
    → PastHolds (past_after past commands)
history_holds past [] is a h holds = holds
history_holds past (c ∷ commands) is a h holds =
    history_holds (past_with past c) commands
    (stays_valid past c.stamp c.body is (stamp_accepted past c a.0) (counts_accepted past c a.0)
    (body_accepted past c a.0)) a.1 h.1 (past_stays past c is a.0 h.0 holds)
