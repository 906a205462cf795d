-- The tables of a well-typed piece are stored, with the columns that it names; what is stored of
-- them is the database's.
use Rattle.std.proofs.Common.{◌≡◌, ℕ, suc, ◌+◌, ◌≤◌, true, false, List, [], ◌∷◌, length, refl, sym}
use Rattle.std.proofs.Common.{ap, ◌∙◌, subst, inl, inr, arith}
use Rattle.std.specs.Prelude.{Option, Some, None, is_some, is_none, unwrap_or}
use Rattle.std.specs.List.{flat_map}
use Rattle.std.specs.FinMap.{get}
use Rattle.relations_spec.specs.Sets.{In, set_of}
use Rattle.relations_spec.proofs.SetLaws.{from_flat_map, in_append}
use Rattle.prima_base.specs.Order.{row_cmp}
use Rattle.prima_base.specs.Columns.{Column, names_of}
use Rattle.prima_base.specs.declared.value.ColType.{ColType}
use Rattle.schema_catalog.specs.Tables.{Tables}
use Rattle.cond_expr.specs.declared.expr.ColRef.{ColRef}
use Rattle.cond_expr.specs.declared.expr.Whose.TheVariants.{Atom}
use Rattle.cond_expr.specs.Trees.{Tree}
use Rattle.cond_expr.specs.Kinds.{Kinds}
use Rattle.cond_expr.specs.Faults.{references, test_references}
use Rattle.cond_expr.proofs.FaultLaws.{known_tree, known_test}
use Rattle.smo_ops_spec.specs.OneRow.{Relation}
use Rattle.smo_ops_spec.specs.Effects.{columns_of, rows_under}
use Rattle.smo_ops_spec.specs.Past.{Past, no_tables, tables_from, tables_of, database_at}
use Rattle.smo_ops_types.specs.Commands.{PlainVersion}
use Rattle.history_store.specs.Store.{Store}
use Rattle.version_groups.specs.StoredTables.{rows_stored}
use Rattle.version_groups.specs.Groups.{Kept, table_in}
use Rattle.version_groups.specs.Representation.{IsInForce, RepresentsEntry, Represents}
use Rattle.plain_answers_spec.specs.Naming.{IsNamed, names_at, all_references}
use Rattle.plain_answers_spec.specs.Choosing.{answers_over}
use Rattle.plain_answers_spec.proofs.NameLaws.{from_names_at}
use Rattle.piece_ir_spec.specs.Pieces.{PlainPiece, out_trees, atom_columns, atom_rows, means}
use Rattle.piece_ir_spec.specs.Typed.{AreThere, atom_kinds, HaveTypes, IsTyped}
use Rattle.piece_ir_spec.proofs.AtomKinds.{atom_kind, kinds_at, typed_named}
use Rattle.join_exec.specs.Pieces.{columns_stored, stored_columns, stored_rows, stored_meaning}
use Rattle.join_exec.specs.Pieces.{atoms_read, piece_reads}
use Rattle.join_exec.specs.Atoms.{IsReadable, AreReadable}
use Rattle.join_exec.proofs.KnownNames.{each_some}

-- each reference of a well-typed piece has a type
some_of : (o : Option ColType) → is_none o ≡ false → is_some o ≡ true
some_of None e = absurd (cc)
some_of (Some k) e = refl

outs_known : (of : Kinds) (outs : List Tree) → HaveTypes of outs → (r : ColRef)
    → In r (flat_map references outs) → is_some (of r.whose r.name) ≡ true
outs_known of outs h r i =
    let t = from_flat_map references r outs i in
    some_of (of r.whose r.name) (each_some of (references t.0) (known_tree of t.0 (h t.0 t.1)) r
    t.2)

all_known : (tables : Tables) (p : PlainPiece) → IsTyped tables p → (r : ColRef)
    → In r (all_references (out_trees p.outs) p.cond)
    → is_some (atom_kinds tables p.atoms r.whose r.name) ≡ true
all_known tables p typed r i =
    elim (in_append r (flat_map references (out_trees p.outs)) (test_references p.cond) i) [
      | inl k ↦ outs_known (atom_kinds tables p.atoms) (out_trees p.outs) typed.outs r k
      | inr k ↦ some_of (atom_kinds tables p.atoms r.whose r.name)
          (each_some (atom_kinds tables p.atoms) (test_references p.cond)
          (known_test (atom_kinds tables p.atoms) p.cond typed.cond) r k)
    ]

-- one version, shown
module _ (kept : Kept) (past : Past) (k : ℕ) (represents : Represents kept past)
    (there : k ≤ length past.versions) where
  abbrev tables : Tables
  tables = tables_of past k

  -- a table that is one of the version is stored
  readable_of : (ns : List (List ℕ)) (n : List ℕ) (its : Option (List Column)) (o : Option Store)
      → is_some its ≡ true → RepresentsEntry past k n its o
      → ((name : List ℕ) → In name ns → In name (names_of (unwrap_or its []))) → IsReadable o ns
  readable_of ns n None o e h f = absurd (cc)
  readable_of ns n (Some cs) None e h f = absurd h
  readable_of ns n (Some cs) (Some s) e h f = λ name m.
      subst (λ (columns : List Column). In name (names_of columns)) (sym h.columns) (f name m)

  readable_from : (rs : List ColRef) (i : ℕ) (atoms : List (List ℕ)) → AreThere tables atoms
      → ((j : ℕ) (name : List ℕ) → IsNamed (i + j) rs name
      → is_some (atom_kind (atom_columns tables atoms) j name) ≡ true)
      → AreReadable kept k rs i atoms
  readable_from rs i [] t f = tt
  readable_from rs i (n ∷ atoms) t f =
      let z : i + 0 ≡ i = omega arith in (
        readable_of (names_at i rs) n (get tables n) (table_in kept k n) (t n (inl refl))
            (represents.tables k n there)
            (λ name m. typed_named (columns_of tables n) name
            (f 0 name (subst (λ j. IsNamed j rs name) (sym z) (from_names_at i rs name m)))),
        readable_from rs (i + 1) atoms (λ x m. t x (inr m))
            (λ j name m. (let e : i + 1 + j ≡ i + suc j = omega arith in
            f (suc j) name (subst (λ l. IsNamed l rs name) e m))),
      )

  pub readable : (p : PlainPiece) → IsTyped tables p
      → AreReadable kept k (all_references (out_trees p.outs) p.cond) 0 p.atoms
  readable p typed =
      readable_from (all_references (out_trees p.outs) p.cond) 0 p.atoms typed.there
      (λ j name m. (
      let z : 0 + j ≡ j = omega arith in
      let here : IsNamed j (all_references (out_trees p.outs) p.cond) name =
      subst (λ l. IsNamed l (all_references (out_trees p.outs) p.cond) name) z m in
      subst (λ (o : Option ColType). is_some o ≡ true)
      (kinds_at (atom_columns tables p.atoms) j name)
      (all_known tables p typed (record { whose = Atom j; name = name }) here)))

  -- what is stored of it is what the database has
  columns_same : (n : List ℕ) (its : Option (List Column)) (o : Option Store)
      → RepresentsEntry past k n its o → columns_stored o ≡ unwrap_or its []
  columns_same n None None h = refl
  columns_same n None (Some s) h = absurd h
  columns_same n (Some cs) None h = absurd h
  columns_same n (Some cs) (Some s) h = h.columns

  rows_same : (m : ℕ) → IsInForce past.versions k m
      → (n : List ℕ) (its : Option (List Column)) (o : Option Store) → is_some its ≡ true
      → RepresentsEntry past k n its o
      → rows_stored m o ≡ rows_under (get (database_at past m) n)
  rows_same m f n None o e h = absurd (cc)
  rows_same m f n (Some cs) None e h = absurd h
  rows_same m f n (Some cs) (Some s) e h = h.shown m f

  columns_shown : (atoms : List (List ℕ)) → stored_columns kept k atoms ≡ atom_columns tables atoms
  columns_shown [] = refl
  columns_shown (n ∷ atoms) =
      ap (λ (cs : List Column). cs ∷ stored_columns kept k atoms)
      (columns_same n (get tables n) (table_in kept k n) (represents.tables k n there))
      ∙ ap (λ (more : List (List Column)). columns_of tables n ∷ more) (columns_shown atoms)

  rows_shown : (m : ℕ) → IsInForce past.versions k m → (atoms : List (List ℕ))
      → AreThere tables atoms → stored_rows kept k atoms m ≡ atom_rows (database_at past m) atoms
  rows_shown m f [] t = refl
  rows_shown m f (n ∷ atoms) t =
      ap (λ (r : Relation). r ∷ stored_rows kept k atoms m)
      (rows_same m f n (get tables n) (table_in kept k n) (t n (inl refl))
      (represents.tables k n there))
      ∙ ap (λ (more : List Relation). rows_under (get (database_at past m) n) ∷ more)
      (rows_shown m f atoms (λ x i. t x (inr i)))

  pub meaning_shown : (p : PlainPiece) (m : ℕ) → IsInForce past.versions k m
      → AreThere tables p.atoms → stored_meaning kept k p m ≡ means tables (database_at past m) p
  meaning_shown p m f t =
      ap (λ (cs : List (List Column)). set_of row_cmp
      (answers_over cs (stored_rows kept k p.atoms m) (out_trees p.outs) p.cond))
      (columns_shown p.atoms)
      ∙ ap (λ (rs : List Relation). set_of row_cmp
      (answers_over (atom_columns tables p.atoms) rs (out_trees p.outs) p.cond))
      (rows_shown m f p.atoms t)

-- all pasts that are shown have the same versions
pub same_versions : (kept : Kept) (past other : Past) → Represents kept past → Represents kept other
    → past.versions ≡ other.versions
same_versions kept past other h g = sym h.versions ∙ g.versions

-- what is stored means what the database does, whichever past it is by which the piece was found to
-- be well-typed
pub meaning_then : (kept : Kept) (k : ℕ) (first past : Past) → Represents kept first
    → Represents kept past → k ≤ length first.versions → (p : PlainPiece)
    → IsTyped (tables_of first k) p → (m : ℕ) → IsInForce past.versions k m
    → stored_meaning kept k p m ≡ means (tables_of past k) (database_at past m) p
meaning_then kept k first past h g there p typed m f =
    let e : first.versions ≡ past.versions = same_versions kept first past h g in
    let here : k ≤ length past.versions = subst (λ (vs : List PlainVersion). k ≤ length vs) e
    there in
    let t : AreThere (tables_of past k) p.atoms =
    subst (λ (vs : List PlainVersion). AreThere (tables_from no_tables vs k) p.atoms) e
    typed.there in
    meaning_shown kept past k g here p m f t

-- the same of what a call was given, step by step
module _ (kept : Kept) (k : ℕ) (p : PlainPiece) (atoms : List (List ℕ)) (trees : List Tree)
    (a : atoms ≡ p.atoms) (o : trees ≡ out_trees p.outs) where
  pub given_ready : AreReadable kept k (all_references (out_trees p.outs) p.cond) 0 p.atoms
      → AreReadable kept k (all_references trees p.cond) 0 atoms
  given_ready h =
      subst (λ (ts : List (List ℕ)). AreReadable kept k (all_references trees p.cond) 0 ts) (sym a)
      (subst (λ (ts : List Tree). AreReadable kept k (all_references ts p.cond) 0 p.atoms) (sym o)
      h)

  pub given_meaning : (m : ℕ) → set_of row_cmp
      (answers_over (stored_columns kept k atoms) (stored_rows kept k atoms m) trees p.cond)
      ≡ stored_meaning kept k p m
  given_meaning m =
      ap (λ (ts : List (List ℕ)). set_of row_cmp
      (answers_over (stored_columns kept k ts) (stored_rows kept k ts m) trees p.cond)) a
      ∙ ap (λ (ts : List Tree). set_of row_cmp
      (answers_over (stored_columns kept k p.atoms) (stored_rows kept k p.atoms m) ts p.cond)) o

  pub given_reads : atoms_read kept k (all_references trees p.cond) 0 atoms ≡ piece_reads kept k p
  given_reads =
      ap (λ (ts : List (List ℕ)). atoms_read kept k (all_references trees p.cond) 0 ts) a
      ∙ ap (λ (ts : List Tree). atoms_read kept k (all_references ts p.cond) 0 p.atoms) o
