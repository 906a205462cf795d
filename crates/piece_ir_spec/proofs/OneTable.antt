-- What is made of one table, row by row, as a view of it shows.
use Rattle.std.proofs.Common.{◌≡◌, ℕ, true, List, [], ◌∷◌, ◌++◌, refl, sym, ap, subst, ◌∙◌, inl}
use Rattle.std.proofs.Common.{inr}
use Rattle.std.specs.Prelude.{Option, Some, None, is_some}
use Rattle.std.specs.List.{list_all}
use Rattle.std.proofs.lemmas.List.{append-nil}
use Rattle.std.specs.FinMap.{get, contains_key}
use Rattle.relations_spec.specs.Sets.{In}
use Rattle.relations_spec.specs.Choices.{Chosen}
use Rattle.relations_spec.proofs.SetLaws.{in_left, in_right, in_append, in_set, from_set}
use Rattle.prima_base.specs.Order.{row_cmp}
use Rattle.prima_base.specs.OrderLaws.{row_exact}
use Rattle.prima_base.specs.Columns.{Column, names_of}
use Rattle.prima_base.specs.declared.value.ColType.{ColType}
use Rattle.schema_catalog.specs.Tables.{Tables}
use Rattle.schema_catalog.specs.Databases.{cell, DatabaseEntry, Rows, Lost, Database, IsEntry}
use Rattle.cond_expr.specs.Trees.{Tree, Test}
use Rattle.cond_expr.specs.Values.{Cells, value, truth}
use Rattle.cond_expr.specs.Kinds.{Kinds, kind_of, is_typed, kinds_of}
use Rattle.smo_ops_types.specs.Operators.{Operator}
use Rattle.smo_ops_spec.specs.OneRow.{Row, Relation, own_kinds, own_cells}
use Rattle.cond_expr.specs.AtomColumns.{columns_at}
use Rattle.smo_ops_spec.specs.Preconditions.{type_in}
use Rattle.smo_ops_spec.specs.Effects.{columns_of, rows_of, rows_under}
use Rattle.smo_ops_spec.specs.Making.{union, from_one, from_two}
use Rattle.smo_ops_spec.specs.OperatorTable.{a_table}
use Rattle.smo_ops_spec.specs.Touching.{made_of}
use Rattle.cond_expr.specs.AtomColumns.{kinds_of_atoms}
use Rattle.plain_answers_spec.proofs.OneRelation.{own_alike}
use Rattle.piece_ir_spec.specs.Views.{PlainView, out_of}
use Rattle.piece_ir_spec.specs.Constants.{ValidInOperator, ValidInView}
use Rattle.piece_ir_spec.specs.Given.{Picks, HasOutputs, AreGiven, IsTypedView, IsGivenBy}

-- the made row has in each column what the outputs have of the old one
abbrev pub IsShown : List Column → List Column → List (List ℕ × Tree) → Row → Row → Type 0
IsShown cs new outs old row = (n : List ℕ) → In n (names_of new)
    → cell new row n ≡ value (own_cells cs old) (out_of outs n)

-- each made row is shown by an old one that meets the parts, and each of these shows a made row
pub record IsMadeOfOne (cs new : List Column) (parts : List Test) (outs : List (List ℕ × Tree))
    (rows made : Relation) : Type 0 where
  pub there : (row : Row) → In row made → (old : Row) × In old rows
      × (list_all (truth (own_cells cs old)) parts ≡ true) × IsShown cs new outs old row
  pub back : (old : Row) → In old rows → list_all (truth (own_cells cs old)) parts ≡ true
      → (row : Row) × In row made × IsShown cs new outs old row

pub only_one : {X : Type 0} (x y : X) → In y (x ∷ []) → x ≡ y
only_one x y (inl e) = e
only_one x y (inr m) = absurd m

pub one_chosen : (choice : List Row) (rows : Relation) → Chosen choice (rows ∷ []) → (row : Row)
    × (choice ≡ row ∷ []) × In row rows
one_chosen [] rows h = absurd h
one_chosen (row ∷ []) rows h = (row, refl, h.0)
one_chosen (row ∷ (other ∷ choice)) rows h = absurd h.1

module _ (tables : Tables) (db : Database) (r : List ℕ) (new : List Column) (parts : List Test)
    (outs : List (List ℕ × Tree)) (made : Relation) where
  abbrev cs : List Column
  cs = columns_of tables r

  abbrev view : PlainView
  view = record { atoms = r ∷ []; parts = parts; outs = outs }

  picked : (old : Row) → In old (rows_under (get db r))
      → list_all (truth (own_cells cs old)) parts ≡ true → Picks tables db view (old ∷ [])
  picked old m e = record {
    chosen = (m, tt);
    met = subst (λ (at : Cells). list_all (truth at) parts ≡ true) (sym (own_alike cs old)) e;
  }

  shown : (old row : Row) → IsShown cs new outs old row → HasOutputs tables new view (old ∷ []) row
  shown old row h = record {
    is = λ n m. h n m
        ∙ ap (λ (at : Cells). value at (out_of outs n)) (sym (own_alike cs old));
  }

  pub given_by_one : IsMadeOfOne cs new parts outs (rows_under (get db r)) made
      → AreGiven tables db new made (view ∷ [])
  given_by_one h = record {
    there = λ row m. (let g = h.there row m in
        (view, g.0 ∷ [], inl refl, picked g.0 g.1 g.2, shown g.0 row g.3));
    back = λ v m. subst (λ (q : PlainView). (choice : List Row) → Picks tables db q choice
        → (row : Row) × In row made × HasOutputs tables new q choice row)
        (only_one view v m) of_view;
  }
    where
      of_row : (choice : List Row) → Picks tables db view choice → (old : Row) × (choice ≡ old ∷ [])
          × In old (rows_under (get db r))
          → (row : Row) × In row made × HasOutputs tables new view choice row
      of_row choice p (old, e, m) =
          let q : Picks tables db view (old ∷ []) =
          subst (λ (c : List Row). Picks tables db view c) e p in
          let g = h.back old m (subst (λ (at : Cells). list_all (truth at) parts ≡ true)
          (own_alike cs old) q.met) in (
            g.0,
            g.1,
            subst (λ (c : List Row). HasOutputs tables new view c g.0) (sym e)
                (shown old g.0 g.2),
          )

      of_view : (choice : List Row) → Picks tables db view choice → (row : Row) × In row made
          × HasOutputs tables new view choice row
      of_view choice p = of_row choice p (one_chosen choice (rows_under (get db r)) p.chosen)

-- the union of two relations has the views of both
module _ (tables : Tables) (db : Database) (columns : List Column) (a b : Relation)
    (vs ws : List PlainView) where
  pub given_by_both : AreGiven tables db columns a vs → AreGiven tables db columns b ws
      → AreGiven tables db columns (union a b) (vs ++ ws)
  given_by_both h g = record {
    there = λ row m. elim (in_append row a b (from_set row_cmp row_exact row (a ++ b) m)) [
      | inl i ↦ (let k = h.there row i in (k.0, k.1, in_left k.0 vs ws k.2, k.3, k.4))
      | inr i ↦ (let k = g.there row i in (k.0, k.1, in_right k.0 vs ws k.2, k.3, k.4))
    ];
    back = λ v m choice p. elim (in_append v vs ws m) [
      | inl i ↦ (let k = h.back v i choice p in
          (k.0, in_set row_cmp row_exact k.0 (a ++ b) (in_left k.0 a b k.1), k.2))
      | inr i ↦ (let k = g.back v i choice p in
          (k.0, in_set row_cmp row_exact k.0 (a ++ b) (in_right k.0 a b k.1), k.2))
    ];
  }

-- what a table of the database has
pub one_there : (f : Relation → Relation) (o : Option (List Column)) (x : Option DatabaseEntry)
    → is_some o ≡ true → IsEntry o x → rows_of (from_one f x) ≡ f (rows_under x)
one_there f None x s e = absurd (cc)
one_there f (Some columns) None s e = absurd e
one_there f (Some columns) (Some (Rows rows)) s e = refl
one_there f (Some columns) (Some (Lost k i)) s e = absurd e

pub two_there : (f : Relation → Relation → Relation) (o p : Option (List Column))
    (x y : Option DatabaseEntry) → is_some o ≡ true → is_some p ≡ true → IsEntry o x → IsEntry p y
    → rows_of (from_two f x y) ≡ f (rows_under x) (rows_under y)
two_there f None p x y s t e h = absurd (cc)
two_there f (Some columns) p None y s t e h = absurd e
two_there f (Some columns) p (Some (Rows rows)) y s t e h = one_there (f rows) p y t h
two_there f (Some columns) p (Some (Lost k i)) y s t e h = absurd e

-- the types of one atom's columns
pub alone_kinds : (columns : List Column) → kinds_of_atoms (columns ∷ []) ≡ own_kinds columns
alone_kinds columns = ap kinds_of (append-nil (columns_at 0 columns))

module _ (tables : Tables) (r : List ℕ) (new : List Column) (parts : List Test)
    (outs : List (List ℕ × Tree)) where
  abbrev of : Kinds
  of = own_kinds (columns_of tables r)

  pub typed_by_one : contains_key tables r ≡ true → ((c : Test) → In c parts → is_typed of c ≡ true)
      → ((n : List ℕ) (k : ColType) → type_in new n ≡ Some k → kind_of of (out_of outs n) ≡ Some k)
      → IsTypedView tables new (record { atoms = r ∷ []; parts = parts; outs = outs })
  typed_by_one here p q = record {
    there = λ n m. subst (λ (x : List ℕ). contains_key tables x ≡ true) (only_one r n m) here;
    parts = λ c m. ap (λ (x : Kinds). is_typed x c) (alone_kinds (columns_of tables r)) ∙ p c m;
    outs = λ n k e. ap (λ (x : Kinds). kind_of x (out_of outs n))
        (alone_kinds (columns_of tables r)) ∙ q n k e;
  }

-- a table that is made of one other is given by one view
module _ (tables : Tables) (op : Operator) (r t : List ℕ) (new : List Column) (f : Relation
    → Relation) (parts : List Test) (outs : List (List ℕ × Tree)) where
  abbrev kinds : Kinds
  kinds = own_kinds (columns_of tables r)

  abbrev its_view : PlainView
  its_view = record { atoms = r ∷ []; parts = parts; outs = outs }

  pub given_by_view : contains_key tables r ≡ true
      → ((rows : Relation) → IsMadeOfOne (columns_of tables r) new parts outs rows (f rows))
      → ((c : Test) → In c parts → is_typed kinds c ≡ true)
      → ((n : List ℕ) (k : ColType) → type_in new n ≡ Some k
      → kind_of kinds (out_of outs n) ≡ Some k)
      → In r (made_of op) → (ValidInOperator op → ValidInView its_view)
      → IsGivenBy tables op (a_table t new (λ db. from_one f (get db r))) (t, its_view ∷ [])
  given_by_view here made p q i constants = record {
    name = refl;
    rows = λ db h. subst (λ (rows : Relation). AreGiven tables db new rows (its_view ∷ []))
        (sym (one_there f (get tables r) (get db r) here (h r)))
        (given_by_one tables db r new parts outs (f (rows_under (get db r)))
        (made (rows_under (get db r))));
    typed = λ v m. subst (λ (x : PlainView). IsTypedView tables new x) (only_one its_view v m)
        (typed_by_one tables r new parts outs here p q);
    inputs = λ v m n. subst (λ (x : PlainView). In n x.atoms → In n (made_of op))
        (only_one its_view v m)
        (λ j. subst (λ (x : List ℕ). In x (made_of op)) (only_one r n j) i);
    constants = λ h v m. subst ValidInView (only_one its_view v m) (constants h);
  }
