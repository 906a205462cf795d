-- What a piece means depends on the columns and the rows of its atoms alone; and a list of pieces
-- means what its members mean.
use Rattle.std.proofs.Common.{◌≡◌, ℕ, List, [], ◌∷◌, map, refl, sym, ap, subst, ◌∙◌, inl, inr}
use Rattle.std.specs.Prelude.{is_some, Option}
use Rattle.std.specs.List.{flat_map}
use Rattle.std.specs.Option.{unwrap_or}
use Rattle.std.specs.FinMap.{get}
use Rattle.relations_spec.specs.Sets.{In, set_of}
use Rattle.relations_spec.proofs.SetLaws.{in_flat_map, from_flat_map, in_set, from_set, set_same}
use Rattle.prima_base.specs.Order.{row_cmp}
use Rattle.prima_base.specs.OrderLaws.{row_exact}
use Rattle.prima_base.specs.Columns.{Column}
use Rattle.schema_catalog.specs.Tables.{Tables}
use Rattle.schema_catalog.specs.Databases.{Database}
use Rattle.cond_expr.specs.Kinds.{is_typed}
use Rattle.smo_ops_spec.specs.OneRow.{Row, Relation}
use Rattle.smo_ops_spec.specs.Effects.{columns_of, rows_under}
use Rattle.cond_expr.specs.AtomColumns.{kinds_of_atoms}
use Rattle.plain_answers_spec.specs.Choosing.{answers_over}
use Rattle.piece_ir_spec.specs.Pieces.{PlainPiece, out_trees, atom_columns, atom_rows}
use Rattle.piece_ir_spec.specs.Pieces.{piece_answers, means, all_mean}
use Rattle.piece_ir_spec.specs.Typed.{HaveTypes, IsTyped, typed_names, output_types}

pub map_same : {X Y : Type 0} (f g : X → Y) (xs : List X) → ((x : X) → In x xs → f x ≡ g x)
    → map f xs ≡ map g xs
map_same f g [] h = refl
map_same {X} {Y} f g (x ∷ xs) h = ap (λ (y : Y). y ∷ map f xs) (h x (inl refl))
    ∙ ap (λ (ys : List Y). g x ∷ ys) (map_same f g xs (λ z m. h z (inr m)))

flat_map_same : {X Y : Type 0} (f g : X → List Y) (xs : List X) → ((x : X) → In x xs → f x ≡ g x)
    → flat_map f xs ≡ flat_map g xs
flat_map_same f g [] h = refl
flat_map_same {X} {Y} f g (x ∷ xs) h = (let here = h x (inl refl) in let rest =
    flat_map_same f g xs (λ z m. h z (inr m)) in cc)

-- two schemas, each with its database, that agree on a table
pub record AgreeAt (t u : Tables) (db eb : Database) (n : List ℕ) : Type 0 where
  pub columns : get t n ≡ get u n
  pub rows : rows_under (get db n) ≡ rows_under (get eb n)

same_columns : (t u : Tables) (atoms : List (List ℕ))
    → ((n : List ℕ) → In n atoms → get t n ≡ get u n) → atom_columns t atoms ≡ atom_columns u atoms
same_columns t u atoms h = map_same (columns_of t) (columns_of u) atoms
    (λ n m. ap (λ (o : Option (List Column)). unwrap_or o []) (h n m))

same_answers : (t u : Tables) (db eb : Database) (p : PlainPiece)
    → ((n : List ℕ) → In n p.atoms → AgreeAt t u db eb n)
    → piece_answers t db p ≡ piece_answers u eb p
same_answers t u db eb p h =
    ap (λ (cs : List (List Column)). answers_over cs (atom_rows db p.atoms) (out_trees p.outs)
    p.cond) (same_columns t u p.atoms (λ n m. (h n m).columns))
    ∙ ap (λ (rs : List Relation). answers_over (atom_columns u p.atoms) rs (out_trees p.outs)
    p.cond)
    (map_same (λ n. rows_under (get db n)) (λ n. rows_under (get eb n)) p.atoms
    (λ n m. (h n m).rows))

pub same_meaning : (t u : Tables) (db eb : Database) (ps : List PlainPiece)
    → ((p : PlainPiece) → In p ps → (n : List ℕ) → In n p.atoms → AgreeAt t u db eb n)
    → all_mean t db ps ≡ all_mean u eb ps
same_meaning t u db eb ps h = ap (set_of row_cmp)
    (flat_map_same (piece_answers t db) (piece_answers u eb) ps
    (λ p m. same_answers t u db eb p (h p m)))

-- types depend on the columns alone
pub same_types : (t u : Tables) (p : PlainPiece) → ((n : List ℕ) → In n p.atoms → get t n ≡ get u n)
    → IsTyped t p → IsTyped u p
same_types t u p h typed = record {
  there = λ n m. ap is_some (sym (h n m)) ∙ typed.there n m;
  cond = ap (λ (cs : List (List Column)). is_typed (kinds_of_atoms cs) p.cond)
      (sym (same_columns t u p.atoms h)) ∙ typed.cond;
  outs = subst (λ (cs : List (List Column)). HaveTypes (kinds_of_atoms cs) (out_trees p.outs))
      (same_columns t u p.atoms h) typed.outs;
  ascending = typed.ascending;
}

pub same_outputs : (t u : Tables) (p : PlainPiece)
    → ((n : List ℕ) → In n p.atoms → get t n ≡ get u n) → output_types t p ≡ output_types u p
same_outputs t u p h = ap (λ (cs : List (List Column)). typed_names (kinds_of_atoms cs) p.outs)
    (same_columns t u p.atoms h)

-- what holds of each piece holds of the list
pub each_so : (t u : Tables) (db eb : Database) (f : PlainPiece → List PlainPiece)
    (ps : List PlainPiece)
    → ((p : PlainPiece) → In p ps → all_mean t db (f p) ≡ means u eb p)
    → all_mean t db (flat_map f ps) ≡ all_mean u eb ps
each_so t u db eb f ps law = set_same row_cmp row_exact
    (flat_map (piece_answers t db) (flat_map f ps)) (flat_map (piece_answers u eb) ps) (record {
      there = λ row m.
          let a = from_flat_map (piece_answers t db) row (flat_map f ps) m in
          let b = from_flat_map f a.0 ps a.1 in
          let c = in_set row_cmp row_exact row (flat_map (piece_answers t db) (f b.0))
          (in_flat_map (piece_answers t db) a.0 row (f b.0) b.2 a.2) in
          in_flat_map (piece_answers u eb) b.0 row ps b.1
          (from_set row_cmp row_exact row (piece_answers u eb b.0)
          (subst (In row) (law b.0 b.1) c));
      back = λ row m.
          let a = from_flat_map (piece_answers u eb) row ps m in
          let c = in_set row_cmp row_exact row (piece_answers u eb a.0) a.2 in
          let d = from_flat_map (piece_answers t db) row (f a.0)
          (from_set row_cmp row_exact row (flat_map (piece_answers t db) (f a.0))
          (subst (In row) (sym (law a.0 a.1)) c)) in
          in_flat_map (piece_answers t db) d.0 row (flat_map f ps)
          (in_flat_map f a.0 d.0 ps a.1 d.1) d.2;
    })

-- one piece alone
one_of : (tables : Tables) (db : Database) (p : PlainPiece) (row : Row) (x : PlainPiece)
    → In x (p ∷ []) → In row (piece_answers tables db x) → In row (piece_answers tables db p)
one_of tables db p row x (inl e) i = subst (λ (y : PlainPiece). In row (piece_answers tables db y))
    (sym e) i
one_of tables db p row x (inr e) i = absurd e

pub alone : (tables : Tables) (db : Database) (p : PlainPiece)
    → all_mean tables db (p ∷ []) ≡ means tables db p
alone tables db p = set_same row_cmp row_exact (flat_map (piece_answers tables db) (p ∷ []))
    (piece_answers tables db p) (record {
      there = λ row m. (let a = from_flat_map (piece_answers tables db) row (p ∷ []) m in
          one_of tables db p row a.0 a.1 a.2);
      back = λ row m. in_flat_map (piece_answers tables db) p row (p ∷ []) (inl refl) m;
    })
