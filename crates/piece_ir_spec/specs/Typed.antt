-- Well-typed pieces, and the names and types of their outputs.
use Rattle.std.specs.Prelude.{◌≡◌, ℕ, List, map, true, Option, is_some}
use Rattle.std.specs.FinMap.{contains_key}
use Rattle.relations_spec.specs.Sets.{In, Ascends}
use Rattle.prima_base.specs.declared.value.ColType.{ColType}
use Rattle.prima_base.specs.Order.{bytes_cmp}
use Rattle.schema_catalog.specs.Tables.{Tables}
use Rattle.cond_expr.specs.Trees.{Tree}
use Rattle.cond_expr.specs.Kinds.{Kinds, kind_of, is_typed}
use Rattle.cond_expr.specs.AtomColumns.{kinds_of_atoms}
use Rattle.piece_ir_spec.specs.Pieces.{PlainPiece, out_names, out_trees, atom_columns}

-- each is a table
abbrev pub AreThere : Tables → List (List ℕ) → Type 0
AreThere tables atoms = (n : List ℕ) → In n atoms → contains_key tables n ≡ true

-- the types of the columns of atoms
abbrev pub atom_kinds : Tables → List (List ℕ) → Kinds
atom_kinds tables atoms = kinds_of_atoms (atom_columns tables atoms)

-- each has a type
abbrev pub HaveTypes : Kinds → List Tree → Type 0
HaveTypes of trees = (t : Tree) → In t trees → is_some (kind_of of t) ≡ true

-- a piece over the tables: each atom is one of them, the condition and each output have a type, and
-- the outputs stand in the order of their names, each once
pub record IsTyped (tables : Tables) (p : PlainPiece) : Type 0 where
  pub there : AreThere tables p.atoms
  pub cond : is_typed (atom_kinds tables p.atoms) p.cond ≡ true
  pub outs : HaveTypes (atom_kinds tables p.atoms) (out_trees p.outs)
  pub ascending : Ascends bytes_cmp (out_names p.outs)

abbrev pub AllTyped : Tables → List PlainPiece → Type 0
AllTyped tables ps = (p : PlainPiece) → In p ps → IsTyped tables p

-- the outputs' names and types
abbrev pub typed_names : Kinds → List (List ℕ × Tree) → List (List ℕ × Option ColType)
typed_names of outs = map (λ (o : List ℕ × Tree). (o.0, kind_of of o.1)) outs

abbrev pub output_types : Tables → PlainPiece → List (List ℕ × Option ColType)
output_types tables p = typed_names (atom_kinds tables p.atoms) p.outs
