-- The law of the rule of each kind: what the unfoldings have in common with the piece, those of
-- them that live have too.
use Rattle.std.proofs.Common.{◌≡◌, Bool, true, false, cond, List, [], ◌∷◌, ◌++◌, refl, sym, ap}
use Rattle.std.proofs.Common.{subst, ◌∙◌, inl, inr}
use Rattle.std.specs.Prelude.{not, None}
use Rattle.std.specs.List.{filter, flat_map}
use Rattle.relations_spec.specs.Sets.{set_of}
use Rattle.relations_spec.proofs.SetLaws.{from_filter}
use Rattle.prima_base.specs.Order.{row_cmp}
use Rattle.prima_base.specs.declared.refusal.OpKind.{OpKind}
use Rattle.schema_catalog.specs.Tables.{Tables}
use Rattle.schema_catalog.specs.Databases.{Database}
use Rattle.smo_ops_types.specs.Operators.{Operator}
use Rattle.smo_ops_spec.specs.OneRow.{Row}
use Rattle.smo_ops_spec.specs.OperatorKinds.{operator_kind}
use Rattle.smo_ops_spec.specs.After.{op_fault, schema_after, IsValid}
use Rattle.smo_ops_spec.specs.ValidValues.{IsValidDatabase}
use Rattle.cond_expr_dead.specs.Tried.{is_killed}
use Rattle.cond_expr_dead.proofs.DeadLaws.{killed_is_dead}
use Rattle.piece_ir_spec.specs.Pieces.{PlainPiece, piece_answers}
use Rattle.piece_ir_spec.specs.Typed.{IsTyped, AllTyped, atom_kinds}
use Rattle.piece_ir_spec.specs.Unfolding.{unfoldings}
use Rattle.piece_ir_spec.specs.Rules.{IsValidRule, KeepsMeaning}
use Rattle.piece_ir_spec.proofs.ViewsLaw.{views_valid}
use Rattle.piece_prune.specs.DeadPieces.{IsDeadPiece, lives}
use Rattle.piece_prune.proofs.Pruned.{answers_nothing}
use Rattle.piece_ir_spec.specs.OperatorViews.{operator_views}
use Rattle.piece_ir_spec.proofs.EachOperator.{kind_views}
use Rattle.rewrite_rules.specs.LivingUnfoldings.{living_by_views}

-- ---- the pieces that live

from_not : (b : Bool) → not b ≡ false → b ≡ true
from_not true e = refl
from_not false e = absurd (cc)

found_dead : (tables : Tables) (p : PlainPiece) → IsTyped tables p → lives p ≡ false
    → IsDeadPiece tables p
found_dead tables p typed e = killed_is_dead (atom_kinds tables p.atoms) p.cond typed.cond
    (from_not (is_killed p.cond) e)

-- they answer what all of them answer
module _ (tables : Tables) (db : Database) (d : IsValidDatabase tables db) where
  abbrev answers : List PlainPiece → List Row
  answers = flat_map (piece_answers tables db)

  living_answer : (ps : List PlainPiece) → AllTyped tables ps
      → answers (filter lives ps) ≡ answers ps
  living_answer [] typed = refl
  living_answer (p ∷ ps) typed = step (lives p) refl (living_answer ps (λ q m. typed q (inr m)))
    where
      step : (b : Bool) → lives p ≡ b → answers (filter lives ps) ≡ answers ps
          → answers (cond b (p ∷ filter lives ps) (filter lives ps)) ≡ answers (p ∷ ps)
      step true e more = ap (λ (rows : List Row). piece_answers tables db p ++ rows) more
      step false e more =
          more ∙ sym (ap (λ (rows : List Row). rows ++ answers ps)
          (answers_nothing tables db d p (found_dead tables p (typed p (inl refl)) e)))

-- and keep the law where all of them do
living_keep : (tables : Tables) (op : Operator) (p : PlainPiece) (news : List PlainPiece)
    → KeepsMeaning tables op p news → KeepsMeaning tables op p (filter lives news)
living_keep tables op p news all = record {
  law = λ db d. ap (set_of row_cmp) (living_answer tables db d news all.typed) ∙ all.law db d;
  typed = λ q m. all.typed q (from_filter lives q news m).0;
  outputs = λ q m. all.outputs q (from_filter lives q news m).0;
  sources = λ q m. all.sources q (from_filter lives q news m).0;
  constants = λ h k q m. all.constants h k q (from_filter lives q news m).0;
}

-- ---- the rules

pub valid : (kind : OpKind) → IsValidRule kind (living_by_views operator_views)
valid kind = record {
  keeps = λ tables op p k good accepted typed.
      living_keep tables op p _ ((views_valid kind operator_views (kind_views kind)).keeps tables op
      p k good accepted typed);
}

pub kept : (tables : Tables) (op : Operator) (p : PlainPiece) (news : List PlainPiece)
    → IsValid tables → op_fault tables op ≡ None → IsTyped (schema_after tables op) p
    → news ≡ living_by_views operator_views op tables p → KeepsMeaning tables op p news
kept tables op p news h e t is = subst (KeepsMeaning tables op p) (sym is)
    ((valid (operator_kind op)).keeps tables op p refl h e t)

-- the unfoldings that are looked at are well-typed
pub all_typed : (tables : Tables) (op : Operator) (p : PlainPiece) → IsValid tables
    → op_fault tables op ≡ None → IsTyped (schema_after tables op) p
    → AllTyped tables (unfoldings (operator_views tables op) p)
all_typed tables op p h e t = ((views_valid (operator_kind op) operator_views
    (kind_views (operator_kind op))).keeps tables op p refl h e t).typed
