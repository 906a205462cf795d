-- What views give follows, over databases that agree up to losses, where the views ask for nothing
-- that is lost.
use Rattle.std.proofs.Common.{◌≡◌, ℕ, List, sym, ◌∙◌}
use Rattle.std.specs.Prelude.{Option, None}
use Rattle.std.specs.List.{list_all}
use Rattle.std.specs.FinMap.{FinMap, get}
use Rattle.relations_spec.specs.Sets.{In}
use Rattle.prima_base.specs.declared.value.Value.{Value}
use Rattle.prima_base.specs.Order.{bytes_cmp}
use Rattle.prima_base.specs.Columns.{Column, names_of}
use Rattle.schema_catalog.specs.Tables.{Tables}
use Rattle.schema_catalog.specs.Databases.{Database}
use Rattle.cond_expr.specs.Trees.{Tree}
use Rattle.cond_expr.specs.Values.{over, value, truth}
use Rattle.smo_ops_spec.specs.OneRow.{Row, Relation}
use Rattle.smo_ops_spec.specs.Losses.{Loss}
use Rattle.plain_answers_spec.specs.Choosing.{chosen_cell}
use Rattle.piece_ir_spec.specs.Pieces.{atom_columns}
use Rattle.piece_ir_spec.specs.Views.{PlainView, out_of}
use Rattle.piece_ir_spec.specs.Given.{Picks, AreGiven}
use Rattle.smo_ops_versions_spec.specs.ColumnLosses.{Losses}
use Rattle.temporal_lang_losses_spec.specs.Agreeing.{AgreeUpTo}
use Rattle.temporal_lang_losses_spec.proofs.KeptRows.{FollowIn}
use Rattle.temporal_lang_losses_spec.proofs.AlikeChoices.{Alike, NoneLost, alike_choice}

-- the view with other outputs
abbrev pub with_outs : PlainView → List (List ℕ × Tree) → PlainView
with_outs v outs = record { atoms = v.atoms; parts = v.parts; outs = outs }

-- Over rows that are alike, and of atoms that are not lost, the view picks alike, and has alike
-- what the other outputs have, in each column that is not lost.
pub record IfKnown (losses : Losses) (lost : List ℕ → Option Loss) (columns : List Column)
    (v : PlainView) (outs : List (List ℕ × Tree)) : Type 0 where
  pub there : NoneLost losses v.atoms
  pub parts : (f g : ℕ → List ℕ → Value) → Alike losses v.atoms f g
      → list_all (truth (over f)) v.parts ≡ list_all (truth (over g)) v.parts
  pub shown : (f g : ℕ → List ℕ → Value) → Alike losses v.atoms f g → (n : List ℕ)
      → In n (names_of columns) → lost n ≡ None
      → value (over f) (out_of v.outs n) ≡ value (over g) (out_of outs n)

module _ (tables : Tables) (losses : Losses) (a b : Database)
    (agree : AgreeUpTo tables losses a b) (columns : List Column)
    (map : FinMap bytes_cmp Loss) where
  module _ (lost : List ℕ → Option Loss)
      (is : (n : List ℕ) → In n (names_of columns) → get map n ≡ None → lost n ≡ None)
      (first second : Relation) (views others : List PlainView)
      (given : AreGiven tables a columns first views)
      (too : AreGiven tables b columns second others)
      (tell : (v : PlainView) → In v views → (outs : List (List ℕ × Tree))
      × In (with_outs v outs) others × IfKnown losses lost columns v outs) where
    abbrev cells : PlainView → List Row → ℕ → List ℕ → Value
    cells v choice = chosen_cell (atom_columns tables v.atoms) choice

    picked_too : (v : PlainView) (outs : List (List ℕ × Tree)) (choice : List Row)
        → IfKnown losses lost columns v outs → Picks tables a v choice
        → (other : List Row) × Picks tables b (with_outs v outs) other
        × Alike losses v.atoms (cells v choice) (cells v other)
    picked_too v outs choice t p =
        let o = alike_choice tables losses a b agree v.atoms t.there choice p.chosen in (
          o.0,
          record { chosen = o.1; met = sym (t.parts (cells v choice) (cells v o.0) o.2) ∙ p.met },
          o.2,
        )

    pub given_follow : FollowIn map columns first second
    given_follow row m =
        let h = given.there row m in
        let t = tell h.0 h.2 in
        let p = picked_too h.0 t.0 h.1 t.2 h.3 in
        let r = too.back (with_outs h.0 t.0) t.1 p.0 p.1 in (
          r.0,
          r.1,
          λ n i e. h.4.is n i
              ∙ t.2.shown (cells h.0 h.1) (cells h.0 p.0) p.2 n i (is n i e)
              ∙ sym (r.2.is n i),
        )
