-- A row is in the plain answer just where a branch and a choice give it.
use Rattle.std.proofs.Common.{List, subst}
use Rattle.std.specs.Prelude.{◌↔◌}
use Rattle.std.specs.List.{filter, flat_map}
use Rattle.relations_spec.specs.Sets.{In}
use Rattle.relations_spec.specs.Choices.{choices}
use Rattle.relations_spec.proofs.SetLaws.{in_map, from_map, in_filter, from_filter, in_flat_map}
use Rattle.relations_spec.proofs.SetLaws.{from_flat_map, in_set, from_set}
use Rattle.relations_spec.proofs.ChoiceLaws.{in_choices, from_choices}
use Rattle.prima_base.specs.Order.{row_cmp}
use Rattle.prima_base.specs.OrderLaws.{row_exact}
use Rattle.prima_base.specs.Columns.{Column}
use Rattle.schema_catalog.specs.Tables.{Tables}
use Rattle.schema_catalog.specs.Databases.{Database}
use Rattle.cond_expr.specs.Trees.{Tree, Test}
use Rattle.smo_ops_spec.specs.OneRow.{Row, Relation}
use Rattle.plain_answers_spec.specs.Choosing.{choice_meets, answered, answers_over, Gives}
use Rattle.plain_answers_spec.specs.Branches.{PlainBranch, item_columns, item_rows, branch_answers}
use Rattle.plain_answers_spec.specs.Branches.{plain, BranchGives}

module _ (columns : List (List Column)) (relations : List Relation) (outs : List Tree)
    (c : Test) where
  pub in_answers : (row : Row) → Gives columns relations outs c row
      → In row (answers_over columns relations outs c)
  in_answers row g =
      subst (λ (r : Row). In r (answers_over columns relations outs c)) g.is
      (in_map (answered columns outs) g.choice (filter (choice_meets columns c) (choices relations))
      (in_filter (choice_meets columns c) g.choice (choices relations)
      (in_choices g.choice relations g.chosen) g.met))

  pub from_answers : (row : Row) → In row (answers_over columns relations outs c)
      → Gives columns relations outs c row
  from_answers row m =
      let f = from_map (answered columns outs) row
      (filter (choice_meets columns c) (choices relations))
      m in
      let g = from_filter (choice_meets columns c) f.0 (choices relations) f.1 in
      record { choice = f.0; chosen = from_choices f.0 relations g.0; met = g.1; is = f.2 }

module _ (tables : Tables) (db : Database) (branches : List PlainBranch) (row : Row) where
  abbrev pub IsGiven : Type 0
  IsGiven = (b : PlainBranch) × In b branches × BranchGives tables db b row

  there : In row (plain tables branches db) → IsGiven
  there m =
      let f = from_flat_map (branch_answers tables db) row branches
      (from_set row_cmp row_exact row (flat_map (branch_answers tables db) branches) m) in (
        f.0,
        f.1,
        from_answers (item_columns tables f.0.from) (item_rows db f.0.from) f.0.outs
            f.0.cond row f.2,
      )

  back : IsGiven → In row (plain tables branches db)
  back h =
      let b = h.0 in
      in_set row_cmp row_exact row (flat_map (branch_answers tables db) branches)
      (in_flat_map (branch_answers tables db) b row branches h.1
      (in_answers (item_columns tables b.from) (item_rows db b.from) b.outs b.cond row h.2))

  pub plain_rows : In row (plain tables branches db) ↔ IsGiven
  plain_rows = (there, back)
