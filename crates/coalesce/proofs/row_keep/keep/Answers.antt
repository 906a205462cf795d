use Rattle.std.proofs.Common.{◌≡◌, ap, subst, sym, ◌∙◌, List, arith, length}
use Rattle.std.proofs.lemmas.Grind.{common_steps}
use Rattle.std.specs.List.{filter}
use Rattle.relations_spec.specs.Sets.{In}
use Rattle.relations_spec.proofs.SetLaws.{from_filter}
use Rattle.prima_base.specs.declared.timed_row.TimedRow.{TimedRow}
use Rattle.prima_base.specs.Keeping.{keeps_all}
use Rattle.prima_base.specs.Timed.{entries_of}
use Rattle.coalesce.specs.Cutting.{kept_row}
use Rattle.coalesce.proofs.Kept.{starts, ended}
use Rattle.coalesce.proofs.KeptEntries.{kept_rows, kept_entries}
use Rattle.coalesce.proofs.row_keep.keep.Goals as goal
use Rattle.coalesce.proofs.row_keep.keep.Goals.{After-truncate}

pub rows-init : goal.rows-init
rows-init c = (
  omega arith,
  omega arith,
  starts (kept_row c.args.conditions.now) c.args.rows.now.items,
)

left_rows : (c : After-truncate) → c.truncate.new.self.items
    ≡ filter (λ (r : TimedRow). keeps_all c.args.conditions.now r.period) c.args.rows.now.items
left_rows c =
    let n : c.rows.next ≡ length c.rows.rows.items = grind (arith, common_steps) in
    c.truncate.ensures ∙ sym (ended (kept_row c.args.conditions.now) c.rows.rows.items c.rows.kept
    c.rows.next n) ∙ sym c.rows.invariant.2 ∙ kept_rows c.args.conditions.now c.args.rows.now.items

pub returns-clause-rows : goal.returns-clause-rows
returns-clause-rows c = ap entries_of (left_rows (goal.at.returns-clause-rows c).After-truncate)
    ∙ kept_entries c.args.conditions.now c.args.rows.now.items

pub returns-clause-among : goal.returns-clause-among
returns-clause-among c = λ row m.
    (from_filter (λ (r : TimedRow). keeps_all c.args.conditions.now r.period) row
    c.args.rows.now.items (subst (λ (l : List TimedRow). In row l)
    (left_rows (goal.at.returns-clause-among c).After-truncate) m)).0
