use Rattle.std.proofs.Common.{ℕ, List, sym, ap, ◌∙◌}
use Rattle.std.specs.Prelude.{Some}
use Rattle.std.specs.FinMap.{get}
use Rattle.prima_base.specs.Columns.{Column}
use Rattle.smo_ops_widths.specs.Widths.{measure, measure_of}
use Rattle.smo_ops_widths.specs.Counted.{stopped}
use Rattle.smo_ops_widths.specs.Shown.{width_of}
use Rattle.smo_ops_widths.proofs.AlikeLaws.{measures_same}
use Rattle.smo_ops_widths.proofs.FoundLaws.{one_there}
use Rattle.smo_ops_widths.specs.AtHand.{all_widths}
use Rattle.smo_ops_widths.proofs.measure.measure_of.Goals as goal

pub returns-in-Some-clause-measure : goal.returns-in-Some-clause-measure
returns-in-Some-clause-measure c = λ shown s.
    let w = c.in-Some.width.now in
    let n = c.name.result.now in
    let columns = c.args.table.now.1 in
    c.measure.ensures
    ∙ ap (λ (cs : List Column). stopped (measure cs (width_of w))) c.columns.ensures.value
    ∙ measures_same (Some (width_of w)) (get shown n)
    (one_there (all_widths c.args.widths.now) shown s n w (sym c.in-Some.ensures)) columns
    ∙ ap (λ (m : List ℕ). stopped (measure_of columns (get shown m))) c.name.ensures.value
