use Rattle.std.proofs.Common.{ap, sym, ◌∙◌, map, take}
use Rattle.std.proofs.lemmas.List.{take-map}
use Rattle.prima_base_rows.specs.Rows.{Rows}
use Rattle.prima_base_rows.specs.Places.{row_at}
use Rattle.prima_base_rows.proofs.rows.TimedRows.truncate.Goals as goal

pub returns : goal.returns
returns c = ap (map (row_at c.self.inside.values)) c.truncate.ensures.items
    ∙ sym (take-map (row_at c.self.inside.values) c.args.rows c.self.inside.places.items)
    ∙ ap (λ (r : Rows). take c.args.rows r.items) c.self.view_is
