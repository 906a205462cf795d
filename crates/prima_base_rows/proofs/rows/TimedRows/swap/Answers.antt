use Rattle.std.proofs.Common.{◌≡◌, ◌<◌, ap, sym, ◌∙◌, map, length, arith}
use Rattle.std.specs.List.{swap}
use Rattle.std.proofs.lemmas.List.{length-map}
use Rattle.prima_base_rows.specs.Rows.{Rows}
use Rattle.prima_base_rows.specs.Places.{row_at}
use Rattle.prima_base_rows.proofs.Moves.{nowhere, map_swap}
use Rattle.prima_base_rows.proofs.rows.TimedRows.swap.Goals as goal

pub returns : goal.returns
returns c =
    let long : length c.args.self.now.items ≡ length c.self.inside.places.items =
    sym (ap (λ (r : Rows). length r.items) c.self.view_is)
    ∙ length-map c.self.inside.places.items (row_at c.self.inside.values) in
    let one : c.args.index < length c.self.inside.places.items =
    omega (arith, long, c.requires.first) in
    let two : c.args.other < length c.self.inside.places.items =
    omega (arith, long, c.requires.second) in
    ap (map (row_at c.self.inside.values)) c.swap.ensures.items
    ∙ map_swap (row_at c.self.inside.values) c.self.inside.places.items c.args.index c.args.other
    nowhere one two
    ∙ ap (λ (r : Rows). swap r.items c.args.index c.args.other) c.self.view_is
