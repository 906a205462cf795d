use Rattle.std.proofs.Common.{◌≡◌, ◌++◌, take, map}
use Rattle.std.specs.List.{filter}
use Rattle.cond_expr.specs.Seen.{test}
use Rattle.smo_ops_spec.specs.OneRow.{meets}
use Rattle.smo_maps.specs.Picking.{picked_row}
use Rattle.smo_maps.proofs.join_table.append_joined.Given as goal

abbrev pub invariant-loop-partner : goal.invariant-loop-partner
invariant-loop-partner l = l.made.items ≡ l.fn.made.items
    ++ filter (meets l.own (test l.cond)) (map (picked_row l.sources l.row)
    (map (λ b. b.now) (take l.partner-index l.partners)))
