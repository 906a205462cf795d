use Rattle.std.proofs.Common.{rules}
use Rattle.std.proofs.lemmas.Fn.{always_returns_same}
use Rattle.prima_base.specs.Order.{bytes_cmp}
use Rattle.schema_catalog.proofs.Placing.{placed}
use Rattle.schema_catalog.proofs.place.place_of.Goals as goal

pub returns : goal.returns
returns c =
    let facts = c.binary_search_by.ensures in
    let by_name = facts.position (λ table. bytes_cmp table.0 c.args.name.now)
    (always_returns_same _ _ _ (λ a r g called. search rules)) in
    placed c.args.tables.now c.args.name.now c.binary_search_by.result c.requires facts.bound
    by_name
