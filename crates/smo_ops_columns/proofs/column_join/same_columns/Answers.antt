use Rattle.std.proofs.Common.{refl}
use Rattle.std.proofs.lemmas.Bool.Decides.{Decides-at, same_from_decides}
use Rattle.prima_base.specs.contracts.value.ColTypePartialEq.TheImpl.{ghosts as type_test}
use lib.Pointwise.{pointwise_decides}
use Rattle.schema_catalog.proofs.Differing.{names_decided, types_decided, pairs_decided}
use Rattle.smo_ops_columns.proofs.PairedColumns.{columns_decided}
use Rattle.smo_ops_columns.proofs.column_join.same_columns.Goals as goal

pub returns : goal.returns
returns c = same_from_decides c.eq.result _ (Decides-at c.eq.result _ c.eq.ensures
    (pointwise_decides (λ x y. pairs_decided x y _ _ (names_decided x.0 y.0)
    (types_decided type_test.eq refl refl refl refl x.1 y.1)) c.args.columns.now
    c.args.others.now))
    (columns_decided c.args.columns.now c.args.others.now)
