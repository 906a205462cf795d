use Rattle.std.proofs.Common.{refl}
use Rattle.std.proofs.lemmas.Bool.Decides.{Decides-at}
use Rattle.prima_base.specs.contracts.value.ColTypePartialEq.TheImpl.{ghosts as type_test}
use lib.Pointwise.{pointwise_decides}
use Rattle.schema_catalog.proofs.Differing.{names_decided, types_decided, pairs_decided}
use Rattle.query_exec.proofs.run.same_columns.Goals as goal

pub returns : goal.returns
returns c = Decides-at c.eq.result _ c.eq.ensures
    (pointwise_decides (λ x y. pairs_decided x y _ _ (names_decided x.0 y.0)
    (types_decided type_test.eq refl refl refl refl x.1 y.1)) c.args.a.now c.args.b.now)
