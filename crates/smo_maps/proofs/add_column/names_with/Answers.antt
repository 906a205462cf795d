use Rattle.std.proofs.Common.{◌++◌, ◌∷◌, [], ap, ◌∙◌}
use Rattle.relations_spec.specs.Sets.{set_of}
use Rattle.prima_base.specs.Order.{bytes_cmp}
use Rattle.prima_base.specs.Columns.{names_of}
use Rattle.smo_maps.proofs.MadeNames.{with_names}
use Rattle.smo_maps.proofs.add_column.names_with.Goals as goal

pub returns : goal.returns
returns c = λ kind.
    c.put_in_order.ensures
    ∙ ap (set_of bytes_cmp) (c.in_ok-push.ensures.items
    ∙ ap (λ ns. ns ++ c.in_ok-copy.field-0 ∷ []) c.in_ok-names.ensures
    ∙ ap (λ n. names_of c.args.columns.now ++ n ∷ []) c.in_ok-copy.ensures)
    ∙ with_names c.args.columns.now c.args.column.now kind c.requires
