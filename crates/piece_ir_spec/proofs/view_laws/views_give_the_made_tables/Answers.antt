use Rattle.piece_ir_spec.proofs.EachOperator.{each_views, kind_views}
use Rattle.piece_ir_spec.proofs.view_laws.views_give_the_made_tables.Goals as goal

pub returns : goal.returns
returns c = record { each = each_views; kinds = kind_views }
