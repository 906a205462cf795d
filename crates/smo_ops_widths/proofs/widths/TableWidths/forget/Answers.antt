use Rattle.smo_ops_widths.specs.AtHand.{all_widths}
use Rattle.smo_ops_widths.proofs.ShownLaws.{show_less}
use Rattle.smo_ops_widths.proofs.widths.TableWidths.forget.Goals as goal

pub returns : goal.returns
returns c = λ shown s. show_less (all_widths c.args.self.now) (all_widths c.take-width.new.self)
    c.args.name.now shown c.take-width.ensures.gone s
