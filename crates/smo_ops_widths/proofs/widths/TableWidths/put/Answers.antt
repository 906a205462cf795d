use Rattle.std.proofs.Common.{subst}
use Rattle.std.proofs.lemmas.Result.{IfOk-weaker}
use Rattle.std.specs.Prelude.{Option, Some}
use Rattle.std.specs.Option.{option_map}
use Rattle.smo_ops_widths.specs.declared.width.TableWidth.{TableWidth}
use Rattle.smo_ops_widths.specs.Counted.{MayBeAlike}
use Rattle.smo_ops_widths.specs.Shown.{width_of}
use Rattle.smo_ops_widths.specs.AtHand.{all_widths}
use Rattle.smo_ops_widths.proofs.ShownLaws.{show_more}
use Rattle.smo_ops_widths.proofs.widths.TableWidths.put.Goals as goal

pub returns-in-Some : goal.returns-in-Some
returns-in-Some c = IfOk-weaker c.put_at_hand.result _ _ (λ done h. λ shown w m s.
    show_more (all_widths c.args.self.now) (all_widths c.put_at_hand.new.self) c.args.name.now
    (Some c.in-Some.width) w shown
    (subst (λ (o : Option TableWidth). MayBeAlike (option_map width_of o) w) c.in-Some.is m) h s)
    c.put_at_hand.ensures
