use Rattle.std.proofs.Common.{◌≡◌, sym, subst}
use Rattle.std.specs.Prelude.{Option}
use Rattle.smo_ops_widths.specs.AtHand.{Entry, before_others, width_at}
use Rattle.smo_ops_widths.proofs.AtHandLaws.{put_back}
use Rattle.smo_ops_widths.proofs.widths.TableWidths.into_map.Goals as goal

pub returns-in_ok-insert-in-Some : goal.returns-in_ok-insert-in-Some
returns-in_ok-insert-in-Some c = λ q.
    let es = c.args.self.others.entries in
    let fs = c.insert.new.self.entries in
    subst (λ (o : Option Entry). width_at q fs ≡ width_at q (before_others o es))
    (sym c.in-Some.is)
    (put_back es fs c.in-Some.name c.in-Some.width c.in_ok-insert-in-Some.ensures.updates.0 q)
