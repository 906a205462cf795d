use Rattle.std.proofs.Common.{◌≡◌, ◌∷◌, sym, subst, ◌∙◌}
use Rattle.std.specs.Prelude.{cond, Option, None}
use Rattle.std.specs.BTreeMap.{is_at}
use Rattle.prima_base.specs.Order.{bytes_cmp}
use Rattle.smo_ops_widths.specs.AtHand.{Entry, before_others, width_at}
use Rattle.smo_ops_widths.proofs.AtHandLaws.{hand_gone, hand_stays}
use Rattle.smo_ops_widths.proofs.widths.TableWidths.take.Goals as goal

pub returns-then-eq-clause-gone : goal.returns-then-eq-clause-gone
returns-then-eq-clause-gone c = λ q.
    let es = c.args.self.now.others.entries in
    let name = c.args.name.now in
    let others = c.take_other-other.new.others in
    subst (λ (o : Option Entry). width_at q (before_others o others.entries)
    ≡ cond (is_at (bytes_cmp name) q) None (width_at q (before_others c.args.self.now.at_hand es)))
    (sym c.take.ensures.after)
    (subst (λ (o : Option Entry). width_at q others.entries
    ≡ cond (is_at (bytes_cmp name) q) None (width_at q (before_others o es)))
    (sym (sym c.take.ensures.value ∙ c.in-Some.is))
    (hand_gone es others.entries c.in-Some.named name c.in-Some.width
    c.take_other-other.ensures.gone (sym c.if-eq.ensures) q))

pub returns-else-eq-clause-gone : goal.returns-else-eq-clause-gone
returns-else-eq-clause-gone c = λ q.
    let es = c.args.self.now.others.entries in
    let name = c.args.name.now in
    let others = c.take_other-other.new.others in
    subst (λ (o : Option Entry). width_at q ((c.in-Some.named, c.in-Some.width) ∷ others.entries)
    ≡ cond (is_at (bytes_cmp name) q) None (width_at q (before_others o es)))
    (sym (sym c.take.ensures.value ∙ c.in-Some.is))
    (hand_stays es others.entries c.in-Some.named name c.in-Some.width
    c.take_other-other.ensures.gone (sym c.if-eq.ensures) q)
