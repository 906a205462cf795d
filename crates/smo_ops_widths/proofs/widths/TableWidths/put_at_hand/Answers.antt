use Rattle.std.proofs.Common.{◌≡◌, ◌∷◌, sym, subst, ◌∙◌}
use Rattle.std.specs.Prelude.{cond, Option, Some}
use Rattle.std.specs.BTreeMap.{is_at}
use Rattle.prima_base.specs.Order.{bytes_cmp}
use Rattle.smo_ops_widths.specs.AtHand.{Entry, before_others, width_at}
use Rattle.smo_ops_widths.proofs.AtHandLaws.{put_first, put_before, put_again}
use Rattle.smo_ops_widths.proofs.widths.TableWidths.put_at_hand.Goals as goal

pub returns-in_ok-copy-in-None : goal.returns-in_ok-copy-in-None
returns-in_ok-copy-in-None c = λ q.
    let es = c.args.self.now.others.entries in
    let name = c.args.name.now in
    subst (λ (o : Option Entry). width_at q ((c.in_ok-copy-in-None.field-0, c.args.width) ∷ es)
    ≡ cond (is_at (bytes_cmp name) q) (Some c.args.width) (width_at q (before_others o es)))
    (sym (sym c.take.ensures.value ∙ c.in-None.is))
    (put_first es name c.in_ok-copy-in-None.field-0 c.args.width c.in_ok-copy-in-None.ensures q)

pub returns-then-eq : goal.returns-then-eq
returns-then-eq c = λ q.
    let es = c.args.self.now.others.entries in
    let name = c.args.name.now in
    subst (λ (o : Option Entry). width_at q ((c.in-Some.named, c.args.width) ∷ es)
    ≡ cond (is_at (bytes_cmp name) q) (Some c.args.width) (width_at q (before_others o es)))
    (sym (sym c.take.ensures.value ∙ c.in-Some.is))
    (put_again es c.in-Some.named name c.in-Some.old c.args.width (sym c.if-eq.ensures) q)

pub returns-in_ok-copy-in-Some : goal.returns-in_ok-copy-in-Some
returns-in_ok-copy-in-Some c = λ q.
    let es = c.args.self.now.others.entries in
    let name = c.args.name.now in
    let fs = c.insert.new.self.entries in
    subst (λ (o : Option Entry). width_at q ((c.in_ok-copy-in-Some.field-0, c.args.width) ∷ fs)
    ≡ cond (is_at (bytes_cmp name) q) (Some c.args.width) (width_at q (before_others o es)))
    (sym (sym c.take.ensures.value ∙ c.in-Some.is))
    (put_before es name c.in_ok-copy-in-Some.field-0 c.args.width c.in_ok-copy-in-Some.ensures fs
    c.in-Some.named c.in-Some.old c.in_ok-insert-in-Some.ensures.updates.0 q)
