use Rattle.std.proofs.Common.{rules, ◌≡◌, ◌++◌, [], ◌∷◌, ap, ◌∙◌, append_assoc, append-nil}
use Rattle.std.specs.List.{concat}
use Rattle.std.proofs.lemmas.List.Folds.{concat-append}
use Rattle.history_store_index.proofs.index.cut.Goals as goal

pub cut-preserved : goal.cut-preserved
cut-preserved c =
    let w = c.cut.invariant in
    let p : c.push.new.self.items ≡ c.cut.blocks.items ++ c.in_ok-of.field-0 ∷ [] = search rules in
    let b : c.in_ok-of.field-0 ≡ c.split_at.result.0.now = search rules in
    let s : c.split_at.result.0.now ++ c.split_at.result.1.now ≡ c.cut.rest.now = search rules in
    let e : concat (c.cut.blocks.items ++ c.in_ok-of.field-0 ∷ []) ≡ concat c.cut.blocks.items
    ++ c.in_ok-of.field-0 = concat-append c.cut.blocks.items (c.in_ok-of.field-0 ∷ [])
    ∙ ap (λ r. concat c.cut.blocks.items ++ r) (append-nil c.in_ok-of.field-0) in
    ap (λ bs. concat bs ++ c.split_at.result.1.now) p ∙ ap (λ r. r ++ c.split_at.result.1.now) e
    ∙ append_assoc (concat c.cut.blocks.items) c.in_ok-of.field-0 c.split_at.result.1.now
    ∙ ap (λ r. concat c.cut.blocks.items ++ (r ++ c.split_at.result.1.now)) b
    ∙ ap (λ r. concat c.cut.blocks.items ++ r) s ∙ w
