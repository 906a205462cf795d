use Rattle.std.proofs.Common.{◌≡◌, ◌++◌, ℕ, List, [], max, map, ap, ◌∙◌, arith}
use Rattle.smo_ops_widths.specs.Counted.{stopped, size_in}
use Rattle.smo_ops_widths.proofs.SizeLaws.{greater_of_both}
use Rattle.smo_ops_widths.proofs.width.merged.Goals as goal

abbrev Sizes : Type 0
Sizes = List (List ℕ × ℕ)

abbrev greater : Sizes → Sizes → Sizes
greater xs ys = map (λ (e : List ℕ × ℕ). (e.0, max e.1 (size_in ys e.0))) xs

-- put into what was empty
pushed : (old new first second xs ys : Sizes) → new ≡ old ++ greater first second → old ≡ []
    → first ≡ xs → second ≡ ys → new ≡ greater xs ys
pushed old new first second xs ys p e f g = p
    ∙ ap (λ (l : Sizes). l ++ greater first second) e
    ∙ ap (λ (l : Sizes). greater l second) f ∙ ap (greater xs) g

pub returns : goal.returns
returns c =
    let xs = c.args.left.now.sizes.items in
    let ys = c.args.right.now.sizes.items in
    let first = pushed c.in_ok-sizes.sizes.items c.push_greater.new.into.items c.deref.result.now
    c.deref-2.result.now xs ys c.in_ok-push_greater.ensures c.in_ok-sizes.ensures.items
    c.deref.ensures.value c.deref-2.ensures.value in
    let second = c.deref-5.ensures.value
    ∙ pushed c.in_ok-others.others.items c.push_greater-2.new.into.items c.deref-3.result.now
    c.deref-4.result.now ys xs c.in_ok-push_greater-2.ensures c.in_ok-others.ensures.items
    c.deref-3.ensures.value c.deref-4.ensures.value in
    record {
      pieces = (let p = c.saturating_add.ensures in omega (arith, p));
      atoms = (let p = c.max.ensures in omega (arith, p));
      cond = (let p = c.max-2.ensures in omega (arith, p));
      size = λ n. ap stopped (c.in_ok-push_others.ensures n
          ∙ ap (λ (l : Sizes). size_in (l ++ c.deref-5.result.now) n) first
          ∙ ap (λ (l : Sizes). size_in (greater xs ys ++ l) n) second
          ∙ greater_of_both xs ys n);
    }
