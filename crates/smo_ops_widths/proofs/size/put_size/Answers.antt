use Rattle.std.proofs.Common.{◌≡◌, ℕ, List, ap, sym, subst, ◌∙◌, position, arith}
use Rattle.std.specs.Prelude.{Some, None}
use Rattle.smo_ops_spec.specs.OneRow.{same}
use Rattle.smo_ops_widths.specs.Counted.{size_in}
use Rattle.smo_ops_widths.proofs.PutSizes.{put_in_place, put_behind, put_nowhere}
use Rattle.smo_ops_widths.proofs.size.put_size.Goals as goal

pub returns-in-Some : goal.returns-in-Some
returns-in-Some c =
    let name = c.args.name.now in
    let found = subst (λ (xs : List (List ℕ × ℕ)).
    position (λ (e : List ℕ × ℕ). same name e.0) xs ≡ Some c.in-Some.place) c.deref.ensures.value
    (sym c.in-Some.ensures) in
    put_in_place name c.args.size c.args.sizes.now.items c.in-Some.place found
    c.index_mut.result.now c.index_mut.ensures.value

pub returns-in_ok-push-in-None : goal.returns-in_ok-push-in-None
returns-in_ok-push-in-None c = λ n.
    let name = c.args.name.now in
    let nowhere = subst (λ (xs : List (List ℕ × ℕ)).
    position (λ (e : List ℕ × ℕ). same name e.0) xs ≡ None) c.deref.ensures.value
    (sym c.in-None.ensures) in
    ap (λ (xs : List (List ℕ × ℕ)). size_in xs n) c.in_ok-push-in-None.ensures.items
    ∙ put_behind name c.args.size c.args.sizes.now.items nowhere
    c.in_ok-copy-in-None.field-0 c.in_ok-copy-in-None.ensures n

pub returns-else-size-ne1 : goal.returns-else-size-ne1
returns-else-size-ne1 c =
    let name = c.args.name.now in
    let nowhere = subst (λ (xs : List (List ℕ × ℕ)).
    position (λ (e : List ℕ × ℕ). same name e.0) xs ≡ None) c.deref.ensures.value
    (sym c.in-None.ensures) in
    put_nowhere name c.args.size (let one = c.if-size-ne1.false in omega (arith, one))
    c.args.sizes.now.items nowhere
