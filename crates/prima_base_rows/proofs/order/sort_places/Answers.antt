use Rattle.std.proofs.Common.{rules, ◌≡◌, ◌-◌, ◌≤◌, length, sym, subst, ◌∙◌, arith, List}
use Rattle.std.specs.List.Sorted.{IsSorted}
use Rattle.std.proofs.lemmas.List.Sorted.{IsPermutation-put_mid, length_permutation}
use borrow.Rule.Slice.PartMut.{mid_of, take_put, drop_put, mid_len}
use Rattle.prima_base_rows.specs.declared.place.RowPlace.{RowPlace}
use Rattle.prima_base_rows.specs.Places.{place_cmp}
use Rattle.prima_base_rows.proofs.Moves.{part_is, sorted_places}
use Rattle.prima_base_rows.proofs.order.sort_places.Goals as goal
use Rattle.prima_base_rows.proofs.order.sort_places.Goals.{After-sort_unstable_by}

same_long : (c : After-sort_unstable_by)
    → length c.sort_unstable_by.new.self ≡ c.args.end - c.args.start
same_long c =
    length_permutation (mid_of c.args.start (c.args.end - c.args.start) c.args.places.now)
    c.sort_unstable_by.new.self c.sort_unstable_by.ensures.permutation
    ∙ mid_len c.args.start c.args.end c.args.places.now c.requires.within

pub returns-clause-permutation : goal.returns-clause-permutation
returns-clause-permutation c = IsPermutation-put_mid c.args.start (c.args.end - c.args.start)
    c.args.places.now c.sort_unstable_by.new.self c.sort_unstable_by.ensures.permutation

pub returns-clause-before : goal.returns-clause-before
returns-clause-before c =
    let within : c.args.start ≤ length c.args.places.now =
    omega (arith, c.requires.order, c.requires.within) in
    take_put c.args.start (c.args.end - c.args.start) c.args.places.now
    c.sort_unstable_by.new.self within

pub returns-clause-after : goal.returns-clause-after
returns-clause-after c = drop_put c.args.start c.args.end c.args.places.now
    c.sort_unstable_by.new.self c.requires.order c.requires.within
    (same_long (goal.at.returns-clause-after c).After-sort_unstable_by)

pub returns-clause-sorted : goal.returns-clause-sorted
returns-clause-sorted c =
    let within : c.args.start ≤ length c.args.places.now =
    omega (arith, c.requires.order, c.requires.within) in
    subst (λ (l : List RowPlace). IsSorted (place_cmp c.args.values.now) l)
    (sym (part_is c.args.start c.args.end c.args.places.now c.sort_unstable_by.new.self within
    (same_long (goal.at.returns-clause-sorted c).After-sort_unstable_by)))
    (sorted_places c.args.values.now c.sort_unstable_by.new.self c.sort_unstable_by.ensures.sorted
    (λ a r f' k. search rules))
