use Rattle.std.proofs.Common.{◌≡◌, ◌++◌, List, ap, sym, subst, ◌∙◌, map, length}
use Rattle.std.proofs.Common.{take, drop, slice_range}
use Rattle.std.specs.List.Sorted.{IsPermutation, IsSorted}
use Rattle.std.proofs.lemmas.List.{take_at, take-map, drop-map}
use Rattle.std.proofs.lemmas.List.Sorted.{length_permutation, IsPermutation-map, All-permutation}
use Rattle.prima_base.specs.Timed.{timed_cmp}
use Rattle.prima_base.specs.declared.timed_row.TimedRow.{TimedRow}
use Rattle.prima_base.specs.declared.value.Val.{Val}
use Rattle.prima_base_rows.specs.Rows.{Rows}
use Rattle.prima_base_rows.specs.declared.place.RowPlace.{RowPlace}
use Rattle.prima_base_rows.specs.Places.{row_at, place_cmp, IsInside}
use Rattle.prima_base_rows.proofs.Moves.{sorted_rows, part_of_rows}
use Rattle.prima_base_rows.proofs.rows.TimedRows.sort_part.Goals as goal
use Rattle.prima_base_rows.proofs.rows.TimedRows.sort_part.Goals.{After-sort_places}

-- the places as they are afterwards
placed : (c : After-sort_places) → List RowPlace
placed c = take c.self.inside.places.len (c.sort_places.new.places
    ++ drop (length c.sort_places.new.places) c.self.inside.places.items)

sorted : (c : After-sort_places) → IsPermutation c.self.inside.places.items c.sort_places.new.places
sorted c = subst (λ (l : List RowPlace). IsPermutation l c.sort_places.new.places)
    c.deref_mut.ensures.value c.sort_places.ensures.permutation

whole : (c : After-sort_places) → placed c ≡ c.sort_places.new.places
unfolding placed
whole c = take_at c.sort_places.new.places _ c.self.inside.places.len
    (length_permutation _ _ (sorted c) ∙ sym c.self.inside.places.ok.0)

pub invariant_of-self : goal.invariant_of-self
unfolding placed
invariant_of-self c =
    let k = (goal.at.invariant_of-self c).After-sort_places in
    All-permutation (IsInside c.self.inside.values.items) c.self.inside.places.items (placed k)
    (subst (λ (l : List RowPlace). IsPermutation c.self.inside.places.items l) (sym (whole k))
    (sorted k)) c.self.invariant

pub returns-clause-permutation : goal.returns-clause-permutation
unfolding placed
returns-clause-permutation c =
    let k = (goal.at.returns-clause-permutation c).After-sort_places in
    let f = row_at c.self.inside.values in
    subst (λ (r : Rows). IsPermutation r.items (map f (placed k))) c.self.view_is
    (subst (λ (l : List RowPlace). IsPermutation (map f c.self.inside.places.items) (map f l))
    (sym (whole k)) (IsPermutation-map f _ _ (sorted k)))

pub returns-clause-before : goal.returns-clause-before
unfolding placed
returns-clause-before c =
    let k = (goal.at.returns-clause-before c).After-sort_places in
    let f = row_at c.self.inside.values in
    take-map f c.args.start (placed k)
    ∙ ap (λ (l : List RowPlace). map f (take c.args.start l)) (whole k)
    ∙ ap (map f) (c.sort_places.ensures.before
    ∙ ap (λ (l : List RowPlace). take c.args.start l) c.deref_mut.ensures.value)
    ∙ sym (take-map f c.args.start c.self.inside.places.items)
    ∙ ap (λ (r : Rows). take c.args.start r.items) c.self.view_is

pub returns-clause-after : goal.returns-clause-after
unfolding placed
returns-clause-after c =
    let k = (goal.at.returns-clause-after c).After-sort_places in
    let f = row_at c.self.inside.values in
    drop-map f c.args.end (placed k)
    ∙ ap (λ (l : List RowPlace). map f (drop c.args.end l)) (whole k)
    ∙ ap (map f) (c.sort_places.ensures.after
    ∙ ap (λ (l : List RowPlace). drop c.args.end l) c.deref_mut.ensures.value)
    ∙ sym (drop-map f c.args.end c.self.inside.places.items)
    ∙ ap (λ (r : Rows). drop c.args.end r.items) c.self.view_is

pub returns-clause-sorted : goal.returns-clause-sorted
unfolding placed
returns-clause-sorted c =
    let k = (goal.at.returns-clause-sorted c).After-sort_places in
    let f = row_at c.self.inside.values in
    subst (λ (l : List TimedRow). IsSorted timed_cmp l)
    (sym (part_of_rows f c.args.start c.args.end (placed k)
    ∙ ap (λ (l : List RowPlace). map f (slice_range l c.args.start c.args.end)) (whole k)))
    (sorted_rows c.self.inside.values (slice_range c.sort_places.new.places c.args.start c.args.end)
    (subst (λ (l : List Val). IsSorted (place_cmp l) (slice_range c.sort_places.new.places
    c.args.start c.args.end)) c.deref.ensures.value c.sort_places.ensures.sorted))
