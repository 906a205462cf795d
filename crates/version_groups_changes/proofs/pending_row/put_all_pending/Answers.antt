use Rattle.std.proofs.Common.{◌≡◌, Bool, true, List, [], ◌∷◌, ◌++◌, map, drop, refl, sym, ap, subst}
use Rattle.std.proofs.Common.{◌∙◌, append_assoc}
use Rattle.std.specs.Prelude.{◌&&◌, if◌then◌else◌}
use Rattle.std.specs.List.{filter}
use Rattle.std.specs.Map.{keys_of}
use Rattle.std.specs.Map.Iter.{deref_pair}
use Rattle.std.specs.Ordering.{is_le}
use Rattle.std.specs.BTreeMap.Range.{range_contains}
use Rattle.std.specs.declared.ops.Bound.TheVariants.{Included, Unbounded}
use Rattle.std.proofs.lemmas.Map.Iter.{iter_end, rest_so_far, rest_more}
use Rattle.relations_spec.specs.Sets.{Ascends}
use Rattle.prima_base.specs.Order.{row_cmp}
use Rattle.cond_expr.specs.Seen.{test}
use Rattle.history_store.specs.Cuts.{is_before}
use Rattle.smo_ops_spec.specs.OneRow.{Row, meets}
use Rattle.version_groups_changes.specs.PendingChanges.{Pending}
use Rattle.version_groups_changes.proofs.PendingLaws.{as_ascends, picked_ascends}
use Rattle.version_groups_changes.proofs.PendingWalks.{picked_from, made_more, stopped}
use Rattle.version_groups_changes.proofs.pending_row.put_all_pending.Goals as goal

pub returns : goal.returns
returns c =
    let passes : Row → Bool = λ row. meets c.args.own.now (test c.args.cond.now)
    (drop c.args.skip row) in
    let f : Row → Row = drop c.args.skip in
    let old = c.args.hits.now.items in
    let known = c.args.rows.now.entries in
    let end = iter_end deref_pair c.range-row-items.result c.loop-row.yielded
    c.into_iter-row-iterator.result c.loop-row.row-iterator c.next.new.self c.next.result
    c.into_iter-row-iterator.ensures.into_iter_gives c.loop-row.yielded_by c.in-None.is
    c.next.ensures.steps in
    c.loop-row.invariant
    ∙ ap (λ (es : Pending). old ++ map f (keys_of
    (filter (λ (e : Row × Bool). is_before c.args.to.now e.0 && (e.1 && passes e.0)) es)))
    (end.0 ∙ c.range-row-items.ensures.between tt)
    ∙ ap (λ (es : Pending). old ++ map f (keys_of es))
    (picked_from (λ (e : Row × Bool). is_before c.args.to.now e.0 && (e.1 && passes e.0))
    c.in_ok-first.first known)
    ∙ ap (λ (g : Row). old ++ map f (keys_of (filter
    (λ (e : Row × Bool). is_le (row_cmp g e.0)
    && (is_before c.args.to.now e.0 && (e.1 && passes e.0))) known)))
    (c.in_ok-first.ensures ∙ c.values.ensures)

pub returns-then-not-has_before : goal.returns-then-not-has_before
returns-then-not-has_before c =
    let passes : Row → Bool = λ row. meets c.args.own.now (test c.args.cond.now)
    (drop c.args.skip row) in
    let f : Row → Row = drop c.args.skip in
    let old = c.args.hits.now.items in
    let known = c.args.rows.now.entries in
    let all = c.range-row-items.result in
    let first = c.in_ok-first.first in
    let e : Row × Bool = (c.in-Some.row.now, c.in-Some.there.now) in
    let so_far = sym c.into_iter-row-iterator.ensures.into_iter_gives
    ∙ rest_so_far deref_pair c.loop-row.yielded c.into_iter-row-iterator.result
    c.loop-row.row-iterator c.loop-row.yielded_by in
    let here = rest_more deref_pair c.loop-row.row-iterator c.next.new.self c.next.result
    (c.in-Some.row, c.in-Some.there) c.in-Some.is c.next.ensures.steps in
    let whole : all ≡ map deref_pair c.loop-row.yielded ++ e ∷ c.next.new.self = so_far
    ∙ ap (λ (es : Pending). map deref_pair c.loop-row.yielded ++ es) here in
    let part : all ≡ filter (λ (x : Row × Bool).
    range_contains row_cmp (Included first) Unbounded x.0) known =
    c.range-row-items.ensures.between tt in
    let rises : Ascends row_cmp (keys_of all) =
    subst (λ (es : Pending). Ascends row_cmp (keys_of es)) (sym part)
    (picked_ascends (λ (x : Row × Bool). range_contains row_cmp (Included first) Unbounded x.0)
    known
    (as_ascends (keys_of known) c.range-row-items.ensures.ordered)) in
    c.loop-row.invariant
    ∙ ap (λ (es : Pending). old ++ map f (keys_of es))
    (sym (stopped c.args.to.now passes all (map deref_pair c.loop-row.yielded) c.next.new.self e
    whole rises (sym c.has_before.ensures ∙ c.if-not-has_before.true)))
    ∙ ap (λ (es : Pending). old ++ map f (keys_of
    (filter (λ (x : Row × Bool). is_before c.args.to.now x.0 && (x.1 && passes x.0)) es))) part
    ∙ ap (λ (es : Pending). old ++ map f (keys_of es))
    (picked_from (λ (x : Row × Bool). is_before c.args.to.now x.0 && (x.1 && passes x.0)) first
    known)
    ∙ ap (λ (g : Row). old ++ map f (keys_of (filter
    (λ (x : Row × Bool). is_le (row_cmp g x.0)
    && (is_before c.args.to.now x.0 && (x.1 && passes x.0))) known)))
    (c.in_ok-first.ensures ∙ c.values.ensures)

map_after : {A B : Type 0} (g : A → B) (xs : List A) (x : A)
    → map g xs ++ g x ∷ [] ≡ map g (xs ++ x ∷ [])
map_after g [] x = refl
map_after g (y ∷ xs) x = ap (λ l. g y ∷ l) (map_after g xs x)

pub loop-row-preserved : goal.loop-row-preserved
loop-row-preserved c =
    let passes : Row → Bool = λ row. meets c.args.own.now (test c.args.cond.now)
    (drop c.args.skip row) in
    let f : Row → Row = drop c.args.skip in
    let old = c.args.hits.now.items in
    let p : Row × Bool → Bool = λ e. is_before c.args.to.now e.0 && (e.1 && passes e.0) in
    let row = c.in-Some.row.now in
    let there = c.in-Some.there.now in
    let ys : Pending = map deref_pair c.loop-row.yielded in
    let before : is_before c.args.to.now row ≡ true = sym c.has_before.ensures
    ∙ c.if-not-has_before.false in
    c.in_ok-put_pending.ensures
    ∙ ap (λ (hs : List Row). hs ++ (if there && passes row then f row ∷ [] else []))
    c.loop-row.invariant
    ∙ append_assoc old (map f (keys_of (filter p ys)))
    (if there && passes row then f row ∷ [] else [])
    ∙ ap (λ (rs : List Row). old ++ rs) (ap (λ b.
    map f (keys_of (filter p ys)) ++ (if b && (there && passes row) then f row ∷ [] else []))
    (sym before) ∙ sym (made_more p f ys (row, there)))
    ∙ ap (λ (es : Pending). old ++ map f (keys_of (filter p es)))
    (map_after deref_pair c.loop-row.yielded (c.in-Some.row, c.in-Some.there))
