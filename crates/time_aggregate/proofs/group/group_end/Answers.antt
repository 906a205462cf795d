use Rattle.std.proofs.Common.{◌≡◌, ◌∙◌, ℕ, sym, subst, take, inl, inr, arith}
use Rattle.relations_spec.proofs.ListingLaws.{at_or_above}
use Rattle.time_aggregate.specs.Turns.{rows_shown, row_at}
use Rattle.time_aggregate.proofs.ShownRows.{alike, unlike}
use Rattle.time_aggregate.proofs.group.group_end.Goals as goal

pub rows-preserved : goal.rows-preserved
rows-preserved c =
    let inv = c.rows.invariant in
    let a = inv.0 in
    let b = inv.1 in
    let rows = rows_shown c.args.rows.now.items in
    let e = alike (take c.args.group (row_at rows c.rows.end))
    (take c.args.group (row_at rows c.args.start)) (sym c.share_group.ensures
    ∙ c.if-share_group.true) in (
      omega arith,
      omega arith,
      λ k p q. elim (at_or_above k c.rows.end (omega arith)) [
        | inl w ↦ subst (λ (n : ℕ). take c.args.group (row_at rows n)
            ≡ take c.args.group (row_at rows c.args.start)) (sym w) e
        | inr w ↦ inv.2 k p w
      ],
    )

pub returns-else-share_group-clause-other : goal.returns-else-share_group-clause-other
returns-else-share_group-clause-other c = λ l. unlike
    (take c.args.group (row_at (rows_shown c.args.rows.now.items) c.rows.end))
    (take c.args.group (row_at (rows_shown c.args.rows.now.items) c.args.start))
    (sym c.share_group.ensures ∙ c.if-share_group.false)
