use Rattle.std.proofs.Common.{ℕ, List, Bool, true, false, ◌≡◌, take, refl, sym, ap, subst, ◌∙◌}
use Rattle.std.specs.Prelude.{not, cond}
use Rattle.std.specs.BTreeSet.{contains}
use Rattle.prima_base.specs.Order.{bytes_cmp}
use Rattle.prima_base.specs.Columns.{names_of}
use Rattle.smo_ops_spec.specs.OneRow.{same}
use Rattle.smo_ops_spec.specs.Preconditions.{among}
use Rattle.smo_ops_columns.proofs.MakingLaws.{not_again, now_seen}
use Rattle.smo_ops_columns.proofs.made_column.first_again.Goals as goal

is_new : (added old : Bool) → added ≡ not old → added ≡ true → old ≡ false
is_new true true e h = absurd (cc)
is_new true false e h = refl
is_new false old e h = absurd (cc)

pub loop-name-preserved : goal.loop-name-preserved
loop-name-preserved c =
    let fresh = is_new c.in_ok-insert.field-0
    (contains bytes_cmp c.loop-name.seen c.in_ok-copy.field-0) c.in_ok-insert.ensures.added
    c.if-not-branch.false in
    let before : among c.loop-name-item.result.0
    (names_of (take c.loop-name.name-index c.args.columns.now)) ≡ false =
    subst (λ (key : List ℕ). among key (names_of (take c.loop-name.name-index c.args.columns.now))
    ≡ false) c.in_ok-copy.ensures (sym (c.loop-name.invariant.seen c.in_ok-copy.field-0)
    ∙ fresh) in
    record {
      first = c.loop-name.invariant.first
          ∙ not_again c.args.columns.now c.loop-name.name-index c.loop-name-item.result
          c.loop-name-test.true c.loop-name-item.is before;
      seen = λ name. now_seen c.args.columns.now c.loop-name.name-index c.loop-name-item.result
          c.loop-name-test.true c.loop-name-item.is name
          (contains bytes_cmp c.loop-name.seen name) (contains bytes_cmp c.insert.new.self name)
          (c.loop-name.invariant.seen name)
          (c.in_ok-insert.ensures.updates.0 name
          ∙ ap (λ (key : List ℕ). cond (same key name) true
          (contains bytes_cmp c.loop-name.seen name)) c.in_ok-copy.ensures);
    }
