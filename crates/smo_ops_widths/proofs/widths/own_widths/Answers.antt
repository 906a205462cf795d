use Rattle.std.proofs.Common.{◌≡◌, ◌+◌, ℕ, List, sym, subst, ◌∙◌, arith, drop}
use Rattle.std.specs.Prelude.{cond, Option, Some, None}
use Rattle.std.specs.Map.{lookup}
use Rattle.std.specs.BTreeMap.{is_at}
use Rattle.prima_base.specs.Order.{bytes_cmp}
use Rattle.std.specs.FinMap.{entries, len-entries}
use Rattle.prima_base.specs.Columns.{Column}
use Rattle.smo_ops_spec.specs.Preconditions.{among}
use Rattle.smo_ops_spec.specs.Checks.{pair_names}
use Rattle.smo_ops_widths.specs.declared.width.TableWidth.{TableWidth}
use Rattle.smo_ops_widths.specs.Widths.{Width}
use Rattle.smo_ops_widths.specs.Counted.{MayBeAlike}
use Rattle.smo_ops_widths.specs.Shown.{seen}
use Rattle.smo_ops_widths.proofs.ShownLaws.{own_or, own_more, own_at, drop_there, none_left, itself}
use Rattle.smo_ops_widths.proofs.widths.own_widths.Goals as goal

pub loop-place-init : goal.loop-place-init
loop-place-init c = record {
  own = λ n. subst (λ (es : List (List ℕ × TableWidth)). MayBeAlike
      (own_or (among n (pair_names (entries c.args.schema.now))) (seen es n))
      (own_or (among n (pair_names (entries c.args.schema.now))) None))
      (sym c.new-widths.ensures.empty)
      (itself (own_or (among n (pair_names (entries c.args.schema.now))) None));
  within = omega arith;
}

pub loop-place-preserved : goal.loop-place-preserved
loop-place-preserved c =
    let all = entries c.args.schema.now in
    let t = c.at.result.now in
    let rest = drop (c.loop-place.place + 1) all in
    let named = c.in_ok-copy.ensures ∙ c.name.ensures.value in
    record {
      own = λ n. own_more c.loop-place.widths.entries c.insert.new.self.entries t rest
          c.own.result c.own.ensures
          (subst (λ (m : List ℕ). (q : List ℕ) → lookup (is_at (bytes_cmp q))
          c.insert.new.self.entries ≡ cond (is_at (bytes_cmp m) q) (Some c.own.result)
          (lookup (is_at (bytes_cmp q)) c.loop-place.widths.entries)) named
          c.in_ok-insert.ensures.updates.0) n (own_or (among n (pair_names all)) None)
          (subst (λ (ts : List (List ℕ × List Column)). MayBeAlike
          (own_or (among n (pair_names ts)) (seen c.loop-place.widths.entries n))
          (own_or (among n (pair_names all)) None))
          (drop_there all c.loop-place.place t c.at.ensures.table)
          (c.loop-place.invariant.own n));
      within =
          (let test = c.loop-place-test.true in
          let count = c.len.ensures.count in omega (arith, test, count));
    }

pub returns : goal.returns
returns c = λ n.
    let all = entries c.args.schema.now in
    let test = c.loop-place-test.false in
    let count = c.len.ensures.count ∙ len-entries c.args.schema.now in
    subst (λ (o : Option Width). MayBeAlike (seen c.loop-place.widths.entries n) o)
    (sym (own_at c.args.schema.now n))
    (subst (λ (ts : List (List ℕ × List Column)). MayBeAlike
    (own_or (among n (pair_names ts)) (seen c.loop-place.widths.entries n))
    (own_or (among n (pair_names all)) None))
    (none_left all c.loop-place.place (omega (arith, test, count)))
    (c.loop-place.invariant.own n))
