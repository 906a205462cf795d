-- Where the parts of a condition end the values of a column.
use Rattle.std.proofs.Common.{◌≡◌, ℕ, ◌+◌, ◌<◌, Bool, true, false, List, [], ◌∷◌, ◌++◌, length, map}
use Rattle.std.proofs.Common.{drop, get_or, refl, sym, ap, ◌∙◌, subst}
use Rattle.std.specs.Prelude.{Option, Some, None, not, ◌&&◌, if◌then◌else◌}
use Rattle.std.proofs.lemmas.List.{drop_more}
use Rattle.std.specs.declared.cmp.Ordering.{Ordering}
use Rattle.std.specs.declared.cmp.Ordering.TheVariants.{Less, Equal, Greater}
use Rattle.std.specs.Option.{option_or}
use Rattle.std.specs.Ordering.{is_lt, is_le, ordering_then}
use Rattle.prima_base.specs.declared.value.Value.{Value}
use Rattle.prima_base.specs.Order.{value_cmp}
use Rattle.cond_expr.specs.declared.expr.Whose.TheVariants.{Atom}
use Rattle.cond_expr.specs.declared.expr.CmpOp.{CmpOp}
use Rattle.cond_expr.specs.declared.expr.CmpOp.TheVariants.{Lt, Le, Gt, Ge}
use Rattle.cond_expr.specs.declared.expr.Column.{Column}
use Rattle.cond_expr.specs.declared.expr.Cond.{Cond}
use Rattle.cond_expr.specs.Seen.{test, tests_of}
use Rattle.cond_expr.specs.Trees.{Test, never, always, compared, all_of, some_of, fails, Tests}
use Rattle.cond_expr.specs.Trees.{no_tests, a_test}
use Rattle.cond_expr.specs.Values.{Cells, truth, all_true, agrees}
use Rattle.cond_expr.specs.Parts.{parts, all_parts}
use Rattle.cond_expr.specs.PinnedParts.{pinned_by}
use Rattle.cond_expr.proofs.PinnedLaws.{pinned_holds}
use Rattle.history_store.specs.Cuts.{is_before}
use Rattle.version_groups_candidates.specs.declared.end.Side.{Side}
use Rattle.version_groups_candidates.specs.declared.end.Side.TheVariants.{Low, High}
use Rattle.version_groups_candidates.specs.Ranges.{End, is_low, without_it, with_it, end_at, end_of}
use Rattle.version_groups_candidates.specs.Ranges.{leaves_fewer, tighter, tightest, bounded}

-- ---- part by part

pub tightest_of_both : (side : Side) (c : Column) (ps qs : List Test) (end : Option End)
    → tightest side c (ps ++ qs) end ≡ tightest side c ps (tightest side c qs end)
tightest_of_both side c [] qs end = refl
tightest_of_both side c (p ∷ ps) qs end = ap (tighter side (end_of side c p))
    (tightest_of_both side c ps qs end)

-- the members of an AND from a place on
pub tightest_from : (side : Side) (c : Column) (members : List Cond) (k : ℕ) (member : Cond)
    (end : Option End) → k < length members → member ≡ get_or members k member
    → tightest side c (all_parts (tests_of (map test (drop k members)))) end
    ≡ tightest side c (parts (test member))
    (tightest side c (all_parts (tests_of (map test (drop (k + 1) members)))) end)
tightest_from side c members k member end h is =
    ap (λ (l : List Cond). tightest side c (all_parts (tests_of (map test l))) end)
    (drop_more members k member h ∙ ap (λ (x : Cond). x ∷ drop (k + 1) members) (sym is))
    ∙ tightest_of_both side c (parts (test member))
    (all_parts (tests_of (map test (drop (k + 1) members)))) end

-- ---- no value of a column for which the condition holds is outside

-- cuts of one value
above : (o : Ordering) → agrees Gt o ≡ true → is_le (ordering_then o Equal) ≡ false
above Less e = absurd (cc)
above Equal e = absurd (cc)
above Greater e = refl

from_it : (o : Ordering) → agrees Ge o ≡ true → is_lt (ordering_then o Equal) ≡ false
from_it Less e = absurd (cc)
from_it Equal e = refl
from_it Greater e = refl

below : (o : Ordering) → agrees Lt o ≡ true → is_lt (ordering_then o Equal) ≡ true
below Less e = refl
below Equal e = absurd (cc)
below Greater e = absurd (cc)

up_to_it : (o : Ordering) → agrees Le o ≡ true → is_le (ordering_then o Equal) ≡ true
up_to_it Less e = refl
up_to_it Equal e = refl
up_to_it Greater e = absurd (cc)

both : (a b : Bool) → (a && b) ≡ true → (a ≡ true) × (b ≡ true)
both true b e = (refl, e)
both false b e = absurd (cc)

module _ (v : Value) (row : List Value) where
  -- the value is on the right side of the end
  abbrev pub IsWithin : Side → Option End → Type 0
  IsWithin side end = is_before (bounded end (not (is_low side))) (v ∷ row) ≡ not (is_low side)

  pub no_end : (side : Side) → IsWithin side None
  no_end Low = refl
  no_end High = refl

  either : (side : Side) (b : Bool) (x y : End) → IsWithin side (Some x) → IsWithin side (Some y)
      → IsWithin side (if b then Some x else Some y)
  either side true x y f g = f
  either side false x y f g = g

  tighter_within : (side : Side) (a b : Option End) → IsWithin side a → IsWithin side b
      → IsWithin side (tighter side a b)
  tighter_within side None b f g = g
  tighter_within side (Some x) None f g = f
  tighter_within side (Some x) (Some y) f g =
      either side (leaves_fewer side (value_cmp x.value y.value) x.after) x y f g

  at_within : (side : Side) (strict loose : Option Value)
      → ((x : Value) → strict ≡ Some x → agrees (without_it side) (value_cmp v x) ≡ true)
      → ((x : Value) → loose ≡ Some x → agrees (with_it side) (value_cmp v x) ≡ true)
      → IsWithin side (end_at side strict loose)
  at_within Low (Some x) loose f g = above (value_cmp v x) (f x refl)
  at_within Low None (Some x) f g = from_it (value_cmp v x) (g x refl)
  at_within Low None None f g = refl
  at_within High (Some x) loose f g = below (value_cmp v x) (f x refl)
  at_within High None (Some x) f g = up_to_it (value_cmp v x) (g x refl)
  at_within High None None f g = refl

  module _ (at : Cells) (c : Column) (is : at (Atom c.atom) c.name ≡ v) where
    compares : (o : CmpOp) (part : Test) (x : Value) → truth at part ≡ true
        → pinned_by o c part ≡ Some x → agrees o (value_cmp v x) ≡ true
    compares o never x h e = absurd (cc)
    compares o always x h e = absurd (cc)
    compares o (compared p a b) x h e = subst (λ y. agrees o (value_cmp y x) ≡ true) is
        (pinned_holds at o c (compared p a b) x h (ap (λ y. option_or y None) e))
    compares o (all_of cs) x h e = absurd (cc)
    compares o (some_of cs) x h e = absurd (cc)
    compares o (fails d) x h e = absurd (cc)

    part_within : (side : Side) (part : Test) → truth at part ≡ true
        → IsWithin side (end_of side c part)
    part_within side part h = at_within side (pinned_by (without_it side) c part)
        (pinned_by (with_it side) c part) (λ x e. compares (without_it side) part x h e)
        (λ x e. compares (with_it side) part x h e)

    mutual
      pub hit_within : (side : Side) (t : Test) (end : Option End) → truth at t ≡ true
          → IsWithin side end → IsWithin side (tightest side c (parts t) end)
      hit_within side never end h w = absurd (cc)
      hit_within side always end h w = tighter_within side (end_of side c always) end
          (part_within side always h) w
      hit_within side (compared p a b) end h w =
          tighter_within side (end_of side c (compared p a b)) end
          (part_within side (compared p a b) h) w
      hit_within side (all_of cs) end h w = all_within side cs end h w
      hit_within side (some_of cs) end h w = tighter_within side (end_of side c (some_of cs)) end
          (part_within side (some_of cs) h) w
      hit_within side (fails d) end h w = tighter_within side (end_of side c (fails d)) end
          (part_within side (fails d) h) w

      all_within : (side : Side) (cs : Tests) (end : Option End) → all_true at cs ≡ true
          → IsWithin side end → IsWithin side (tightest side c (all_parts cs) end)
      all_within side no_tests end h w = w
      all_within side (a_test t cs) end h w =
          let b = both (truth at t) (all_true at cs) h in
          subst (IsWithin side) (sym (tightest_of_both side c (parts t) (all_parts cs) end))
          (hit_within side t (tightest side c (all_parts cs) end) b.0
          (all_within side cs end b.1 w))
