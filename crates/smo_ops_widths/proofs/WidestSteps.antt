-- The steps of the code that measures a version.
use Rattle.std.proofs.Common.{◌≡◌, ◌+◌, ◌≤◌, ◌<◌, ℕ, suc, List, map, max, min, length, get_or, sym}
use Rattle.std.proofs.Common.{◌⊎◌, Bool, false, inl, inr, refl, ap, subst, ◌∙◌, arith}
use Rattle.std.proofs.lemmas.Bool.{cases_lt}
use Rattle.std.proofs.lemmas.Option.{slice_get_within}
use Rattle.std.specs.Prelude.{Option, Some, None, slice_get, [], ◌∷◌}
use Rattle.std.specs.List.{list_any}
use Rattle.std.specs.BTreeMap.{is_at}
use Rattle.std.specs.BTreeSet.{BTreeSet, contains}
use Rattle.prima_base.specs.Order.{bytes_cmp}
use Rattle.schema_catalog.specs.Tables.{Tables}
use Rattle.smo_ops_types.specs.declared.version.Version.{Version}
use Rattle.smo_ops_types.specs.Operators.{Operator, operator_of, evolution_of, evolutions_of}
use Rattle.smo_ops_types.specs.Commands.{PlainVersion, version_of}
use Rattle.smo_ops_spec.specs.Evolutions.{schema_after_each, evolution_fault}
use Rattle.smo_ops_spec.specs.Inverses.{inverse_fault, AllAcceptedInTurn}
use Rattle.smo_ops_spec.specs.Past.{no_tables, tables_from, newest_from}
use Rattle.smo_ops_versions_spec.specs.Steps.{taken}
use Rattle.smo_ops_versions_spec.specs.Ways.{back_over}
use Rattle.smo_ops_widths.specs.declared.width.TableWidth.{TableWidth}
use Rattle.smo_ops_widths.specs.Widths.{Widths, own_widths, widths_of, widths_stepped, with_version}
use Rattle.smo_ops_widths.specs.Widths.{widest, widest_with, greatest_of}
use Rattle.smo_ops_widths.specs.Creating.{AllLeaveOut, NameAll}
use Rattle.smo_ops_widths.specs.Dead.{AreDead, AreDeadBefore}
use Rattle.smo_ops_widths.proofs.DeadLaws.{none_dead, dead_before}
use Rattle.smo_ops_widths.specs.Counted.{stopped}
use Rattle.smo_ops_widths.specs.Shown.{Show}
use Rattle.smo_ops_widths.proofs.StoppedLaws.{same_at_most, first_read}
use Rattle.smo_ops_widths.proofs.VersionLaws.{newest_at, accepted_back, own_last, first_step_back}
use Rattle.smo_ops_widths.proofs.VersionLaws.{step_back, all_count, tables_before, new, new_here}
use Rattle.smo_ops_widths.proofs.VersionLaws.{version_here}

the_same : {v w : PlainVersion} → ◌≡◌ {A = Option PlainVersion} (Some v) (Some w) → v ≡ w
the_same e = cc

-- a set with no name has none
pub none_in : (names : BTreeSet (List ℕ)) (n : List ℕ) → names.keys ≡ []
    → contains bytes_cmp names n ≡ false
none_in names n e = ap (list_any (is_at (bytes_cmp n))) e

-- what going back over an operator does to widths
abbrev pub GoesBack : List (List ℕ × TableWidth) → List (List ℕ × TableWidth) → Tables
    → List Operator → Tables → List (List Operator) → Type 0
GoesBack old new before op after inverse = (k : ℕ) → (shown : Widths)
    → Show old shown → Show new (taken widths_stepped (back_over k before op after inverse) shown)

module _ (vs : List Version) (op : List Operator) (inverse : List (List Operator)) where
  -- the schema that the code takes behind the operator, from the tables of the newest version
  module _ (newest next : Tables)
      (n : newest ≡ tables_from no_tables (map version_of vs) (length vs)) where
    newest_is : newest ≡ newest_from no_tables (map version_of vs)
    newest_is = n ∙ newest_at vs

    pub accepted_here : evolution_fault (newest_from no_tables (map version_of vs)) op ≡ None
        → evolution_fault newest op ≡ None
    accepted_here a = ap (λ (t : Tables). evolution_fault t op) newest_is ∙ a

    pub next_here : next ≡ schema_after_each newest op
        → next ≡ schema_after_each (newest_from no_tables (map version_of vs)) op
    next_here e = e ∙ ap (λ (t : Tables). schema_after_each t op) newest_is

  pub inverse_accepted : (next : Tables)
      → next ≡ schema_after_each (newest_from no_tables (map version_of vs)) op
      → inverse_fault (newest_from no_tables (map version_of vs)) op inverse ≡ None
      → AllAcceptedInTurn next inverse
  inverse_accepted next e i = accepted_back (newest_from no_tables (map version_of vs)) next op
      inverse e i

  module _ (stamp : ℕ) where
    abbrev all : List PlainVersion
    all = with_version (map version_of vs) stamp op inverse

    -- the widths of the newest of the versions before, read from the new one
    pub shown_first : (newest next : Tables) (old new : List (List ℕ × TableWidth))
        → newest ≡ newest_from no_tables (map version_of vs)
        → next ≡ schema_after_each (newest_from no_tables (map version_of vs)) op
        → Show old (own_widths next) → GoesBack old new newest op next inverse
        → Show new (widths_of (with_version (map version_of vs) stamp op inverse)
        (length vs + 1) (length vs))
    shown_first newest next old new n e s back =
        subst (λ (w : Widths). Show new w) (ap (λ (t : Tables). taken widths_stepped
        (back_over (length vs + 1) t op next inverse)
        (widths_of all (length vs + 1) (length vs + 1))) n
        ∙ first_step_back vs stamp op inverse next e)
        (back (length vs + 1) (widths_of all (length vs + 1) (length vs + 1))
        (subst (λ (w : Widths). Show old w)
        (ap own_widths e ∙ own_last vs stamp op inverse) s))

    -- and of the version before version k
    pub shown_next : (k j : ℕ) (v : Version) (before : Tables)
        (old new : List (List ℕ × TableWidth)) → j + 1 ≡ k → j < length vs → v ≡ get_or vs j v
        → before ≡ tables_from no_tables (map version_of vs) j
        → Show old (widths_of (with_version (map version_of vs) stamp op inverse)
        (length vs + 1) k)
        → GoesBack old new before (evolution_of v.op) v.schema (evolutions_of v.inverse.items)
        → Show new (widths_of (with_version (map version_of vs) stamp op inverse)
        (length vs + 1) j)
    shown_next k j v before old new e l is b s back =
        subst (λ (w : Widths). Show new w) (ap (λ (t : Tables). taken widths_stepped
        (back_over (j + 1) t (evolution_of v.op) v.schema (evolutions_of v.inverse.items))
        (widths_of all (length vs + 1) (j + 1)))
        (b ∙ sym (tables_before vs stamp op inverse j (omega (arith, l))))
        ∙ step_back vs stamp op inverse j v l is)
        (back (j + 1) (widths_of all (length vs + 1) (j + 1))
        (subst (λ (n : ℕ). Show old (widths_of all (length vs + 1) n)) (sym e) s))

    abbrev reads : ℕ → ℕ
    reads k = widest_with (with_version (map version_of vs) stamp op inverse) (length vs + 1) k

    -- of the first of them
    pub most_first : (most on back : ℕ)
        → on ≡ stopped (greatest_of (with_version (map version_of vs) stamp op inverse)
        (length vs) (length vs + 1))
        → back ≡ stopped (greatest_of (with_version (map version_of vs) stamp op inverse)
        (length vs + 1) (length vs)) → most ≡ max on back
        → (stopped (greatest_of (with_version (map version_of vs) stamp op inverse) (length vs)
        (length vs + 1)) ≤ most) × (stopped (widest_with (with_version (map version_of vs) stamp op
        inverse) (length vs + 1) (length vs + 1)) ≡ stopped (max most (widest_with (with_version
        (map version_of vs) stamp op inverse) (length vs + 1) (length vs))))
    most_first most on back p q m =
        let further : length vs + 1 ≡ suc (length vs) = omega arith in
        first_read (reads (length vs + 1)) most on back
        (greatest_of all (length vs) (length vs + 1)) (greatest_of all (length vs + 1) (length vs))
        (reads (length vs)) (ap reads further) p q m

    pub most_next : (k j most more : ℕ) → suc j ≡ k
        → stopped (widest_with (with_version (map version_of vs) stamp op inverse) (length vs + 1)
        (length vs + 1)) ≡ stopped (max most (widest_with (with_version (map version_of vs) stamp
        op inverse) (length vs + 1) k))
        → stopped (max (max most more) (widest_with (with_version (map version_of vs) stamp op
        inverse) (length vs + 1) j)) ≡ stopped (max most (widest_with (with_version
        (map version_of vs) stamp op inverse) (length vs + 1) (suc j)))
        → stopped (widest_with (with_version (map version_of vs) stamp op inverse) (length vs + 1)
        (length vs + 1)) ≡ stopped (max (max most more) (widest_with (with_version
        (map version_of vs) stamp op inverse) (length vs + 1) j))
    most_next k j most more e so here = so
        ∙ sym (ap (λ (n : ℕ). stopped (max most (reads n))) e) ∙ sym here

    -- the names of one operator more
    pub named_first : (these : List ℕ → Bool)
        → ((n : List ℕ) → these n ≡ false → AllLeaveOut op n)
        → NameAll these (with_version (map version_of vs) stamp op inverse) (length vs)
    named_first these leaves n f j low w is = step (cases_lt (length vs) j)
      where
        step : (length vs < j) ⊎ (j ≤ length vs) → AllLeaveOut w.op n
        step (inl l) =
            let inside = slice_get_within all j w is in
            let count = all_count vs stamp op inverse in
            absurd (omega (arith, l, inside, count))
        step (inr l) =
            let same_place : j ≡ length vs = omega (arith, low, l) in
            let is_new : ◌≡◌ {A = Option PlainVersion} (Some (new vs stamp op inverse)) (Some w) =
            sym (new_here vs stamp op inverse) ∙ sym (ap (slice_get all) same_place) ∙ is in
            subst (λ (x : PlainVersion). AllLeaveOut x.op n) (the_same is_new) (leaves n f)

    pub named_next : (old new_ones : List ℕ → Bool) (k j : ℕ) (v : Version) → j + 1 ≡ k
        → j < length vs → v ≡ get_or vs j v
        → ((n : List ℕ) → new_ones n ≡ false
        → (old n ≡ false) × AllLeaveOut (evolution_of v.op) n)
        → NameAll old (with_version (map version_of vs) stamp op inverse) k
        → NameAll new_ones (with_version (map version_of vs) stamp op inverse) j
    named_next old new_ones k j v e l is leaves named n f i low w here = step (cases_lt j i)
      where
        step : (j < i) ⊎ (i ≤ j) → AllLeaveOut w.op n
        step (inl m) = named n (leaves n f).0 i (omega (arith, m, e)) w here
        step (inr m) =
            let same_place : i ≡ j = omega (arith, low, m) in
            let is_this : ◌≡◌ {A = Option PlainVersion} (Some (version_of v)) (Some w) =
            sym (version_here vs stamp op inverse j v l is)
            ∙ sym (ap (slice_get all) same_place) ∙ here in
            subst (λ (x : PlainVersion). AllLeaveOut x.op n) (the_same is_this) (leaves n f).1

    -- the dead tables before one operator more
    pub dead_first : (none before : List ℕ → Bool) → ((n : List ℕ) → none n ≡ false)
        → (only : Operator) → op ≡ only ∷ [] → AreDeadBefore only none before
        → AreDead before (with_version (map version_of vs) stamp op inverse) (length vs)
        (length vs + 1)
    dead_first none before e only one d = dead_before all (length vs) (length vs + 1)
        (new vs stamp op inverse) (omega arith) (new_here vs stamp op inverse) only one none before
        d (none_dead all none e (length vs + 1))

    pub dead_next : (after before : List ℕ → Bool) (k j : ℕ) (v : Version) → j + 1 ≡ k
        → j < length vs → v ≡ get_or vs j v → AreDeadBefore (operator_of v.op) after before
        → AreDead after (with_version (map version_of vs) stamp op inverse) k (length vs + 1)
        → AreDead before (with_version (map version_of vs) stamp op inverse) j (length vs + 1)
    dead_next after before k j v e l is d dead = dead_before all j (length vs + 1) (version_of v)
        (omega (arith, l)) (version_here vs stamp op inverse j v l is) (operator_of v.op) refl after
        before d (subst (λ (n : ℕ). AreDead after all n (length vs + 1)) (sym e) dead)

    -- and in the end
    pub most_last : (k most : ℕ) → k ≡ 0
        → stopped (widest_with (with_version (map version_of vs) stamp op inverse) (length vs + 1)
        (length vs + 1)) ≡ stopped (max most (widest_with (with_version (map version_of vs) stamp
        op inverse) (length vs + 1) k))
        → min most 9223372036854775808
        ≡ widest (with_version (map version_of vs) stamp op inverse)
    most_last k most e so =
        let none : max most (reads 0) ≡ most = omega arith in
        same_at_most most (reads (length vs + 1))
        (so ∙ ap (λ (n : ℕ). stopped (max most (reads n))) e ∙ ap stopped none)
        ∙ sym (ap (λ (n : ℕ). min 9223372036854775808 (widest_with all n n))
        (all_count vs stamp op inverse))
