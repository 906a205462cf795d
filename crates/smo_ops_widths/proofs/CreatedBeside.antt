-- What is read from a version that creates a table which no later operator names is no wider than
-- what is read from the version before, but for that table, which is as wide as it is where it is
-- read from the newest version.
use Rattle.std.proofs.Common.{◌≡◌, ◌+◌, ◌-◌, ◌≤◌, ℕ, zero, suc, Bool, true, false, List, [], ◌∷◌}
use Rattle.std.proofs.Common.{max, refl, sym, ap, subst, ◌∙◌, arith, inl, inr}
use Rattle.std.specs.Prelude.{cond, is_some, Option, Some, None, slice_get}
use Rattle.std.specs.Option.{option_map}
use Rattle.std.specs.FinMap.{get, insert, remove, entries, get-insert, get-remove}
use Rattle.std.specs.Cmp.Lexicographic.{nat_list_cmp_total}
use Rattle.relations_spec.specs.Sets.{In}
use Rattle.prima_base.specs.Columns.{Column}
use Rattle.prima_base.specs.OrderLaws.{same_is}
use Rattle.schema_catalog.specs.Tables.{Tables}
use Rattle.smo_ops_types.specs.Operators.{Operator, create_table}
use Rattle.smo_ops_types.specs.Commands.{PlainVersion}
use Rattle.smo_ops_spec.specs.OneRow.{same}
use Rattle.smo_ops_spec.specs.Making.{in_order}
use Rattle.smo_ops_spec.specs.After.{schema_after}
use Rattle.smo_ops_spec.specs.Evolutions.{schema_after_each}
use Rattle.smo_ops_spec.specs.Past.{no_tables, tables_from}
use Rattle.smo_ops_spec.proofs.NameLaws.{same_itself}
use Rattle.smo_ops_versions_spec.specs.Steps.{carrying_each, taken}
use Rattle.smo_ops_versions_spec.specs.Ways.{over_version}
use Rattle.smo_ops_versions_spec.proofs.NamedEntries.{found_under}
use Rattle.smo_ops_versions_spec.proofs.WaySteps.{taken_stays, taken_forward}
use Rattle.smo_ops_widths.specs.Widths.{Width, Widths, a_width, own_width, own_widths, widths_over}
use Rattle.smo_ops_widths.specs.Widths.{widths_stepped, widths_of, measure_of, greatest}
use Rattle.smo_ops_widths.specs.Widths.{greatest_of, put_width}
use Rattle.smo_ops_widths.specs.Creating.{AllLeaveOut, LeaveOut}
use Rattle.smo_ops_widths.proofs.ShownLaws.{put_at}
use Rattle.smo_ops_widths.proofs.WithinLaws.{MayBeWithin, measured_within}
use Rattle.smo_ops_widths.proofs.OwnWithin.{own_by, own_there, maybe_itself}
use Rattle.smo_ops_widths.proofs.NamesLeftOut.{Beside, each_own_stays, each_beside, each_left}

-- ---- where it is created

abbrev created : Width
created = a_width 0 0 0 (λ n. 1)

abbrev own_of : Option (List Column) → Option Width
own_of o = option_map (λ (cs : List Column). own_width) o

module _ (tables : Tables) (r : List ℕ) (cs : List Column) where
  abbrev more : Tables
  more = insert tables r (in_order cs)

  with_it : get more r ≡ Some (in_order cs)
  with_it = get-insert nat_list_cmp_total tables r (in_order cs) r
      ∙ ap (λ (b : Bool). cond b (Some (in_order cs)) (get tables r)) (same_itself r)

  is_others : (n : List ℕ) → MayBeWithin (get (remove (own_widths more) r) n)
      (get (put_width r (Some created) (own_widths tables)) n)
  is_others n =
      subst (λ (o : Option Width). MayBeWithin o
      (get (put_width r (Some created) (own_widths tables)) n))
      (sym (get-remove nat_list_cmp_total (own_widths more) r n
      ∙ ap (λ (o : Option Width). cond (same n r) None o) (own_by more n
      ∙ ap own_of (get-insert nat_list_cmp_total tables r (in_order cs) n))))
      (subst (λ (o : Option Width). MayBeWithin (cond (same n r) None
      (own_of (cond (same n r) (Some (in_order cs)) (get tables n)))) o)
      (sym (put_at (own_widths tables) r (Some created) n
      ∙ ap (λ (o : Option Width). cond (same n r) (Some created) o) (own_by tables n)))
      (step (same n r)))
    where
      step : (b : Bool) → MayBeWithin (cond b None
          (own_of (cond b (Some (in_order cs)) (get tables n))))
          (cond b (Some created) (own_of (get tables n)))
      step true = tt
      step false = maybe_itself (own_of (get tables n))

  created_beside : Beside r (own_widths (schema_after tables (create_table r cs)))
      (widths_over tables (create_table r cs) (own_widths tables))
  created_beside = record {
    others = is_others;
    own = own_there more r (ap (λ (o : Option (List Column)). is_some o) with_it);
  }

-- ---- and behind it

module _ (versions : List PlainVersion) (k : ℕ) (v : PlainVersion) (r : List ℕ)
    (cs : List Column) (here : slice_get versions k ≡ Some v) (op : v.op ≡ create_table r cs ∷ [])
    (next : tables_from no_tables versions (k + 1)
    ≡ schema_after (tables_from no_tables versions k) (create_table r cs))
    (left : LeaveOut versions (k + 1) r) where
  abbrev at : ℕ → Tables
  at j = tables_from no_tables versions j

  abbrev own : ℕ → Widths
  own j = own_widths (tables_from no_tables versions j)

  one_on : widths_of versions k (k + 1) ≡ widths_over (at k) (create_table r cs) (own k)
  one_on = taken_forward versions widths_stepped k k (own k) (omega arith)
      ∙ ap (λ (w : Widths). taken widths_stepped
      (over_version (at k) (slice_get versions k)) w)
      (taken_stays versions widths_stepped k (own k))
      ∙ ap (λ o. taken widths_stepped (over_version (at k) o) (own k)) here
      ∙ ap (λ (ops : List Operator). taken widths_stepped (carrying_each (at k) ops) (own k)) op

  begun : Beside r (widths_of versions (k + 1) (k + 1)) (widths_of versions k (k + 1))
  begun = subst (λ (w : Widths). Beside r w (widths_of versions k (k + 1)))
      (sym (taken_stays versions widths_stepped (k + 1) (own (k + 1))
      ∙ ap own_widths next))
      (subst (λ (w : Widths). Beside r (own_widths (schema_after (at k) (create_table r cs))) w)
      (sym one_on) (created_beside (at k) r cs))

  one_more : (t : Tables) (xs ys : Widths) (o : Option PlainVersion)
      → ((w : PlainVersion) → o ≡ Some w → AllLeaveOut w.op r) → Beside r xs ys
      → Beside r (taken widths_stepped (over_version t o) xs)
      (taken widths_stepped (over_version t o) ys)
  one_more t xs ys None l h = h
  one_more t xs ys (Some w) l h = each_beside t w.op r (l w refl) xs ys h

  on_to : (n : ℕ) → Beside r (widths_of versions (k + 1) (k + 1 + n))
      (widths_of versions k (k + 1 + n))
  on_to zero =
      let end : k + 1 ≡ k + 1 + zero = omega arith in
      subst (λ (q : ℕ). Beside r (widths_of versions (k + 1) q) (widths_of versions k q)) end begun
  on_to (suc n) =
      let q = k + 1 + n in
      let end : k + 1 + n + 1 ≡ k + 1 + suc n = omega arith in
      let low : k ≤ k + 1 + n = omega arith in
      let high : k + 1 ≤ k + 1 + n = omega arith in
      subst (λ (p : ℕ). Beside r (widths_of versions (k + 1) p) (widths_of versions k p)) end
      (subst (λ (w : Widths). Beside r w (widths_of versions k (q + 1)))
      (sym (taken_forward versions widths_stepped (k + 1) q (own (k + 1)) high))
      (subst (λ (w : Widths). Beside r (taken widths_stepped
      (over_version (at q) (slice_get versions q)) (widths_of versions (k + 1) q)) w)
      (sym (taken_forward versions widths_stepped k q (own k) low))
      (one_more (at q) (widths_of versions (k + 1) q) (widths_of versions k q)
      (slice_get versions q) (left q high) (on_to n))))

  -- ---- the measures

  module _ (l : ℕ) (behind : k + 1 ≤ l) (w : PlainVersion) (last : slice_get versions l ≡ Some w)
      (made : tables_from no_tables versions (l + 1)
      ≡ schema_after_each (tables_from no_tables versions l) w.op) where
    abbrev all : Widths
    all = widths_of versions (k + 1) (l + 1)

    abbrev before : Widths
    before = widths_of versions k (l + 1)

    abbrev newest : Widths
    newest = widths_of versions l (l + 1)

    stand : Beside r all before
    stand =
        let end : k + 1 + (l - k) ≡ l + 1 = omega (arith, behind) in
        subst (λ (p : ℕ). Beside r (widths_of versions (k + 1) p) (widths_of versions k p)) end
        (on_to (l - k))

    last_step : newest ≡ taken widths_stepped (carrying_each (at l) w.op) (own l)
    last_step = taken_forward versions widths_stepped l l (own l) (omega arith)
        ∙ ap (λ (x : Widths). taken widths_stepped
        (over_version (at l) (slice_get versions l)) x)
        (taken_stays versions widths_stepped l (own l))
        ∙ ap (λ o. taken widths_stepped (over_version (at l) o) (own l)) last

    leaves : AllLeaveOut w.op r
    leaves = left l behind w last

    own_newest : (columns : List Column) → get (at (l + 1)) r ≡ Some columns
        → get newest r ≡ Some own_width
    own_newest columns e =
        let was : get (at l) r ≡ Some columns = sym (each_left (at l) w.op r leaves)
        ∙ ap (λ (t : Tables). get t r) (sym made) ∙ e in
        ap (λ (x : Widths). get x r) last_step ∙ each_own_stays (at l) w.op r leaves (own l)
        ∙ own_there (at l) r (ap (λ (o : Option (List Column)). is_some o) was)

    measured : (t : List ℕ × List Column) → In t (entries (at (l + 1)))
        → measure_of t.1 (get all t.0)
        ≤ max (measure_of t.1 (get before t.0)) (measure_of t.1 (get newest t.0))
    measured t m = step (same t.0 r) refl
      where
        step : (b : Bool) → same t.0 r ≡ b → measure_of t.1 (get all t.0)
            ≤ max (measure_of t.1 (get before t.0)) (measure_of t.1 (get newest t.0))
        step true e =
            let name = same_is t.0 r e in
            let here_all : get all t.0 ≡ Some own_width =
            ap (λ (n : List ℕ). get all n) name ∙ stand.own in
            let here_newest : get newest t.0 ≡ Some own_width =
            ap (λ (n : List ℕ). get newest n) name
            ∙ own_newest t.1 (ap (λ (n : List ℕ). get (at (l + 1)) n) (sym name)
            ∙ found_under (at (l + 1)) t m) in
            let both = ap (measure_of t.1) (here_all ∙ sym here_newest) in
            omega (arith, both)
        step false e =
            let inside = measured_within t.1 (get all t.0) (get before t.0)
            (subst (λ (o : Option Width). MayBeWithin o (get before t.0))
            (get-remove nat_list_cmp_total all r t.0
            ∙ ap (λ (b : Bool). cond b None (get all t.0)) e) (stand.others t.0)) in
            omega (arith, inside)

    each : (ts : List (List ℕ × List Column)) → ((t : List ℕ × List Column) → In t ts
        → measure_of t.1 (get all t.0)
        ≤ max (measure_of t.1 (get before t.0)) (measure_of t.1 (get newest t.0)))
        → greatest ts all ≤ max (greatest ts before) (greatest ts newest)
    each [] h = omega arith
    each (t ∷ ts) h =
        let first = h t (inl refl) in
        let rest = each ts (λ u m. h u (inr m)) in
        omega (arith, first, rest)

    pub read_beside : greatest_of versions (k + 1) (l + 1)
        ≤ max (greatest_of versions k (l + 1)) (greatest_of versions l (l + 1))
    read_beside = each (entries (at (l + 1))) measured
