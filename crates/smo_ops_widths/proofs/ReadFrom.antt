-- What is read from a version that creates no table need not be measured.
use Rattle.std.proofs.Common.{◌≡◌, ◌+◌, ◌≤◌, ℕ, suc, false, List, [], ◌∷◌, sym, ap}
use Rattle.std.proofs.Common.{subst, ◌∙◌, arith}
use Rattle.std.specs.Prelude.{Some, None, slice_get}
use Rattle.std.specs.FinMap.{entries}
use Rattle.schema_catalog.specs.Tables.{Tables}
use Rattle.smo_ops_types.specs.Operators.{Operator}
use Rattle.smo_ops_types.specs.Commands.{PlainVersion}
use Rattle.smo_ops_spec.specs.After.{op_fault, schema_after}
use Rattle.smo_ops_spec.specs.Past.{no_tables, tables_from}
use Rattle.smo_ops_versions_spec.specs.Steps.{carrying_each, taken}
use Rattle.smo_ops_versions_spec.specs.Ways.{over_version, way}
use Rattle.smo_ops_versions_spec.proofs.StepLaws.{taken_so}
use Rattle.smo_ops_versions_spec.proofs.WaySteps.{taken_stays, taken_forward, taken_forward_by}
use Rattle.smo_ops_widths.specs.Widths.{Widths, own_widths, widths_over, widths_stepped, widths_of}
use Rattle.smo_ops_widths.specs.Widths.{greatest_of, widest_with}
use Rattle.smo_ops_widths.specs.Creating.{creates}
use Rattle.smo_ops_widths.proofs.WithinLaws.{AllWithin, step_within, greatest_within}
use Rattle.smo_ops_widths.proofs.OwnWithin.{own_within}

module _ (versions : List PlainVersion) (k : ℕ) (v : PlainVersion)
    (here : slice_get versions k ≡ Some v) (op : Operator) (one : v.op ≡ op ∷ [])
    (none : creates op ≡ false) (accepted : op_fault (tables_from no_tables versions k) op ≡ None)
    (next : tables_from no_tables versions (k + 1)
    ≡ schema_after (tables_from no_tables versions k) op) where
  abbrev at : ℕ → Tables
  at j = tables_from no_tables versions j

  abbrev own : ℕ → Widths
  own j = own_widths (tables_from no_tables versions j)

  one_on : widths_of versions k (k + 1) ≡ widths_over (at k) op (own k)
  one_on = taken_forward versions widths_stepped k k (own k) (omega arith)
      ∙ ap (λ (w : Widths). taken widths_stepped
      (over_version (at k) (slice_get versions k)) w)
      (taken_stays versions widths_stepped k (own k))
      ∙ ap (λ o. taken widths_stepped (over_version (at k) o) (own k)) here
      ∙ ap (λ (ops : List Operator). taken widths_stepped (carrying_each (at k) ops) (own k)) one

  begun : AllWithin (own (k + 1)) (widths_of versions k (k + 1))
  begun = subst (λ (w : Widths). AllWithin (own (k + 1)) w) (sym one_on)
      (subst (λ (t : Tables). AllWithin (own_widths t) (widths_over (at k) op (own k)))
      (sym next) (own_within (at k) op none accepted))

  on_to : (q : ℕ) → k + 1 ≤ q
      → AllWithin (widths_of versions (k + 1) q) (widths_of versions k q)
  on_to q l =
      let low : k ≤ k + 1 = omega arith in
      subst (λ (w : Widths). AllWithin (widths_of versions (k + 1) q) w)
      (sym (taken_forward_by versions widths_stepped k (k + 1) q (own k) low l))
      (taken_so AllWithin widths_stepped widths_stepped step_within (way versions (k + 1) q)
      (own (k + 1)) (widths_of versions k (k + 1)) begun)

  pub read_before : (q : ℕ) → k + 1 ≤ q
      → greatest_of versions (k + 1) q ≤ widest_with versions q (suc k)
  read_before q l =
      let more = greatest_within (entries (at q)) (widths_of versions (k + 1) q)
      (widths_of versions k q) (on_to q l) in
      omega (arith, more)
