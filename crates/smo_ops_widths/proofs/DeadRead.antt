-- What is read from a version that creates a dead table is what is read from the version before.
use Rattle.std.proofs.Common.{◌≡◌, ◌+◌, ◌≤◌, ℕ, Bool, true, false, List, [], ◌∷◌, refl, ap, sym, ◌∙◌}
use Rattle.std.proofs.Common.{subst}
use Rattle.std.specs.Prelude.{cond, not, Option, Some, slice_get}
use Rattle.std.specs.Option.{option_map}
use Rattle.std.specs.FinMap.{get, insert, entries, get-insert}
use Rattle.std.specs.Cmp.Lexicographic.{nat_list_cmp_total}
use Rattle.prima_base.specs.Columns.{Column}
use Rattle.prima_base.specs.OrderLaws.{same_is}
use Rattle.schema_catalog.specs.Tables.{Tables}
use Rattle.smo_ops_types.specs.Operators.{create_table}
use Rattle.smo_ops_types.specs.Commands.{PlainVersion}
use Rattle.smo_ops_spec.specs.OneRow.{same}
use Rattle.smo_ops_spec.specs.Making.{in_order}
use Rattle.smo_ops_spec.specs.After.{schema_after}
use Rattle.smo_ops_spec.specs.Past.{no_tables, tables_from}
use Rattle.smo_ops_widths.specs.Widths.{Width, Widths, a_width, own_width, own_widths, widths_over}
use Rattle.smo_ops_widths.specs.Widths.{greatest, greatest_of}
use Rattle.smo_ops_widths.specs.Dead.{AgreeBeside, AreDead}
use Rattle.smo_ops_widths.proofs.ShownLaws.{put_at}
use Rattle.smo_ops_widths.proofs.OwnWithin.{own_by}
use Rattle.smo_ops_widths.proofs.DeadLaws.{first_on}

pub affirmed : (b : Bool) → not b ≡ false → b ≡ true
affirmed true e = refl
affirmed false e = sym e

abbrev own_of : Option (List Column) → Option Width
own_of o = option_map (λ (cs : List Column). own_width) o

created_agree : (these : List ℕ → Bool) (tables : Tables) (r : List ℕ) (cs : List Column)
    → these r ≡ true → AgreeBeside these (own_widths (schema_after tables (create_table r cs)))
    (widths_over tables (create_table r cs) (own_widths tables))
created_agree these tables r cs t n f = step (same n r) refl
  where
    step : (b : Bool) → same n r ≡ b
        → get (own_widths (schema_after tables (create_table r cs))) n
        ≡ get (widths_over tables (create_table r cs) (own_widths tables)) n
    step true e =
        let both = sym t ∙ sym (ap these (same_is n r e)) ∙ f in
        absurd (cc)
    step false e = own_by (insert tables r (in_order cs)) n
        ∙ ap own_of (get-insert nat_list_cmp_total tables r (in_order cs) n
        ∙ ap (λ (b : Bool). cond b (Some (in_order cs)) (get tables n)) e)
        ∙ sym (put_at (own_widths tables) r (Some (a_width 0 0 0 (λ n. 1))) n
        ∙ ap (λ (b : Bool). cond b (Some (a_width 0 0 0 (λ n. 1))) (get (own_widths tables) n)) e
        ∙ own_by tables n)

pub read_dead : (versions : List PlainVersion) (k q : ℕ) (v : PlainVersion) → k + 1 ≤ q
    → slice_get versions k ≡ Some v → (these : List ℕ → Bool) → AreDead these versions (k + 1) q
    → (r : List ℕ) (cs : List Column) → v.op ≡ create_table r cs ∷ []
    → tables_from no_tables versions (k + 1)
    ≡ schema_after (tables_from no_tables versions k) (create_table r cs)
    → these r ≡ true → greatest_of versions (k + 1) q ≡ greatest_of versions k q
read_dead versions k q v l here these dead r cs is next t =
    let at : Tables = tables_from no_tables versions k in
    let after : Tables = tables_from no_tables versions (k + 1) in
    let agree = subst (λ (u : Tables). AgreeBeside these (own_widths u)
    (widths_over at (create_table r cs) (own_widths at))) (sym next)
    (created_agree these at r cs t) in
    dead (own_widths after) (widths_over at (create_table r cs) (own_widths at)) agree
    ∙ sym (ap (λ (w : Widths). greatest (entries (tables_from no_tables versions q)) w)
    (first_on versions k q v l here (create_table r cs) is (own_widths at)))
