-- A table that loses a column keeps its width.
use Rattle.std.proofs.Common.{◌≡◌, ℕ, Bool, true, false, List, refl, ap, sym, subst, ◌∙◌}
use Rattle.std.specs.Prelude.{cond, Option, None}
use Rattle.std.specs.BTreeMap.{is_at}
use Rattle.std.specs.FinMap.{get, remove, get-remove}
use Rattle.std.specs.Cmp.Lexicographic.{nat_list_cmp_total}
use Rattle.prima_base.specs.Order.{bytes_cmp}
use Rattle.prima_base.specs.OrderLaws.{same_is}
use Rattle.schema_catalog.specs.Tables.{Tables}
use Rattle.smo_ops_types.specs.Operators.{drop_column}
use Rattle.smo_ops_widths.specs.declared.width.TableWidth.{TableWidth}
use Rattle.smo_ops_widths.specs.Widths.{Width, Widths, put_width, widths_over}
use Rattle.smo_ops_widths.specs.Counted.{MayBeAlike}
use Rattle.smo_ops_widths.specs.Shown.{seen, Show}
use Rattle.smo_ops_widths.proofs.ShownLaws.{put_at}

kept : (shown : Widths) (r n : List ℕ)
    → get (put_width r (get shown r) (remove shown r)) n ≡ get shown n
kept shown r n = put_at (remove shown r) r (get shown r) n ∙ step (is_at (bytes_cmp n) r) refl
  where
    step : (b : Bool) → is_at (bytes_cmp n) r ≡ b
        → cond b (get shown r) (get (remove shown r) n) ≡ get shown n
    step true e = ap (get shown) (sym (same_is n r e))
    step false e = get-remove nat_list_cmp_total shown r n
        ∙ ap (λ (b : Bool). cond b None (get shown n)) e

pub show_kept : (entries : List (List ℕ × TableWidth)) (shown : Widths) (before : Tables)
    (column r : List ℕ) → Show entries shown
    → Show entries (widths_over before (drop_column column r) shown)
show_kept entries shown before column r s n =
    subst (λ (o : Option Width). MayBeAlike (seen entries n) o) (sym (kept shown r n)) (s n)
