-- The widths of the code, of which one is at hand: it stands before the others.
use Rattle.std.specs.Prelude.{ℕ, List, ◌∷◌, Option, Some, None}
use Rattle.std.specs.Map.{lookup}
use Rattle.std.specs.BTreeMap.{is_at}
use Rattle.prima_base.specs.Order.{bytes_cmp}
use Rattle.smo_ops_widths.specs.declared.width.TableWidth.{TableWidth}
use Rattle.smo_ops_widths.specs.declared.widths.TableWidths.{TableWidths}

abbrev pub Entry : Type 0
Entry = List ℕ × TableWidth

abbrev pub before_others : Option Entry → List Entry → List Entry
before_others None others = others
before_others (Some e) others = e ∷ others

abbrev pub all_widths : TableWidths → List Entry
all_widths w = before_others w.at_hand w.others.entries

-- the one under this name
abbrev pub width_at : List ℕ → List Entry → Option TableWidth
width_at n entries = lookup (is_at (bytes_cmp n)) entries
