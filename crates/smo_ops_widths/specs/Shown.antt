-- The widths that stand in the code.
use Rattle.std.specs.Prelude.{ℕ, List, Option}
use Rattle.std.specs.Option.{option_map}
use Rattle.std.specs.FinMap.{get}
use Rattle.std.specs.Map.{lookup}
use Rattle.std.specs.BTreeMap.{is_at}
use Rattle.prima_base.specs.Order.{bytes_cmp}
use Rattle.smo_ops_widths.specs.Widths.{Width, Widths, a_width}
use Rattle.smo_ops_widths.specs.Counted.{size_in, MayBeAlike}
use Rattle.smo_ops_widths.specs.declared.width.TableWidth.{TableWidth}

-- the width that one of the code stands for
abbrev pub width_of : TableWidth → Width
width_of w = a_width w.pieces w.atoms w.cond (size_in w.sizes.items)

-- that of the table with this name
abbrev pub seen : List (List ℕ × TableWidth) → List ℕ → Option Width
seen entries n = option_map width_of (lookup (is_at (bytes_cmp n)) entries)

-- these are the widths
abbrev pub Show : List (List ℕ × TableWidth) → Widths → Type 0
Show entries widths = (n : List ℕ) → MayBeAlike (seen entries n) (get widths n)
