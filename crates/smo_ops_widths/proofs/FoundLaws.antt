-- What is found of a table among the widths of the code, and what is made of it.
use Rattle.std.proofs.Common.{◌≡◌, ℕ, List, subst}
use Rattle.std.specs.Prelude.{Option, Some, None}
use Rattle.std.specs.Option.{option_map}
use Rattle.std.specs.Map.{lookup}
use Rattle.std.specs.BTreeMap.{is_at}
use Rattle.std.specs.FinMap.{get}
use Rattle.prima_base.specs.Order.{bytes_cmp}
use Rattle.smo_ops_widths.specs.declared.width.TableWidth.{TableWidth}
use Rattle.smo_ops_widths.specs.Widths.{Width, Widths, of_both}
use Rattle.smo_ops_widths.specs.Counted.{AreAlike, MayBeAlike}
use Rattle.smo_ops_widths.specs.Shown.{width_of, Show}
use Rattle.smo_ops_widths.proofs.AlikeLaws.{alike_on}

-- what is made of one that is there
pub made_of_one : (F : Width → Width)
    → ((a b : Width) → AreAlike a b → AreAlike (F a) (F b))
    → (w : Width) (x : Width) (o : Option Width) → AreAlike w (F x) → MayBeAlike (Some x) o
    → MayBeAlike (Some w) (option_map F o)
made_of_one F each w x None a m = m
made_of_one F each w x (Some b) a m = alike_on w (F x) (F b) a (each x b m)

-- what is made of two that are there
pub made_of_two : (F : Width → Width → Width)
    → ((a b x y : Width) → AreAlike a x → AreAlike b y → AreAlike (F a b) (F x y))
    → (w x y : Width) (o p : Option Width) → AreAlike w (F x y) → MayBeAlike (Some x) o
    → MayBeAlike (Some y) p → MayBeAlike (Some w) (of_both F o p)
made_of_two F each w x y None p a m k = m
made_of_two F each w x y (Some b) None a m k = k
made_of_two F each w x y (Some b) (Some d) a m k = alike_on w (F x y) (F b d) a
    (each x y b d m k)

-- by what stands there
module _ (es : List (List ℕ × TableWidth)) (shown : Widths) (s : Show es shown) (n : List ℕ) where
  pub one_there : (x : TableWidth) → lookup (is_at (bytes_cmp n)) es ≡ Some x
      → MayBeAlike (Some (width_of x)) (get shown n)
  one_there x e = subst (λ (o : Option TableWidth). MayBeAlike (option_map width_of o)
      (get shown n)) e (s n)
