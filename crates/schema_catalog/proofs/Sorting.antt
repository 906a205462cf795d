-- Tables in the order of their names, by their places.
use Rattle.std.proofs.Common.{◌≡◌, ◌<◌, ◌+◌, ℕ, zero, suc, Bool, true, false, List, [], ◌∷◌, length}
use Rattle.std.proofs.Common.{refl, sym, ap, subst, ◌∙◌, arith, get_or}
use Rattle.std.specs.Prelude.{◌&&◌, T}
use Rattle.std.specs.Ordering.{is_lt, ordering_reverse}
use Rattle.std.specs.declared.cmp.Ordering.{Ordering}
use Rattle.std.specs.declared.cmp.Ordering.TheVariants.{Less, Equal, Greater}
use Rattle.std.specs.FinMap.{is_sorted}
use Rattle.std.specs.FinMap.Entries.{below_all}
use Rattle.std.specs.Cmp.Lexicographic.{nat_list_cmp_total}
use Rattle.std.specs.List.Sorted.{IsSortedBy}
use Rattle.prima_base.specs.Order.{bytes_cmp}
use Rattle.schema_catalog.specs.Places.{NamedColumns}

pub first : (a b : Bool) → T (a && b) → T a
first true b p = tt
first false b p = absurd p

pub second : (a b : Bool) → T (a && b) → T b
second true b p = p
second false b p = absurd p

less : (o : Ordering) → T (is_lt o) → o ≡ Less
less Less p = refl
less Equal p = absurd p
less Greater p = absurd p

-- the order from the other side
pub turned : (a b : List ℕ) (o : Ordering) → bytes_cmp a b ≡ o → bytes_cmp b a ≡ ordering_reverse o
turned a b o e = nat_list_cmp_total.antisymm b a ∙ ap ordering_reverse e

pub below_at : (x : List ℕ) (es : List NamedColumns) (k : ℕ) (d : NamedColumns)
    → T (below_all bytes_cmp x es) → k < length es → bytes_cmp x (get_or es k d).0 ≡ Less
below_at x [] k d b l = absurd (omega arith)
below_at x (e ∷ es) zero d b l = less (bytes_cmp x e.0) (first _ _ b)
below_at x (e ∷ es) (suc k) d b l = below_at x es k d (second (is_lt (bytes_cmp x e.0)) _ b)
    (omega arith)

adjacent : (es : List NamedColumns) (k : ℕ) (d : NamedColumns) → T (is_sorted bytes_cmp es)
    → k + 1 < length es → bytes_cmp (get_or es k d).0 (get_or es (k + 1) d).0 ≡ Less
adjacent [] k d s l = absurd (omega arith)
adjacent (e ∷ es) zero d s l = below_at e.0 es 0 d (first _ _ s) (omega arith)
adjacent (e ∷ es) (suc k) d s l =
    let n : suc k + 1 ≡ suc (k + 1) = omega arith in
    subst (λ (j : ℕ). bytes_cmp (get_or es k d).0 (get_or (e ∷ es) j d).0 ≡ Less) (sym n)
    (adjacent es k d (second (below_all bytes_cmp e.0 es) _ s) (omega arith))

pub rises : (es : List NamedColumns) → T (is_sorted bytes_cmp es)
    → IsSortedBy (λ a b. is_lt (bytes_cmp a.0 b.0)) es
rises es s = λ k d h l. ap is_lt (turned (get_or es k d).0 (get_or es (k + 1) d).0 Less
    (adjacent es k d s l))
