-- The columns of some names, of which each is a column's, have just these names.
use Rattle.std.proofs.Common.{◌≡◌, ℕ, suc, Bool, true, false, cond, List, [], ◌∷◌, length, refl}
use Rattle.std.proofs.Common.{sym, ap}
use Rattle.std.proofs.Common.{◌∙◌}
use Rattle.std.specs.List.{filter}
use Rattle.relations_spec.specs.Sets.{Ascends}
use Rattle.relations_spec.proofs.SetLaws.{in_filter, from_filter, one_list, below_each, before_in}
use Rattle.prima_base.specs.Order.{bytes_cmp}
use Rattle.prima_base.specs.OrderLaws.{bytes_exact}
use Rattle.prima_base.specs.Columns.{Column, names_of}
use Rattle.smo_ops_spec.specs.Preconditions.{among}
use Rattle.smo_ops_spec.specs.Making.{named}
use Rattle.smo_ops_spec.proofs.NameLaws.{among_in, in_among}
use Rattle.join_exec.specs.Reading.{AreNames}

names_filtered : (ns : List (List ℕ)) (columns : List Column)
    → names_of (named ns columns) ≡ filter (λ n. among n ns) (names_of columns)
names_filtered ns [] = refl
names_filtered ns (c ∷ columns) = step (among c.0 ns) (names_filtered ns columns)
  where
    step : (b : Bool) → names_of (named ns columns) ≡ filter (λ n. among n ns) (names_of columns)
        → names_of (cond b (c ∷ named ns columns) (named ns columns))
        ≡ cond b (c.0 ∷ filter (λ n. among n ns) (names_of columns))
        (filter (λ n. among n ns) (names_of columns))
    step true e = ap (λ (xs : List (List ℕ)). c.0 ∷ xs) e
    step false e = e

ascends_filter : (p : List ℕ → Bool) (xs : List (List ℕ)) → Ascends bytes_cmp xs
    → Ascends bytes_cmp (filter p xs)
ascends_filter p [] a = tt
ascends_filter p (x ∷ xs) a =
    elim (p x) as (λ b. Ascends bytes_cmp (cond b (x ∷ filter p xs) (filter p xs))) [
      | true ↦ (
        below_each bytes_cmp x (filter p xs)
            (λ y m. before_in bytes_cmp x y xs a.0 (from_filter p y xs m).0),
        ascends_filter p xs a.1,
      )
      | false ↦ ascends_filter p xs a.1
    ]

pub names_left : (ns : List (List ℕ)) (columns : List Column) → Ascends bytes_cmp ns
    → Ascends bytes_cmp (names_of columns) → AreNames columns ns → names_of (named ns columns) ≡ ns
names_left ns columns a b known =
    names_filtered ns columns
    ∙ one_list bytes_cmp bytes_exact (filter (λ n. among n ns) (names_of columns)) ns
    (ascends_filter (λ n. among n ns) (names_of columns) b) a (record {
      there = λ n h. among_in n ns (from_filter (λ x. among x ns) n (names_of columns) h).1;
      back = λ n h. in_filter (λ x. among x ns) n (names_of columns) (known n h) (in_among n ns h);
    })

-- and are as many
many_names : (columns : List Column) → length (names_of columns) ≡ length columns
many_names [] = refl
many_names (c ∷ columns) = ap suc (many_names columns)

pub as_many : (ns : List (List ℕ)) (columns : List Column) → names_of (named ns columns) ≡ ns
    → length (named ns columns) ≡ length ns
as_many ns columns e = sym (many_names (named ns columns))
    ∙ ap (λ (xs : List (List ℕ)). length xs) e
