-- Names that stood before, and columns put in order, step by step.
use Rattle.std.proofs.Common.{◌≡◌, ◌≤◌, ◌<◌, ◌+◌, ◌-◌, ℕ, Bool, true, false, List, [], ◌∷◌, ◌++◌}
use Rattle.std.proofs.Common.{length, take, drop, get_or, refl, sym, ap, ◌∙◌, arith}
use Rattle.std.specs.Prelude.{◌||◌, cond, if◌then◌else◌, Some}
use Rattle.std.proofs.lemmas.List.{take_more, take_all}
use Rattle.relations_spec.specs.Sets.{put_in, set_of}
use Rattle.prima_base.specs.Columns.{Column, names_of}
use Rattle.smo_ops_spec.specs.OneRow.{same}
use Rattle.smo_ops_spec.specs.Preconditions.{among, again_after}
use Rattle.smo_ops_spec.specs.Making.{column_cmp, in_order}
use Rattle.smo_ops_spec.proofs.Firsts.{drop_at}
use Rattle.smo_ops_spec.proofs.NameLaws.{same_turned}
use Rattle.smo_ops_spec.proofs.FewNames.{one_later}

names_append : (a b : List Column) → names_of (a ++ b) ≡ names_of a ++ names_of b
names_append [] b = refl
names_append (c ∷ a) b = ap (λ (names : List (List ℕ)). c.0 ∷ names) (names_append a b)

module _ (columns : List Column) (i : ℕ) (c : Column) (below : i < length columns)
    (is : c ≡ get_or columns i c) where
  one_more : names_of (take (i + 1) columns) ≡ names_of (take i columns) ++ c.0 ∷ []
  one_more = ap names_of (take_more columns i c below ∙ ap (λ d. take i columns ++ d ∷ []) (sym is))
      ∙ names_append (take i columns) (c ∷ [])

  here : again_after (names_of (take i columns)) (names_of (drop i columns))
      ≡ (if among c.0 (names_of (take i columns)) then Some c.0
      else again_after (names_of (take (i + 1) columns)) (names_of (drop (i + 1) columns)))
  here = ap (λ rest. again_after (names_of (take i columns)) (names_of rest))
      (drop_at columns i c below is)
      ∙ ap (λ before. if among c.0 (names_of (take i columns)) then Some c.0
      else again_after before (names_of (drop (i + 1) columns))) (sym one_more)

  pub not_again : among c.0 (names_of (take i columns)) ≡ false
      → again_after (names_of (take i columns)) (names_of (drop i columns))
      ≡ again_after (names_of (take (i + 1) columns)) (names_of (drop (i + 1) columns))
  not_again e = here ∙ ap (λ b. if b then Some c.0
      else again_after (names_of (take (i + 1) columns)) (names_of (drop (i + 1) columns))) e

  pub now_seen : (name : List ℕ) (old new : Bool) → old ≡ among name (names_of (take i columns))
      → new ≡ cond (same c.0 name) true old
      → new ≡ among name (names_of (take (i + 1) columns))
  now_seen name old new e n =
      n ∙ ap (λ b. cond (same c.0 name) true b) e
      ∙ step (same c.0 name) (same name c.0) (among name (names_of (take i columns)))
      (same_turned c.0 name)
      ∙ sym (one_later name c.0 (names_of (take i columns))) ∙ ap (among name) (sym one_more)
    where
      step : (p q b : Bool) → p ≡ q → cond p true b ≡ (b || q)
      step true true true e = refl
      step true true false e = refl
      step false false true e = refl
      step false false false e = refl
      step true false b e = absurd (cc)
      step false true b e = absurd (cc)

pub none_in_order : (columns : List Column) → length columns < 1 → in_order columns ≡ []
unfolding set_of
none_in_order [] l = refl
none_in_order (c ∷ columns) l = absurd (omega arith)

pub one_in_order : (columns : List Column) (c : Column) → 1 ≤ length columns
    → c ≡ get_or columns 0 c
    → put_in column_cmp c (in_order (take (length columns - 1) (drop 1 columns))) ≡ in_order columns
unfolding set_of
one_in_order [] c l e = absurd (omega arith)
one_in_order (d ∷ columns) c l e =
    ap (λ rest. put_in column_cmp c (in_order rest))
    (take_all (length (d ∷ columns) - 1) columns (omega arith))
    ∙ ap (λ (x : Column). put_in column_cmp x (in_order columns)) e
