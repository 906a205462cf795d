-- Any ascending list of moments that has those at which a row begins or ends gives the same
-- commands.
use Rattle.std.specs.Prelude.{◌≡◌, ◌-◌, ◌++◌, ℕ, Bool, true, false, cond, List, []}
use Rattle.std.specs.Prelude.{◌∷◌}
use Rattle.std.proofs.Common.{refl, sym, ap, ◌∙◌, arith}
use Rattle.std.specs.List.{filter}
use Rattle.std.specs.Ordering.{nat_cmp}
use Rattle.std.specs.declared.cmp.Ordering.TheVariants.{Less}
use Rattle.relations_spec.specs.Sets.{In, Ascends}
use Rattle.relations_spec.proofs.SetLaws.{in_filter, from_filter, before_in, below_each}
use Rattle.relations_spec.proofs.SetLaws.{one_list_of}
use Rattle.relations_spec.proofs.ListingLaws.{nat_less, less_nat}
use Rattle.schema_catalog.specs.Places.{NamedColumns}
use Rattle.schema_catalog.specs.Databases.{Database}
use Rattle.smo_ops_types.specs.Changes.{PlainChange}
use Rattle.version_export_past_spec.specs.Rows.{changes_between}
use Rattle.version_export_past_spec.specs.Commands.{if_any, row_commands}

abbrev pub some_change : List PlainChange → Bool
some_change [] = false
some_change (c ∷ changes) = true

less_trans : (x y z : ℕ) → nat_cmp x y ≡ Less → nat_cmp y z ≡ Less → nat_cmp x z ≡ Less
less_trans x y z p q = (let a = less_nat x y p in let b = less_nat y z q in
    nat_less x z (omega (arith, a, b)))

less_apart : (x : ℕ) → nat_cmp x x ≡ Less → ⊥
less_apart x p = (let a = less_nat x x p in absurd (omega (arith, a)))

pub filtered_ascends : (p : ℕ → Bool) (ms : List ℕ) → Ascends nat_cmp ms
    → Ascends nat_cmp (filter p ms)
filtered_ascends p [] a = tt
filtered_ascends p (m ∷ ms) a = step (filtered_ascends p ms a.1) (p m)
  where
    step : Ascends nat_cmp (filter p ms) → (b : Bool)
        → Ascends nat_cmp (cond b (m ∷ filter p ms) (filter p ms))
    step more true = (
      below_each nat_cmp m (filter p ms) (λ x i. before_in nat_cmp m x ms a.0
          (from_filter p x ms i).0),
      more,
    )
    step more false = more

module _ (tables : List NamedColumns) (shown : ℕ → Database) where
  abbrev pub is_active : ℕ → Bool
  is_active m = some_change (changes_between tables (shown (m - 1)) (shown m))

  -- at other moments there is no command
  active_alone : (ms : List ℕ) → row_commands tables shown ms
      ≡ row_commands tables shown (filter is_active ms)
  active_alone [] = refl
  active_alone (m ∷ ms) =
      step (active_alone ms) (changes_between tables (shown (m - 1)) (shown m)) refl
    where
      step : row_commands tables shown ms ≡ row_commands tables shown (filter is_active ms)
          → (cs : List PlainChange) → changes_between tables (shown (m - 1)) (shown m) ≡ cs
          → if_any m cs ++ row_commands tables shown ms
          ≡ row_commands tables shown (cond (some_change cs) (m ∷ filter is_active ms)
          (filter is_active ms))
      step more [] e = more
      step more (c ∷ cs) e =
          ap (λ rest. if_any m (c ∷ cs) ++ rest) more
          ∙ ap (λ ds. if_any m ds ++ row_commands tables shown (filter is_active ms)) (sym e)

  pub same_commands : (ms ns : List ℕ) → Ascends nat_cmp ms → Ascends nat_cmp ns
      → ((m : ℕ) → is_active m ≡ true → In m ms → In m ns)
      → ((m : ℕ) → is_active m ≡ true → In m ns → In m ms)
      → row_commands tables shown ms ≡ row_commands tables shown ns
  same_commands ms ns a b there back =
      active_alone ms
      ∙ ap (row_commands tables shown) (one_list_of nat_cmp less_trans less_apart
      (filter is_active ms) (filter is_active ns) (filtered_ascends is_active ms a)
      (filtered_ascends is_active ns b) (record {
        there = λ m i. (let h = from_filter is_active m ms i in
            in_filter is_active m ns (there m h.1 h.0) h.1);
        back = λ m i. (let h = from_filter is_active m ns i in
            in_filter is_active m ms (back m h.1 h.0) h.1);
      }))
      ∙ sym (active_alone ns)
