-- Names that are not known, and a name that is free.
use Rattle.std.proofs.Common.{◌≡◌, ℕ, Bool, true, false, List, [], ◌∷◌, ◌++◌, refl, sym, ap, ◌∙◌}
use Rattle.std.specs.Prelude.{◌||◌, cond, not, if◌then◌else◌, Option, Some, None}
use Rattle.std.specs.Option.{option_map, option_or}
use Rattle.std.specs.FinMap.{contains_key}
use Rattle.prima_base.specs.declared.refusal.OpRefusal.{OpRefusal}
use Rattle.prima_base.specs.declared.refusal.OpRefusal.TheVariants.{Exists, NoColumn}
use Rattle.prima_base.specs.Columns.{Column, names_of}
use Rattle.schema_catalog.specs.Tables.{Tables}
use Rattle.smo_ops_spec.specs.First.{unless}
use Rattle.smo_ops_spec.specs.Preconditions.{among, first_not_among, each_known, is_free}
use Rattle.smo_ops_spec.proofs.Firsts.{none_mapped}

-- of two lists the first unknown name of the first counts, and that of the second where the first
-- has none
unknown_in_both : (others xs ys : List (List ℕ))
    → first_not_among others (xs ++ ys) ≡ option_or (first_not_among others xs)
    (first_not_among others ys)
unknown_in_both others [] ys = refl
unknown_in_both others (x ∷ xs) ys = step (not (among x others)) (unknown_in_both others xs ys)
  where
    step : (b : Bool) → first_not_among others (xs ++ ys)
        ≡ option_or (first_not_among others xs) (first_not_among others ys)
        → cond b (Some x) (first_not_among others (xs ++ ys))
        ≡ option_or (cond b (Some x) (first_not_among others xs)) (first_not_among others ys)
    step true e = refl
    step false e = e

pub known_later : (r : List ℕ) (columns : List Column) (xs ys : List (List ℕ))
    → each_known r columns xs ≡ None → each_known r columns ys ≡ each_known r columns (xs ++ ys)
known_later r columns xs ys e =
    sym (ap (option_map (NoColumn r)) (unknown_in_both (names_of columns) xs ys
    ∙ ap (λ (o : Option (List ℕ)). option_or o (first_not_among (names_of columns) ys))
    (none_mapped (NoColumn r) (first_not_among (names_of columns) xs) e)))

pub unknown_first : (r : List ℕ) (columns : List Column) (xs ys : List (List ℕ))
    (refusal : OpRefusal) → each_known r columns xs ≡ Some refusal
    → each_known r columns (xs ++ ys) ≡ Some refusal
unknown_first r columns xs ys refusal e =
    ap (option_map (NoColumn r)) (unknown_in_both (names_of columns) xs ys)
    ∙ stays (first_not_among (names_of columns) xs) (first_not_among (names_of columns) ys) e
  where
    stays : (a b : Option (List ℕ)) → option_map (NoColumn r) a ≡ Some refusal
        → option_map (NoColumn r) (option_or a b) ≡ Some refusal
    stays None b q = absurd (cc)
    stays (Some n) b q = q

-- a name is free, where the operator consumes the tables of these names
pub free_any : (tables : Tables) (t : List ℕ) (names : List (List ℕ)) (consumed : Bool)
    → consumed ≡ among t names
    → (if consumed then None else is_free tables [] t) ≡ is_free tables names t
free_any tables t names consumed e =
    either (contains_key tables t) consumed ∙ ap
    (λ b. unless (not (contains_key tables t) || b) (Exists t)) e
  where
    either : (c b : Bool) → (if b then None else unless (not c || false) (Exists t))
        ≡ unless (not c || b) (Exists t)
    either true true = refl
    either true false = refl
    either false true = refl
    either false false = refl
