-- The tests of a branch's items and of its references, from a place on.
use Rattle.std.specs.Prelude.{◌≡◌, ℕ, ◌+◌, ◌<◌, Bool, true, false, List, [], ◌∷◌, ◌++◌, map, length}
use Rattle.std.specs.Prelude.{take, drop, Option, Some, None}
use Rattle.std.proofs.Common.{refl, sym, ap, ◌∙◌, get_or}
use Rattle.std.proofs.lemmas.List.{take_more}
use Rattle.std.specs.FinMap.{contains_key}
use Rattle.prima_base.specs.declared.refusal.Refusal.TheVariants.{NoTable, Ambiguous}
use Rattle.schema_catalog.specs.Tables.{Tables}
use Rattle.smo_ops_spec.specs.First.{unless, where_so, first_refusal}
use Rattle.smo_ops_spec.specs.Checks.{Fault}
use Rattle.smo_ops_spec.specs.Preconditions.{among}
use Rattle.smo_ops_spec.proofs.Firsts.{drop_at}
use Rattle.plain_answers_spec.specs.Branches.{Item}
use Rattle.temporal_lang_types.specs.Branches.{aliases_of}
use Rattle.temporal_lang_spec.specs.Checking.{items_after}

aliases_append : (a b : List Item) → aliases_of (a ++ b) ≡ aliases_of a ++ aliases_of b
aliases_append [] b = refl
aliases_append (i ∷ a) b = ap (λ names. i.1 ∷ names) (aliases_append a b)

module _ (tables : Tables) (from : List Item) (i : ℕ) (p : Item) (below : i < length from)
    (is : p ≡ get_or from i p) where
  one_more : aliases_of (take (i + 1) from) ≡ aliases_of (take i from) ++ p.1 ∷ []
  one_more = ap aliases_of (take_more from i p below ∙ ap (λ q. take i from ++ q ∷ []) (sym is))
      ∙ aliases_append (take i from) (p ∷ [])

  here : items_after tables (aliases_of (take i from)) (drop i from)
      ≡ unless (contains_key tables p.0) (NoTable p.0)
      ∷ where_so (among p.1 (aliases_of (take i from))) (Ambiguous p.1)
      ∷ items_after tables (aliases_of (take (i + 1) from)) (drop (i + 1) from)
  here = ap (λ rest. items_after tables (aliases_of (take i from)) rest) (drop_at from i p below is)
      ∙ ap (λ names. unless (contains_key tables p.0) (NoTable p.0)
      ∷ where_so (among p.1 (aliases_of (take i from))) (Ambiguous p.1)
      ∷ items_after tables names (drop (i + 1) from)) (sym one_more)

  abbrev pub tests_here : Bool → Bool → List Fault
  tests_here there before = unless there (NoTable p.0) ∷ where_so before (Ambiguous p.1)
      ∷ items_after tables (aliases_of (take (i + 1) from)) (drop (i + 1) from)

  pub item_fine : contains_key tables p.0 ≡ true → among p.1 (aliases_of (take i from)) ≡ false
      → first_refusal (items_after tables (aliases_of (take i from)) (drop i from))
      ≡ first_refusal (items_after tables (aliases_of (take (i + 1) from)) (drop (i + 1) from))
  item_fine e f = ap first_refusal here ∙ ap (λ b.
      first_refusal (tests_here b (among p.1 (aliases_of (take i from))))) e
      ∙ ap (λ b. first_refusal (tests_here true b)) f

  pub item_missing : contains_key tables p.0 ≡ false
      → first_refusal (items_after tables (aliases_of (take i from)) (drop i from))
      ≡ Some (NoTable p.0)
  item_missing e = ap first_refusal here ∙ ap
      (λ b. first_refusal (tests_here b (among p.1 (aliases_of (take i from))))) e

  pub item_again : contains_key tables p.0 ≡ true → among p.1 (aliases_of (take i from)) ≡ true
      → first_refusal (items_after tables (aliases_of (take i from)) (drop i from))
      ≡ Some (Ambiguous p.1)
  item_again e f = ap first_refusal here ∙ ap
      (λ b. first_refusal (tests_here b (among p.1 (aliases_of (take i from))))) e
      ∙ ap (λ b. first_refusal (tests_here true b)) f

-- one test a member
module _ {A B R : Type 0} (f : B → Option R) (g : A → B) (xs : List A) (i : ℕ) (x : A)
    (below : i < length xs) (is : x ≡ get_or xs i x) where
  each_at : map f (map g (drop i xs)) ≡ f (g x) ∷ map f (map g (drop (i + 1) xs))
  each_at = ap (λ ys. map f (map g ys)) (drop_at xs i x below is)

  pub each_more : f (g x) ≡ None → first_refusal (map f (map g (drop i xs)))
      ≡ first_refusal (map f (map g (drop (i + 1) xs)))
  each_more e = ap first_refusal each_at ∙ ap
      (λ o. first_refusal (o ∷ map f (map g (drop (i + 1) xs)))) e

  pub each_stop : (r : R) → f (g x) ≡ Some r → first_refusal (map f (map g (drop i xs))) ≡ Some r
  each_stop r e = ap first_refusal each_at ∙ ap
      (λ o. first_refusal (o ∷ map f (map g (drop (i + 1) xs)))) e
