-- The entries of a map by names: each is found under its name, and no two have one name.
use Rattle.std.proofs.Common.{◌≡◌, ℕ, Bool, true, false, List, [], ◌∷◌, T, refl, sym, ap, subst}
use Rattle.std.proofs.Common.{◌∙◌, inl, inr}
use Rattle.std.specs.Prelude.{◌&&◌, cond, Some}
use Rattle.std.specs.Ordering.{is_eq, is_lt}
use Rattle.std.specs.declared.cmp.Ordering.{Ordering}
use Rattle.std.specs.declared.cmp.Ordering.TheVariants.{Less, Equal, Greater}
use Rattle.std.specs.FinMap.{FinMap, get, entries, find, is_sorted, entries_sorted, get-entries}
use Rattle.std.specs.FinMap.Entries.{below_all}
use Rattle.relations_spec.specs.Sets.{In}
use Rattle.prima_base.specs.Order.{bytes_cmp}
use Rattle.prima_base.specs.OrderLaws.{bytes_exact, same_is}
use Rattle.smo_ops_spec.specs.OneRow.{same}
use Rattle.smo_ops_spec.proofs.NameLaws.{same_itself}

first : (a b : Bool) → T (a && b) → T a
first true b p = tt
first false b p = absurd p

second : (a b : Bool) → T (a && b) → T b
second true b p = p
second false b p = absurd p

less : (o : Ordering) → T (is_lt o) → o ≡ Less
less Less p = refl
less Equal p = absurd p
less Greater p = absurd p

-- a lesser name is another
turned : (a b : List ℕ) → bytes_cmp a b ≡ Less → same b a ≡ false
turned a b e = step (bytes_cmp b a) refl
  where
    step : (o : Ordering) → bytes_cmp b a ≡ o → is_eq o ≡ false
    step Less q = refl
    step Equal q = absurd (bytes_exact.apart a
        (subst (λ (x : List ℕ). bytes_cmp a x ≡ Less) (bytes_exact.same b a q) e))
    step Greater q = refl

abbrev Named : Type 0 → Type 0
Named X = List ℕ × X

module _ {X : Type 0} where
  pair_is : (d : Named X) (n : List ℕ) (x : X) → d.0 ≡ n → d.1 ≡ x → ◌≡◌ {A = Named X} d (n, x)
  pair_is d n x p q = λ i. (p i, q i)

  below_in : (x : List ℕ) (es : List (Named X)) (e : Named X) → T (below_all bytes_cmp x es)
      → In e es → bytes_cmp x e.0 ≡ Less
  below_in x [] e b m = absurd m
  below_in x (d ∷ es) e b (inl q) = subst (λ (y : Named X). bytes_cmp x y.0 ≡ Less) q
      (less (bytes_cmp x d.0) (first _ _ b))
  below_in x (d ∷ es) e b (inr m) = below_in x es e (second (is_lt (bytes_cmp x d.0)) _ b) m

  -- in their order no two have one name
  pub other_name : (e : Named X) (es : List (Named X)) (d : Named X)
      → T (is_sorted bytes_cmp (e ∷ es)) → In d es → e.0 ≡ d.0 → ⊥
  other_name e es d s m q = bytes_exact.apart e.0
      (subst (λ (n : List ℕ). bytes_cmp e.0 n ≡ Less) (sym q) (below_in e.0 es d (first _ _ s) m))

  pub after_first : (e : Named X) (es : List (Named X)) → T (is_sorted bytes_cmp (e ∷ es))
      → T (is_sorted bytes_cmp es)
  after_first e es s = second (below_all bytes_cmp e.0 es) _ s

  found_in : (es : List (Named X)) (e : Named X) → T (is_sorted bytes_cmp es) → In e es
      → find bytes_cmp e.0 es ≡ Some e.1
  found_in [] e s m = absurd m
  found_in (d ∷ es) e s (inl q) =
      ap (λ b. cond b (Some d.1) (find bytes_cmp e.0 es))
      (ap (λ (x : Named X). same e.0 x.0) q ∙ same_itself e.0)
      ∙ ap (λ (x : Named X). Some x.1) q
  found_in (d ∷ es) e s (inr m) =
      ap (λ b. cond b (Some d.1) (find bytes_cmp e.0 es))
      (turned d.0 e.0 (below_in d.0 es e (first _ _ s) m))
      ∙ found_in es e (after_first d es s) m

  pub found_under : (tables : FinMap bytes_cmp X) (e : Named X) → In e (entries tables)
      → get tables e.0 ≡ Some e.1
  found_under tables e m = get-entries tables e.0
      ∙ found_in (entries tables) e (entries_sorted tables) m

  pub in_found : (es : List (Named X)) (n : List ℕ) (x : X) → find bytes_cmp n es ≡ Some x
      → In (n, x) es
  in_found [] n x e = absurd (cc)
  in_found (d ∷ es) n x e = step (same n d.0) refl e (in_found es n x)
    where
      one : Some d.1 ≡ Some x → d.1 ≡ x
      one q = cc

      step : (b : Bool) → same n d.0 ≡ b → cond b (Some d.1) (find bytes_cmp n es) ≡ Some x
          → (find bytes_cmp n es ≡ Some x → In (n, x) es) → In (n, x) (d ∷ es)
      step true q h more = inl (pair_is d n x (sym (same_is n d.0 q)) (one h))
      step false q h more = inr (more h)

  pub entry_under : (tables : FinMap bytes_cmp X) (n : List ℕ) (x : X) → get tables n ≡ Some x
      → In (n, x) (entries tables)
  entry_under tables n x e = in_found (entries tables) n x (sym (get-entries tables n) ∙ e)
