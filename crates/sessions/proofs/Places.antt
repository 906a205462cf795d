-- Cursors at their places.
use Rattle.std.proofs.Common.{◌≡◌, ℕ, Bool, false, List}
use Rattle.std.proofs.Common.{Option, Some, None, refl, sym, ap, ◌∙◌, position, slice_get, remove}
use Rattle.std.proofs.Common.{is_some, true≢false}
use Rattle.std.specs.Option.{option_map}
use Rattle.std.specs.Map.{keys_of, lookup, remove_entry}
use Rattle.std.proofs.lemmas.Option.{slice_get-map}
use Rattle.indexmap.proofs.MapLemmas.{Found-position, Missing-position, remove_entry-first}
use Rattle.indexmap.proofs.MapLemmas.{some_index}
use Rattle.sessions.proofs.Keyed.{lookup-seen, remove_entry-seen, seen}

module _ {K X Y : Type 0} (f : X → Y) (test : K → Bool) (es : List (K × X)) where
  pub none_at : position test (keys_of es) ≡ None → lookup test (seen f es) ≡ None
  none_at p = lookup-seen f test es ∙ ap (option_map f) (Missing-position test es p).value

  pub entry_at : (i : ℕ) (e : K × X) → position test (keys_of es) ≡ Some i
      → slice_get es i ≡ Some e → lookup test (seen f es) ≡ Some (f e.1)
  entry_at i e p at = lookup-seen f test es ∙ ap (option_map f) ((Found-position test es i p).value
      ∙ slice_get-map (λ (x : K × X). x.1) es i ∙ ap (option_map (λ (x : K × X). x.1)) at)

  pub removed_at : (i : ℕ) → position test (keys_of es) ≡ Some i
      → seen f (remove es i) ≡ remove_entry test (seen f es)
  removed_at i p = ap (seen f) (sym (remove_entry-first test es i
      (Found-position test es i p).first))
      ∙ sym (remove_entry-seen f test es)

  -- one is there exactly where its place is
  pub some_at : (o : Option ℕ) → position test (keys_of es) ≡ o
      → is_some (lookup test (seen f es)) ≡ is_some o
  some_at o p = ap is_some (lookup-seen f test es) ∙ seen_some (lookup test es)
      ∙ sym (some_index test es) ∙ ap is_some p
    where
      seen_some : (x : Option X) → is_some (option_map f x) ≡ is_some x
      seen_some None = refl
      seen_some (Some x) = refl

-- where no place is found, none is there
pub absent_at : {K X : Type 0} (test : K → Bool) (es : List (K × X))
    → is_some (position test (keys_of es)) ≡ false → lookup test es ≡ None
absent_at {K} {X} test es h = by (lookup test es) (sym (some_index test es) ∙ h)
  where
    by : (o : Option X) → is_some o ≡ false → o ≡ None
    by None h = refl
    by (Some x) h = absurd (true≢false h)
