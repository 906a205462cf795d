-- Stored tables at places, by their names.
use Rattle.std.proofs.Common.{◌≡◌, ◌<◌, ℕ, Bool, true, false, cond, List, [], ◌∷◌, length, get_or}
use Rattle.std.proofs.Common.{refl, sym, ap, subst, ◌∙◌, inl, inr}
use Rattle.std.specs.Prelude.{Option, Some, None, slice_get}
use Rattle.std.proofs.lemmas.Option.{slice_get-get_or}
use Rattle.relations_spec.specs.Sets.{In, Ascends, BeforeAll}
use Rattle.relations_spec.proofs.SetLaws.{before_in}
use Rattle.prima_base.specs.Order.{bytes_cmp}
use Rattle.history_store.specs.Store.{Store}
use Rattle.smo_ops_spec.specs.OneRow.{same}
use Rattle.smo_ops_spec.proofs.NameLaws.{same_itself}
use Rattle.version_groups_tables.specs.declared.made_table.MadeTable.{MadeTable}
use Rattle.version_groups_tables.specs.Places.{with_table, at_places, AreWithin}
use Rattle.version_groups_tables.specs.Stored.{stored_as, stored_names}
use Rattle.version_groups_tables.proofs.Places.{at_one, named_in, not_before_itself}

-- what stands at one of the places is stored under its name, or another of the same name is
pub stored_named : (tables : List MadeTable) (p : ℕ) (d : MadeTable) (places : List ℕ)
    → p < length tables → In p places → (s : Store)
    × (stored_as (get_or tables p d).name (at_places tables places) ≡ Some s)
stored_named tables p d [] l i = absurd i
stored_named tables p d (q ∷ places) l (inl e) =
    subst (λ (o : Option MadeTable). (s : Store)
    × (stored_as (get_or tables p d).name (with_table o (at_places tables places)) ≡ Some s))
    (sym (ap (slice_get tables) e ∙ slice_get-get_or tables p d l)) (
      (get_or tables p d).store,
      ap (λ b. cond b (Some (get_or tables p d).store)
          (stored_as (get_or tables p d).name (at_places tables places)))
          (same_itself (get_or tables p d).name),
    )
stored_named tables p d (q ∷ places) l (inr i) =
    step (slice_get tables q) (stored_named tables p d places l i)
  where
    step : (o : Option MadeTable) → (s : Store)
        × (stored_as (get_or tables p d).name (at_places tables places) ≡ Some s) → (s : Store)
        × (stored_as (get_or tables p d).name (with_table o (at_places tables places)) ≡ Some s)
    step None h = h
    step (Some t) h = one (same t.name (get_or tables p d).name)
      where
        one : (b : Bool) → (s : Store) × (cond b (Some t.store)
            (stored_as (get_or tables p d).name (at_places tables places)) ≡ Some s)
        one true = (t.store, refl)
        one false = h

-- so where nothing is stored under a name, no table at a place has it
pub none_named : (tables : List MadeTable) (p : ℕ) (d : MadeTable) (places : List ℕ) (name : List ℕ)
    → stored_as name (at_places tables places) ≡ None → p < length tables → In p places
    → (get_or tables p d).name ≡ name → ⊥
none_named tables p d places name none l i e =
    let h = stored_named tables p d places l i in
    let is : stored_as name (at_places tables places) ≡ Some h.0 =
    ap (λ n. stored_as n (at_places tables places)) (sym e) ∙ h.1 in
    absurd (cc)

ascending : (tables : List MadeTable) (r : ℕ) (places : List ℕ) (d : MadeTable) → r < length tables
    → Ascends bytes_cmp (stored_names (at_places tables (r ∷ places)))
    → Ascends bytes_cmp (stored_names (get_or tables r d ∷ at_places tables places))
ascending tables r places d l a = subst (λ (ts : List MadeTable).
    Ascends bytes_cmp (stored_names ts))
    (at_one tables r places d l) a

-- of tables of ascending names two that have one name are one
pub one_by_name : (tables : List MadeTable) (places : List ℕ) → AreWithin places (length tables)
    → Ascends bytes_cmp (stored_names (at_places tables places))
    → (p q : ℕ) (d : MadeTable) → In p places → In q places
    → (get_or tables p d).name ≡ (get_or tables q d).name → p ≡ q
one_by_name tables [] w a p q d i j e = absurd i
one_by_name tables (r ∷ places) w a p q d i j e =
    step (ascending tables r places d w.0 a).0
    (λ m n. one_by_name tables places w.1 (ascending tables r places d w.0 a).1 p q d m n e) i j
  where
    -- the first has another name than those after it
    apart : BeforeAll bytes_cmp (get_or tables r d).name (stored_names (at_places tables places))
        → (x : ℕ) → In x places → (get_or tables r d).name ≡ (get_or tables x d).name → ⊥
    apart before x m f =
        not_before_itself (get_or tables r d).name
        (before_in bytes_cmp (get_or tables r d).name (get_or tables r d).name
        (stored_names (at_places tables places)) before
        (subst (λ n. In n (stored_names (at_places tables places))) (sym f)
        (named_in tables places x d w.1 m)))

    step : BeforeAll bytes_cmp (get_or tables r d).name (stored_names (at_places tables places))
        → (In p places → In q places → p ≡ q) → In p (r ∷ places) → In q (r ∷ places) → p ≡ q
    step before rest (inl f) (inl g) = sym f ∙ g
    step before rest (inl f) (inr n) = absurd
        (apart before q n (ap (λ x. (get_or tables x d).name) f ∙ e))
    step before rest (inr m) (inl g) = absurd
        (apart before p m (ap (λ x. (get_or tables x d).name) g ∙ sym e))
    step before rest (inr m) (inr n) = rest m n
