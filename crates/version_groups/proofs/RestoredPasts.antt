-- Restored groups represent a past that is one of theirs.
use Rattle.std.proofs.Common.{◌≡◌, ◌<◌, get_or, ℕ, true, false, Bool, cond, List, [], ◌∷◌, length}
use Rattle.std.proofs.Common.{refl, sym, ap, subst, ◌∙◌, arith}
use Rattle.std.specs.Prelude.{Option, Some, None, slice_get}
use Rattle.std.specs.FinMap.{get}
use Rattle.std.proofs.lemmas.List.{length-map}
use Rattle.std.proofs.lemmas.Option.{get_or_from_slice_get, slice_get_within}
use Rattle.prima_base.specs.Columns.{Column}
use Rattle.history_store.specs.Store.{Store, AllBefore}
use Rattle.smo_ops_types.specs.Commands.{PlainVersion, version_of}
use Rattle.smo_ops_spec.specs.ValidPast.{IsLater}
use Rattle.smo_ops_spec.specs.OneRow.{same}
use Rattle.smo_ops_spec.specs.Past.{Past, no_tables, tables_from, tables_of}
use Rattle.version_groups_tables.specs.declared.made_table.MadeTable.{MadeTable}
use Rattle.version_groups_tables.specs.Stored.{HasEntry, stored_as}
use Rattle.version_groups_tables.specs.Places.{with_table, at_places}
use Rattle.version_groups_tables.specs.Restoring.{HasColumns}
use Rattle.version_groups.specs.Groups.{Kept, places_of, table_in}
use Rattle.version_groups.specs.Restoring.{AreRestored, IsPastOf}
use Rattle.version_groups.specs.Representation.{RepresentsEntry, Represents}

-- what is stored under a name is stored of a table
module _ (tables : List MadeTable) (name : List ℕ) (store : Store) where
  abbrev IsOne : Type 0
  IsOne = (p : ℕ) × (t : MadeTable) × (p < length tables) × ((get_or tables p t).store ≡ store)

  one_of : (q : ℕ) (rest : List MadeTable) → (stored_as name rest ≡ Some store → IsOne)
      → (o : Option MadeTable) → slice_get tables q ≡ o
      → stored_as name (with_table o rest) ≡ Some store → IsOne
  one_of q rest h None at e = h e
  one_of q rest h (Some t) at e = step (same t.name name) e
    where
      step : (b : Bool) → cond b (Some t.store) (stored_as name rest) ≡ Some store → IsOne
      step true f = (
        q,
        t,
        slice_get_within tables q t at,
        ap (λ (x : MadeTable). x.store) (get_or_from_slice_get tables q t t at)
            ∙ (let is : t.store ≡ store = cc in is),
      )
      step false f = h f

  stored_one : (places : List ℕ) → stored_as name (at_places tables places) ≡ Some store → IsOne
  stored_one [] e = absurd (cc)
  stored_one (q ∷ places) e = one_of q (at_places tables places) (stored_one places)
      (slice_get tables q) refl e

module _ (kept : Kept) (past : Past) (restored : AreRestored kept) (is : IsPastOf kept past) where
  -- each stamp that is stored of a table of a version is up to the last
  stamps_of : (k : ℕ) (name : List ℕ) (store : Store) → table_in kept k name ≡ Some store → (m : ℕ)
      → IsLater past.last m → AllBefore store m
  stamps_of k name store e m later =
      let one = stored_one kept.stored name store (places_of kept k) e in
      subst (λ (s : Store). AllBefore s m) one.3 (is.stamps one.0 one.1 m one.2 later)

  entry_represents : (k : ℕ) (name : List ℕ) (o : Option (List Column)) (s : Option Store)
      → table_in kept k name ≡ s → HasEntry (HasColumns name) o s → RepresentsEntry past k name o s
  entry_represents k name None None e h = tt
  entry_represents k name None (Some store) e h = absurd h
  entry_represents k name (Some columns) None e h = absurd h
  entry_represents k name (Some columns) (Some store) e h = record {
    columns = h;
    shown = λ m own. is.databases k name store m e own;
    stamps = λ m own later. stamps_of k name store e m later;
  }

  many : length kept.versions ≡ length past.versions
  many = sym (length-map kept.versions version_of) ∙ ap length is.versions

  pub represents_past_of : Represents kept past
  represents_past_of = record {
    valid = is.valid;
    values = is.values;
    ends = is.ends;
    versions = is.versions;
    tables = λ k name l.
        entry_represents k name (get (tables_of past k) name) (table_in kept k name) refl
        (subst (λ (vs : List PlainVersion). HasEntry (HasColumns name)
        (get (tables_from no_tables vs k) name) (table_in kept k name)) is.versions
        (restored.tables k name (let n = many in omega (arith, l, n))));
    sizes = is.sizes;
    lifelines = restored.lifelines;
    stamps = is.stamps;
  }
