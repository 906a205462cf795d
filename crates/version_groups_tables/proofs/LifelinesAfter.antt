-- Which lifelines live after the members of an operator.
use Rattle.std.proofs.Common.{◌≡◌, ◌≤◌, ◌<◌, ◌-◌, ℕ, Bool, true, false, List, ◌++◌, map, length}
use Rattle.std.proofs.Common.{get_or, refl, sym, ap, subst, ◌∙◌, arith, length-append, inl, inr}
use Rattle.std.proofs.Common.{is_some}
use Rattle.std.specs.Prelude.{Option, Some, None}
use Rattle.std.specs.FinMap.{get}
use Rattle.std.proofs.lemmas.List.{length-map, get_or-map, get_or_append_left, get_or-append_right}
use Rattle.relations_spec.specs.Sets.{In}
use Rattle.prima_base.specs.Columns.{Column}
use Rattle.schema_catalog.specs.Tables.{Tables}
use Rattle.history_store.specs.Store.{Store}
use Rattle.smo_ops_types.specs.Operators.{Operator}
use Rattle.smo_ops_spec.specs.Evolutions.{schema_after_each, AllOperatorsAccepted}
use Rattle.smo_ops_spec.specs.Evolutions.{one_makes, one_consumes}
use Rattle.smo_ops_spec.proofs.PastMoments.{before_or_not}
use Rattle.smo_ops_spec.proofs.MemberLaws.{each_table_stays, each_table_gone, each_made_is_free}
use Rattle.version_groups_tables.specs.declared.made_table.MadeTable.{MadeTable}
use Rattle.smo_ops_versions_spec.specs.Lifelines.{last_after}
use Rattle.version_groups_tables.specs.Ending.{table_after, AreLiving}
use Rattle.version_groups_tables.specs.Places.{at_places}
use Rattle.version_groups_tables.specs.Beginning.{ArePlaced}
use Rattle.version_groups_tables.specs.Stored.{stored_as, HasEntry}
use Rattle.version_groups_tables.proofs.LifelinesEnded.{ends_not}
use Rattle.version_groups_tables.proofs.NamedPlaces.{stored_named}

-- a table is stored just where there is one
pub entry_some : (Is : List Column → Store → Type 0) (o : Option (List Column)) (s : Option Store)
    (store : Store) → s ≡ Some store → HasEntry Is o s → is_some o ≡ true
entry_some Is None None store e h = absurd (cc)
entry_some Is None (Some t) store e h = absurd h
entry_some Is (Some columns) s store e h = refl

pub entry_none : (Is : List Column → Store → Type 0) (s : Option Store) → HasEntry Is None s
    → s ≡ None
entry_none Is None h = refl
entry_none Is (Some store) h = absurd h

-- the tables that are stored, at the places of the version before, each of which is in its schema;
-- and those that begin, at the places of the next version
module _ (stored begun : List MadeTable) (own places : List ℕ) (before : Tables)
    (op : List Operator)
    (n : ℕ) (accepted : AllOperatorsAccepted before op) (living : AreLiving stored own)
    (known : (name : List ℕ) (s : Store) → stored_as name (at_places stored own) ≡ Some s
    → is_some (get before name) ≡ true)
    (fresh : (j : ℕ) (t : MadeTable) → j < length begun → (get_or begun j t).last ≡ None)
    (placed : ArePlaced stored begun own (one_makes before op) (schema_after_each before op) places)
    (gone : (name : List ℕ) → get (schema_after_each before op) name ≡ None
    → stored_as name (at_places (stored ++ begun) places) ≡ None) where
  abbrev ended : List MadeTable
  ended = map (table_after (one_consumes before op) n) stored

  count : length ended ≡ length stored
  count = length-map stored (table_after (one_consumes before op) n)

  -- a table that stood before, and one that begins
  pub stood : (p : ℕ) (t : MadeTable) → p < length stored
      → get_or (ended ++ begun) p t ≡ table_after (one_consumes before op) n (get_or stored p t)
  stood p t l =
      get_or_append_left ended begun t p (omega (arith, l, count))
      ∙ get_or-map (table_after (one_consumes before op) n) stored p t t l

  came : (p : ℕ) (t : MadeTable) → length stored ≤ p → p < length (ended ++ begun)
      → (get_or (ended ++ begun) p t).last ≡ None
  came p t l m =
      let long = length-append ended begun in
      ap (λ (x : MadeTable). x.last) (get_or-append_right ended begun (length stored) p t count l)
      ∙ fresh (p - length stored) t (omega (arith, l, m, long, count))

  -- a table that goes on is in the next schema, and so it is not consumed
  goes_on : (p : ℕ) (t : MadeTable) → p < length stored → In p places
      → one_consumes before op (get_or stored p t).name ≡ false
  goes_on p t l i = step (one_consumes before op name) refl
    where
      name : List ℕ
      name = (get_or stored p t).name

      all : p < length (stored ++ begun)
      all = (let long = length-append stored begun in omega (arith, l, long))

      there : (s : Store) × (stored_as name (at_places (stored ++ begun) places) ≡ Some s)
      there =
          subst (λ (x : MadeTable). (s : Store)
          × (stored_as x.name (at_places (stored ++ begun) places) ≡ Some s))
          (get_or_append_left stored begun t p l)
          (stored_named (stored ++ begun) p t places all i)

      step : (b : Bool) → one_consumes before op name ≡ b → b ≡ false
      step true e = absurd (let none = gone name
          (each_table_gone before op name (placed.went_on p t l i).1 e) in let some = there.1 in cc)
      step false e = refl

  -- a table of the newest version that is not consumed goes on
  stays_on : (p : ℕ) (t : MadeTable) → p < length stored → In p own
      → one_consumes before op (get_or stored p t).name ≡ false → In p places
  stays_on p t l i unconsumed = placed.go_on p t l i
      (ap is_some (each_table_stays before op name unmade unconsumed) ∙ is_there) unmade
    where
      name : List ℕ
      name = (get_or stored p t).name

      is_there : is_some (get before name) ≡ true
      is_there = (let s = stored_named stored p t own l i in known name s.0 s.1)

      unmade : one_makes before op name ≡ false
      unmade = step (one_makes before op name) refl
        where
          step : (b : Bool) → one_makes before op name ≡ b → b ≡ false
          step true e = absurd (let c = each_made_is_free before op name accepted e is_there in cc)
          step false e = refl

  -- a lifeline lives just where its table is one of the next version's
  pub living_after : AreLiving (ended ++ begun) places
  living_after = record {
    living = λ p t l i. elim (before_or_not p (length stored)) [
      | inl m ↦
          ap (λ (x : MadeTable). x.last) (stood p t m)
          ∙ ap (λ b. last_after b n (get_or stored p t).last) (goes_on p t m i)
          ∙ ap (last_after false n) (living.living p t m (placed.went_on p t m i).0)
      | inr m ↦ came p t m l
    ];
    among = λ p t l e. elim (before_or_not p (length stored)) [
      | inl m ↦
          let ends = ends_not (one_consumes before op (get_or stored p t).name) n
          (get_or stored p t).last (sym (ap (λ (x : MadeTable). x.last) (stood p t m)) ∙ e) in
          stays_on p t m (living.among p t m ends.0) ends.1
      | inr m ↦ placed.begin p m (let long = length-append ended begun in
          omega (arith, l, long, count))
    ];
  }
