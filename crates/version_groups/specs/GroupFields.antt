-- The fields of groups.
use Rattle.std.specs.Prelude.{◌≡◌, ℕ, ◌-◌, ◌<◌, ◌^◌, min, List, [], ◌∷◌, ◌++◌, map, length, ⊤}
use Rattle.std.specs.Prelude.{vec_len, vec_capacity}
use Rattle.std.specs.Global.{Vec}
use Rattle.relations_spec.specs.Sets.{Ascends}
use Rattle.prima_base.specs.Order.{bytes_cmp}
use Rattle.smo_ops_spec.specs.Past.{no_tables}
use Rattle.version_groups_tables.specs.declared.made_table.MadeTable.{MadeTable}
use Rattle.version_groups_tables.specs.Stored.{stored_names}
use Rattle.version_groups_tables.specs.Places.{at_places, AreWithin}
use Rattle.version_groups.specs.declared.groups.Groups.TheInside.{Inside}
use Rattle.version_groups.specs.Groups.{Kept}
use Rattle.version_groups.specs.Covering.{AreOfLifelines}

-- the places of the versions before the newest, and then those of the newest
abbrev pub all_places : List (List ℕ) → List ℕ → List (List ℕ)
all_places earlier newest = earlier ++ newest ∷ []

abbrev pub items_of : List (Vec ℕ) → List (List ℕ)
items_of groups = map (λ g. g.items) groups

-- each version's tables stand in the order of their names, each once
abbrev pub AllInOrder : List MadeTable → List (List ℕ) → Type 0
AllInOrder tables [] = ⊤
AllInOrder tables (g ∷ groups) = Ascends bytes_cmp (stored_names (at_places tables g))
    × AllInOrder tables groups

-- and they are there
abbrev pub AllWithin : List (List ℕ) → ℕ → Type 0
AllWithin [] n = ⊤
AllWithin (g ∷ groups) n = AreWithin g n × AllWithin groups n

abbrev pub groups_view : Inside → Kept
groups_view a = record {
  versions = a.versions.list.items;
  stored = a.stored.items;
  places = all_places (items_of a.earlier.items) a.newest.items;
  spare = min (vec_capacity a.versions.list - vec_len a.versions.list)
      (vec_capacity a.earlier - vec_len a.earlier);
  beginnings = vec_capacity a.stored - vec_len a.stored;
}

-- places for each version before the newest, version 0 counted; and the stored tables of each
-- version are those of its lifelines
pub record AreGroups (a : Inside) : Type 0 where
  pub count : length a.earlier.items ≡ length a.versions.list.items
  pub fits : length a.versions.list.items < 2 ^ 32
  pub nothing : a.nothing ≡ no_tables
  pub earlier_there : AllWithin (items_of a.earlier.items) (length a.stored.items)
  pub newest_there : AreWithin a.newest.items (length a.stored.items)
  pub earlier : AllInOrder a.stored.items (items_of a.earlier.items)
  pub newest : Ascends bytes_cmp (stored_names (at_places a.stored.items a.newest.items))
  pub lifelines : AreOfLifelines (groups_view a)
