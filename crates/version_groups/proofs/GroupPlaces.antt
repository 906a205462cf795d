-- The stored tables of a version among those of all.
use Rattle.std.proofs.Common.{◌≡◌, ◌≤◌, ◌<◌, ◌+◌, ℕ, suc, zero, Bool, List, [], ◌∷◌, ◌++◌, map}
use Rattle.std.proofs.Common.{length, take, drop, get_or, refl, sym, ap, subst, ◌∙◌, arith}
use Rattle.std.proofs.Common.{length-append, inl, inr}
use Rattle.std.specs.Global.{Vec}
use Rattle.std.specs.Prelude.{Option, Some, None, ◌^◌, vec_len, slice_get}
use Rattle.std.proofs.lemmas.List.{length-map, get_or-map, map-append}
use Rattle.std.proofs.lemmas.Option.{slice_get_within, get_or_from_slice_get}
use Rattle.relations_spec.specs.Sets.{In, Ascends}
use Rattle.prima_base.specs.Columns.{Column}
use Rattle.prima_base.specs.Order.{bytes_cmp}
use Rattle.history_store.specs.Store.{Store}
use Rattle.history_store.specs.Change.{PreparedChange}
use Rattle.schema_catalog.specs.Tables.{Tables}
use Rattle.smo_ops_types.specs.Operators.{Operator, evolution_of}
use Rattle.smo_ops_types.specs.Commands.{version_of}
use Rattle.smo_ops_spec.specs.Past.{no_tables, newest_from}
use Rattle.smo_ops_spec.specs.Evolutions.{one_consumes}
use Rattle.smo_ops_types.specs.declared.version.Version.{Version}
use Rattle.version_groups_tables.specs.declared.made_table.MadeTable.{MadeTable}
use Rattle.version_groups_tables.specs.Stored.{stored_as, stored_names}
use Rattle.version_groups_tables.specs.Places.{at_places, AreWithin}
use Rattle.version_groups_tables.specs.Becoming.{IsMade, IsMadeBy, AreMadeBy}
use Rattle.version_groups_tables.specs.Changing.{AreMade}
use Rattle.version_groups_tables.specs.Ending.{table_after}
use Rattle.version_groups_tables.specs.Room.{AreSameTables}
use Rattle.version_groups_tables.proofs.LifelinesEnded.{names_with, stored_still, stored_with}
use Rattle.version_groups_tables.proofs.LifelinesEnded.{written_back}
use Rattle.version_groups_tables.proofs.NamedPlaces.{one_by_name}
use Rattle.version_groups_tables.proofs.Places.{places_within, AreAlike, alike_at, at_more}
use Rattle.version_groups.specs.declared.groups.Groups.TheInside.{Inside}
use Rattle.version_groups.specs.Covering.{line_of, AreCovered, AreOfLifelines}
use Rattle.version_groups.specs.Groups.{versions_in, newest_places, group_of, newest_group}
use Rattle.version_groups.specs.Lifelines.{Lifeline, line_after, made_tables, lifelines_after}
use Rattle.version_groups.specs.Lifelines.{lifelines_of}
use Rattle.version_groups.specs.GroupFields.{all_places, items_of, AllInOrder, AllWithin}
use Rattle.version_groups.specs.GroupFields.{groups_view, AreGroups}
use Rattle.version_groups.specs.Installing.{HasChanges, HasVersion, ComeWith}
use Rattle.version_groups.specs.Room.{IsSame}
use Rattle.version_groups.proofs.Covered.{a_line, lines_ended, lifelines_with, lines_fresh}
use Rattle.version_groups.proofs.Covered.{table_at, covered_with, still_of_lifelines}

last_places : (earlier : List (Vec ℕ)) (newest : List ℕ)
    → get_or (all_places (items_of earlier) newest) (length earlier) [] ≡ newest
last_places [] newest = refl
last_places (g ∷ earlier) newest = last_places earlier newest

earlier_places : (earlier : List (Vec ℕ)) (newest : List ℕ) (k : ℕ) (d : Vec ℕ) → k < length earlier
    → get_or (all_places (items_of earlier) newest) k [] ≡ (get_or earlier k d).items
earlier_places [] newest k d l = absurd (omega (arith, l))
earlier_places (g ∷ earlier) newest zero d l = refl
earlier_places (g ∷ earlier) newest (suc k) d l =
    earlier_places earlier newest k d (omega (arith, l))

no_places : (earlier : List (Vec ℕ)) (newest : List ℕ) (k : ℕ) → length earlier < k
    → get_or (all_places (items_of earlier) newest) k [] ≡ []
no_places [] newest zero l = absurd (omega (arith, l))
no_places [] newest (suc k) l = refl
no_places (g ∷ earlier) newest zero l = absurd (omega (arith, l))
no_places (g ∷ earlier) newest (suc k) l = no_places earlier newest k (omega (arith, l))

-- one version more
places_stay : (earlier : List (Vec ℕ)) (newest : Vec ℕ) (places : List ℕ) (k : ℕ)
    → k ≤ length earlier
    → get_or (all_places (items_of (earlier ++ newest ∷ [])) places) k []
    ≡ get_or (all_places (items_of earlier) newest.items) k []
places_stay [] newest places zero l = refl
places_stay [] newest places (suc k) l = absurd (omega (arith, l))
places_stay (g ∷ earlier) newest places zero l = refl
places_stay (g ∷ earlier) newest places (suc k) l =
    places_stay earlier newest places k (omega (arith, l))

new_places : (earlier : List (Vec ℕ)) (newest : Vec ℕ) (places : List ℕ)
    → get_or (all_places (items_of (earlier ++ newest ∷ [])) places) (suc (length earlier)) []
    ≡ places
new_places [] newest places = refl
new_places (g ∷ earlier) newest places = new_places earlier newest places

pub newest_places_are : (a : Inside) → AreGroups a → newest_places (groups_view a) ≡ a.newest.items
newest_places_are a h =
    subst (λ j. get_or (all_places (items_of a.earlier.items) a.newest.items) j [] ≡ a.newest.items)
    h.count (last_places a.earlier.items a.newest.items)

-- the tables of a version
pub newest_is : (a : Inside) → AreGroups a → newest_group (groups_view a)
    ≡ at_places a.stored.items a.newest.items
newest_is a h =
    subst (λ j. at_places a.stored.items (get_or
    (all_places (items_of a.earlier.items) a.newest.items) j [])
    ≡ at_places a.stored.items a.newest.items) h.count
    (ap (at_places a.stored.items) (last_places a.earlier.items a.newest.items))

pub earlier_is : (a : Inside) (k : ℕ) (d : Vec ℕ) → k < length a.earlier.items
    → group_of (groups_view a) k ≡ at_places a.stored.items (get_or a.earlier.items k d).items
earlier_is a k d l = ap (at_places a.stored.items)
    (earlier_places a.earlier.items a.newest.items k d l)

pub none_is : (a : Inside) (k : ℕ) → length a.earlier.items < k → group_of (groups_view a) k ≡ []
none_is a k l = ap (at_places a.stored.items) (no_places a.earlier.items a.newest.items k l)

pub newest_at : (a : Inside) (k : ℕ) → k ≡ length a.earlier.items
    → group_of (groups_view a) k ≡ at_places a.stored.items a.newest.items
newest_at a k e = ap (λ j. at_places a.stored.items
    (get_or (all_places (items_of a.earlier.items) a.newest.items) j [])) e
    ∙ ap (at_places a.stored.items) (last_places a.earlier.items a.newest.items)

-- each version's places are there
pub each_within : (earlier : List (Vec ℕ)) (n k : ℕ) (d : Vec ℕ) → AllWithin (items_of earlier) n
    → k < length earlier → AreWithin (get_or earlier k d).items n
each_within [] n k d h l = absurd (omega (arith, l))
each_within (g ∷ earlier) n zero d h l = h.0
each_within (g ∷ earlier) n (suc k) d h l = each_within earlier n k d h.1 (omega (arith, l))

all_within : (earlier : List (Vec ℕ)) (newest : List ℕ) (n k : ℕ) → AllWithin (items_of earlier) n
    → AreWithin newest n → AreWithin (get_or (all_places (items_of earlier) newest) k []) n
all_within [] newest n zero h w = w
all_within [] newest n (suc k) h w = tt
all_within (g ∷ earlier) newest n zero h w = h.0
all_within (g ∷ earlier) newest n (suc k) h w = all_within earlier newest n k h.1 w

pub group_within : (a : Inside) → AreGroups a → (k : ℕ)
    → AreWithin (get_or (groups_view a).places k []) (length a.stored.items)
group_within a h k = all_within a.earlier.items a.newest.items (length a.stored.items) k
    h.earlier_there h.newest_there

still_within : (groups : List (List ℕ)) (m n : ℕ) → m ≤ n → AllWithin groups m → AllWithin groups n
still_within [] m n l h = tt
still_within (g ∷ groups) m n l h = (places_within g m n l h.0, still_within groups m n l h.1)

-- ---- tables of the same names stand in the same order

names_same : (old new : List MadeTable) → length new ≡ length old
    → ((k : ℕ) (d : MadeTable) → k < length old → (get_or new k d).name ≡ (get_or old k d).name)
    → stored_names new ≡ stored_names old
names_same [] [] e h = refl
names_same [] (u ∷ new) e h = absurd (omega (arith, e))
names_same (t ∷ old) [] e h = absurd (omega (arith, e))
names_same (t ∷ old) (u ∷ new) e h =
    ap (λ n. n ∷ stored_names new) (h 0 t (omega arith))
    ∙ ap (λ ns. t.name ∷ ns) (names_same old new (omega (arith, e))
    (λ k d l. h (suc k) d (omega (arith, l))))

keeps_name : (t : MadeTable) (p : Option PreparedChange) (u : MadeTable) → IsMade t p u
    → u.name ≡ t.name
keeps_name t None u e = ap (λ (x : MadeTable). x.name) e
keeps_name t (Some change) u h = h.name

pub made_names : (prepared : List (Option PreparedChange)) (old new : List MadeTable)
    → AreMadeBy prepared old new → (k : ℕ) (d : MadeTable) → k < length old
    → (get_or new k d).name ≡ (get_or old k d).name
made_names prepared old new h k d l = (let m = h.each k d l in
    keeps_name (get_or old k d) m.change (get_or new k d) m.made)

-- tables each of which has the name that it had
abbrev pub KeepNames : List MadeTable → List MadeTable → Type 0
KeepNames old new = AreAlike (λ t u. u.name ≡ t.name) old new

still_ordered : (old new : List MadeTable) (places : List ℕ) → KeepNames old new
    → Ascends bytes_cmp (stored_names (at_places old places))
    → Ascends bytes_cmp (stored_names (at_places new places))
still_ordered old new places h o =
    let own = alike_at (λ t u. u.name ≡ t.name) old new h places in
    subst (Ascends bytes_cmp) (sym (names_same (at_places old places) (at_places new places)
    own.count own.each)) o

all_still_ordered : (old new : List MadeTable) (groups : List (List ℕ)) → KeepNames old new
    → AllInOrder old groups → AllInOrder new groups
all_still_ordered old new [] h o = tt
all_still_ordered old new (g ∷ groups) h o = (
  still_ordered old new g h o.0,
  all_still_ordered old new groups h o.1,
)

-- ---- and of the same lifelines and columns

lines_same : (old new : List MadeTable) → AreAlike (λ t u. line_of u ≡ line_of t) old new
    → map line_of new ≡ map line_of old
lines_same [] [] h = refl
lines_same [] (u ∷ new) h = absurd (let e = h.count in omega (arith, e))
lines_same (t ∷ old) [] h = absurd (let e = h.count in omega (arith, e))
lines_same (t ∷ old) (u ∷ new) h =
    ap (λ (l : Lifeline). l ∷ map line_of new) (h.each 0 t (omega arith))
    ∙ ap (λ (ls : List Lifeline). line_of t ∷ ls)
    (lines_same old new (record {
      count = (let e = h.count in omega (arith, e));
      each = λ k d l.
          h.each (suc k) d (omega (arith, l));
    }))

line_same : (t u : MadeTable) → u.name ≡ t.name → u.first ≡ t.first → u.last ≡ t.last
    → u.store.columns ≡ t.store.columns → line_of u ≡ line_of t
line_same t u name first last columns =
    ap (λ (n : List ℕ). a_line n u.first u.last u.store.columns) name
    ∙ ap (λ (n : ℕ). a_line t.name n u.last u.store.columns) first
    ∙ ap (λ (o : Option ℕ). a_line t.name t.first o u.store.columns) last
    ∙ ap (λ (cs : List Column). a_line t.name t.first t.last cs) columns

pub lines_kept : (old new : List MadeTable) → AreSameTables old new
    → map line_of new ≡ map line_of old
lines_kept old new h = lines_same old new (record {
  count = h.count;
  each = λ k d l. let s = h.each k d l in line_same (get_or old k d) (get_or new k d) s.name s.first
      s.last (ap (λ (x : Store). x.columns) s.store);
})

made_line : (t : MadeTable) (p : Option PreparedChange) (u : MadeTable) → IsMade t p u
    → line_of u ≡ line_of t
made_line t None u e = ap line_of e
made_line t (Some change) u h = line_same t u h.name h.first h.last h.becomes.columns

pub lines_made : (prepared : List (Option PreparedChange)) (old new : List MadeTable)
    → AreMadeBy prepared old new → map line_of new ≡ map line_of old
lines_made prepared old new h = lines_same old new (record {
  count = h.count;
  each = λ k d l. let m = h.each k d l in made_line (get_or old k d) m.change (get_or new k d)
      m.made;
})

-- ---- groups whose tables are others

module _ (a b : Inside) (versions : b.versions.list.items ≡ a.versions.list.items)
    (earlier : b.earlier.items ≡ a.earlier.items) (newest : b.newest.items ≡ a.newest.items) where
  same_places : (groups_view b).places ≡ (groups_view a).places
  same_places = ap (λ (e : List (Vec ℕ)). all_places (items_of e) b.newest.items) earlier
      ∙ ap (all_places (items_of a.earlier.items)) newest

  pub view_same : AreSameTables a.stored.items b.stored.items
      → (groups_view a).spare ≤ (groups_view b).spare
      → (groups_view a).beginnings ≤ (groups_view b).beginnings
      → IsSame (groups_view a) (groups_view b)
  view_same tables spare beginnings = record {
    versions = versions;
    places = same_places;
    stored =
        tables;
    spare = spare;
    beginnings = beginnings;
  }

  pub are_groups : AreGroups a → b.nothing ≡ a.nothing → KeepNames a.stored.items b.stored.items
      → map line_of b.stored.items ≡ map line_of a.stored.items → AreGroups b
  are_groups h nothing names lines =
      let n = length b.stored.items in
      let m = length a.stored.items in
      let count = names.count in
      let low : m ≤ n = omega (arith, count) in
      record {
        count = ap length earlier ∙ h.count ∙ sym (ap length versions);
        fits = (let few = h.fits in let same = ap length versions in omega (arith, few, same));
        nothing = nothing ∙ h.nothing;
        earlier_there = subst (λ (e : List (Vec ℕ)). AllWithin (items_of e) n) (sym earlier)
            (still_within (items_of a.earlier.items) m n low h.earlier_there);
        newest_there = subst (λ (e : List ℕ). AreWithin e n) (sym newest)
            (places_within a.newest.items m n low h.newest_there);
        earlier = subst (λ (e : List (Vec ℕ)). AllInOrder b.stored.items (items_of e)) (sym earlier)
            (all_still_ordered a.stored.items b.stored.items (items_of a.earlier.items) names
            h.earlier);
        newest = subst (λ (e : List ℕ). Ascends bytes_cmp
            (stored_names (at_places b.stored.items e)))
            (sym newest) (still_ordered a.stored.items b.stored.items a.newest.items names
            h.newest);
        lifelines = still_of_lifelines (groups_view a) (groups_view b) versions same_places lines
            h.lifelines;
      }

  pub has_changes : AreGroups a → (prepared : List (Option PreparedChange))
      → AreMade (at_places a.stored.items a.newest.items) prepared
      (at_places b.stored.items a.newest.items) → AreMadeBy prepared a.stored.items b.stored.items
      → ((p : ℕ) (d : MadeTable) → (In p a.newest.items → ⊥)
      → get_or b.stored.items p d ≡ get_or a.stored.items p d)
      → HasChanges (groups_view a) (groups_view b) prepared
  has_changes h prepared made by others = record {
    versions = versions;
    places = same_places;
    there = subst (λ ps. AreWithin ps (length a.stored.items)) (sym own_places) h.newest_there;
    ordered = subst (λ (g : List MadeTable). Ascends bytes_cmp (stored_names g))
        (sym (newest_is a h))
        h.newest;
    stored = by.count;
    lines = lines_made prepared a.stored.items b.stored.items by;
    others = λ p d n. others p d (λ i. n (subst (In p) (sym own_places) i));
    groups = λ k l.
        let own = alike_at (IsMadeBy prepared) a.stored.items b.stored.items
        (record { count = by.count; each = by.each }) (get_or (groups_view a).places k []) in
        subst (λ (ps : List (List ℕ)). AreMadeBy prepared (group_of (groups_view a) k)
        (at_places b.stored.items (get_or ps k []))) (sym same_places)
        (record { count = own.count; each = own.each });
    made = subst (λ (g : List MadeTable). AreMade g prepared
        (group_of (groups_view b) (length a.versions.list.items))) (sym (newest_is a h))
        (subst (AreMade (at_places a.stored.items a.newest.items) prepared) (sym last) made);
  }
    where
      own_places : newest_places (groups_view a) ≡ a.newest.items
      own_places = newest_places_are a h

      last : group_of (groups_view b) (length a.versions.list.items)
          ≡ at_places b.stored.items a.newest.items
      last = ap (λ (ps : List (List ℕ)). at_places b.stored.items
          (get_or ps (length a.versions.list.items) [])) same_places
          ∙ subst (λ j. at_places b.stored.items
          (get_or (all_places (items_of a.earlier.items) a.newest.items) j [])
          ≡ at_places b.stored.items a.newest.items) h.count
          (ap (at_places b.stored.items) (last_places a.earlier.items a.newest.items))

pub names_kept : (old new : List MadeTable) → AreSameTables old new → KeepNames old new
names_kept old new h = record { count = h.count; each = λ k d l. (h.each k d l).name }

pub names_made : (prepared : List (Option PreparedChange)) (old new : List MadeTable)
    → AreMadeBy prepared old new → KeepNames old new
names_made prepared old new h = record { count = h.count; each = made_names prepared old new h }

-- ---- groups with one version more

all_ordered_with : (tables : List MadeTable) (earlier : List (Vec ℕ)) (g : Vec ℕ)
    → AllInOrder tables (items_of earlier) → Ascends bytes_cmp
    (stored_names (at_places tables g.items))
    → AllInOrder tables (items_of (earlier ++ g ∷ []))
all_ordered_with tables [] g h o = (o, tt)
all_ordered_with tables (e ∷ earlier) g h o = (h.0, all_ordered_with tables earlier g h.1 o)

all_within_with : (n : ℕ) (earlier : List (Vec ℕ)) (g : Vec ℕ) → AllWithin (items_of earlier) n
    → AreWithin g.items n → AllWithin (items_of (earlier ++ g ∷ [])) n
all_within_with n [] g h o = (o, tt)
all_within_with n (e ∷ earlier) g h o = (h.0, all_within_with n earlier g h.1 o)

all_ordered_more : (tables more : List MadeTable) (groups : List (List ℕ))
    → AllWithin groups (length tables) → AllInOrder tables groups
    → AllInOrder (tables ++ more) groups
all_ordered_more tables more [] w o = tt
all_ordered_more tables more (g ∷ groups) w o = (
  subst (λ (ts : List MadeTable). Ascends bytes_cmp (stored_names ts))
      (sym (at_more tables more g w.0)) o.0,
  all_ordered_more tables more groups w.1 o.1,
)

-- the tables of each version stay where lifelines end
ends_keep : (consumed : List ℕ → Bool) (k : ℕ) (tables : List MadeTable)
    → KeepNames tables (map (table_after consumed k) tables)
ends_keep consumed k tables = record {
  count = length-map tables (table_after consumed k);
  each =
      λ j d l. ap (λ (t : MadeTable). t.name) (get_or-map (table_after consumed k) tables j d d l);
}

-- what is put after the tables whose lifelines have ended, which are written back
pub put_with : (a : Inside) (op : List Operator) (last : ℕ) (now ended begun new : List MadeTable)
    → last ≡ length a.versions.list.items → now ≡ a.stored.items
    → ((tables : Tables) → ended ≡ map (table_after (one_consumes tables op) last) now)
    → new ≡ take (vec_len a.stored) (ended ++ drop (length ended) a.stored.items) ++ begun
    → (tables : Tables) → new ≡ map (table_after (one_consumes tables op)
    (length a.versions.list.items)) a.stored.items ++ begun
put_with a op last now ended begun new number was ends put tables =
    put
    ∙ ap (λ (ts : List MadeTable). ts ++ begun) (
    written_back ended a.stored.items (vec_len a.stored) (omega arith)
    (ap length (ends no_tables) ∙ length-map now (table_after (one_consumes no_tables op) last)
    ∙ ap length was)
    ∙ ends tables ∙ ap (λ n. map (table_after (one_consumes tables op) n) now) number
    ∙ ap (map (table_after (one_consumes tables op) (length a.versions.list.items))) was
    )

-- the tables that are stored before the next version begins
abbrev pub ended_tables : Inside → Version → List MadeTable
ended_tables a version = map (table_after (one_consumes no_tables (evolution_of version.op))
    (length a.versions.list.items)) a.stored.items

module _ (a b : Inside) (version : Version) (g : Vec ℕ) (begun : List MadeTable)
    (before : g.items ≡ a.newest.items) (versions : b.versions.list.items ≡ a.versions.list.items
    ++ version ∷ [])
    (stored : (tables : Tables) → b.stored.items
    ≡ map (table_after (one_consumes tables (evolution_of version.op))
    (length a.versions.list.items)) a.stored.items ++ begun)
    (earlier : b.earlier.items ≡ a.earlier.items ++ g ∷ []) (h : AreGroups a) where
  abbrev consumed : List ℕ → Bool
  consumed = one_consumes no_tables (evolution_of version.op)

  abbrev number : ℕ
  number = length a.versions.list.items

  abbrev ended : List MadeTable
  ended = ended_tables a version

  as_many : length ended ≡ length a.stored.items
  as_many = length-map a.stored.items (table_after consumed number)

  places_with : (groups_view b).places ≡ all_places (items_of (a.earlier.items ++ g ∷ []))
      b.newest.items
  places_with = ap (λ (e : List (Vec ℕ)). all_places (items_of e) b.newest.items) earlier

  kept_places : (k : ℕ) → k ≤ length a.versions.list.items
      → get_or (groups_view b).places k [] ≡ get_or (groups_view a).places k []
  kept_places k l =
      ap (λ (ps : List (List ℕ)). get_or ps k []) places_with
      ∙ places_stay a.earlier.items g b.newest.items k
      (let count = h.count in omega (arith, l, count))
      ∙ ap (λ (ps : List ℕ). get_or (all_places (items_of a.earlier.items) ps) k []) before

  own_places : get_or (groups_view b).places (number + 1) [] ≡ b.newest.items
  own_places =
      ap (λ (ps : List (List ℕ)). get_or ps (number + 1) []) places_with
      ∙ ap (λ j. get_or (all_places (items_of (a.earlier.items ++ g ∷ [])) b.newest.items) j [])
      (let count = h.count in let e : number + 1 ≡ suc (length a.earlier.items) =
      omega (arith, count) in e)
      ∙ new_places a.earlier.items g b.newest.items

  -- a place of a version is one of those that are stored
  place_there : (places : List ℕ) (m p : ℕ) → AreWithin places m → In p places → p < m
  place_there [] m p w i = absurd i
  place_there (q ∷ places) m p w (inl e) = (let l = w.0 in omega (arith, l, e))
  place_there (q ∷ places) m p w (inr i) = place_there places m p w.1 i

  module _ (come : ComeWith (groups_view a) version begun b.newest.items)
      (there : AreWithin b.newest.items (length a.stored.items + length begun))
      (ordered : Ascends bytes_cmp (stored_names (at_places (a.stored.items ++ begun)
      b.newest.items))) where
    abbrev before_it : Tables
    before_it = newest_from no_tables (versions_in (groups_view a))

    abbrev its : List Operator
    its = evolution_of version.op

    abbrev all : List MadeTable
    all = map (table_after (one_consumes before_it its) number) a.stored.items ++ begun

    abbrev old_lines : List Lifeline
    old_lines = map line_of a.stored.items

    all_is : b.stored.items ≡ all
    all_is = stored before_it

    lines_are : map line_of all ≡ map (line_after (one_consumes before_it its) number) old_lines
        ++ map line_of begun
    lines_are = map-append line_of (map (table_after (one_consumes before_it its) number)
        a.stored.items) begun
        ∙ ap (λ (ls : List Lifeline). ls ++ map line_of begun)
        (lines_ended (one_consumes before_it its) number a.stored.items)

    versions_are : versions_in (groups_view b) ≡ versions_in (groups_view a) ++ version_of version
        ∷ []
    versions_are = ap (map version_of) versions
        ∙ map-append version_of a.versions.list.items (version ∷ [])

    fresh : (q : ℕ) (l : Lifeline) → slice_get (map line_of begun) q ≡ Some l
        → (l.first ≡ number + 1) × (l.last ≡ None)
    fresh q l e = lines_fresh (number + 1) (made_tables before_it its version.schema) q l
        (ap (λ (ls : List Lifeline). slice_get ls q) (sym come.lines) ∙ e)

    at_line : (p : ℕ) (l : Lifeline) → slice_get (map line_of all) p ≡ Some l → (t : MadeTable)
        × (p < length all) × (get_or all p t ≡ t) × (line_of t ≡ l)
    at_line p l e = (let t = table_at all p l e in
        (t.0, slice_get_within all p t.0 t.1, get_or_from_slice_get all p t.0 t.0 t.1, t.2))

    new_living : (p : ℕ) (l : Lifeline) → slice_get (map line_of all) p ≡ Some l
        → In p b.newest.items → l.last ≡ None
    new_living p l e i = (let t = at_line p l e in ap (λ (x : Lifeline). x.last) (sym t.3)
        ∙ ap (λ (x : MadeTable). x.last) (sym t.2) ∙ come.living.living p t.0 t.1 i)

    new_among : (p : ℕ) (l : Lifeline) → slice_get (map line_of all) p ≡ Some l → l.last ≡ None
        → In p b.newest.items
    new_among p l e i = (let t = at_line p l e in
        come.living.among p t.0 t.1 (ap (λ (x : MadeTable). x.last) t.2
        ∙ ap (λ (x : Lifeline). x.last) t.3 ∙ i))

    long : length all ≡ length a.stored.items + length begun
    long = length-append (map (table_after (one_consumes before_it its) number) a.stored.items)
        begun
        ∙ ap (λ j. j + length begun) (length-map a.stored.items
        (table_after (one_consumes before_it its) number))

    new_apart : (p q : ℕ) (l m : Lifeline) → slice_get (map line_of all) p ≡ Some l
        → slice_get (map line_of all) q ≡ Some m → In p b.newest.items → In q b.newest.items
        → l.table ≡ m.table → p ≡ q
    unfolding at_line
    new_apart p q l m e f i j s =
        let t = at_line p l e in
        let u = at_line q m f in
        let second : get_or all q t.0 ≡ u.0 =
        get_or_from_slice_get all q u.0 t.0 (table_at all q m f).1 in
        one_by_name all b.newest.items (subst (AreWithin b.newest.items) (sym long) there)
        (subst (Ascends bytes_cmp) (sym (names_with (one_consumes before_it its) number
        a.stored.items
        begun b.newest.items)) ordered) p q t.0 i j
        (ap (λ (x : MadeTable). x.name) t.2 ∙ ap (λ (x : Lifeline). x.table) t.3 ∙ s
        ∙ ap (λ (x : Lifeline). x.table) (sym u.3)
        ∙ ap (λ (x : MadeTable). x.name) (sym second))

    pub lifelines_are : AreOfLifelines (groups_view b)
    lifelines_are = record {
      lines = ap (map line_of) all_is ∙ lines_are
          ∙ ap (λ (ls : List Lifeline). map (line_after (one_consumes before_it its) number) ls
          ++ map line_of begun) h.lifelines.lines
          ∙ ap (λ (ls : List Lifeline). map (line_after (one_consumes before_it its) number)
          (lifelines_of (versions_in (groups_view a))) ++ ls) come.lines
          ∙ ap (λ j. lifelines_after before_it j (lifelines_of (versions_in (groups_view a)))
          (version_of version)) (sym (length-map a.versions.list.items version_of))
          ∙ sym (lifelines_with (versions_in (groups_view a)) (version_of version))
          ∙ ap lifelines_of (sym versions_are);
      places = subst (λ (ts : List MadeTable).
          AreCovered (map line_of ts) (length b.versions.list.items) (groups_view b).places)
          (sym all_is)
          (subst (λ j. AreCovered (map line_of all) j (groups_view b).places)
          (sym (ap length versions ∙ length-append a.versions.list.items (version ∷ [])))
          (covered_with (one_consumes before_it its) number old_lines (map line_of begun)
          (map line_of all) (groups_view a).places (groups_view b).places h.lifelines.places
          fresh lines_are
          (λ k p i. subst (λ j. p < j) (sym (length-map a.stored.items line_of))
          (place_there (get_or (groups_view a).places k []) (length a.stored.items) p
          (group_within a h k) i))
          kept_places b.newest.items own_places new_living new_among new_apart));
    }

  pub has_version : AreOfLifelines (groups_view b)
      → HasVersion (groups_view a) (groups_view b) version begun b.newest.items
  has_version lifelines = record {
    versions = versions;
    newest = ap (λ j. get_or (groups_view b).places j [])
        (ap length versions ∙ length-append a.versions.list.items (version ∷ [])) ∙ own_places;
    stored = stored;
    tables = λ k name l.
        ap (λ (ts : List MadeTable). stored_as name
        (at_places ts (get_or (groups_view b).places k []))) (stored no_tables)
        ∙ ap (λ ps. stored_as name (at_places (ended ++ begun) ps)) (kept_places k l)
        ∙ ap (stored_as name) (at_more ended begun (get_or (groups_view a).places k [])
        (subst (AreWithin (get_or (groups_view a).places k [])) (sym as_many)
        (group_within a h k)))
        ∙ stored_still consumed number name a.stored.items (get_or (groups_view a).places k []);
    own = λ name.
        ap (λ (ts : List MadeTable). stored_as name
        (at_places ts (get_or (groups_view b).places (number + 1) []))) (stored no_tables)
        ∙ ap (λ ps. stored_as name (at_places (ended ++ begun) ps)) own_places
        ∙ stored_with consumed number name a.stored.items begun b.newest.items;
    lifelines = lifelines;
  }

  pub are_groups_with : b.nothing ≡ a.nothing → length a.versions.list.items + 1 < 2 ^ 32
      → AreWithin b.newest.items (length a.stored.items + length begun)
      → Ascends bytes_cmp (stored_names (at_places (a.stored.items ++ begun) b.newest.items))
      → AreOfLifelines (groups_view b) → AreGroups b
  are_groups_with nothing few there ordered lifelines =
      let n = length b.stored.items in
      let long : n ≡ length a.stored.items + length begun = ap length (stored no_tables)
      ∙ length-append ended begun ∙ ap (λ m. m + length begun) as_many in
      let low : length a.stored.items ≤ n = omega (arith, long) in
      let names = ends_keep consumed number a.stored.items in
      record {
        count = ap length earlier ∙ length-append a.earlier.items (g ∷ []) ∙ ap (λ n. n + 1) h.count
            ∙ sym (length-append a.versions.list.items (version ∷ [])) ∙ sym (ap length versions);
        fits = (let e = ap length versions in let f =
            length-append a.versions.list.items (version ∷ []) in omega (arith, few, e, f));
        nothing = nothing ∙ h.nothing;
        earlier_there = subst (λ (e : List (Vec ℕ)). AllWithin (items_of e) n) (sym earlier)
            (all_within_with n a.earlier.items g
            (still_within (items_of a.earlier.items) (length a.stored.items) n low
            h.earlier_there)
            (subst (λ (ps : List ℕ). AreWithin ps n) (sym before)
            (places_within a.newest.items (length a.stored.items) n low h.newest_there)));
        newest_there = subst (AreWithin b.newest.items) (sym long) there;
        earlier = subst (λ (e : List (Vec ℕ)). AllInOrder b.stored.items (items_of e)) (sym earlier)
            (subst (λ (ts : List MadeTable). AllInOrder ts (items_of (a.earlier.items ++ g ∷ [])))
            (sym (stored no_tables))
            (all_ordered_with (ended ++ begun) a.earlier.items g
            (all_ordered_more ended begun (items_of a.earlier.items)
            (subst (AllWithin (items_of a.earlier.items)) (sym as_many) h.earlier_there)
            (all_still_ordered a.stored.items ended (items_of a.earlier.items) names h.earlier))
            (subst (λ (ps : List ℕ). Ascends bytes_cmp
            (stored_names (at_places (ended ++ begun) ps)))
            (sym before)
            (subst (λ (ts : List MadeTable). Ascends bytes_cmp (stored_names ts))
            (sym (at_more ended begun a.newest.items
            (subst (AreWithin a.newest.items) (sym as_many) h.newest_there)))
            (still_ordered a.stored.items ended a.newest.items names h.newest)))));
        newest = subst (λ (ts : List MadeTable).
            Ascends bytes_cmp (stored_names (at_places ts b.newest.items))) (sym (stored no_tables))
            (subst (Ascends bytes_cmp) (sym (names_with consumed number a.stored.items begun
            b.newest.items)) ordered);
        lifelines = lifelines;
      }
