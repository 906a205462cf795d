-- The changes of a command, put one after the other into the groups of their tables.
use Rattle.std.proofs.Common.{◌≡◌, ◌<◌, ◌≤◌, ◌+◌, ℕ, suc, zero, Bool, true, false, cond, List, []}
use Rattle.std.proofs.Common.{◌∷◌}
use Rattle.std.proofs.Common.{◌++◌, length, get_or, take, refl, sym, ap, subst, ◌∙◌, arith}
use Rattle.std.specs.Prelude.{Some, slice_get}
use Rattle.std.specs.Borrow.{Bor}
use Rattle.std.specs.Global.{Vec}
use Rattle.std.specs.FinMap.{len, entries, len-entries}
use Rattle.std.specs.declared.cmp.Ordering.TheVariants.{Less}
use Rattle.std.proofs.Math.ListN.{set}
use Rattle.std.proofs.lemmas.List.{append-nil, map-append, map-set, length-map, get_or-map}
use Rattle.std.proofs.lemmas.List.{take_more, take_all}
use Rattle.std.proofs.lemmas.List.Elements.{filter-append}
use Rattle.std.proofs.lemmas.Option.{slice_get_within}
use Rattle.relations_spec.specs.Sets.{BeforeAll, Ascends}
use Rattle.prima_base.specs.Order.{bytes_cmp}
use Rattle.prima_base.specs.Columns.{Column}
use Rattle.schema_catalog.specs.Tables.{Tables, table_names, name_at}
use Rattle.smo_ops_types.specs.Changes.{PlainChange, table_of, change_of, changes_of}
use Rattle.smo_ops_types.specs.declared.change.Change.{Change}
use Rattle.smo_ops_spec.specs.OneRow.{same}
use Rattle.smo_ops_spec.proofs.NameLaws.{same_itself, same_turned, same_not}
use Rattle.smo_ops.specs.TablePlaces.{StandAt}
use Rattle.version_groups_changes.specs.Changing.{borrowed_changes}
use Rattle.version_groups_tables.specs.declared.made_table.MadeTable.{MadeTable}
use Rattle.version_groups_tables.specs.Grouping.{of_table, by_table, grouped}
use Rattle.version_groups_tables.specs.Stored.{stored_names}
use Rattle.version_groups_tables.proofs.SchemaTables.{names_ascend}

-- ---- a change and the place of its table

pub stands_here : (tables : Tables) (changes : List Change) (places : List ℕ) (i : ℕ) (c : Change)
    → StandAt tables (changes_of changes) places → i < length changes → c ≡ get_or changes i c
    → (i < length places)
    × (name_at tables (get_or places i 0) ≡ Some (table_of (change_of c)))
stands_here tables [] places i c s l e = absurd (omega (arith, l))
stands_here tables (d ∷ changes) [] i c s l e = absurd (cc)
stands_here tables (d ∷ changes) (p ∷ places) zero c s l e =
    let first : name_at tables p ≡ Some (table_of (change_of d)) = cc in (
      omega arith,
      first ∙ ap (λ (x : Change). Some (table_of (change_of x))) (sym e),
    )
stands_here tables (d ∷ changes) (p ∷ places) (suc i) c s l e =
    let rest : StandAt tables (changes_of changes) places = cc in
    let h = stands_here tables changes places i c rest (omega (arith, l)) e in
    let within = h.0 in
    (omega (arith, within), h.1)

-- ---- one change more

of_more : (name : List ℕ) (before : List PlainChange) (c : PlainChange) (b : Bool)
    → same (table_of c) name ≡ b
    → of_table name (before ++ c ∷ []) ≡ of_table name before ++ cond b (c ∷ []) []
of_more name before c b e =
    filter-append (λ (x : PlainChange). same (table_of x) name) before (c ∷ [])
    ∙ ap (λ (t : Bool). of_table name before ++ cond t (c ∷ []) []) e

other_more : (name : List ℕ) (before : List PlainChange) (c : PlainChange)
    → same name (table_of c) ≡ false → of_table name (before ++ c ∷ []) ≡ of_table name before
other_more name before c e = of_more name before c false (same_turned (table_of c) name ∙ e)
    ∙ append-nil (of_table name before)

-- it is of none of the tables, whose names are all after its own
none_more : (names : List (List ℕ)) (before : List PlainChange) (c : PlainChange)
    → BeforeAll bytes_cmp (table_of c) names
    → by_table names (before ++ c ∷ []) ≡ by_table names before
none_more [] before c h = refl
none_more (n ∷ names) before c h =
    ap (λ own. own ∷ by_table names (before ++ c ∷ []))
    (other_more n before c (same_turned n (table_of c) ∙ same_not (table_of c) n h.0))
    ∙ ap (λ groups. of_table n before ∷ groups) (none_more names before c h.1)

before_named : (x y : List ℕ) (names : List (List ℕ)) (i : ℕ) → BeforeAll bytes_cmp x names
    → slice_get names i ≡ Some y → bytes_cmp x y ≡ Less
before_named x y [] i b s = absurd (cc)
before_named x y (n ∷ names) zero b s =
    let is : n ≡ y = cc in
    ap (bytes_cmp x) (sym is) ∙ b.0
before_named x y (n ∷ names) (suc i) b s = before_named x y names i b.1 s

-- it is of the one at this place
pub one_more : (names : List (List ℕ)) (before : List PlainChange) (c : PlainChange) (i : ℕ)
    → Ascends bytes_cmp names → slice_get names i ≡ Some (table_of c)
    → by_table names (before ++ c ∷ [])
    ≡ set (by_table names before) i (get_or (by_table names before) i [] ++ c ∷ [])
one_more [] before c i a s = absurd (cc)
one_more (n ∷ names) before c zero a s =
    let is : n ≡ table_of c = cc in
    ap (λ own. own ∷ by_table names (before ++ c ∷ []))
    (of_more n before c true (ap (same (table_of c)) is ∙ same_itself (table_of c)))
    ∙ ap (λ groups. (of_table n before ++ c ∷ []) ∷ groups)
    (none_more names before c (subst (λ m. BeforeAll bytes_cmp m names) is a.0))
one_more (n ∷ names) before c (suc i) a s =
    ap (λ own. own ∷ by_table names (before ++ c ∷ []))
    (other_more n before c (same_not n (table_of c) (before_named n (table_of c) names i a.0 s)))
    ∙ ap (λ groups. of_table n before ∷ groups) (one_more names before c i a.1 s)

-- ---- the groups, name by name

names_count : (tables : List MadeTable) → length (stored_names tables) ≡ length tables
names_count [] = refl
names_count (t ∷ tables) = ap suc (names_count tables)

as_many : (names : List (List ℕ)) (groups : List (Vec (Bor Change))) (changes : List PlainChange)
    → grouped groups ≡ by_table names changes → length groups ≡ length names
as_many names groups changes e =
    sym (length-map groups (λ (g : Vec (Bor Change)). borrowed_changes g.items)) ∙ ap length e
    ∙ length-map names (λ name. of_table name changes)

pub as_many_tables : (tables : List MadeTable) (groups : List (Vec (Bor Change)))
    (changes : List PlainChange) → grouped groups ≡ by_table (stored_names tables) changes
    → length groups ≡ length tables
as_many_tables tables groups changes e = as_many (stored_names tables) groups changes e
    ∙ names_count tables

-- at the place of a table are the changes of it
own_at : (tables : List MadeTable) (groups : List (Vec (Bor Change))) (changes : List PlainChange)
    (i : ℕ) (d : MadeTable) (g : Vec (Bor Change))
    → grouped groups ≡ by_table (stored_names tables) changes → i < length tables
    → borrowed_changes (get_or groups i g).items ≡ of_table (get_or tables i d).name changes
own_at [] groups changes i d g e l = absurd (omega (arith, l))
own_at (t ∷ tables) [] changes i d g e l = absurd (cc)
own_at (t ∷ tables) (h ∷ groups) changes zero d g e l = cc
own_at (t ∷ tables) (h ∷ groups) changes (suc i) d g e l =
    let rest : grouped groups ≡ by_table (stored_names tables) changes = cc in
    own_at tables groups changes i d g rest (omega (arith, l))

pub own_changes : (tables : List MadeTable) (groups : List (Vec (Bor Change)))
    (changes : List PlainChange) (i : ℕ) (t : MadeTable) (g : Vec (Bor Change))
    (own : List (Bor Change)) → grouped groups ≡ by_table (stored_names tables) changes
    → i < length tables → get_or tables i t ≡ t → g ≡ get_or groups i g → own ≡ g.items
    → borrowed_changes own ≡ of_table t.name changes
own_changes tables groups changes i t g own e l here at is =
    ap borrowed_changes is ∙ ap (λ (x : Vec (Bor Change)). borrowed_changes x.items) at
    ∙ own_at tables groups changes i t g e l
    ∙ ap (λ (x : MadeTable). of_table x.name changes) here

-- a change put after those of a group
pub put_more : (groups : List (Vec (Bor Change))) (i : ℕ) (c : Bor Change) (g h : Vec (Bor Change))
    → i < length groups → g ≡ get_or groups i g → h.items ≡ g.items ++ c ∷ []
    → grouped (set groups i h) ≡ set (grouped groups) i
    (get_or (grouped groups) i [] ++ change_of c.now ∷ [])
put_more groups i c g h l at put =
    let own : borrowed_changes g.items ≡ get_or (grouped groups) i [] =
    ap (λ (x : Vec (Bor Change)). borrowed_changes x.items) at
    ∙ sym (get_or-map (λ (x : Vec (Bor Change)). borrowed_changes x.items) groups i g [] l) in
    let more : borrowed_changes h.items ≡ get_or (grouped groups) i [] ++ change_of c.now ∷ [] =
    ap borrowed_changes put
    ∙ map-append (λ (x : Bor Change). change_of x.now) g.items (c ∷ [])
    ∙ ap (λ own. own ++ change_of c.now ∷ []) own in
    map-set (λ (x : Vec (Bor Change)). borrowed_changes x.items) groups i h
    ∙ ap (λ (own : List PlainChange). set (grouped groups) i own) more

-- ---- the groups of a schema's tables

module _ (tables : Tables) (i n : ℕ) (many : n ≡ len tables) where
  names_long : length (table_names tables) ≡ n
  names_long = length-map (entries tables) (λ (e : List ℕ × List Column). e.0)
      ∙ sym (len-entries tables) ∙ sym many

  -- one group of no changes more
  pub next_empty : (d : Vec (Bor Change)) (groups more : List (Vec (Bor Change))) → i < n
      → d.items ≡ [] → more ≡ groups ++ d ∷ []
      → grouped groups ≡ by_table (take i (table_names tables)) []
      → grouped more ≡ by_table (take (i + 1) (table_names tables)) []
  next_empty d groups more l none e h =
      let names = table_names tables in
      let long = names_long in
      ap grouped e
      ∙ map-append (λ (g : Vec (Bor Change)). borrowed_changes g.items) groups (d ∷ [])
      ∙ ap (λ (gs : List (List PlainChange)). gs ++ borrowed_changes d.items ∷ []) h
      ∙ ap (λ own. by_table (take i names) [] ++ borrowed_changes own ∷ []) none
      ∙ sym (map-append (λ name. of_table name []) (take i names) (get_or names i [] ∷ []))
      ∙ ap (λ ns. by_table ns []) (sym (take_more names i [] (omega (arith, l, long))))

  -- and all of them
  pub all_empty : (groups : List (Vec (Bor Change))) → n ≤ i
      → grouped groups ≡ by_table (take i (table_names tables)) []
      → grouped groups ≡ by_table (table_names tables) []
  all_empty groups l h =
      let long = names_long in
      h ∙ ap (λ ns. by_table ns []) (take_all i (table_names tables) (omega (arith, l, long)))

module _ (tables : Tables) (changes : List Change) (places : List ℕ)
    (stand : StandAt tables (changes_of changes) places) where
  abbrev names : List (List ℕ)
  names = table_names tables

  -- the place of a change's table is one of the groups
  pub place_within_groups : (i : ℕ) (c : Change) (before : List PlainChange)
      (groups : List (Vec (Bor Change))) → i < length changes → c ≡ get_or changes i c
      → grouped groups ≡ by_table names before → get_or places i 0 < length groups
  place_within_groups i c before groups l e are =
      let named = (stands_here tables changes places i c stand l e).1 in
      let within = slice_get_within names (get_or places i 0) (table_of (change_of c)) named in
      let many = as_many names groups before are in
      omega (arith, within, many)

  -- one change more
  pub next_grouped : (i : ℕ) (c : Change) (groups more : List (Vec (Bor Change)))
      → i < length changes → c ≡ get_or changes i c
      → grouped more ≡ set (grouped groups) (get_or places i 0)
      (get_or (grouped groups) (get_or places i 0) [] ++ change_of c ∷ [])
      → grouped groups ≡ by_table names (changes_of (take i changes))
      → grouped more ≡ by_table names (changes_of (take (i + 1) changes))
  next_grouped i c groups more l e put are =
      let named = (stands_here tables changes places i c stand l e).1 in
      let before = changes_of (take i changes) in
      let p = get_or places i 0 in
      let until : changes_of (take (i + 1) changes) ≡ before ++ change_of c ∷ [] =
      ap changes_of (take_more changes i c l ∙ ap (λ x. take i changes ++ x ∷ []) (sym e))
      ∙ map-append change_of (take i changes) (c ∷ []) in
      put
      ∙ ap (λ (gs : List (List PlainChange)). set gs p (get_or gs p [] ++ change_of c ∷ [])) are
      ∙ sym (one_more names before (change_of c) p
      (names_ascend tables) named)
      ∙ ap (by_table names) (sym until)
