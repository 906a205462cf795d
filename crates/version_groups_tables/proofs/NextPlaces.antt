-- The places of the tables of the next version.
use Rattle.std.proofs.Common.{◌≡◌, ◌<◌, ◌+◌, ℕ, suc, zero, Bool, true, false, cond, List, [], ◌∷◌}
use Rattle.std.proofs.Common.{◌++◌, length, drop, get_or, refl, sym, ap, subst, ◌∙◌, arith}
use Rattle.std.proofs.Common.{append_assoc, append-nil, length-append}
use Rattle.std.specs.Prelude.{Option, Some, None, slice_get}
use Rattle.std.proofs.lemmas.Option.{slice_get_within}
use Rattle.relations_spec.specs.Sets.{In}
use Rattle.prima_base.specs.Columns.{Column}
use Rattle.prima_base.specs.OrderLaws.{same_is}
use Rattle.history_store.specs.Store.{Store}
use Rattle.smo_ops_spec.specs.OneRow.{Relation, same}
use Rattle.version_groups_tables.specs.declared.made_table.MadeTable.{MadeTable}
use Rattle.version_groups_tables.specs.Becoming.{Begins}
use Rattle.version_groups_tables.specs.Evolving.{IsNextTable}
use Rattle.version_groups_tables.specs.Places.{with_table, at_places, AreWithin, IsFound}
use Rattle.version_groups_tables.specs.NewestTables.{MadeRows, is_name, next_rows, rows_stored}
use Rattle.version_groups_tables.specs.NewestTables.{IsStoredBefore}
use Rattle.version_groups_tables.specs.Stored.{stored_as}
use Rattle.version_groups_tables.proofs.Places.{at_more, at_last, got_more, places_within}
use Rattle.version_groups_tables.proofs.Places.{more_within}
use Rattle.version_groups_tables.proofs.StillStored.{goes_on}

-- the last of a list
last_of : (tables : List MadeTable) (t : MadeTable)
    → slice_get (tables ++ t ∷ []) (length tables) ≡ Some t
last_of [] t = refl
last_of (u ∷ tables) t = last_of tables t

-- a table that begins after the others
pub begins_last : (stored old new : List MadeTable) (t : MadeTable) (place : ℕ) (Has : Store
    → Type 0) → new ≡ old ++ t ∷ [] → place ≡ length stored + length old → Has t.store
    → IsNextTable stored old new place t.name Has
begins_last stored old new t place Has e p b = record {
  more = t ∷ [];
  grown = e;
  table = t;
  at =
      ap (λ (ts : List MadeTable). slice_get (stored ++ ts) place) e
      ∙ ap (λ (ts : List MadeTable). slice_get ts place) (sym (append_assoc stored old (t ∷ [])))
      ∙ ap (slice_get ((stored ++ old) ++ t ∷ [])) (p ∙ sym (length-append stored old))
      ∙ last_of (stored ++ old) t;
  named = refl;
  has = b;
}

-- a table that is there goes on
pub still_there : (stored old : List MadeTable) (places : List ℕ) (place : ℕ) (name : List ℕ)
    (t : MadeTable) (Has : Store → Type 0) → IsFound stored places name place t → Has t.store
    → IsNextTable stored old old place name Has
still_there stored old places place name t Has f h = record {
  more = [];
  grown = sym (append-nil old);
  table = t;
  at = got_more stored old place t f.0;
  named = f.1;
  has = h;
}

-- where all that is not made is stored, a table is made that does not go on
pub made_unless_kept : (Is : Option Store → Type 0) (stored : Option Store) (made answer : Bool)
    → (Is None → ⊥) → made ≡ answer → (answer ≡ false → stored ≡ None)
    → (made ≡ false → Is stored) → made ≡ true
made_unless_kept Is stored made true never is none there = is
made_unless_kept Is stored made false never is none there =
    absurd (never (subst Is (none refl) (there is)))

pub goes_there : (stored old : List MadeTable) (places : List ℕ) (place : ℕ) (name : List ℕ)
    (columns : List Column) (stamp : ℕ) (t : MadeTable) → IsFound stored places name place t
    → IsStoredBefore stamp columns (stored_as name (at_places stored places))
    → IsNextTable stored old old place name (Begins columns stamp
    (rows_stored stamp (stored_as name (at_places stored places))))
goes_there stored old places place name columns stamp t f b =
    let own : IsStoredBefore stamp columns (Some t.store) =
    subst (IsStoredBefore stamp columns) f.2 b in
    still_there stored old places place name t
    (Begins columns stamp (rows_stored stamp (stored_as name (at_places stored places)))) f
    (subst (λ (r : Relation). Begins columns stamp r t.store) (sym (ap (rows_stored stamp) f.2))
    (goes_on columns stamp t.store own.0 own.1))

pub is_there : (stored : List MadeTable) (places : List ℕ) (place : ℕ) (name : List ℕ) (n : ℕ)
    (t : MadeTable) → IsFound stored places name place t → place < length stored + n
is_there stored places place name n t f = (let l = slice_get_within stored place t f.0 in
    omega (arith, l))

-- one place more
pub placed_more : (stored old new : List MadeTable) (places more : List ℕ) (p : ℕ) (name : List ℕ)
    (Has : Store → Type 0)
    → AreWithin places (length stored + length old) → (h : IsNextTable stored old new p name Has)
    → more ≡ places ++ p ∷ []
    → at_places (stored ++ new) more ≡ at_places (stored ++ old) places ++ h.table ∷ []
placed_more stored old new places more p name Has w h e =
    ap (at_places (stored ++ new)) e
    ∙ at_last (stored ++ new) places p h.table h.at
    ∙ ap (λ ts. ts ++ h.table ∷ []) (
    ap (λ ts. at_places ts places) (ap (λ ts. stored ++ ts) h.grown
    ∙ sym (append_assoc stored old h.more))
    ∙ at_more (stored ++ old) h.more places (subst (AreWithin places)
    (sym (length-append stored old)) w)
    )

pub within_more : (stored old new : List MadeTable) (places more : List ℕ) (p : ℕ) (name : List ℕ)
    (Has : Store → Type 0)
    → AreWithin places (length stored + length old) → IsNextTable stored old new p name Has
    → p < length stored + length new → more ≡ places ++ p ∷ []
    → AreWithin more (length stored + length new)
within_more stored old new places more p name Has w h l e =
    let long : length new ≡ length old + length h.more = ap length h.grown
    ∙ length-append old h.more in
    subst (λ ps. AreWithin ps (length stored + length new)) (sym e)
    (more_within places (p ∷ []) (length stored + length new)
    (places_within places (length stored + length old) (length stored + length new)
    (omega (arith, long)) w) (l, tt))

-- ---- found by the name

-- the first of those that are left
pub found_here : (tables : List MadeTable) (places left : List ℕ) (p : ℕ) (name : List ℕ)
    (t : MadeTable) → stored_as name (at_places tables places)
    ≡ stored_as name (at_places tables (p ∷ left))
    → slice_get tables p ≡ Some t → same t.name name ≡ true → In p places
    → IsFound tables places name p t
found_here tables places left p name t before at is among = (
  at,
  same_is t.name name is,
  before ∙ ap (λ o.
      stored_as name (with_table o (at_places tables left))) at
      ∙ ap (λ b. cond b (Some t.store) (stored_as name (at_places tables left))) is,
  among,
)

pub found_after : (tables : List MadeTable) (places left : List ℕ) (p : ℕ) (name : List ℕ)
    (t : MadeTable) → stored_as name (at_places tables places)
    ≡ stored_as name (at_places tables (p ∷ left))
    → slice_get tables p ≡ Some t → same t.name name ≡ false
    → stored_as name (at_places tables places) ≡ stored_as name (at_places tables left)
found_after tables places left p name t before at is =
    before ∙ ap (λ o. stored_as name (with_table o (at_places tables left))) at
    ∙ ap (λ b. cond b (Some t.store) (stored_as name (at_places tables left))) is

-- what is left begins with the next place
drop_place : (places : List ℕ) (i : ℕ) → i < length places
    → drop i places ≡ get_or places i 0 ∷ drop (i + 1) places
drop_place [] i l = absurd (omega (arith, l))
drop_place (p ∷ places) zero l = refl
drop_place (p ∷ places) (suc i) l =
    drop_place places i (omega (arith, l)) ∙ ap (λ ps. get_or places i 0 ∷ ps)
    (sym (ap (λ j. drop j (p ∷ places)) (let e : suc i + 1 ≡ suc (i + 1) = omega arith in e)))

pub next_in_turn : (tables : List MadeTable) (places : List ℕ) (i : ℕ) (name : List ℕ)
    → i < length places → stored_as name (at_places tables places)
    ≡ stored_as name (at_places tables (drop i places))
    → stored_as name (at_places tables places)
    ≡ stored_as name (at_places tables (get_or places i 0 ∷ drop (i + 1) places))
next_in_turn tables places i name l e = e ∙ ap (λ ps. stored_as name (at_places tables ps))
    (drop_place places i l)

-- where there is no table the next one is looked for
pub none_here : (tables : List MadeTable) (places left : List ℕ) (p : ℕ) (name : List ℕ)
    → stored_as name (at_places tables places) ≡ stored_as name (at_places tables (p ∷ left))
    → slice_get tables p ≡ None
    → stored_as name (at_places tables places) ≡ stored_as name (at_places tables left)
none_here tables places left p name before at = before
    ∙ ap (λ o. stored_as name (with_table o (at_places tables left))) at

-- a table that is not made has the rows that are stored
pub neither_made : (made : MadeRows) (stamp : ℕ) (tables : List MadeTable) (name : List ℕ)
    → is_name made.first name ≡ false → is_name made.second name ≡ false
    → next_rows made stamp tables name ≡ rows_stored stamp (stored_as name tables)
neither_made made stamp tables name a b =
    ap (λ x. cond x made.rows (cond (is_name made.second name) made.others
    (rows_stored stamp (stored_as name tables)))) a
    ∙ ap (λ x. cond x made.others (rows_stored stamp (stored_as name tables))) b

-- the second of those that are made has its own
pub second_made : (made : MadeRows) (stamp : ℕ) (tables : List MadeTable) (name : List ℕ)
    → is_name made.first name ≡ false → is_name made.second name ≡ true
    → next_rows made stamp tables name ≡ made.others
second_made made stamp tables name a b =
    ap (λ x. cond x made.rows (cond (is_name made.second name) made.others
    (rows_stored stamp (stored_as name tables)))) a
    ∙ ap (λ x. cond x made.others (rows_stored stamp (stored_as name tables))) b
