-- What is gathered of the keys that were gone over so far.
use Rattle.std.proofs.Common.{◌≡◌, ◌⊎◌, ◌<◌, ◌≤◌, ◌+◌, ℕ, zero, suc, true, List, [], ◌∷◌}
use Rattle.std.proofs.Common.{length, get_or, drop, refl, sym, ap, ◌∙◌, subst, inl, inr, arith}
use Rattle.std.proofs.lemmas.List.{length-map}
use Rattle.std.proofs.lemmas.Bool.{cases_lt}
use Rattle.relations_spec.specs.Sets.{In}
use Rattle.relations_spec.specs.Spans.{Span, span, covers}
use Rattle.relations_spec.specs.Timed.{Entry}
use Rattle.relations_spec.proofs.Held.{IsHeld}
use Rattle.prima_base.specs.declared.value.Value.{Value}
use Rattle.history_store_spec.specs.Store.{Cell, Store, IsStore, column_of}
use Rattle.history_store.specs.declared.scan.KeyEntry.{KeyEntry}
use Rattle.history_store.specs.Scans.{keys_from}
use Rattle.join_exec.specs.Reading.{AreNames}
use Rattle.join_exec.specs.Entries.{HasRow, AllInTurn}
use Rattle.join_exec.specs.Walking.{AreLeft, IsRowOf, AreAdded, both}
use Rattle.join_exec.specs.Gathered.{named_cells, HoldsIn, IsGathered, columns_in, or_none}
use Rattle.join_exec.proofs.EntriesInTurn.{entries_turn}
use Rattle.join_exec.proofs.Passing.{row_left, row_of_left, left_turn, each_left_of_left}
use Rattle.join_exec.proofs.Passing.{each_is_left}
use Rattle.join_exec.proofs.Picking.{column_there, row_is_picked, picked_is_row}
use Rattle.join_exec.proofs.Adding.{in_both, of_both}

-- the moments that the key with the id has in the slice
abbrev pub key_in : Store → Span → ℕ → Span
key_in s slice id = both (get_or s.keys id (span 0 0)) slice

-- the entries are what the keys below the place have in the slice
pub record IsGatheredTo (s : Store) (slice : Span) (names : List (List ℕ)) (place : ℕ)
    (entries : List (Entry (List Value))) : Type 0 where
  pub new : (e : Entry (List Value)) → In e entries → (id : ℕ) × (id < length s.keys)
      × IsRowOf (key_in s slice id) (columns_in s names) id e
  pub each : (id m : ℕ) → id < place → id < length s.keys
      → covers (key_in s slice id) m ≡ true → (e : Entry (List Value)) × In e entries
      × IsRowOf (key_in s slice id) (columns_in s names) id e × (covers e.period m ≡ true)

-- the keys from the place on, and what columns have from there on, are still to come
pub record IsAt (s : Store) (slice : Span) (names : List (List ℕ)) (coming : List KeyEntry)
    (lefts : List (List Cell)) (entries : List (Entry (List Value))) : Type 0 where
  pub place : ℕ
  pub keys : coming ≡ keys_from place (drop place s.keys)
  pub left : AreLeft place 0 (columns_in s names) lefts
  pub gathered : IsGatheredTo s slice names place entries

-- the columns are in turn
pub columns_turn : (s : Store) (names : List (List ℕ)) → IsStore s → AreNames s.columns names
    → AllInTurn (columns_in s names)
columns_turn s [] w known = tt
columns_turn s (name ∷ names) w known =
    let there = column_there s.columns s.cells name w.width (known name (inl refl)) in (
      rw there.1 (entries_turn s name there.0 w there.1),
      columns_turn s names w (λ n i. known n (inr i)),
    )

-- at first
pub at_first : (s : Store) (slice : Span) (names : List (List ℕ)) (keys : List KeyEntry)
    (left : List (List Cell)) → IsStore s → AreNames s.columns names → keys ≡ keys_from 0 s.keys
    → left ≡ columns_in s names → IsAt s slice names keys left []
at_first s slice names keys left w known k l = record {
  place = 0;
  keys = k;
  left = subst (AreLeft 0 0 (columns_in s names)) (sym l)
      (each_is_left 0 0 (columns_in s names) (columns_turn s names w known));
  gathered = record {
    new = λ e h. absurd h;
    each = λ id m h. absurd (omega arith);
  };
}

-- the next key
record IsNext (keys : List Span) (place base : ℕ) (key : KeyEntry) (coming : List KeyEntry) :
    Type 0 where
  below : place < length keys
  id : key.id ≡ base
  period : key.period ≡ get_or keys place (span 0 0)
  rest : coming ≡ keys_from (base + 1) (drop (place + 1) keys)

next_key : (keys : List Span) (place base : ℕ) (key : KeyEntry) (rest : List KeyEntry)
    → keys_from base (drop place keys) ≡ key ∷ rest → IsNext keys place base key rest
next_key [] zero base key rest e = absurd (cc)
next_key [] (suc place) base key rest e = absurd (cc)
next_key (p ∷ keys) zero base key rest e = record {
  below = omega arith;
  id = cc;
  period = cc;
  rest = cc;
}
next_key (p ∷ keys) (suc place) base key rest e =
    let r = next_key keys place base key rest e in
    let s : suc place + 1 ≡ suc (place + 1) = omega arith in
    let b = r.below in
    record {
      below = omega arith;
      id = r.id;
      period = r.period;
      rest = r.rest ∙ ap (λ i. keys_from (base + 1) (drop i (p ∷ keys))) (sym s);
    }

no_next : (keys : List Span) (place base : ℕ) → keys_from base (drop place keys) ≡ []
    → length keys ≤ place
no_next [] place base e = omega arith
no_next (p ∷ keys) zero base e = absurd (cc)
no_next (p ∷ keys) (suc place) base e = let l = no_next keys place base e in omega arith

-- what is put of columns that are left is put of them all
left_long : (id m : ℕ) (a b : List (List Cell)) → AreLeft id m a b → length b ≡ length a
left_long id m [] [] l = refl
left_long id m [] (y ∷ b) l = absurd l
left_long id m (x ∷ a) [] l = absurd l
left_long id m (x ∷ a) (y ∷ b) l = let e = left_long id m a b l.1 in omega arith

row_of_all : (id m : ℕ) (a b : List (List Cell)) (period : Span) (e : Entry (List Value))
    → AreLeft id m a b → IsRowOf period b id e → IsRowOf period a id e
row_of_all id m a b period e l h = record {
  wide = h.wide ∙ left_long id m a b l;
  valid = h.valid;
  within = λ n k.
      let w = h.within n k in
      (w.0, row_of_left id m id n a b e.item l w.1);
}

module _ (s : Store) (slice : Span) (names : List (List ℕ)) (w : IsStore s)
    (known : AreNames s.columns names) where
  abbrev columns : List (List Cell)
  columns = columns_in s names

  -- one key more
  gathered_more : (place : ℕ) (left : List (List Cell)) (before after : List (Entry (List Value)))
      → place < length s.keys → IsGatheredTo s slice names place before
      → AreLeft place 0 columns left → AreAdded (key_in s slice place) left place before after
      → IsGatheredTo s slice names (place + 1) after
  gathered_more place left before after b g l h = record {
    new = λ e i. by_new e (h.new e i);
    each = λ id m below k c. by_place id m below k c (cases_lt id place);
  }
    where
      all_of : (e : Entry (List Value)) → IsRowOf (key_in s slice place) left place e
          → IsRowOf (key_in s slice place) columns place e
      all_of e r = row_of_all place 0 columns left (key_in s slice place) e l r

      by_new : (e : Entry (List Value)) → In e before
          ⊎ IsRowOf (key_in s slice place) left place e → (id : ℕ) × (id < length s.keys)
          × IsRowOf (key_in s slice id) columns id e
      by_new e (inl i) = g.new e i
      by_new e (inr r) = (place, b, all_of e r)

      here : (m : ℕ) → covers (key_in s slice place) m ≡ true → (e : Entry (List Value))
          × In e after × IsRowOf (key_in s slice place) columns place e
          × (covers e.period m ≡ true)
      here m c = let r = h.each m c in (r.0, r.1, all_of r.0 r.2, r.3)

      by_place : (id m : ℕ) → id < place + 1 → id < length s.keys
          → covers (key_in s slice id) m ≡ true → (id < place) ⊎ (place ≤ id)
          → (e : Entry (List Value)) × In e after × IsRowOf (key_in s slice id) columns id e
          × (covers e.period m ≡ true)
      by_place id m below k c (inl a) =
          let r = g.each id m a k c in
          (r.0, h.kept r.0 r.1, r.2, r.3)
      by_place id m below k c (inr a) =
          let same : place ≡ id = omega arith in
          subst (λ i. covers (key_in s slice i) m ≡ true → (e : Entry (List Value)) × In e after
          × IsRowOf (key_in s slice i) columns i e × (covers e.period m ≡ true)) same (here m) c

  module _ (keys : List KeyEntry) (left : List (List Cell)) (entries : List (Entry (List Value)))
      (at : IsAt s slice names keys left entries) where
    module _ (key : KeyEntry) (rest : List KeyEntry) (next : keys ≡ key ∷ rest) where
      its : IsNext s.keys at.place at.place key rest
      its = next_key s.keys at.place at.place key rest (sym at.keys ∙ next)

      pub turn_at_key : AllInTurn left
      turn_at_key = left_turn at.place 0 columns left at.left

      pub row_at_key : (m : ℕ) → covers (both key.period slice) m ≡ true → (row : List Value)
          × HasRow left key.id row m
      row_at_key m c =
          let held = (in_both key.period slice m c).0 in
          let covered = subst (λ (p : Span). covers p m ≡ true) its.period held in
          let h = picked_is_row s names at.place m w known (its.below, covered) in (
            named_cells s names at.place m,
            subst (λ id. HasRow left id (named_cells s names at.place m) m) (sym its.id)
                (row_left at.place 0 at.place m columns left (named_cells s names at.place m)
                (inr (refl, omega arith)) at.left h),
          )

      pub at_next : (later : List (List Cell)) (more : List (Entry (List Value)))
          → AreLeft (key.id + 1) 0 left later
          → AreAdded (both key.period slice) left key.id entries more
          → IsAt s slice names rest later more
      at_next later more l h = record {
        place = at.place + 1;
        keys = its.rest;
        left = each_left_of_left at.place 0 (at.place + 1) 0 columns left later
            (inl (omega arith))
            at.left (subst (λ id. AreLeft (id + 1) 0 left later) its.id l);
        gathered = gathered_more at.place left entries more its.below at.gathered at.left
            (subst (λ id. AreAdded (key_in s slice at.place) left id entries more) its.id
            (subst (λ (p : Span). AreAdded (both p slice) left key.id entries more) its.period h));
      }

    -- in the end
    pub all_gathered : keys ≡ [] → IsGathered s slice names entries
    all_gathered e = record {
      fit = λ x i.
          let r = at.gathered.new x i in
          (r.2.wide ∙ length-map names (λ name. or_none (column_of s name)), r.2.valid);
      has = λ row m. (there row m, back row m);
    }
      where
        none : length s.keys ≤ at.place
        none = no_next s.keys at.place at.place (sym at.keys ∙ e)

        there : (row : List Value) (m : ℕ) → IsHeld entries row m → (id : ℕ)
            × HoldsIn slice s.keys id m × (row ≡ named_cells s names id m)
        there row m (x, i, same, c) =
            let r = at.gathered.new x i in
            let u = r.2.within m c in
            let v = in_both (get_or s.keys r.0 (span 0 0)) slice m u.0 in (
              r.0,
              ((r.1, v.0), v.1),
              sym same ∙ row_is_picked s names r.0 m x.item w known (r.1, v.0) u.1,
            )

        back : (row : List Value) (m : ℕ) → ((id : ℕ) × HoldsIn slice s.keys id m
            × (row ≡ named_cells s names id m)) → IsHeld entries row m
        back row m (id, held, is) =
            let c = of_both (get_or s.keys id (span 0 0)) slice m held.0.1 held.1 in
            let k = held.0.0 in
            let n = none in
            let r = at.gathered.each id m (omega (arith, k, n)) k c in (
              r.0,
              r.1,
              row_is_picked s names id m r.0.item w known held.0 (r.2.within m r.3).1 ∙ sym is,
              r.3,
            )
