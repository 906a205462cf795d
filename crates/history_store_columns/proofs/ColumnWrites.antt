-- Writes whose values stand in a list of their own.
use Rattle.std.proofs.Common.{◌≡◌, ℕ, zero, suc, ◌<◌, List, [], ◌∷◌, ◌++◌, length, get_or, set}
use Rattle.std.proofs.Common.{refl, ap, arith, true, nat_le}
use Rattle.std.proofs.lemmas.Bool.{and_parts}
use Rattle.std.proofs.lemmas.Bool.Decides.{nat_tests}
use Rattle.std.specs.List.{list_all}
use Rattle.prima_base.specs.declared.value.Value.{Value}
use Rattle.history_store_columns.specs.declared.column.StoredWrite.{StoredWrite}
use Rattle.history_store_columns.specs.Log.{Write}
use Rattle.history_store_columns.specs.Entries.{AllCells}
use Rattle.history_store_columns.specs.StoredWrites.{writes_in, nexts_of}

abbrev pub write_of : Value → StoredWrite → Write
write_of v w = record { id = w.id; value = v; start = w.start }

pub length-writes_in : (values : List Value) (writes : List StoredWrite)
    → length values ≡ length writes → length (writes_in values writes) ≡ length writes
length-writes_in values [] e = refl
length-writes_in [] (w ∷ writes) e = absurd (omega (arith, e))
length-writes_in (v ∷ values) (w ∷ writes) e =
    ap suc (length-writes_in values writes (omega (arith, e)))

pub one_more : (values : List Value) (writes : List StoredWrite) (v : Value) (w : StoredWrite)
    → length values ≡ length writes
    → writes_in (values ++ v ∷ []) (writes ++ w ∷ []) ≡ writes_in values writes ++ write_of v w ∷ []
one_more [] [] v w e = refl
one_more [] (x ∷ writes) v w e = absurd (omega (arith, e))
one_more (u ∷ values) [] v w e = absurd (omega (arith, e))
one_more (u ∷ values) (x ∷ writes) v w e = ap (λ ws. write_of u x ∷ ws)
    (one_more values writes v w (omega (arith, e)))

pub one_more_next : (writes : List StoredWrite) (w : StoredWrite)
    → nexts_of (writes ++ w ∷ []) ≡ nexts_of writes ++ w.next ∷ []
one_more_next [] w = refl
one_more_next (x ∷ writes) w = ap (λ ns. x.next ∷ ns) (one_more_next writes w)

-- another link changes no write
pub linked_writes : (values : List Value) (writes : List StoredWrite) (k : ℕ) (w : StoredWrite)
    → w.id ≡ (get_or writes k w).id → w.start ≡ (get_or writes k w).start
    → writes_in values (set writes k w) ≡ writes_in values writes
linked_writes values [] k w i s = refl
linked_writes [] (x ∷ writes) zero w i s = refl
linked_writes [] (x ∷ writes) (suc k) w i s = refl
linked_writes (v ∷ values) (x ∷ writes) zero w i s = rw (i, s) refl
linked_writes (v ∷ values) (x ∷ writes) (suc k) w i s =
    ap (λ ws. write_of v x ∷ ws) (linked_writes values writes k w i s)

pub linked_nexts : (writes : List StoredWrite) (k : ℕ) (w : StoredWrite)
    → nexts_of (set writes k w) ≡ set (nexts_of writes) k w.next
linked_nexts [] k w = refl
linked_nexts (x ∷ writes) zero w = refl
linked_nexts (x ∷ writes) (suc k) w = ap (λ ns. x.next ∷ ns) (linked_nexts writes k w)

pub next_at : (writes : List StoredWrite) (k : ℕ) (d : StoredWrite) → k < length writes
    → get_or (nexts_of writes) k 0 ≡ (get_or writes k d).next
next_at [] k d h = absurd (omega arith)
next_at (w ∷ writes) zero d h = refl
next_at (w ∷ writes) (suc k) d h = next_at writes k d (omega arith)

-- the write at a place
pub write_at : (values : List Value) (writes : List StoredWrite) (k : ℕ) (v : Value)
    (d : StoredWrite) → length values ≡ length writes
    → get_or (writes_in values writes) k (write_of v d)
    ≡ write_of (get_or values k v) (get_or writes k d)
write_at [] [] k v d e = refl
write_at [] (w ∷ writes) k v d e = absurd (omega (arith, e))
write_at (u ∷ values) [] k v d e = absurd (omega (arith, e))
write_at (u ∷ values) (w ∷ writes) zero v d e = refl
write_at (u ∷ values) (w ∷ writes) (suc k) v d e = write_at values writes k v d (omega (arith, e))

-- where none of the stored writes is from later than a moment, no write is
pub none_later : (moment : ℕ) (values : List Value) (writes : List StoredWrite)
    → list_all (λ (w : StoredWrite). nat_le w.start moment) writes ≡ true
    → AllCells moment (writes_in values writes)
none_later moment values [] e = tt
none_later moment [] (w ∷ writes) e = tt
none_later moment (v ∷ values) (w ∷ writes) e =
    let b = and_parts (nat_le w.start moment)
    (list_all (λ (x : StoredWrite). nat_le x.start moment) writes) e in
    let t : nat_le w.start moment ≡ true = b.0 in
    (grind (arith, nat_tests), none_later moment values writes b.1)
