-- A column with one more write.
use Rattle.std.proofs.Common.{◌≡◌, ℕ, ◌+◌, ◌<◌, ◌≤◌, List, [], ◌∷◌, ◌++◌, length, get_or, set, sym}
use Rattle.std.proofs.Common.{ap, ◌∙◌, arith, length-append}
use Rattle.std.proofs.Math.ListN.{length-set}
use Rattle.prima_base.specs.declared.value.Value.{Value}
use Rattle.history_store_columns.specs.declared.column.StoredWrite.{StoredWrite}
use Rattle.history_store_columns.specs.Chains.{IsLinked}
use Rattle.history_store_columns.specs.ColumnFields.{IsIndex}
use Rattle.history_store_columns.specs.StoredWrites.{writes_in, nexts_of}
use Rattle.history_store_columns.proofs.Newest.{grown_index, changed_index}
use Rattle.history_store_columns.proofs.Links.{grown_links, changed_links}
use Rattle.history_store_columns.proofs.ColumnWrites.{write_of, length-writes_in, one_more}
use Rattle.history_store_columns.proofs.ColumnWrites.{one_more_next}
use Rattle.history_store_columns.proofs.ColumnWrites.{linked_writes, linked_nexts}

-- what is so of a column's fields
pub record AreFields (values : List Value) (writes : List StoredWrite) (first last : List ℕ) :
    Type 0 where
  pub each : length values ≡ length writes
  pub few : length last ≤ length writes
  pub index : IsIndex last (writes_in values writes)
  pub linked : IsLinked first (nexts_of writes) last (writes_in values writes)

one_each : (values : List Value) (writes : List StoredWrite) (v : Value) (w : StoredWrite)
    → length values ≡ length writes → length (values ++ v ∷ []) ≡ length (writes ++ w ∷ [])
one_each values writes v w e = length-append values (v ∷ []) ∙ ap (λ n. n + 1) e
    ∙ sym (length-append writes (w ∷ []))

-- of the next id
pub grown : (values then' : List Value) (writes after : List StoredWrite)
    (first last first' last' : List ℕ) (v : Value) (w : StoredWrite) (n : ℕ)
    → AreFields values writes first last
    → w.id ≡ length last → w.next ≡ 0 → n ≡ length writes
    → then' ≡ values ++ v ∷ [] → after ≡ writes ++ w ∷ [] → first' ≡ first ++ n ∷ []
    → last' ≡ last ++ n ∷ []
    → AreFields then' after first' last' × (writes_in then' after ≡ writes_in values writes
    ++ write_of v w ∷ [])
grown values then' writes after first last first' last' v w n f i z l a b c d =
    let cells = one_more values writes v w f.each in
    let nexts : nexts_of (writes ++ w ∷ []) ≡ nexts_of writes ++ 0 ∷ [] = one_more_next writes w
    ∙ ap (λ m. nexts_of writes ++ m ∷ []) z in
    let m : n ≡ length (writes_in values writes) = l
    ∙ sym (length-writes_in values writes f.each) in
    rw (a, b, c, d) (
      record {
        each = one_each values writes v w f.each;
        few = (let p = length-append last (n ∷ []) in let q = length-append writes (w ∷ []) in
            let k = f.few in omega (arith, p, q, k));
        index = rw (cells, m) (grown_index last (writes_in values writes) (write_of v w) i f.index);
        linked = rw (cells, nexts, m) (grown_links first (nexts_of writes) last
            (writes_in values writes) (write_of v w) f.linked i);
      },
      cells,
    )

-- of an id that the column has, whose last write is linked to it
pub changed : (values then' : List Value) (writes after : List StoredWrite)
    (first last last' : List ℕ) (v : Value) (w x : StoredWrite) (before n : ℕ)
    → AreFields values writes first last
    → w.id < length last → w.next ≡ 0 → n ≡ length writes → before ≡ get_or last w.id 0
    → x.id ≡ (get_or writes before x).id → x.start ≡ (get_or writes before x).start → x.next ≡ n
    → then' ≡ values ++ v ∷ [] → after ≡ set writes before x ++ w ∷ [] → last' ≡ set last w.id n
    → AreFields then' after first last' × (writes_in then' after ≡ writes_in values writes
    ++ write_of v w ∷ [])
changed values then' writes after first last last' v w x before n f i z l e p q r a b d =
    let each : length values ≡ length (set writes before x) = f.each
    ∙ sym (length-set writes before x) in
    let cells : writes_in (values ++ v ∷ []) (set writes before x ++ w ∷ [])
    ≡ writes_in values writes ++ write_of v w ∷ [] =
    one_more values (set writes before x) v w each
    ∙ ap (λ ws. ws ++ write_of v w ∷ []) (linked_writes values writes before x p q) in
    let m : n ≡ length (writes_in values writes) = l
    ∙ sym (length-writes_in values writes f.each) in
    let nexts : nexts_of (set writes before x ++ w ∷ [])
    ≡ set (nexts_of writes) (get_or last w.id 0) (length (writes_in values writes)) ++ 0 ∷ [] =
    one_more_next (set writes before x) w
    ∙ ap (λ k. nexts_of (set writes before x) ++ k ∷ []) z
    ∙ ap (λ ns. ns ++ 0 ∷ []) (linked_nexts writes before x
    ∙ ap (λ k. set (nexts_of writes) k x.next) e
    ∙ ap (λ k. set (nexts_of writes) (get_or last w.id 0) k) (r ∙ m)) in
    rw (a, b, d) (
      record {
        each = one_each values (set writes before x) v w each;
        few = (let s = length-append (set writes before x) (w ∷ []) in let t =
            length-set writes before x in let u = length-set last w.id n in let k = f.few in
            omega (arith, s, t, u, k));
        index = rw (cells, m) (changed_index last (writes_in values writes) (write_of v w) i
            f.index);
        linked = rw (cells, nexts, m) (changed_links first (nexts_of writes) last
            (writes_in values writes) (write_of v w) f.linked i);
      },
      cells,
    )
