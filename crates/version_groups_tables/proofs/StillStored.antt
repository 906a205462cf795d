-- A table each of whose stamps is earlier has from then on the rows that it has.
use Rattle.std.proofs.Common.{◌≡◌, ◌≤◌, ◌<◌, ◌+◌, ℕ, true, false, cond, List, [], ◌∷◌, ◌++◌, refl}
use Rattle.std.proofs.Common.{sym, ap, ◌∙◌, arith, inl, inr}
use Rattle.std.specs.Prelude.{◌⊎◌, ◌&&◌, ◌==◌, nat_le, nat_lt}
use Rattle.std.proofs.lemmas.Bool.Decides.{nat_tests}
use Rattle.relations_spec.specs.Sets.{In, set_of}
use Rattle.relations_spec.specs.Spans.{Span, covers, forever}
use Rattle.prima_base.specs.Order.{row_cmp}
use Rattle.prima_base.specs.Columns.{Column}
use Rattle.history_store.specs.Store.{Store, Cell, shown_at, row_at, rows_from, relation_at}
use Rattle.history_store.specs.Store.{IsBefore, AllBefore}
use Rattle.version_groups_tables.specs.Becoming.{Begins}
use Rattle.version_groups_changes.proofs.Applying.{all_later}

module _ (stamp m : ℕ) (l : stamp ≤ m) (k : m < forever) where
  covers_on : (p : Span) → IsBefore stamp p → covers p m ≡ covers p stamp
  covers_on p h = step h.1
    where
      low : nat_le p.start m ≡ nat_le p.start stamp
      low = (let s = h.0 in let a : nat_le p.start m ≡ true = grind (arith, nat_tests, s, l) in
          let b : nat_le p.start stamp ≡ true = grind (arith, nat_tests, s) in a ∙ sym b)

      step : (p.end < stamp) ⊎ (p.end ≡ forever) → covers p m ≡ covers p stamp
      step (inl e) =
          let a : nat_lt m p.end ≡ false = grind (arith, nat_tests, e, l) in
          let b : nat_lt stamp p.end ≡ false = grind (arith, nat_tests, e) in
          ap (λ x. x && nat_lt m p.end) low ∙ ap (λ x. nat_le p.start stamp && x) (a ∙ sym b)
      step (inr e) =
          let a : nat_lt m p.end ≡ true = grind (arith, nat_tests, e, k) in
          let b : nat_lt stamp p.end ≡ true = grind (arith, nat_tests, e, k, l) in
          ap (λ x. x && nat_lt m p.end) low ∙ ap (λ x. nat_le p.start stamp && x) (a ∙ sym b)

  shown_on : (id : ℕ) (cells : List Cell) → ((c : Cell) → In c cells → IsBefore stamp c.period)
      → shown_at id m cells ≡ shown_at id stamp cells
  shown_on id [] h = refl
  shown_on id (c ∷ cells) h =
      ap (λ b. cond (c.id == id && b) (c.value ∷ shown_at id m cells) (shown_at id m cells))
      (covers_on c.period (h c (inl refl)))
      ∙ ap (λ rest. cond (c.id == id && covers c.period stamp) (c.value ∷ rest) rest)
      (shown_on id cells (λ d i. h d (inr i)))

  row_on : (id : ℕ) (columns : List (List Cell))
      → ((cells : List Cell) → In cells columns → (c : Cell) → In c cells → IsBefore stamp c.period)
      → row_at id m columns ≡ row_at id stamp columns
  row_on id [] h = refl
  row_on id (cells ∷ columns) h =
      ap (λ vs. vs ++ row_at id m columns) (shown_on id cells (h cells (inl refl)))
      ∙ ap (λ vs. shown_at id stamp cells ++ vs) (row_on id columns (λ cs i. h cs (inr i)))

  rows_on : (id : ℕ) (keys : List Span) (columns : List (List Cell))
      → ((p : Span) → In p keys → IsBefore stamp p)
      → ((cells : List Cell) → In cells columns → (c : Cell) → In c cells → IsBefore stamp c.period)
      → rows_from id m keys columns ≡ rows_from id stamp keys columns
  rows_on id [] columns h g = refl
  rows_on id (p ∷ keys) columns h g =
      ap (λ b. cond b (row_at id m columns ∷ rows_from (id + 1) m keys columns)
      (rows_from (id + 1) m keys columns)) (covers_on p (h p (inl refl)))
      ∙ ap (λ r. cond (covers p stamp) (r ∷ rows_from (id + 1) m keys columns)
      (rows_from (id + 1) m keys columns)) (row_on id columns g)
      ∙ ap (λ rest. cond (covers p stamp) (row_at id stamp columns ∷ rest) rest)
      (rows_on (id + 1) keys columns (λ q i. h q (inr i)) g)

  pub still_stored : (s : Store) → AllBefore s stamp → relation_at s m ≡ relation_at s stamp
  unfolding relation_at
  still_stored s h = ap (set_of row_cmp) (rows_on 0 s.keys s.cells h.keys h.cells)

-- so it goes on as if it began
pub goes_on : (columns : List Column) (stamp : ℕ) (s : Store) → s.columns ≡ columns
    → AllBefore s stamp → Begins columns stamp (relation_at s stamp) s
goes_on columns stamp s e h = record {
  columns = e;
  from = λ m l k. still_stored stamp m l k s h;
  later = λ m l. all_later s stamp m (omega (arith, l)) h;
}
