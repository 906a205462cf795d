-- A table before its first stamp.
use Rattle.std.proofs.Common.{◌≡◌, ℕ, zero, ◌+◌, suc, List, [], ◌∷◌, length, get_or, refl, sym, ap}
use Rattle.std.proofs.Common.{◌∙◌, subst, arith, inl, inr}
use Rattle.std.specs.Prelude.{All}
use Rattle.relations_spec.specs.Sets.{In, set_of}
use Rattle.relations_spec.specs.Spans.{forever}
use Rattle.prima_base.specs.declared.value.Value.{Value}
use Rattle.history_store_columns.specs.Log.{Log, Write}
use Rattle.history_store_row_order.specs.Logs.{cells_of}
use Rattle.history_store_spec.specs.Store.{Cell, weight, relation_at, AllBefore}
use Rattle.prima_base.specs.Columns.{Column, AreColumns}
use Rattle.history_store_change_spec.specs.Entries.{all_entries, AreHistories}
use Rattle.history_store_columns.specs.Entries.{IsHistory}
use Rattle.history_store_change_spec.specs.Kept.{store_of, IsKept}
use Rattle.history_store_writes.specs.Writing.{unpaired, new_keys}
use Rattle.history_store_row_order.specs.Handing.{handed, only_in}
use Rattle.history_store_change_spec.specs.Handing.{written}
use Rattle.history_store_row_order.specs.Indexes.{Index}
use Rattle.history_store_change_spec.specs.Change.{PreparedChange, IsPrepared, keys_after}
use Rattle.history_store_change_spec.specs.Change.{cells_after}
use Rattle.history_store_change_spec.specs.Change.{rows_along}
use Rattle.history_store_change_spec.specs.Change.{write_rows, close_all, no_cells}
use Rattle.history_store_row_order.proofs.Cells.{length-cells_of}
use Rattle.history_store_change_spec.proofs.Preparing.{none_stored}
use Rattle.history_store_change_spec.proofs.Showing.{stored_more}

no_histories : (logs : List Log) → All (λ c. c.cells ≡ []) logs → AreHistories [] (cells_of logs)
no_histories [] a = tt
no_histories (c ∷ logs) a =
    let e : c.cells ≡ [] = a 0 c (omega arith) in (
      subst (IsHistory []) (sym e) (record {
        known = λ w i. absurd i;
        fits = λ id h.
            absurd (omega (arith, h));
      }),
      no_histories logs (λ k d h. a (suc k) d (omega (arith, h))),
    )

pub none_kept : (columns : List Column) (logs : List Log) → AreColumns columns
    → length logs ≡ length columns → All (λ c. c.cells ≡ []) logs
    → IsKept columns [] (cells_of logs) []
none_kept columns logs n w a = record {
  names = n;
  width = length-cells_of logs ∙ w;
  histories = no_histories logs a;
  stored = stored_more [] (cells_of logs) [] 0 forever (omega arith) (none_stored logs a);
  fitting = λ id i. absurd i;
  lasting = λ id h. absurd (omega (arith, h));
  fitted = λ m id h. absurd (let b = h.0 in omega (arith, b));
  apart = λ m i j h. absurd (let b = h.0 in omega (arith, b));
}

none_entries : (logs : List (List Write)) (cells : List Cell) → In cells (all_entries [] logs)
    → cells ≡ []
none_entries [] cells i = absurd i
none_entries (c ∷ logs) cells (inl e) = sym e
none_entries (c ∷ logs) cells (inr i) = none_entries logs cells i

pub none_before : (columns : List Column) (logs : List (List Write)) (spare m : ℕ)
    → AllBefore (store_of columns [] logs spare []) m
none_before columns logs spare m = record {
  keys = λ p i. absurd i;
  cells = λ cells i c j.
      absurd (subst (λ (cs : List Cell). In c cs) (none_entries logs cells i) j);
}

pub none_now : (columns : List Column) (logs : List (List Write)) (spare m : ℕ)
    → relation_at (store_of columns [] logs spare []) m ≡ []
unfolding relation_at set_of
none_now columns logs spare m = refl

pub none_cells : (columns : List Column) (logs : List (List Write)) → length logs ≡ length columns
    → all_entries [] logs ≡ no_cells columns
none_cells [] [] e = refl
none_cells [] (c ∷ logs) e = absurd (omega arith)
none_cells (k ∷ columns) [] e = absurd (omega arith)
none_cells (k ∷ columns) (c ∷ logs) e = ap (λ (cs : List (List Cell)). [] ∷ cs)
    (none_cells columns logs (omega arith))

pub all_gained : (rows : List (List Value)) → only_in rows [] ≡ rows
all_gained [] = refl
all_gained (row ∷ rows) = ap (λ rs. row ∷ rs) (all_gained rows)

empty : (xs : List ℕ) → ((x : ℕ) → In x xs → ⊥) → xs ≡ []
empty [] f = refl
empty (x ∷ xs) f = absurd (f x (inl refl))

pub no_lost : (columns : List Column) (logs : List (List Write)) (spare : ℕ) (p : PreparedChange)
    → IsPrepared (store_of columns [] logs spare []) p → p.lost ≡ []
no_lost columns logs spare p f = empty p.lost
    (λ x i. (let h = (f.hands.lost_open x i).0 in omega (arith, h)))

no_left : (rows : List (List Value)) → unpaired {A = ℕ} [] rows ≡ []
no_left [] = refl
no_left (row ∷ rows) = refl

no_close : (stamp : ℕ) (cells : List (List Cell)) → close_all [] stamp cells ≡ cells
no_close stamp [] = refl
no_close stamp (c ∷ cells) = ap (λ cs. c ∷ cs) (no_close stamp cells)

pub first_keys : (columns : List Column) (logs : List (List Write)) (spare : ℕ) (stamp : ℕ)
    (rows : List (List Value)) (after : Index)
    → keys_after (store_of columns [] logs spare [])
    (record { stamp = stamp; lost = []; gained = rows; after = after }) ≡ new_keys stamp rows
first_keys columns logs spare stamp rows after = rw (no_left rows) refl

pub first_cells : (columns : List Column) (logs : List (List Write)) (spare : ℕ) (stamp : ℕ)
    (rows : List (List Value)) (after : Index) → length logs ≡ length columns
    → cells_after (store_of columns [] logs spare [])
    (record { stamp = stamp; lost = []; gained = rows; after = after })
    ≡ write_rows (handed [] 0 rows) rows stamp (no_cells columns)
first_cells columns logs spare stamp rows after e =
    rw (no_left rows, none_cells columns logs e)
    (no_close stamp (write_rows (handed [] 0 rows) rows stamp (no_cells columns)))

pub none_weight : (f : Value → ℕ) (k : ℕ) (columns : List Column) (logs : List (List Write))
    (spare : ℕ) → weight f (get_or (store_of columns [] logs spare []).cells k []) ≡ 0
none_weight f k columns [] spare = refl
none_weight f zero columns (c ∷ logs) spare = refl
none_weight f (suc k) columns (c ∷ logs) spare = none_weight f k columns logs spare

pub first_written : (f : Value → ℕ) (k : ℕ) (p : PreparedChange) (rows : List (List Value))
    (cells : List (List Cell)) → p.lost ≡ [] → p.gained ≡ rows
    → 0 + written f k (rows_along p.lost p.stamp cells) p.gained ≡ written f k [] rows
first_written f k p rows cells l g =
    let e = ap (λ ids. written f k (rows_along ids p.stamp cells) p.gained) l
    ∙ ap (written f k []) g in
    omega (arith, e)

pub prepared_is : (p : PreparedChange) (stamp : ℕ) (rows : List (List Value)) → p.stamp ≡ stamp
    → p.lost ≡ [] → p.gained ≡ rows → p ≡ record {
      stamp = stamp;
      lost = [];
      gained = rows;
      after =
          p.after;
    }
prepared_is p stamp rows a b c = ap (λ s. record {
  stamp = s;
  lost = p.lost;
  gained = p.gained;
  after =
      p.after;
}) a ∙ ap (λ l. record { stamp = stamp; lost = l; gained = p.gained; after = p.after })
    b ∙ ap (λ (g : List (List Value)). record
    { stamp = stamp; lost = []; gained = g; after = p.after }) c
