-- Rows that are put to others, one after the other.
use Rattle.std.proofs.Common.{◌≡◌, ◌⊎◌, ◌<◌, ◌≤◌, ℕ, Bool, true, false, List, [], ◌∷◌, ◌++◌}
use Rattle.std.proofs.Common.{map, refl, sym, subst, inl, inr, arith}
use Rattle.std.proofs.lemmas.List.{map-append}
use Rattle.std.proofs.lemmas.Bool.{cases_lt}
use Rattle.std.proofs.lemmas.Bool.Decides.{nat_tests}
use Rattle.std.specs.Prelude.{Some, None, nat_lt, min, max, cond}
use Rattle.std.specs.declared.vec.Vec.{Vec}
use Rattle.std.specs.declared.alloc.Global.{Global}
use Rattle.relations_spec.specs.Sets.{In}
use Rattle.relations_spec.specs.Spans.{Span, span, covers, common}
use Rattle.relations_spec.specs.Timed.{Entry}
use Rattle.relations_spec.proofs.Held.{covers_is}
use Rattle.relations_spec.proofs.SetLaws.{in_append, in_left, in_right}
use Rattle.prima_base.specs.declared.value.Value.{Value}
use Rattle.prima_base.specs.declared.value.Val.{Val}
use Rattle.prima_base.specs.declared.timed_row.TimedRow.{TimedRow}
use Rattle.prima_base.specs.Order.{shown, IsBorrowed}
use Rattle.prima_base.specs.Columns.{IsValid}
use Rattle.prima_base.specs.Timed.{entry_of, entries_of}
use Rattle.cond_expr.specs.Rows.{AreValid, AreBorrowed}
use Rattle.join_exec_spec.specs.BorrowedOutputs.{AllBorrowed}
use Rattle.join_exec_spec.specs.Keeping.{IsValidRow}
use Rattle.history_store_spec.specs.Store.{Cell}
use Rattle.prima_base_rows.specs.Rows.{row_of}
use Rattle.join_exec.specs.Entries.{HasRow}
use Rattle.join_exec.specs.Walking.{IsHeldUntil, AreHeldUntil, IsRowOf, AreAdded, AreLeft, both}
use Rattle.join_exec.proofs.Passing.{row_of_left, row_more, row_wide}

valid_row : (values : List Val) → AreValid values → IsValidRow (map shown values)
valid_row [] h = tt
valid_row (v ∷ values) h = (h.0, valid_row values h.1)

valid_more : (values : List Val) (v : Val) → AreValid values → IsValid (shown v)
    → AreValid (values ++ v ∷ [])
valid_more [] v h k = (k, tt)
valid_more (w ∷ values) v h k = (h.0, valid_more values v h.1 k)

borrowed_more : (values : List Val) (v : Val) → AreBorrowed values → IsBorrowed v
    → AreBorrowed (values ++ v ∷ [])
borrowed_more [] v h k = (k, tt)
borrowed_more (w ∷ values) v h k = (h.0, borrowed_more values v h.1 k)

-- no values of no column
pub held_none : (id m end : ℕ) → m < end → AreHeldUntil [] id m end []
held_none id m end l = record {
  later = l;
  valid = tt;
  borrowed = tt;
  held = λ n f g. tt;
}

-- one value more
pub held_more : (columns : List (List Cell)) (cells : List Cell) (id m end ends until : ℕ)
    (values : List Val) (v : Val) → m < until → until ≤ end → until ≤ ends
    → AreHeldUntil columns id m end values → IsHeldUntil cells id m ends v
    → AreHeldUntil (columns ++ cells ∷ []) id m until (values ++ v ∷ [])
held_more columns cells id m end ends until values v l a b h k =
    record {
      later = l;
      valid = valid_more values v h.valid k.valid;
      borrowed = borrowed_more values v h.borrowed k.borrowed;
      held = λ n f g. subst (λ (row : List Value). HasRow (columns ++ cells ∷ []) id row n)
          (sym (map-append shown values (v ∷ [])))
          (row_more id n columns (map shown values) cells (shown v)
          (h.held n f (omega arith)) (k.held n f (omega arith)));
    }

-- the same of what is left of columns
pub held_of_left : (id m : ℕ) (a b : List (List Cell)) (end : ℕ) (values : List Val)
    → AreLeft id m a b → AreHeldUntil b id m end values → AreHeldUntil a id m end values
held_of_left id m a b end values l h = record {
  later = h.later;
  valid = h.valid;
  borrowed = h.borrowed;
  held = λ n f g. row_of_left id m id n a b (map shown values) l (h.held n f g);
}

-- nothing is put for no moment
pub added_none : (start : ℕ) (columns : List (List Cell)) (id : ℕ)
    (entries : List (Entry (List Value))) → AreAdded (span start start) columns id entries entries
added_none start columns id entries = record {
  kept = λ e h. h;
  new = λ e h. inl h;
  each = λ m h. let u = (covers_is (span start start) m).0 h in absurd (omega (arith, u.0, u.1));
}

-- the entry of a row that is put
abbrev pub held_entry : List Val → ℕ → ℕ → Entry (List Value)
held_entry values m until = record { item = map shown values; period = span m until }

more_moments : (start m until n : ℕ) → m ≤ until → covers (span start m) n ≡ true
    → covers (span start until) n ≡ true
more_moments start m until n l h =
    let u = (covers_is (span start m) n).0 h in
    (covers_is (span start until) n).1 (u.0, (let v = u.1 in omega arith))

more_of : (start m until : ℕ) (columns : List (List Cell)) (id : ℕ) (e : Entry (List Value))
    → m ≤ until → IsRowOf (span start m) columns id e → IsRowOf (span start until) columns id e
more_of start m until columns id e l h = record {
  wide = h.wide;
  valid = h.valid;
  within = λ n k.
      let w = h.within n k in
      (more_moments start m until n l w.0, w.1);
}

lent_row : (start m until : ℕ) (columns : List (List Cell)) (id : ℕ) (values : List Val)
    → start ≤ m → AreHeldUntil columns id m until values
    → IsRowOf (span start until) columns id (held_entry values m until)
lent_row start m until columns id values l h = record {
  wide = row_wide id m columns (map shown values)
      (h.held m (omega arith) h.later);
  valid = valid_row values h.valid;
  within = λ n k.
      let u = (covers_is (span m until) n).0 k in
      let a = u.0 in
      ((covers_is (span start until) n).1 (omega arith, u.1), h.held n u.0 u.1);
}

-- a row more
pub added_more : (start m until : ℕ) (columns : List (List Cell)) (id : ℕ)
    (before after : List (Entry (List Value))) (values : List Val) → start ≤ m
    → AreAdded (span start m) columns id before after → AreHeldUntil columns id m until values
    → AreAdded (span start until) columns id before (after ++ held_entry values m until ∷ [])
added_more start m until columns id before after values l h k =
    record {
      kept = λ e i. in_left e after (held_entry values m until ∷ []) (h.kept e i);
      new = λ e i. by_new e (in_append e after (held_entry values m until ∷ []) i);
      each = λ n i. by_moment n i (cases_lt n m);
    }
  where
    later : m ≤ until
    later = let a = k.later in omega arith

    last : IsRowOf (span start until) columns id (held_entry values m until)
    last = lent_row start m until columns id values l k

    wider : (e : Entry (List Value)) → In e before ⊎ IsRowOf (span start m) columns id e
        → In e before ⊎ IsRowOf (span start until) columns id e
    wider e (inl i) = inl i
    wider e (inr r) = inr (more_of start m until columns id e later r)

    by_new : (e : Entry (List Value)) → In e after ⊎ In e (held_entry values m until ∷ [])
        → In e before ⊎ IsRowOf (span start until) columns id e
    by_new e (inl i) = wider e (h.new e i)
    by_new e (inr (inl q)) = inr (subst (IsRowOf (span start until) columns id) q last)
    by_new e (inr (inr i)) = absurd i

    by_moment : (n : ℕ) → covers (span start until) n ≡ true → (n < m) ⊎ (m ≤ n)
        → (e : Entry (List Value)) × In e (after ++ held_entry values m until ∷ [])
        × IsRowOf (span start until) columns id e × (covers e.period n ≡ true)
    by_moment n i (inl a) =
        let u = (covers_is (span start until) n).0 i in
        let r = h.each n ((covers_is (span start m) n).1 (u.0, a)) in (
          r.0,
          in_left r.0 after (held_entry values m until ∷ []) r.1,
          more_of start m until columns id r.0 later r.2,
          r.3,
        )
    by_moment n i (inr a) =
        let u = (covers_is (span start until) n).0 i in (
          held_entry values m until,
          in_right (held_entry values m until) after (held_entry values m until ∷ []) (inl refl),
          last,
          (covers_is (span m until) n).1 (a, u.1),
        )

-- the entries of rows with one more
pub entries_more : (rows : List TimedRow) (values : Vec Val Global) (m until : ℕ)
    → entries_of (rows ++ row_of values (span m until) ∷ [])
    ≡ entries_of rows ++ held_entry values.items m until ∷ []
entries_more rows values m until = map-append entry_of rows (row_of values (span m until) ∷ [])

pub all_borrowed_more : (rows : List TimedRow) (row : TimedRow) → AllBorrowed rows
    → AreBorrowed row.values.items → AllBorrowed (rows ++ row ∷ [])
all_borrowed_more [] row h k = (k, tt)
all_borrowed_more (r ∷ rows) row h k = (h.0, all_borrowed_more rows row h.1 k)

-- the moments of two periods
pub in_both : (p q : Span) (m : ℕ) → covers (both p q) m ≡ true → (covers p m ≡ true)
    × (covers q m ≡ true)
in_both p q m h =
    let u = (covers_is (both p q) m).0 h in
    let a = u.0 in
    let b = u.1 in
    ((covers_is p m).1 (omega arith, omega arith), (covers_is q m).1 (omega arith, omega arith))

pub of_both : (p q : Span) (m : ℕ) → covers p m ≡ true → covers q m ≡ true
    → covers (both p q) m ≡ true
of_both p q m h k =
    let u = (covers_is p m).0 h in
    let v = (covers_is q m).0 k in
    (covers_is (both p q) m).1 (omega (arith, u.0, v.0), omega (arith, u.1, v.1))

pub common_some : (p q r : Span) → common p q ≡ Some r → r ≡ both p q
common_some p q r e = step (nat_lt (max p.start q.start) (min p.end q.end)) e
  where
    step : (b : Bool) → cond b (Some (both p q)) None ≡ Some r → r ≡ both p q
    step true h = cc
    step false h = absurd (cc)

-- where there is no common moment nothing is put
pub nothing_added : (p q : Span) (columns : List (List Cell)) (id : ℕ)
    (entries : List (Entry (List Value))) → ((m : ℕ) → covers (both p q) m ≡ true → ⊥)
    → AreAdded (both p q) columns id entries entries
nothing_added p q columns id entries f = record {
  kept = λ e h. h;
  new = λ e h. inl h;
  each = λ m h. absurd (f m h);
}

pub common_none : (p q : Span) → common p q ≡ None → (m : ℕ) → covers (both p q) m ≡ true → ⊥
common_none p q e m h = step (nat_lt (max p.start q.start) (min p.end q.end)) refl e
  where
    step : (b : Bool) → nat_lt (max p.start q.start) (min p.end q.end) ≡ b
        → cond b (Some (both p q)) None ≡ None → ⊥
    step true k n = absurd (cc)
    step false k n =
        let u = (covers_is (both p q) m).0 h in
        grind (arith, nat_tests)
