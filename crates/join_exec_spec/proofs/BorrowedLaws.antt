-- What is borrowed stays borrowed.
use Rattle.std.proofs.Common.{◌≡◌, ℕ, zero, suc, ◌+◌, ◌<◌, ◌≤◌, arith, Bool, true, false, not}
use Rattle.std.proofs.Common.{cond, List, [], ◌∷◌, ◌++◌, append_assoc, map, take, length, get_or}
use Rattle.std.proofs.Common.{refl, sym, ap, ◌∙◌, subst, inl, inr}
use Rattle.std.specs.Prelude.{◌&&◌, ◌==◌, pos, negsuc}
use Rattle.std.specs.Ordering.{is_eq}
use Rattle.std.proofs.lemmas.Bool.Decides.{nat_tests}
use Rattle.std.proofs.lemmas.Cmp.{tied_itself}
use Rattle.std.proofs.lemmas.List.{map-append, take_more, length-map}
use Rattle.std.specs.List.{filter}
use Rattle.prima_base.specs.declared.value.Value.{Value}
use Rattle.prima_base.specs.declared.value.Value.TheVariants.{Int, Text}
use Rattle.relations_spec.specs.Sets.{In}
use Rattle.prima_base.specs.declared.value.Val.{Val}
use Rattle.prima_base.specs.declared.value.Val.TheVariants.{Int as ValInt, Slice, Own}
use Rattle.prima_base.specs.declared.timed_row.TimedRow.{TimedRow}
use Rattle.prima_base.specs.Order.{shown, IsBorrowed, is_borrowed, same, value_eq}
use Rattle.prima_base.specs.OrderLaws.{same_is, value_total}
use Rattle.prima_base.specs.Timed.{entry_of, entries_of}
use Rattle.prima_base.proofs.BorrowedVals.{stays_borrowed}
use Rattle.cond_expr.specs.declared.expr.Whose.{Whose}
use Rattle.cond_expr.specs.declared.expr.Whose.TheVariants.{Free, Alias, Atom}
use Rattle.cond_expr.specs.declared.expr.Column.{Column}
use Rattle.cond_expr.specs.declared.expr.Expr.{Expr}
use Rattle.cond_expr.specs.Trees.{Tree, column, constant, length_of, joined, choose}
use Rattle.cond_expr.specs.Values.{Cells, value, truth, chosen}
use Rattle.cond_expr.specs.Seen.{tree}
use Rattle.cond_expr.specs.Rows.{AreBorrowed, names, cells, flat, lies_elsewhere}
use Rattle.join_exec_spec.specs.Answering.{outputs}
use Rattle.join_exec_spec.specs.Fitting.{Fit}
use Rattle.join_exec_spec.specs.BorrowedOutputs.{EachRow, AllBorrowed, BorrowedValues, RowBorrows}
use Rattle.join_exec_spec.specs.BorrowedOutputs.{RowsBorrow, is_borrowed_output}
use Rattle.join_exec_spec.specs.BorrowedOutputs.{StaysBorrowed}

-- ---- values of columns that are borrowed

both_true : (a b : Bool) → (a && b) ≡ true → (a ≡ true) × (b ≡ true)
both_true true true e = (refl, refl)
both_true true false e = absurd (cc)
both_true false b e = absurd (cc)

-- what a reference names is the column that it speaks of
named_borrowed : (which : Whose → List ℕ → Bool) (w : Whose) (n : List ℕ) (c : Column)
    → names w n c ≡ true
    → which w n ≡ true → which (Atom c.atom) c.name ≡ true
named_borrowed which Free n c e l = absurd (cc)
named_borrowed which (Alias a) n c e l = absurd (cc)
named_borrowed which (Atom i) n c e l =
    let both = both_true (c.atom == i) (same n c.name) e in
    let own : i ≡ c.atom = (let h = both.0 in grind (arith, nat_tests)) in
    subst (λ (j : ℕ). which (Atom j) c.name ≡ true) own
    (subst (λ (name : List ℕ). which (Atom i) name ≡ true) (same_is n c.name both.1) l)

-- ---- what is chosen

-- a constant that is another value is not the value
not_itself : (b : Bool) → b ≡ true → not b ≡ true → ⊥
not_itself true e so = cc
not_itself false e so = cc

another : (c v : Value) → not (value_eq c v) ≡ true → v ≡ c → ⊥
another c v so e = not_itself (value_eq c v) (subst (λ (x : Value). value_eq c x ≡ true) (sym e)
    (ap is_eq (tied_itself value_total c))) so

module _ (which : BorrowedValues) (v : Value) where
  -- the expression is a column whose value this is, one of those that are borrowed
  abbrev IsColumn : Cells → Tree → Type 0
  IsColumn at t = (w : Whose) × (n : List ℕ) × (t ≡ column w n) × (which w n v ≡ true)
      × (v ≡ at w n)

  -- what is borrowed chooses such a column
  chosen_column : (at : Cells) (t : Tree) → is_borrowed_output which v t ≡ true → v ≡ value at t
      → IsColumn at (chosen at t)
  chosen_column at (column w n) so is = (w, n, refl, so, is)
  chosen_column at (constant c) so is = absurd (another c v so is)
  chosen_column at (length_of t) so is = absurd (cc)
  chosen_column at (joined ts) so is = absurd (cc)
  chosen_column at (choose c a b) so is =
      let both = both_true (is_borrowed_output which v a) (is_borrowed_output which v b) so in
      step (truth at c) (chosen_column at a both.0) (chosen_column at b both.1) is
    where
      step : (t : Bool) → (v ≡ value at a → IsColumn at (chosen at a))
          → (v ≡ value at b → IsColumn at (chosen at b)) → v ≡ cond t (value at a) (value at b)
          → IsColumn at (cond t (chosen at a) (chosen at b))
      step true p q e = p e
      step false p q e = q e

module _ (which : BorrowedValues) where
  -- one that shows what a column holds that is borrowed, and lies elsewhere where that does
  borrowed_like : (columns : List Column) (values : List Val) (w : Whose) (n : List ℕ) (v : Val)
      → RowBorrows which columns values → which w n (shown v) ≡ true
      → shown v ≡ flat columns values w n
      → is_borrowed v ≡ lies_elsewhere columns values w n → IsBorrowed v
  borrowed_like columns values w n (ValInt k) l so e b = tt
  borrowed_like columns values w n (Slice s) l so e b = tt
  borrowed_like [] values w n (Own t) l so e b = absurd (cc)
  borrowed_like (c ∷ columns) [] w n (Own t) l so e b = absurd (cc)
  borrowed_like (c ∷ columns) (v ∷ values) w n (Own t) l so e b =
      step v (names w n c)
      (λ h s. l.0 (subst (λ (x : Value). which (Atom c.atom) c.name x ≡ true) s
      (named_borrowed (λ u m. which u m (shown (Own t))) w n c h so)))
      (λ p q. borrowed_like columns values w n (Own t) l.1 so p q) e b
    where
      step : (x : Val) (named : Bool)
          → (named ≡ true → shown (Own t) ≡ shown x → IsBorrowed x)
          → (shown (Own t) ≡ flat columns values w n
          → false ≡ lies_elsewhere columns values w n → ⊥)
          → shown (Own t) ≡ cond named (shown x) (flat columns values w n)
          → false ≡ cond named (is_borrowed x) (lies_elsewhere columns values w n) → ⊥
      step (ValInt k) true m f p q = cc
      step (Slice s) true m f p q = cc
      step (Own u) true m f p q = m refl p
      step (ValInt k) false m f p q = f p q
      step (Slice s) false m f p q = f p q
      step (Own u) false m f p q = f p q

  value_borrowed : (columns : List Column) (values : List Val) (t : Tree) (v : Val)
      → RowBorrows which columns values → shown v ≡ value (flat columns values) t
      → ((w : Whose) → (n : List ℕ) → chosen (flat columns values) t ≡ column w n
      → is_borrowed v ≡ lies_elsewhere columns values w n)
      → is_borrowed_output which (shown v) t ≡ true → IsBorrowed v
  value_borrowed columns values t v l e b so =
      let h = chosen_column which (shown v) (flat columns values) t so e in
      borrowed_like columns values h.0 h.1 v l h.3 h.4 (b h.0 h.1 h.2)

  stays_with : (outs : List Tree) (values : List Val) (t : Tree) (v : Val)
      → StaysBorrowed which outs values
      → (is_borrowed_output which (shown v) t ≡ true → IsBorrowed v)
      → StaysBorrowed which (outs ++ t ∷ []) (values ++ v ∷ [])
  stays_with [] [] t v s f = (f, tt)
  stays_with [] (x ∷ values) t v s f = absurd s
  stays_with (o ∷ outs) [] t v s f = absurd s
  stays_with (o ∷ outs) (x ∷ values) t v s f = (s.0, stays_with outs values t v s.1 f)

  -- one output more
  pub stays_more : (columns : List Column) (values : List Val) (outs : List Expr) (i : ℕ)
      (out : Expr) (row new : List Val) (v : Val) → i < length outs → out ≡ get_or outs i out
      → RowBorrows which columns values → StaysBorrowed which (map tree (take i outs)) row
      → shown v ≡ value (flat columns values) (tree out)
      → ((w : Whose) → (n : List ℕ) → chosen (flat columns values) (tree out) ≡ column w n
      → is_borrowed v ≡ lies_elsewhere columns values w n)
      → new ≡ row ++ v ∷ [] → StaysBorrowed which (map tree (take (i + 1) outs)) new
  stays_more columns values outs i out row new v below is borrows before e b made =
      let more : map tree (take (i + 1) outs) ≡ map tree (take i outs) ++ tree out ∷ [] =
      ap (map tree) (take_more outs i out below)
      ∙ map-append tree (take i outs) (get_or outs i out ∷ [])
      ∙ ap (λ (x : Expr). map tree (take i outs) ++ tree x ∷ []) (sym is) in
      let there : StaysBorrowed which (map tree (take i outs) ++ tree out ∷ []) (row ++ v ∷ []) =
      stays_with (map tree (take i outs)) row (tree out) v before
      (value_borrowed columns values (tree out) v borrows e b) in
      subst (λ (ts : List Tree). StaysBorrowed which ts new) (sym more)
      (subst (λ (vs : List Val). StaysBorrowed which (map tree (take i outs) ++ tree out ∷ []) vs)
      (sym made) there)

  -- values that show the same, and lie elsewhere where the others do
  borrows_like : (columns : List Column) (values new : List Val) → map shown new ≡ map shown values
      → map is_borrowed new ≡ map is_borrowed values → RowBorrows which columns values
      → RowBorrows which columns new
  borrows_like [] [] [] e b l = tt
  borrows_like [] [] (w ∷ new) e b l = absurd (cc)
  borrows_like [] (v ∷ values) new e b l = absurd l
  borrows_like (c ∷ columns) [] new e b l = absurd l
  borrows_like (c ∷ columns) (v ∷ values) [] e b l = absurd (cc)
  borrows_like (c ∷ columns) (v ∷ values) (w ∷ new) e b l =
      let first : shown w ≡ shown v = cc in
      let lies : is_borrowed w ≡ is_borrowed v = cc in
      let more : map shown new ≡ map shown values = cc in
      let all : map is_borrowed new ≡ map is_borrowed values = cc in (
        λ so. stays_borrowed v w first lies (l.0
            (subst (λ (x : Value). which (Atom c.atom) c.name x ≡ true) first so)),
        borrows_like columns values new more all l.1,
      )

  -- the values of both
  pub both_borrow : (ours theirs : List Column) (first second values : List Val)
      → map shown values ≡ map shown first ++ map shown second
      → map is_borrowed values ≡ map is_borrowed first ++ map is_borrowed second
      → RowBorrows which ours first → RowBorrows which theirs second
      → RowBorrows which (ours ++ theirs) values
  both_borrow [] theirs [] second values e b l k = borrows_like theirs second values e b k
  both_borrow [] theirs (v ∷ first) second values e b l k = absurd l
  both_borrow (c ∷ ours) theirs [] second values e b l k = absurd l
  both_borrow (c ∷ ours) theirs (v ∷ first) second [] e b l k = absurd (cc)
  both_borrow (c ∷ ours) theirs (v ∷ first) second (w ∷ values) e b l k =
      let one : shown w ≡ shown v = cc in
      let lies : is_borrowed w ≡ is_borrowed v = cc in
      let more : map shown values ≡ map shown first ++ map shown second = cc in
      let all : map is_borrowed values ≡ map is_borrowed first ++ map is_borrowed second = cc in (
        λ so. stays_borrowed v w one lies (l.0
            (subst (λ (x : Value). which (Atom c.atom) c.name x ≡ true) one so)),
        both_borrow ours theirs first second values more all l.1 k,
      )

  -- where all values are borrowed, those of any columns are
  row_borrows : (columns : List Column) (values : List Val) → length (map shown values)
      ≡ length columns → AreBorrowed values → RowBorrows which columns values
  row_borrows [] [] e l = tt
  row_borrows [] (v ∷ values) e l = absurd (omega (arith, e))
  row_borrows (c ∷ columns) [] e l = absurd (omega (arith, e))
  row_borrows (c ∷ columns) (v ∷ values) e l = (
    λ so. l.0,
    row_borrows columns values (omega (arith, e)) l.1,
  )

  pub rows_borrow : (columns : List Column) (rows : List TimedRow)
      → Fit (length columns) (entries_of rows) → AllBorrowed rows → RowsBorrow which columns rows
  rows_borrow columns [] f l = tt
  rows_borrow columns (row ∷ rows) f l = (
    row_borrows columns row.values.items (f (entry_of row) (inl refl)).0 l.0,
    rows_borrow columns rows (λ e i. f e (inr i)) l.1,
  )

-- ---- outputs that are the columns

-- a row of as many values, all of them 0
abbrev nothing : List Column → List Value
nothing columns = map (λ (c : Column). Int (pos 0)) columns

-- a reference that does not name a column says nothing of its value
without : (before after : List Column) (c : Column) (w : Whose) (n : List ℕ) (v : Value)
    → names w n c ≡ false
    → cells (before ++ c ∷ after) (nothing before ++ v ∷ nothing after) w n
    ≡ cells (before ++ c ∷ after) (nothing before ++ Int (pos 0) ∷ nothing after) w n
without [] after c w n v e =
    ap (λ (b : Bool). cond b v (cells after (nothing after) w n)) e
    ∙ sym (ap (λ (b : Bool). cond b (Int (pos 0)) (cells after (nothing after) w n)) e)
without (d ∷ before) after c w n v e =
    ap (λ (x : Value). cond (names w n d) (Int (pos 0)) x) (without before after c w n v e)

-- of a row of zeros each reference says 0
zero_both : (b : Bool) (v : Value) → v ≡ Int (pos 0) → cond b (Int (pos 0)) v ≡ Int (pos 0)
zero_both true v e = refl
zero_both false v e = e

says_zero : (columns : List Column) (w : Whose) (n : List ℕ)
    → cells columns (nothing columns) w n ≡ Int (pos 0)
says_zero [] w n = refl
says_zero (c ∷ columns) w n =
    zero_both (names w n c) (cells columns (nothing columns) w n) (says_zero columns w n)

all_zero : (before after : List Column) (c : Column) (w : Whose) (n : List ℕ)
    → cells (before ++ c ∷ after) (nothing before ++ Int (pos 0) ∷ nothing after) w n ≡ Int (pos 0)
all_zero [] after c w n = says_zero (c ∷ after) w n
all_zero (d ∷ before) after c w n =
    zero_both (names w n d)
    (cells (before ++ c ∷ after) (nothing before ++ Int (pos 0) ∷ nothing after) w n)
    (all_zero before after c w n)

abbrev number_of : Value → ℕ
number_of (Int (pos k)) = k
number_of (Int (negsuc k)) = 0
number_of (Text t) = 0

-- more than each number that a CASE may choose as a constant
abbrev beyond : Tree → ℕ
beyond (column w n) = 0
beyond (constant x) = suc (number_of x)
beyond (length_of t) = 0
beyond (joined ts) = 0
beyond (choose c a b) = beyond a + beyond b

-- one that says the number of a column beside zeros names it
names_it : (before after : List Column) (c : Column) (w : Whose) (n : List ℕ) (k : ℕ)
    → cells (before ++ c ∷ after) (nothing before ++ Int (pos (suc k)) ∷ nothing after) w n
    ≡ Int (pos (suc k)) → names w n c ≡ true
names_it before after c w n k says = step (names w n c) refl
  where
    step : (b : Bool) → names w n c ≡ b → names w n c ≡ true
    step true e = e
    step false e = absurd (let h : Int (pos (suc k)) ≡ Int (pos 0) = sym says
        ∙ without before after c w n (Int (pos (suc k))) e ∙ all_zero before after c w n in
        let i : suc k ≡ 0 = ap number_of h in omega (arith, i))

-- what follows of both values follows of the one that is chosen
either_way : (So : Type 0) (b : Bool) (x y v : Value) → cond b x y ≡ v → (x ≡ v → So)
    → (y ≡ v → So) → So
either_way So true x y v e f g = f e
either_way So false x y v e f g = g e

module _ (which : BorrowedValues) where
  -- from the columns after some others
  from : (front back : List Column) (outs : List Tree) (values : List Val)
      → ((row : List Value) → length row ≡ length back
      → map (value (cells (front ++ back) (nothing front ++ row))) outs ≡ row)
      → RowBorrows which back values → StaysBorrowed which outs values
  from front [] [] [] keeps l = tt
  from front [] [] (v ∷ values) keeps l = absurd l
  from front [] (t ∷ outs) values keeps l = absurd (let h = keeps [] refl in cc)
  from front (c ∷ after) outs [] keeps l = absurd l
  from front (c ∷ after) [] (v ∷ values) keeps l =
      absurd (let h = keeps (nothing (c ∷ after)) (length-map (c ∷ after) _) in cc)
  from front (c ∷ after) (t ∷ outs) (v ∷ values) keeps l = (
    first t (beyond t) (omega arith) (let h = keeps (Int (pos (suc (beyond t))) ∷ nothing after)
        (ap suc (length-map after (λ (d : Column). Int (pos 0)))) in cc),
    from (front ++ c ∷ []) after outs values
        (λ row wide. let h = keeps (Int (pos 0) ∷ row) (ap suc wide) in
        ap (λ (cs : List Column). map (value (cells cs (nothing (front ++ c ∷ []) ++ row))) outs)
        (append_assoc front (c ∷ []) after)
        ∙ ap (λ (zeros : List Value). map (value (cells (front ++ c ∷ after) (zeros ++ row))) outs)
        (map-append (λ (d : Column). Int (pos 0)) front (c ∷ []))
        ∙ ap (λ (vs : List Value). map (value (cells (front ++ c ∷ after) vs)) outs)
        (append_assoc (nothing front) (Int (pos 0) ∷ []) row)
        ∙ cc) l.1,
  )
    where
      first : (o : Tree) (k : ℕ) → beyond o ≤ k → value (cells (front ++ c ∷ after)
          (nothing front ++ Int (pos (suc k)) ∷ nothing after)) o ≡ Int (pos (suc k))
          → is_borrowed_output which (shown v) o ≡ true → IsBorrowed v
      first (column w n) k more says so =
          l.0 (named_borrowed (λ u m. which u m (shown v)) w n c
          (names_it front after c w n k says) so)
      first (constant x) k more says so = absurd (let i : number_of x ≡ suc k = ap number_of says in
          omega (arith, more, i))
      first (length_of o) k more says so = absurd (cc)
      first (joined ts) k more says so = absurd (cc)
      first (choose d a b) k more says so =
          let at : Cells = cells (front ++ c ∷ after)
          (nothing front ++ Int (pos (suc k)) ∷ nothing after) in
          let both = both_true (is_borrowed_output which (shown v) a)
          (is_borrowed_output which (shown v) b) so in
          either_way (IsBorrowed v) (truth at d) (value at a) (value at b) (Int (pos (suc k))) says
          (λ e. first a k (omega (arith, more)) e both.0)
          (λ e. first b k (omega (arith, more)) e both.1)

  -- values of columns that are borrowed stay so, as outputs that are the columns in their order
  pub columns_stay : (columns : List Column) (outs : List Tree) (values : List Val)
      → ((row : List Value) → length row ≡ length columns → outputs columns outs row ≡ row)
      → RowBorrows which columns values → StaysBorrowed which outs values
  columns_stay columns outs values keeps l = from [] columns outs values keeps l

-- ---- rows whose values are so

module _ (so : List Val → Type 0) where
  with_row : (rows : List TimedRow) (row : TimedRow) → EachRow so rows → so row.values.items
      → EachRow so (rows ++ row ∷ [])
  with_row [] row l m = (m, tt)
  with_row (r ∷ rows) row l m = (l.0, with_row rows row l.1 m)

  -- one row more
  pub each_more : (rows new : List TimedRow) (row : TimedRow) → new ≡ rows ++ row ∷ []
      → EachRow so rows → so row.values.items → EachRow so new
  each_more rows new row made l m = subst (EachRow so) (sym made) (with_row rows row l m)

  pub each_both : (xs ys : List TimedRow) → EachRow so xs → EachRow so ys → EachRow so (xs ++ ys)
  each_both [] ys l k = k
  each_both (x ∷ xs) ys l k = (l.0, each_both xs ys l.1 k)

  pub each_at : (rows : List TimedRow) (i : ℕ) (row : TimedRow) → i < length rows
      → row ≡ get_or rows i row → EachRow so rows → so row.values.items
  each_at [] i row below is l = absurd (omega arith)
  each_at (r ∷ rows) zero row below is l = subst (λ (x : TimedRow). so x.values.items) (sym is) l.0
  each_at (r ∷ rows) (suc i) row below is l = each_at rows i row (omega arith) is l.1

  pub each_member : (rows : List TimedRow) (row : TimedRow) → In row rows → EachRow so rows
      → so row.values.items
  each_member [] row i l = absurd i
  each_member (r ∷ rows) row (inl e) l = subst (λ (x : TimedRow). so x.values.items) e l.0
  each_member (r ∷ rows) row (inr i) l = each_member rows row i l.1

  pub all_members : (rows : List TimedRow) → ((row : TimedRow) → In row rows → so row.values.items)
      → EachRow so rows
  all_members [] h = tt
  all_members (r ∷ rows) h = (h r (inl refl), all_members rows (λ row i. h row (inr i)))

  pub each_kept : (p : TimedRow → Bool) (rows : List TimedRow) → EachRow so rows
      → EachRow so (filter p rows)
  each_kept p [] l = tt
  each_kept p (r ∷ rows) l = step (p r) (each_kept p rows l.1)
    where
      step : (b : Bool) → EachRow so (filter p rows)
          → EachRow so (cond b (r ∷ filter p rows) (filter p rows))
      step true h = (l.0, h)
      step false h = h

-- ---- one value more, which is a copy

module _ {X : Type 0} (f : Val → X) where
  pub copied_step : (values : List Val) (i : ℕ) (x v : Val) (into new : List Val) (start : List X)
      → i < length values → x ≡ get_or values i x
      → map f into ≡ start ++ map f (take i values) → f v ≡ f x → new ≡ into ++ v ∷ []
      → map f new ≡ start ++ map f (take (i + 1) values)
  copied_step values i x v into new start below is before alike made =
      ap (map f) made ∙ map-append f into (v ∷ [])
      ∙ ap (λ (l : List X). l ++ f v ∷ []) before
      ∙ append_assoc start (map f (take i values)) (f v ∷ [])
      ∙ ap (λ (l : List X). start ++ l) (
      ap (λ (y : X). map f (take i values) ++ y ∷ []) (alike ∙ ap f is)
      ∙ sym (map-append f (take i values) (get_or values i x ∷ []))
      ∙ ap (map f) (sym (take_more values i x below))
      )
