-- The rows of a run that a period may meet.
use Rattle.std.proofs.Common.{◌≡◌, ◌<◌, ◌≤◌, ◌+◌, ◌-◌, take_all, ℕ, zero, suc, Bool, true, false}
use Rattle.std.proofs.Common.{cond, List, [], ◌∷◌, ◌++◌, take, drop, length, get_or, length-append}
use Rattle.std.proofs.Common.{refl, sym, ap, ◌∙◌, subst, inl, inr, arith}
use Rattle.std.specs.Prelude.{nat_lt, min, max, Some, None}
use Rattle.std.specs.List.{flat_map}
use Rattle.std.proofs.lemmas.Bool.Decides.{nat_tests}
use Rattle.std.proofs.Math.ListN.{get_or-append}
use Rattle.std.proofs.Math.Seq.{get_or-append_seam}
use Rattle.std.proofs.lemmas.List.{append-nil, map-append, take-append-drop, get_or-take}
use Rattle.std.proofs.lemmas.List.{get_or-drop}
use Rattle.std.proofs.lemmas.List.Concat.{flat_map-append}
use Rattle.relations_spec.specs.Sets.{In}
use Rattle.relations_spec.specs.Spans.{Span, span, common}
use Rattle.relations_spec.specs.Timed.{Entry}
use Rattle.prima_base.specs.declared.value.Value.{Value}
use Rattle.prima_base.specs.declared.timed_row.TimedRow.{TimedRow}
use Rattle.prima_base.specs.Timed.{entry_of, entries_of}
use Rattle.join_exec_spec.specs.Choosing.{in_period, pair, paired}
use Rattle.relations_spec.proofs.SetLaws.{in_map, from_map}
use Rattle.join_exec_spec.specs.Keeping.{AllValid, IsValidRow}
use Rattle.prima_base.specs.declared.value.Val.{Val}
use Rattle.join_exec_spec.specs.BorrowedOutputs.{EachRow}
use Rattle.join_exec_spec.proofs.BorrowedLaws.{each_member, all_members}
use Rattle.join_exec_levels.specs.Grouping.{EndBy, AreInTurn, IsNear}

-- a member has a place
at_place : {X : Type 0} (xs : List X) (x : X) → In x xs → (j : ℕ) × (j < length xs)
    × (get_or xs j x ≡ x)
at_place [] x h = absurd h
at_place {X} (y ∷ xs) x (inl e) = let l : 0 < length (y ∷ xs) = omega arith in (0, l, e)
at_place {X} (y ∷ xs) x (inr h) = let r = at_place xs x h in let k = r.1 in
    let l : suc r.0 < length (y ∷ xs) = omega (arith, k) in (suc r.0, l, r.2)

in_left : {X : Type 0} (xs ys : List X) (x : X) → In x xs → In x (xs ++ ys)
in_left [] ys x h = absurd h
in_left (z ∷ xs) ys x (inl e) = inl e
in_left (z ∷ xs) ys x (inr h) = inr (in_left xs ys x h)

in_right : {X : Type 0} (xs ys : List X) (x : X) → In x ys → In x (xs ++ ys)
in_right [] ys x h = h
in_right (z ∷ xs) ys x h = inr (in_right xs ys x h)

short : {X : Type 0} (n : ℕ) (xs : List X) → length (take n xs) ≤ n
short zero xs = omega arith
short (suc n) [] = omega arith
short (suc n) (x ∷ xs) = let h = short n xs in omega (arith, h)

left_of : {X : Type 0} (n : ℕ) (xs : List X) → n ≤ length xs → n + length (drop n xs) ≡ length xs
left_of zero xs l = omega arith
left_of (suc n) [] l = absurd (omega arith)
left_of (suc n) (x ∷ xs) l = let h = left_of n xs (omega arith) in omega (arith, h)

-- the first rows have ended
pub first_ended : (rows : List TimedRow) (ends : List ℕ) (n moment : ℕ) → EndBy rows ends
    → length ends ≡ length rows → n ≤ length ends → (0 < n → get_or ends (n - 1) 0 ≤ moment)
    → (t : TimedRow) → In t (take n rows) → t.period.end ≤ moment
first_ended rows ends n moment by count within ended t i =
    let r = at_place (take n rows) t i in
    let few = short n rows in
    let l : r.0 < n = (let k = r.1 in omega (arith, k, few)) in
    let some : 0 < n = omega (arith, l) in
    let here : get_or rows r.0 t ≡ t = sym (get_or-take n rows r.0 t l) ∙ r.2 in
    let before : r.0 ≤ n - 1 = omega (arith, l) in
    let below : n - 1 < length rows = omega (arith, l, within, count) in
    let most : (get_or rows r.0 t).period.end ≤ get_or ends (n - 1) 0 =
    by (n - 1) r.0 t before below in
    let last : (get_or rows r.0 t).period.end ≤ moment =
    (let e = ended some in omega (arith, e, most)) in
    subst (λ (x : TimedRow). x.period.end ≤ moment) here last

-- those after one that starts later start later
pub rest_later : (rows : List TimedRow) (n k moment : ℕ) → AreInTurn rows → n ≤ length rows
    → k ≤ length (drop n rows) → ((d : TimedRow) → k < length (drop n rows)
    → moment ≤ (get_or (drop n rows) k d).period.start)
    → (t : TimedRow) → In t (drop k (drop n rows)) → moment ≤ t.period.start
rest_later rows n k moment turn nl kl from t i =
    let r = at_place (drop k (drop n rows)) t i in
    let a = left_of n rows nl in
    let b = left_of k (drop n rows) kl in
    let here : get_or rows (n + (k + r.0)) t ≡ t = sym (get_or-drop n rows (k + r.0) t)
    ∙ sym (get_or-drop k (drop n rows) r.0 t) ∙ r.2 in
    let some : k < length (drop n rows) = (let l = r.1 in omega (arith, l, b)) in
    let first : moment ≤ (get_or rows (n + k) t).period.start =
    subst (λ (x : TimedRow). moment ≤ x.period.start) (get_or-drop n rows k t) (from t some) in
    let low : n + k ≤ n + (k + r.0) = omega arith in
    let high : n + (k + r.0) < length rows = (let l = r.1 in omega (arith, l, a, b)) in
    let on : (get_or rows (n + k) t).period.start ≤ (get_or rows (n + (k + r.0)) t).period.start =
    turn (n + k) (n + (k + r.0)) t low high in
    let last : moment ≤ (get_or rows (n + (k + r.0)) t).period.start = omega (arith, first, on) in
    subst (λ (x : TimedRow). moment ≤ x.period.start) here last

-- all that are left
pub all_left : {X : Type 0} (n : ℕ) (xs : List X) → n ≤ length xs
    → take (length xs - n) (drop n xs) ≡ drop n xs
all_left n xs l = let h = left_of n xs l in take_all (length xs - n) (drop n xs) (omega (arith, h))

-- what the two make of a group
pub near_live : (period : Span) (rows piece : List TimedRow) (n : ℕ) → piece ≡ drop n rows
    → ((t : TimedRow) → In t (take n rows) → t.period.end ≤ period.start) → IsNear period rows piece
near_live period rows piece n e h = record {
  before = take n rows;
  after = [];
  is = sym (take-append-drop n rows) ∙ ap (λ (ts : List TimedRow). take n rows ++ ts)
      (sym e ∙ sym (append-nil piece));
  ended = h;
  later = λ t i. absurd i;
}

pub near_both : (period : Span) (rows piece : List TimedRow) (n k : ℕ)
    → piece ≡ take k (drop n rows) → ((t : TimedRow) → In t (take n rows)
    → t.period.end ≤ period.start)
    → ((t : TimedRow) → In t (drop k (drop n rows)) → period.end ≤ t.period.start)
    → IsNear period rows piece
near_both period rows piece n k e h g = record {
  before = take n rows;
  after = drop k (drop n rows);
  is = sym (take-append-drop n rows) ∙ ap (λ (ts : List TimedRow). take n rows ++ ts)
      (sym (take-append-drop k (drop n rows))
      ∙ ap (λ (ts : List TimedRow). ts ++ drop k (drop n rows)) (sym e));
  ended = h;
  later = g;
}

-- what is near is of the group
pub near_in : (period : Span) (rows piece : List TimedRow) → IsNear period rows piece
    → (t : TimedRow) → In t piece → In t rows
near_in period rows piece near t i = subst (λ (ts : List TimedRow). In t ts) (sym near.is)
    (in_right near.before (piece ++ near.after) t (in_left piece near.after t i))

apart : (p q : Span) → nat_lt (max p.start q.start) (min p.end q.end) ≡ false → common p q ≡ None
apart p q h = ap (λ b. cond b (Some (span (max p.start q.start) (min p.end q.end))) None) h

module _ (keep : List Value → List Value → Bool) (p : Entry (List Value)) where
  no_pair : (t : TimedRow) → common p.period t.period ≡ None → paired keep p (entry_of t) ≡ []
  no_pair t h = step (keep p.item (entry_of t).item)
    where
      step : (b : Bool) → cond b (pair p (entry_of t)) [] ≡ []
      step true = ap (in_period (p.item ++ (entry_of t).item)) h
      step false = refl

  no_pairs : (rows : List TimedRow) → ((t : TimedRow) → In t rows → common p.period t.period ≡ None)
      → flat_map (paired keep p) (entries_of rows) ≡ []
  no_pairs [] h = refl
  no_pairs (t ∷ rows) h = ap (λ (es : List (Entry (List Value))).
      es ++ flat_map (paired keep p) (entries_of rows)) (no_pair t (h t (inl refl)))
      ∙ no_pairs rows (λ x i. h x (inr i))

  when_ended : (q : Span) → q.end ≤ p.period.start → common p.period q ≡ None
  when_ended q l = apart p.period q (grind (arith, nat_tests))

  when_later : (q : Span) → p.period.end ≤ q.start → common p.period q ≡ None
  when_later q l = apart p.period q (grind (arith, nat_tests))

  -- the others give no pair
  pub near_pairs : (rows piece : List TimedRow) → IsNear p.period rows piece
      → flat_map (paired keep p) (entries_of piece) ≡ flat_map (paired keep p) (entries_of rows)
  near_pairs rows piece near =
      sym (
      ap (λ (ts : List TimedRow). flat_map (paired keep p) (entries_of ts)) near.is
      ∙ ap (flat_map (paired keep p)) (map-append entry_of near.before (piece ++ near.after))
      ∙ flat_map-append (paired keep p) (entries_of near.before) (entries_of (piece ++ near.after))
      ∙ ap (λ (es : List (Entry (List Value))).
      es ++ flat_map (paired keep p) (entries_of (piece ++ near.after)))
      (no_pairs near.before (λ t i. when_ended t.period (near.ended t i)))
      ∙ ap (flat_map (paired keep p)) (map-append entry_of piece near.after)
      ∙ flat_map-append (paired keep p) (entries_of piece) (entries_of near.after)
      ∙ ap (λ (es : List (Entry (List Value))). flat_map (paired keep p) (entries_of piece) ++ es)
      (no_pairs near.after (λ t i. when_later t.period (near.later t i)))
      ∙ append-nil (flat_map (paired keep p) (entries_of piece))
      )

-- one row more
module _ (rows : List TimedRow) (ends : List ℕ) (row : TimedRow) where
  pub more_ends : (last : ℕ) → EndBy rows ends → length ends ≡ length rows
      → (0 < length ends → last ≡ get_or ends (length ends - 1) 0)
      → EndBy (rows ++ row ∷ []) (ends ++ max last row.period.end ∷ [])
  more_ends last by count is = λ i j d ji l. step i j d ji l (nat_lt i (length rows))
      (nat_lt j (length rows)) refl refl
    where
      step : (i j : ℕ) (d : TimedRow) → j ≤ i → i < length (rows ++ row ∷ []) → (a b : Bool)
          → nat_lt i (length rows) ≡ a → nat_lt j (length rows) ≡ b
          → (get_or (rows ++ row ∷ []) j d).period.end ≤ get_or
          (ends ++ max last row.period.end ∷ []) i 0
      step i j d ji l true b e f =
          let il : i < length rows = grind (arith, nat_tests) in
          let jl : j < length rows = omega (arith, ji, il) in
          let el : i < length ends = omega (arith, count, il) in
          let h : (get_or rows j d).period.end ≤ get_or ends i 0 = by i j d ji il in
          rw (
            get_or-append rows (row ∷ []) d j jl,
            get_or-append ends (max last row.period.end ∷ []) 0 i el,
          ) h
      step i j d ji l false true e f =
          let jl : j < length rows = grind (arith, nat_tests) in
          let wide : length (rows ++ row ∷ []) ≡ length rows + 1 = rw length-append refl in
          let il : i ≡ length ends = grind (arith, nat_tests) in
          let some : 0 < length ends = omega (arith, count, jl) in
          let h : (get_or rows j d).period.end ≤ get_or ends (length ends - 1) 0 =
          (let a : j ≤ length ends - 1 = omega (arith, count, jl) in
          let b : length ends - 1 < length rows = omega (arith, count, jl) in
          by (length ends - 1) j d a b) in
          let g : (get_or rows j d).period.end ≤ max last row.period.end =
          (let k = is some in grind (arith, nat_tests)) in
          rw (
            get_or-append rows (row ∷ []) d j jl,
            il,
            get_or-append_seam ends (max last row.period.end) [] 0,
          ) g
      step i j d ji l false false e f =
          let wide : length (rows ++ row ∷ []) ≡ length rows + 1 = rw length-append refl in
          let il : i ≡ length ends = grind (arith, nat_tests) in
          let jl : j ≡ length rows = grind (arith, nat_tests) in
          let g : row.period.end ≤ max last row.period.end = grind (arith, nat_tests) in
          rw (
            jl,
            get_or-append_seam rows row [] d,
            il,
            get_or-append_seam ends (max last row.period.end) [] 0,
          ) g

  pub more_turn : AreInTurn rows → ((d : TimedRow) → 0 < length rows
      → (get_or rows (length rows - 1) d).period.start ≤ row.period.start)
      → AreInTurn (rows ++ row ∷ [])
  more_turn turn next = λ i j d ij l. step i j d ij l (nat_lt i (length rows))
      (nat_lt j (length rows)) refl refl
    where
      step : (i j : ℕ) (d : TimedRow) → i ≤ j → j < length (rows ++ row ∷ []) → (a b : Bool)
          → nat_lt i (length rows) ≡ a → nat_lt j (length rows) ≡ b
          → (get_or (rows ++ row ∷ []) i d).period.start ≤
          (get_or (rows ++ row ∷ []) j d).period.start
      step i j d ij l a true e f =
          let jl : j < length rows = grind (arith, nat_tests) in
          let il : i < length rows = omega (arith, ij, jl) in
          let h : (get_or rows i d).period.start ≤ (get_or rows j d).period.start =
          turn i j d ij jl in
          rw (get_or-append rows (row ∷ []) d i il, get_or-append rows (row ∷ []) d j jl) h
      step i j d ij l true false e f =
          let il : i < length rows = grind (arith, nat_tests) in
          let wide : length (rows ++ row ∷ []) ≡ length rows + 1 = rw length-append refl in
          let jl : j ≡ length rows = grind (arith, nat_tests) in
          let some : 0 < length rows = omega (arith, il) in
          let h : (get_or rows i d).period.start ≤ (get_or rows (length rows - 1) d).period.start =
          (let a : i ≤ length rows - 1 = omega (arith, il) in
          let b : length rows - 1 < length rows = omega (arith, il) in
          turn i (length rows - 1) d a b) in
          let g : (get_or rows i d).period.start ≤ row.period.start =
          (let k = next d some in omega (arith, h, k)) in
          rw (get_or-append rows (row ∷ []) d i il, jl, get_or-append_seam rows row [] d) g
      step i j d ij l false false e f =
          let wide : length (rows ++ row ∷ []) ≡ length rows + 1 = rw length-append refl in
          let il : i ≡ length rows = grind (arith, nat_tests) in
          let jl : j ≡ length rows = grind (arith, nat_tests) in
          rw (il, jl, get_or-append_seam rows row [] d) (omega arith)

-- the rows that entries show
shown_in : (rows : List TimedRow) (e : Entry (List Value)) → In e (entries_of rows) → (t : TimedRow)
    × In t rows × (entry_of t ≡ e)
shown_in rows e i = from_map entry_of e rows i

pub valid_piece : (period : Span) (rows piece : List TimedRow) → IsNear period rows piece
    → AllValid (entries_of rows) → AllValid (entries_of piece)
valid_piece period rows piece near h = λ e i. let r = shown_in piece e i in
    subst (λ (x : Entry (List Value)). IsValidRow x.item) r.2
    (h (entry_of r.0) (in_map entry_of r.0 rows (near_in period rows piece near r.0 r.1)))

pub near_each : (so : List Val → Type 0) (period : Span) (rows piece : List TimedRow)
    → IsNear period rows piece → EachRow so rows → EachRow so piece
near_each so period rows piece near l = all_members so piece
    (λ t i. each_member so rows t (near_in period rows piece near t i) l)
