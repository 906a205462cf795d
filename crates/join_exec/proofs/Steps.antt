-- A step of a walk along the columns.
use Rattle.std.proofs.Common.{◌≡◌, ◌<◌, ◌≤◌, ◌+◌, ℕ, zero, suc, List, [], ◌∷◌, ◌++◌, length}
use Rattle.std.proofs.Common.{get_or, set, take, drop, ap, ◌∙◌, subst, arith}
use Rattle.std.proofs.lemmas.List.{length-map, map-set, drop-set-lt, take_more, take_more_set}
use Rattle.std.proofs.lemmas.List.Sums.{sum_by-set}
use Rattle.std.proofs.lemmas.Grind.{drop_more_same}
use Rattle.prima_base.specs.declared.value.Value.{Value}
use Rattle.prima_base.specs.declared.value.Val.{Val}
use Rattle.history_store_spec.specs.Store.{Cell}
use Rattle.join_exec.specs.declared.cursor.Cursor.{Cursor}
use Rattle.join_exec.specs.Entries.{Has, HasRow, InTurn, AllInTurn}
use Rattle.join_exec.specs.Walking.{left, all_left, unread, IsLeft, AreLeft}
use Rattle.join_exec.specs.Walking.{IsHeldUntil, AreHeldUntil}
use Rattle.join_exec.proofs.Passing.{left_more, column_value, turn_at}
use Rattle.join_exec.proofs.Adding.{held_more}

-- the column at a place that was not gone over is what the cursor there has left
column_at : (before : List (List Cell)) (cursors : List Cursor) (k : ℕ) (x : Cursor) (d : List Cell)
    → length cursors ≡ length before → k < length cursors → x ≡ get_or cursors k x
    → drop k (all_left cursors) ≡ drop k before → get_or before k d ≡ left x
column_at [] [] k x d long l i r = absurd (omega arith)
column_at [] (c ∷ cursors) k x d long l i r = absurd (omega arith)
column_at (b ∷ before) [] k x d long l i r = absurd (omega arith)
column_at (b ∷ before) (c ∷ cursors) zero x d long l i r = cc
column_at (b ∷ before) (c ∷ cursors) (suc k) x d long l i r =
    column_at before cursors k x d (omega arith) (omega arith) i r

module _ (before : List (List Cell)) (cursors : List Cursor) (k : ℕ) (x : Cursor)
    (long : length cursors ≡ length before) (below : k < length cursors)
    (is : x ≡ get_or cursors k x) (rest : drop k (all_left cursors) ≡ drop k before) where
  column_is : get_or before k (left x) ≡ left x
  column_is = column_at before cursors k x (left x) long below is rest

  within : k < length before
  within = omega arith

  pub turn_here : AllInTurn before → InTurn (left x)
  turn_here t = subst InTurn column_is (turn_at before k (left x) t within)

  pub value_here : (id m : ℕ) (row : List Value) → HasRow before id row m
      → (v : Value) × Has (left x) id v m
  value_here id m row h =
      let r = column_value id m before row k (left x) h within in
      (r.0, subst (λ (cells : List Cell). Has cells id r.0 m) column_is r.1)

  next_before : take (k + 1) before ≡ take k before ++ left x ∷ []
  next_before = take_more before k (left x) within
      ∙ ap (λ (c : List Cell). take k before ++ c ∷ []) column_is

  module _ (y : Cursor) where
    next_cursors : take (k + 1) (all_left (set cursors k y))
        ≡ take k (all_left cursors) ++ left y ∷ []
    next_cursors = ap (take (k + 1)) (map-set left cursors k y)
        ∙ take_more_set (all_left cursors) k (left y)
        (let n = length-map cursors left in omega arith)

    pub rest_here : drop (k + 1) (all_left (set cursors k y)) ≡ drop (k + 1) before
    rest_here = ap (drop (k + 1)) (map-set left cursors k y)
        ∙ drop-set-lt (k + 1) (all_left cursors) k (left y) (omega arith)
        ∙ drop_more_same (all_left cursors) before k rest

    pub left_here : (id m : ℕ) → AreLeft id m (take k before) (take k (all_left cursors))
        → IsLeft id m (left x) (left y)
        → AreLeft id m (take (k + 1) before) (take (k + 1) (all_left (set cursors k y)))
    left_here id m l h = rw (next_before, next_cursors)
        (left_more id m (take k before) (take k (all_left cursors)) (left x) (left y) l h)

    pub count_here : (steps now most : ℕ) → now + length y.unread ≡ steps + length x.unread
        → steps + unread cursors ≡ most → now + unread (set cursors k y) ≡ most
    count_here steps now most a b =
        let n = sum_by-set (λ (c : Cursor). length c.unread) cursors k y x below in
        let s = ap (λ (c : Cursor). length c.unread) is in
        omega (arith, n, s, a, b)

  pub held_here : (id m end ends until : ℕ) (values news : List Val) (v : Val) → m < until
      → until ≤ end → until ≤ ends → AreHeldUntil (take k before) id m end values
      → news ≡ values ++ v ∷ [] → IsHeldUntil (left x) id m ends v
      → AreHeldUntil (take (k + 1) before) id m until news
  held_here id m end ends until values news v l a b h n g = rw (next_before, n)
      (held_more (take k before) (left x) id m end ends until values v l a b h g)
