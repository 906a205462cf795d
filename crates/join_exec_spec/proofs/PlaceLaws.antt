-- What references stand for, by their places, and what equal places say.
use Rattle.std.proofs.Common.{◌≡◌, ◌<◌, ◌≤◌, ◌+◌, ◌-◌, ℕ, zero, suc, Bool, true, false, cond, not}
use Rattle.std.proofs.Common.{List, [], ◌∷◌, ◌++◌, length, get_or, length-append, refl, sym, ap}
use Rattle.std.proofs.Common.{◌∙◌, subst, arith, inl, inr}
use Rattle.std.specs.Prelude.{◌&&◌, Option, Some, None, nat_lt, pos, IfSome}
use Rattle.std.specs.List.{position_or_len}
use Rattle.std.specs.Ordering.{is_eq, ordering_then}
use Rattle.std.specs.declared.cmp.Ordering.{Ordering}
use Rattle.std.specs.declared.cmp.Ordering.TheVariants.{Less, Equal, Greater}
use Rattle.std.proofs.lemmas.Bool.Decides.{nat_tests}
use Rattle.std.proofs.lemmas.List.{get_or_append_left}
use Rattle.std.proofs.Math.Seq.{get_or-append_right}
use Rattle.relations_spec.specs.Sets.{In}
use Rattle.prima_base.specs.declared.value.Value.{Value}
use Rattle.prima_base.specs.declared.value.Value.TheVariants.{Int}
use Rattle.prima_base.specs.Order.{value_cmp}
use Rattle.prima_base.specs.OrderLaws.{row_exact}
use Rattle.cond_expr.specs.declared.expr.Whose.{Whose}
use Rattle.cond_expr.specs.declared.expr.ColRef.{ColRef}
use Rattle.cond_expr.specs.declared.expr.Column.{Column}
use Rattle.cond_expr.specs.Rows.{names, cells}
use Rattle.cond_expr.specs.Trees.{Test, never, always, compared, all_of, some_of, fails, Tests}
use Rattle.cond_expr.specs.Trees.{no_tests, a_test}
use Rattle.cond_expr.specs.Values.{all_true}
use Rattle.cond_expr.specs.Faults.{test_references}
use Rattle.cond_expr.proofs.TreeLaws.{truth_like}
use Rattle.std.specs.Borrow.{Bor}
use Rattle.std.proofs.lemmas.List.{map-append}
use Rattle.cond_expr.specs.declared.expr.Cond.{Cond}
use Rattle.cond_expr.specs.Seen.{test}
use Rattle.join_exec_spec.specs.Keeping.{value_at, values_at, meets, meets_all, borrowed_tests}
use Rattle.join_exec_spec.specs.Placing.{place, is_below, all_below}
use Rattle.cond_expr.specs.Parts.{parts, all_parts as all_parts}
use Rattle.cond_expr.proofs.ReferenceLaws.{Each, test_within_each}

-- the cell of a reference stands at its place
at_first : (cs : List Column) (vs : List Value) (w : Whose) (n : List ℕ)
    → position_or_len (names w n) cs < length cs
    → cells cs vs w n ≡ get_or vs (position_or_len (names w n) cs) (Int (pos 0))
at_first [] vs w n h = absurd (omega arith)
at_first (c ∷ cs) [] w n h = refl
at_first (c ∷ cs) (v ∷ vs) w n h = step (at_first cs vs w n) (names w n c) h
  where
    step : (position_or_len (names w n) cs < length cs
        → cells cs vs w n ≡ get_or vs (position_or_len (names w n) cs) (Int (pos 0)))
        → (b : Bool) → cond (not b) (1 + position_or_len (names w n) cs) 0 < length (c ∷ cs)
        → cond b v (cells cs vs w n) ≡ get_or (v ∷ vs)
        (cond (not b) (1 + position_or_len (names w n) cs) 0) (Int (pos 0))
    step f true k = refl
    step f false k = let e : 1 + position_or_len (names w n) cs
        ≡ suc (position_or_len (names w n) cs) = omega arith in f (omega arith)
        ∙ ap (λ i. get_or (v ∷ vs) i (Int (pos 0))) (sym e)

found : (cs : List Column) (vs : List Value) (w : Whose) (n : List ℕ) (b : Bool)
    → nat_lt (position_or_len (names w n) cs) (length cs) ≡ b
    → IfSome (cond b (Some (position_or_len (names w n) cs)) None)
    (λ i. cells cs vs w n ≡ value_at vs i)
found cs vs w n true e = at_first cs vs w n (grind (arith, nat_tests))
found cs vs w n false e = tt

pub at_place : (cs : List Column) (vs : List Value) (w : Whose) (n : List ℕ)
    → IfSome (place cs w n) (λ i. cells cs vs w n ≡ value_at vs i)
at_place cs vs w n = found cs vs w n (nat_lt (position_or_len (names w n) cs) (length cs)) refl

pub at_each_place : (cs : List Column) (w : Whose) (n : List ℕ) (o : Option ℕ) → place cs w n ≡ o
    → IfSome o (λ i. (vs : List Value) → cells cs vs w n ≡ value_at vs i)
at_each_place cs w n None e = tt
at_each_place cs w n (Some i) e = λ vs. subst
    (λ (o : Option ℕ). IfSome o (λ i. cells cs vs w n ≡ value_at vs i)) e (at_place cs vs w n)

-- what comes after changes nothing before it
pub first_value : (xs ys : List Value) (i : ℕ) → i < length xs
    → value_at (xs ++ ys) i ≡ value_at xs i
first_value xs ys i h = get_or_append_left xs ys (Int (pos 0)) i h

pub later_value : (xs ys : List Value) (i : ℕ) → length xs ≤ i
    → value_at (xs ++ ys) i ≡ value_at ys (i - length xs)
later_value xs ys i h = get_or-append_right xs ys i (Int (pos 0)) h

-- two values that tie are one
pub one_value : (a b : Value) → is_eq (value_cmp a b) ≡ true → a ≡ b
one_value a b e = step (value_cmp a b) refl e
  where
    head : (a ∷ []) ≡ (b ∷ []) → a ≡ b
    head h = cc

    step : (o : Ordering) → value_cmp a b ≡ o → is_eq o ≡ true → a ≡ b
    step Less q h = absurd (cc)
    step Equal q h = head (row_exact.same (a ∷ []) (b ∷ [])
        (ap (λ (r : Ordering). ordering_then r Equal) q))
    step Greater q h = absurd (cc)

-- equal places of a choice with a row, and of what the two begin
module _ (cs : List Column) (c : Test) (a b taken width : ℕ) (h : (row : List Value)
    → meets cs c row ≡ is_eq (value_cmp (value_at row a) (value_at row b))) where
  in_both : (p y z : List Value) (i : ℕ) → length p ≡ taken → length y ≡ width → i < taken
      → value_at ((p ++ y) ++ z) i ≡ value_at p i
  in_both p y z i e f l = first_value (p ++ y) z i (rw length-append (omega arith))
      ∙ first_value p y i (omega arith)

  in_second : (p y z : List Value) (i : ℕ) → length p ≡ taken → length y ≡ width → taken ≤ i
      → i - taken < width → value_at ((p ++ y) ++ z) i ≡ value_at y (i - taken)
  in_second p y z i e f k l = first_value (p ++ y) z i (rw length-append (omega arith))
      ∙ later_value p y i (omega arith) ∙ ap (λ j. value_at y (i - j)) e

  pub key_first : a < taken → taken ≤ b → b - taken < width → (p y z : List Value)
      → length p ≡ taken → length y ≡ width → meets cs c ((p ++ y) ++ z) ≡ true
      → value_at y (b - taken) ≡ value_at p a
  key_first k l m p y z e f t =
      sym (in_second p y z b e f l m) ∙ sym (one_value (value_at ((p ++ y) ++ z) a)
      (value_at ((p ++ y) ++ z) b) (sym (h ((p ++ y) ++ z)) ∙ t)) ∙ in_both p y z a e f k

  pub key_second : b < taken → taken ≤ a → a - taken < width → (p y z : List Value)
      → length p ≡ taken → length y ≡ width → meets cs c ((p ++ y) ++ z) ≡ true
      → value_at y (a - taken) ≡ value_at p b
  key_second k l m p y z e f t =
      sym (in_second p y z a e f l m) ∙ one_value (value_at ((p ++ y) ++ z) a)
      (value_at ((p ++ y) ++ z) b) (sym (h ((p ++ y) ++ z)) ∙ t) ∙ in_both p y z b e f k

-- what is so of each reference that is placed below a bound
each_below : (cs : List Column) (b : ℕ) (P : Whose → List ℕ → Type 0)
    → ((w : Whose) (n : List ℕ) → is_below b (place cs w n) ≡ true → P w n) → (rs : List ColRef)
    → all_below cs b rs ≡ true → Each P rs
each_below cs b P f [] h r i = absurd i
each_below cs b P f (q ∷ rs) h r i = step (each_below cs b P f rs)
    (is_below b (place cs q.whose q.name)) refl h i
  where
    step : (all_below cs b rs ≡ true → Each P rs) → (t : Bool)
        → is_below b (place cs q.whose q.name) ≡ t → (t && all_below cs b rs) ≡ true → In r (q ∷ rs)
        → P r.whose r.name
    step g true e k (inl s) = subst (λ (y : ColRef). P y.whose y.name) s (f q.whose q.name e)
    step g true e k (inr s) = g k r s
    step g false e k s = absurd (cc)

-- a condition whose references are all placed is decided
module _ (cs : List Column) (x z : List Value) where
  one_alike : (w : Whose) (n : List ℕ) (o : Option ℕ) → place cs w n ≡ o
      → is_below (length x) o ≡ true → cells cs (x ++ z) w n ≡ cells cs x w n
  one_alike w n None e h = absurd (cc)
  one_alike w n (Some i) e h = at_each_place cs w n (Some i) e (x ++ z)
      ∙ first_value x z i (grind (arith, nat_tests)) ∙ sym (at_each_place cs w n (Some i) e x)

  pub settled : (c : Test) → all_below cs (length x) (test_references c) ≡ true
      → meets cs c (x ++ z) ≡ meets cs c x
  settled c h = truth_like (λ w n. cells cs (x ++ z) w n ≡ cells cs x w n) (cells cs (x ++ z))
      (cells cs x) (λ w n e. e) c
      (test_within_each (λ w n. cells cs (x ++ z) w n ≡ cells cs x w n) c
      (each_below cs (length x) (λ w n. cells cs (x ++ z) w n ≡ cells cs x w n)
      (λ w n. one_alike w n (place cs w n) refl) (test_references c) h))

-- further columns after change nothing of it either
module _ (rest : List Column) (z : List Value) where
  first_cells : (cs : List Column) (x : List Value) (w : Whose) (n : List ℕ) → length x ≡ length cs
      → position_or_len (names w n) cs < length cs
      → cells (cs ++ rest) (x ++ z) w n ≡ cells cs x w n
  first_cells [] x w n l h = absurd (omega arith)
  first_cells (c ∷ cs) [] w n l h = absurd (omega arith)
  first_cells (c ∷ cs) (v ∷ x) w n l h = step (first_cells cs x w n (omega arith)) (names w n c) h
    where
      step : (position_or_len (names w n) cs < length cs
          → cells (cs ++ rest) (x ++ z) w n ≡ cells cs x w n)
          → (b : Bool) → cond (not b) (1 + position_or_len (names w n) cs) 0 < length (c ∷ cs)
          → cond b v (cells (cs ++ rest) (x ++ z) w n) ≡ cond b v (cells cs x w n)
      step f true k = refl
      step f false k = f (omega arith)

  own_cells : (cs : List Column) (x : List Value) (w : Whose) (n : List ℕ) → length x ≡ length cs
      → is_below (length cs) (place cs w n) ≡ true
      → cells (cs ++ rest) (x ++ z) w n ≡ cells cs x w n
  own_cells cs x w n l h = step (nat_lt (position_or_len (names w n) cs) (length cs)) refl h
    where
      step : (b : Bool) → nat_lt (position_or_len (names w n) cs) (length cs) ≡ b
          → is_below (length cs) (cond b (Some (position_or_len (names w n) cs)) None) ≡ true
          → cells (cs ++ rest) (x ++ z) w n ≡ cells cs x w n
      step true e k = first_cells cs x w n l (grind (arith, nat_tests))
      step false e k = absurd (cc)

  pub settled_alone : (cs : List Column) (x : List Value) (c : Test) → length x ≡ length cs
      → all_below cs (length cs) (test_references c) ≡ true
      → meets (cs ++ rest) c (x ++ z) ≡ meets cs c x
  settled_alone cs x c l h = truth_like (λ w n. cells (cs ++ rest) (x ++ z) w n ≡ cells cs x w n)
      (cells (cs ++ rest) (x ++ z)) (cells cs x) (λ w n e. e) c
      (test_within_each (λ w n. cells (cs ++ rest) (x ++ z) w n ≡ cells cs x w n) c
      (each_below cs (length cs) (λ w n. cells (cs ++ rest) (x ++ z) w n ≡ cells cs x w n)
      (λ w n. own_cells cs x w n l) (test_references c) h))

-- a condition holds where its parts do
module _ (cs : List Column) (row : List Value) where
  both_true : (a b : Bool) → (a && b) ≡ true → (a ≡ true) × (b ≡ true)
  both_true true b h = (refl, h)
  both_true false b h = absurd (cc)

  in_turn : (a b c : Bool) → (a && (b && c)) ≡ ((a && b) && c)
  in_turn true b c = refl
  in_turn false b c = refl

  alone : (b : Bool) → (b && true) ≡ b
  alone true = refl
  alone false = refl

  all_append : (es bs : List Test) → meets_all cs (es ++ bs) row
      ≡ (meets_all cs es row && meets_all cs bs row)
  all_append [] bs = refl
  all_append (c ∷ es) bs = ap (λ b. meets cs c row && b) (all_append es bs)
      ∙ in_turn (meets cs c row) (meets_all cs es row) (meets_all cs bs row)

  mutual
    pub parts_meet : (c : Test) → meets_all cs (parts c) row ≡ meets cs c row
    parts_meet never = refl
    parts_meet always = refl
    parts_meet (compared o a b) = alone (meets cs (compared o a b) row)
    parts_meet (all_of ts) = all_parts_meet ts
    parts_meet (some_of ts) = alone (meets cs (some_of ts) row)
    parts_meet (fails c) = alone (meets cs (fails c) row)

    all_parts_meet : (ts : Tests) → meets_all cs (all_parts ts) row ≡ all_true (cells cs row) ts
    all_parts_meet no_tests = refl
    all_parts_meet (a_test c ts) = all_append (parts c) (all_parts ts)
        ∙ ap (λ b. b && meets_all cs (all_parts ts) row) (parts_meet c)
        ∙ ap (λ b. meets cs c row && b) (all_parts_meet ts)

  -- each of them holds where all do, and one more with them
  pub part_met : (ps : List (Bor Cond)) (i : ℕ) (b : Bor Cond) → i < length ps → b ≡ get_or ps i b
      → meets_all cs (borrowed_tests ps) row ≡ true → meets cs (test b.now) row ≡ true
  part_met [] i b l e h = absurd (omega arith)
  part_met (s ∷ ps) zero b l e h = ap (λ (q : Bor Cond). meets cs (test q.now) row) e
      ∙ (both_true (meets cs (test s.now) row) (meets_all cs (borrowed_tests ps) row) h).0
  part_met (s ∷ ps) (suc i) b l e h = part_met ps i b (omega arith) e
      (both_true (meets cs (test s.now) row) (meets_all cs (borrowed_tests ps) row) h).1

  pub one_more_met : (ts : List Test) (t : Test) → meets_all cs ts row ≡ true
      → meets cs t row ≡ true → meets_all cs (ts ++ t ∷ []) row ≡ true
  one_more_met ts t h k = all_append ts (t ∷ []) ∙ rw (h, k) refl

  pub one_more_test : (ts more : List (Bor Cond)) (b : Bor Cond) → more ≡ ts ++ b ∷ []
      → meets_all cs (borrowed_tests ts) row ≡ true → meets cs (test b.now) row ≡ true
      → meets_all cs (borrowed_tests more) row ≡ true
  one_more_test ts more b e h k = ap (λ (q : List (Bor Cond)). meets_all cs (borrowed_tests q) row)
      e ∙ ap (λ (q : List Test). meets_all cs q row)
      (map-append (λ (q : Bor Cond). test q.now) ts (b ∷ []))
      ∙ one_more_met (borrowed_tests ts) (test b.now) h k

pub more_keys : (own other owns others : List ℕ) (a b : ℕ) (p y : List Value) → owns ≡ own ++ a ∷ []
    → others ≡ other ++ b ∷ [] → values_at other y ≡ values_at own p → value_at y b ≡ value_at p a
    → values_at others y ≡ values_at owns p
more_keys own other owns others a b p y e f h k =
    ap (λ is. values_at is y) f ∙ map-append (value_at y) other (b ∷ [])
    ∙ ap (λ vs. vs ++ value_at y b ∷ []) h ∙ ap (λ v. values_at own p ++ v ∷ []) k
    ∙ sym (ap (λ is. values_at is p) e ∙ map-append (value_at p) own (a ∷ []))
