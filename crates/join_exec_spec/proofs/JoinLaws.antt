-- What one more list, and then what the outputs, make of choices at a moment.
use Rattle.std.proofs.Common.{◌≡◌, ◌+◌, ℕ, Bool, true, false, cond, List, [], ◌∷◌, ◌++◌, map}
use Rattle.std.proofs.Common.{length, length-append, refl, sym, ap, ◌∙◌, subst, inl, inr}
use Rattle.std.specs.Prelude.{◌&&◌, Some, None}
use Rattle.std.specs.List.{flat_map, filter}
use Rattle.std.specs.Ordering.{is_eq}
use Rattle.relations_spec.specs.Sets.{In}
use Rattle.relations_spec.specs.Spans.{Span, covers, common}
use Rattle.relations_spec.specs.Timed.{Entry, held_at}
use Rattle.relations_spec.proofs.Held.{from_held}
use Rattle.relations_spec.proofs.SetLaws.{from_flat_map, cmp_itself}
use Rattle.prima_base.specs.declared.value.Value.{Value}
use Rattle.prima_base.specs.Order.{row_cmp}
use Rattle.prima_base.specs.OrderLaws.{row_exact}
use Rattle.cond_expr.specs.declared.expr.Column.{Column}
use Rattle.cond_expr.specs.Trees.{Tree, Test}
use Rattle.join_exec_spec.specs.Choosing.{extended_where, complete_choices, Wide, IsSound}
use Rattle.join_exec_spec.specs.Choosing.{in_period, pair}
use Rattle.join_exec_spec.specs.Choosing.{paired, pairs}
use Rattle.join_exec_spec.specs.Keeping.{values_at, meets, meets_all, passing, kept, IsValidRow}
use Rattle.join_exec_spec.specs.Keeping.{AllValid}
use Rattle.join_exec_spec.specs.Fitting.{Fit}
use Rattle.join_exec_spec.specs.Answering.{outputs, answer, answers}
use Rattle.join_exec_spec.proofs.HeldPairs.{held_append, held_pairs}
use Rattle.join_exec_spec.proofs.Pruning.{pruned}
use Rattle.join_exec_spec.proofs.Tests.{both_valid}

pub fit_valid : (n : ℕ) (es : List (Entry (List Value))) → Fit n es → AllValid es
fit_valid n es f = λ e i. (f e i).1

held_wide : (n : ℕ) (es : List (Entry (List Value))) (m : ℕ) → Fit n es → Wide n (held_at es m)
held_wide n es m f = λ x h. let r = from_held es x m h in ap length (sym r.2) ∙ (f r.0 r.1).0

-- what a choice and a row make is their rows, one after the other
from_period : (x : List Value) (p q : Span) (e : Entry (List Value))
    → In e (in_period x (common p q)) → e.item ≡ x
from_period x p q e h = elim (common p q) as (λ o. In e (in_period x o) → e.item ≡ x) [
  | None ↦ λ k. absurd k
  | Some s ↦ λ k. elim k [
    | inl i ↦ ap (λ (r : Entry (List Value)). r.item) (sym i)
    | inr i ↦ absurd i
  ]
] h

from_pair : (keep : List Value → List Value → Bool) (p y e : Entry (List Value))
    → In e (paired keep p y) → e.item ≡ p.item ++ y.item
from_pair keep p y e h = elim (keep p.item y.item) as (λ b. In e (cond b (pair p y) [])
    → e.item ≡ p.item ++ y.item) [
      | true ↦ λ k. from_period (p.item ++ y.item) p.period y.period e k
      | false ↦ λ k. absurd k
    ] h

-- and valid where both are
pub paired_valid : (keep : List Value → List Value → Bool) (p : Entry (List Value))
    (ys : List (Entry (List Value))) → IsValidRow p.item → AllValid ys
    → AllValid (flat_map (paired keep p) ys)
paired_valid keep p ys a b = λ e h.
    let s = from_flat_map (paired keep p) e ys h in
    subst IsValidRow (sym (from_pair keep p s.0 e s.2)) (both_valid p.item s.0.item a (b s.0 s.1))

-- what is kept beside a choice is all that may lead to what passes
module _ (cs : List Column) (ps : List Test) (own other : List ℕ) (tests : List Test) (n w : ℕ)
    (keys : (p y z : List Value) → length p ≡ n → length y ≡ w
    → meets_all cs ps ((p ++ y) ++ z) ≡ true → values_at other y ≡ values_at own p)
    (due : (p y z : List Value) → length p ≡ n → length y ≡ w
    → meets_all cs ps ((p ++ y) ++ z) ≡ true → meets_all cs tests (p ++ y) ≡ true) where
  is_kept : (p y z : List Value) → length p ≡ n → length y ≡ w
      → meets_all cs ps ((p ++ y) ++ z) ≡ true → kept cs own other tests p y ≡ true
  is_kept p y z e f t =
      ap (λ k. is_eq (row_cmp k (values_at own p)) && passing cs tests p y) (keys p y z e f t)
      ∙ ap (λ r. is_eq r && passing cs tests p y) (cmp_itself row_cmp row_exact (values_at own p))
      ∙ due p y z e f t

  pub sound_plan : IsSound (meets_all cs ps) n w (kept cs own other tests)
  sound_plan p y e f k = λ z. step z (meets_all cs ps ((p ++ y) ++ z)) refl
    where
      step : (z : List Value) (b : Bool) → meets_all cs ps ((p ++ y) ++ z) ≡ b
          → meets_all cs ps ((p ++ y) ++ z) ≡ false
      step z true t = absurd (let h = is_kept p y z e f t in cc)
      step z false t = t

module _ (cs : List Column) (own other : List ℕ) (tests : List Test) (n w : ℕ)
    (ps ys es : List (Entry (List Value))) (made : es ≡ pairs (kept cs own other tests) ps ys)
    (fp : Fit n ps) (fy : Fit w ys) where
  pub fits : Fit (n + w) es
  fits = λ e h.
      let r = from_flat_map (λ (p : Entry (List Value)).
      flat_map (paired (kept cs own other tests) p) ys) e ps
      (subst (λ (l : List (Entry (List Value))). In e l) made h) in
      let s = from_flat_map (paired (kept cs own other tests) r.0) e ys r.2 in
      let i : e.item ≡ r.0.item ++ s.0.item = from_pair (kept cs own other tests) r.0 s.0 e s.2 in
      let a : length r.0.item ≡ n = (fp r.0 r.1).0 in
      let b : length s.0.item ≡ w = (fy s.0 s.1).0 in (
        ap length i ∙ rw (length-append, a, b) refl,
        subst IsValidRow (sym i) (both_valid r.0.item s.0.item (fp r.0 r.1).1 (fy s.0 s.1).1),
      )

  at_moment : (m : ℕ) → held_at es m ≡ extended_where (kept cs own other tests) (held_at ps m)
      (held_at ys m)
  at_moment m = ap (λ (l : List (Entry (List Value))). held_at l m) made
      ∙ held_pairs (kept cs own other tests) m ps ys

  pub none_of_none : (m : ℕ) → held_at ps m ≡ [] → held_at es m ≡ []
  none_of_none m h = at_moment m ∙ ap (λ (l : List (List Value)).
      extended_where (kept cs own other tests) l (held_at ys m)) h

  module _ (parts : List Test)
      (keys : (p y z : List Value) → length p ≡ n → length y ≡ w
      → meets_all cs parts ((p ++ y) ++ z) ≡ true → values_at other y ≡ values_at own p)
      (due : (p y z : List Value) → length p ≡ n → length y ≡ w
      → meets_all cs parts ((p ++ y) ++ z) ≡ true → meets_all cs tests (p ++ y) ≡ true) where
    pub one_joined : (m : ℕ) (rest : List (List (List Value)))
        → filter (meets_all cs parts) (complete_choices (held_at es m) rest)
        ≡ filter (meets_all cs parts) (complete_choices (held_at ps m) (held_at ys m ∷ rest))
    one_joined m rest =
        ap (λ (l : List (List Value)). filter (meets_all cs parts) (complete_choices l rest))
        (at_moment m)
        ∙ pruned (meets_all cs parts) n w (kept cs own other tests)
        (sound_plan cs parts own other tests n w keys due) (held_at ps m) (held_at ys m) rest
        (held_wide n ps m fp) (held_wide w ys m fy)

-- the choice of no row
pub start_held : (es : List (Entry (List Value))) (s : Span) (m : ℕ) (b : Bool)
    → es ≡ record { item = []; period = s } ∷ [] → covers s m ≡ b
    → held_at es m ≡ cond b ([] ∷ []) []
start_held es s m b e h = ap (λ (l : List (Entry (List Value))). held_at l m) e
    ∙ ap (λ c. cond c ([] ∷ []) []) h

pub filter_like : {X : Type 0} (p q : X → Bool) (xs : List X) → ((x : X) → p x ≡ q x)
    → filter p xs ≡ filter q xs
filter_like p q [] h = refl
filter_like p q (x ∷ xs) h = rw (h x, filter_like p q xs h) refl

-- what is answered holds where the choices do
module _ (cs : List Column) (outs : List Tree) (c : Test) (m : ℕ) where
  pub held_answers : (es : List (Entry (List Value)))
      → held_at (answers cs outs c es) m ≡ map (outputs cs outs)
      (filter (meets cs c) (held_at es m))
  held_answers [] = refl
  held_answers (e ∷ es) = held_append (answer cs outs c e) (answers cs outs c es) m
      ∙ ap (λ (l : List (List Value)). held_at (answer cs outs c e) m ++ l) (held_answers es)
      ∙ step (meets cs c e.item) (covers e.period m) refl refl
    where
      step : (a b : Bool) → meets cs c e.item ≡ a → covers e.period m ≡ b
          → held_at (cond a (record { item = outputs cs outs e.item; period = e.period } ∷ []) []) m
          ++ map (outputs cs outs) (filter (meets cs c) (held_at es m))
          ≡ map (outputs cs outs) (filter (meets cs c)
          (cond b (e.item ∷ held_at es m) (held_at es m)))
      step true true h k = rw (h, k) refl
      step true false h k = rw k refl
      step false true h k = rw h refl
      step false false h k = refl
