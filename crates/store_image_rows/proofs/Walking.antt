-- Walking along stretches with one entry, and along what is shown in order.
use Rattle.std.proofs.Common.{◌≡◌, ℕ, ◌+◌, ◌-◌, ◌≤◌, ◌<◌, ◌==◌, true, false, not, List, [], ◌∷◌}
use Rattle.std.proofs.Common.{length, get_or, drop, refl, sym, ap, ◌∙◌, arith}
use Rattle.std.proofs.lemmas.List.{length-drop}
use Rattle.std.specs.Prelude.{nat_lt, ◌&&◌, if◌then◌else◌}
use Rattle.std.specs.declared.cmp.Ordering.{Ordering}
use Rattle.std.proofs.lemmas.Bool.{lt-ltb}
use Rattle.history_store_spec.specs.Store.{Cell}
use Rattle.store_image_rows.specs.declared.stretch.Stretch.{Stretch}
use Rattle.store_image_rows.specs.declared.order.Showing.{Showing}
use Rattle.store_image_rows.specs.Showing.{clash, none_clash}
use Rattle.store_image_rows.specs.Stretches.{stretch_of, row_stretches, longer, begun, ended_by}
use Rattle.store_image_rows.specs.Stretches.{given}
use Rattle.store_image_rows.specs.Stretches.{left_by}
use Rattle.store_image_rows.proofs.ListPlaces.{dropped_here, dropped_plain}
use Rattle.store_image_rows.proofs.MergedColumns.{when_true, when_false, not_below, not_equal}

module _ (stretches : List Stretch) (at : ℕ) (s : Stretch) (c : Cell) (h : at < length stretches)
    (is : s ≡ get_or stretches at s) where
  here : drop at (row_stretches stretches) ≡ stretch_of s ∷ drop (at + 1) (row_stretches stretches)
  here = dropped_here stretch_of stretches at s h is

  -- the stretch goes on after the entry
  module _ (l : c.period.end < s.period.end) where
    pub splits_given : given (drop at (row_stretches stretches)) c ≡ begun (stretch_of s) c
    splits_given =
        ap (λ ps. given ps c) here
        ∙ when_true (nat_lt c.period.end s.period.end) (begun (stretch_of s) c)
        (longer (stretch_of s) c.value s.period
        ∷ (if s.period.end == c.period.end then []
        else given (drop (at + 1) (row_stretches stretches)) c))
        (lt-ltb c.period.end s.period.end l)

    pub splits_left : left_by (drop at (row_stretches stretches)) c ≡ ended_by (stretch_of s) c
        ∷ drop (at + 1) (row_stretches stretches)
    splits_left =
        ap (λ ps. left_by ps c) here
        ∙ when_true (nat_lt c.period.end s.period.end)
        (ended_by (stretch_of s) c ∷ drop (at + 1) (row_stretches stretches))
        (if s.period.end == c.period.end then drop (at + 1) (row_stretches stretches)
        else left_by (drop (at + 1) (row_stretches stretches)) c)
        (lt-ltb c.period.end s.period.end l)

  -- it does not
  module _ (l : s.period.end ≤ c.period.end) where
    ends_given : given (drop at (row_stretches stretches)) c
        ≡ longer (stretch_of s) c.value s.period
        ∷ (if s.period.end == c.period.end then []
        else given (drop (at + 1) (row_stretches stretches)) c)
    ends_given =
        ap (λ ps. given ps c) here
        ∙ when_false (nat_lt c.period.end s.period.end) (begun (stretch_of s) c)
        (longer (stretch_of s) c.value s.period
        ∷ (if s.period.end == c.period.end then []
        else given (drop (at + 1) (row_stretches stretches)) c))
        (not_below c.period.end s.period.end l)

    ends_left : left_by (drop at (row_stretches stretches)) c
        ≡ (if s.period.end == c.period.end then drop (at + 1) (row_stretches stretches)
        else left_by (drop (at + 1) (row_stretches stretches)) c)
    ends_left =
        ap (λ ps. left_by ps c) here
        ∙ when_false (nat_lt c.period.end s.period.end)
        (ended_by (stretch_of s) c ∷ drop (at + 1) (row_stretches stretches))
        (if s.period.end == c.period.end then drop (at + 1) (row_stretches stretches)
        else left_by (drop (at + 1) (row_stretches stretches)) c)
        (not_below c.period.end s.period.end l)

    both_end : s.period.end ≡ c.period.end → (s.period.end == c.period.end) ≡ true
    both_end q = grind (arith, q)

    pub meets_given : s.period.end ≡ c.period.end
        → given (drop at (row_stretches stretches)) c ≡ longer (stretch_of s) c.value s.period ∷ []
    meets_given q = ends_given ∙ ap (λ ps. longer (stretch_of s) c.value s.period ∷ ps)
        (when_true (s.period.end == c.period.end) []
        (given (drop (at + 1) (row_stretches stretches)) c) (both_end q))

    pub meets_left : s.period.end ≡ c.period.end
        → left_by (drop at (row_stretches stretches)) c ≡ drop (at + 1) (row_stretches stretches)
    meets_left q = ends_left ∙ when_true (s.period.end == c.period.end)
        (drop (at + 1) (row_stretches stretches))
        (left_by (drop (at + 1) (row_stretches stretches)) c) (both_end q)

    pub passes_given : (s.period.end ≡ c.period.end → ⊥)
        → given (drop at (row_stretches stretches)) c ≡ longer (stretch_of s) c.value s.period
        ∷ given (drop (at + 1) (row_stretches stretches)) c
    passes_given q = ends_given ∙ ap (λ ps. longer (stretch_of s) c.value s.period ∷ ps)
        (when_false (s.period.end == c.period.end) []
        (given (drop (at + 1) (row_stretches stretches)) c) (not_equal s.period.end c.period.end q))

    pub passes_left : (s.period.end ≡ c.period.end → ⊥)
        → left_by (drop at (row_stretches stretches)) c
        ≡ left_by (drop (at + 1) (row_stretches stretches)) c
    passes_left q = ends_left ∙ when_false (s.period.end == c.period.end)
        (drop (at + 1) (row_stretches stretches))
        (left_by (drop (at + 1) (row_stretches stretches)) c)
        (not_equal s.period.end c.period.end q)

-- ---- what is shown in order

module _ {T : Type 0} (cmp : T → T → Ordering) (showing : List (Showing T)) (i : ℕ)
    (a b : Showing T) (low : 1 ≤ i) (h : i < length showing) (ia : a ≡ get_or showing (i - 1) a)
    (ib : b ≡ get_or showing i b) where
  two : drop (i - 1) showing ≡ a ∷ b ∷ drop (i + 1) showing
  two =
      let n : (i - 1) + 1 ≡ i = omega (arith, low) in
      dropped_plain showing (i - 1) a (omega (arith, h)) ia ∙ ap (λ k. a ∷ drop k showing) n
      ∙ ap (λ l. a ∷ l) (dropped_plain showing i b h ib)

  pub clashes_here : clash cmp a b ≡ true → none_clash cmp (drop (i - 1) showing) ≡ false
  clashes_here e = ap (none_clash cmp) two ∙ ap
      (λ x. not x && none_clash cmp (b ∷ drop (i + 1) showing)) e

  pub clash_after : clash cmp a b ≡ false → none_clash cmp (drop (i - 1) showing)
      ≡ none_clash cmp (drop ((i + 1) - 1) showing)
  clash_after e =
      let n : (i + 1) - 1 ≡ i = omega arith in
      ap (none_clash cmp) two ∙ ap (λ x. not x && none_clash cmp (b ∷ drop (i + 1) showing)) e
      ∙ ap (none_clash cmp) (sym (ap (λ k. drop k showing) n ∙ dropped_plain showing i b h ib))

at_most_one : {T : Type 0} (cmp : T → T → Ordering) (showing : List (Showing T))
    → length showing ≤ 1 → none_clash cmp showing ≡ true
at_most_one cmp [] h = refl
at_most_one cmp (a ∷ []) h = refl
at_most_one cmp (a ∷ b ∷ showing) h = absurd (omega (arith, h))

pub none_left : {T : Type 0} (cmp : T → T → Ordering) (showing : List (Showing T)) (i : ℕ) → 1 ≤ i
    → length showing ≤ i → none_clash cmp (drop (i - 1) showing) ≡ true
none_left cmp showing i l h =
    let n = length-drop (i - 1) showing in
    at_most_one cmp (drop (i - 1) showing) (omega (arith, n, l, h))
