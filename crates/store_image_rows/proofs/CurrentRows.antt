-- The ids of the rows that go on, in the order of their rows.
use Rattle.std.proofs.Common.{◌≡◌, ℕ, zero, suc, ◌+◌, ◌-◌, ◌≤◌, ◌<◌, Bool, true, false, cond, List}
use Rattle.std.proofs.Common.{[], ◌∷◌, map, length, get_or, refl, sym, ◌∙◌, subst, arith, inl, inr}
use Rattle.std.specs.Prelude.{Option, nat_le}
use Rattle.std.specs.List.{filter, IsDistinct}
use Rattle.std.specs.List.Sorted.{IsPermutation}
use Rattle.std.specs.declared.cmp.Ordering.TheVariants.{Less}
use Rattle.std.proofs.lemmas.Bool.{leb-true, le-leb}
use Rattle.std.proofs.lemmas.List.Sorted.{IsPermutation-sym}
use Rattle.relations_spec.specs.Sets.{In, BeforeAll, Ascends, Same}
use Rattle.relations_spec.specs.Spans.{Span, span, covers, forever}
use Rattle.relations_spec.proofs.SetLaws.{in_map, from_map, in_filter, from_filter}
use Rattle.prima_base.specs.Order.{row_cmp}
use Rattle.prima_base.specs.OrderLaws.{row_exact}
use Rattle.prima_base.specs.declared.value.ColType.{ColType}
use Rattle.history_store_spec.specs.Store.{Cell, row_at}
use Rattle.history_store.specs.Change.{ids_from, rows_along}
use Rattle.coalesce.proofs.Joined.{NotAfter, Ordered}
use Rattle.coalesce.proofs.Sorted.{in_moved}
use Rattle.command_codec_spec.proofs.Correctness.{true_false}
use Rattle.store_image_spec.proofs.Filling.{covers_so, covers_both}
use Rattle.store_image_spec.proofs.ReadParts.{Run}
use Rattle.store_image_rows.specs.Stretches.{RowStretch}
use Rattle.store_image_rows.proofs.FilledKeys.{Fill, by_end, of_keys, each_lasts, one_there}
use Rattle.store_image_rows.proofs.ClashingRows.{entry_in, clash, clash_so, pairwise, from_all}
use Rattle.store_image_rows.proofs.ClashingRows.{to_map}

abbrev pub last_moment : ℕ
last_moment = forever - 1

-- it goes on
abbrev pub on : RowStretch → Bool
on p = nat_le forever p.period.end

abbrev pub ids_in : List RowStretch → List ℕ
ids_in pieces = map (λ (p : RowStretch). p.id) (filter on pieces)

-- ---- the keys that have a moment

in_ids : (low m : ℕ) (keys : List Span) (j : ℕ) → j < length keys
    → covers (get_or keys j (span 0 0)) m ≡ true → In (low + j) (ids_from low m keys)
in_ids low m [] j b c = absurd (omega (arith, b))
in_ids low m (k ∷ keys) zero b c =
    let n : low ≡ low + 0 = omega arith in
    subst (λ x. In (low + 0) (cond x (low ∷ ids_from (low + 1) m keys) (ids_from (low + 1) m keys)))
    (sym c) (inl n)
in_ids low m (k ∷ keys) (suc j) b c =
    let n : (low + 1) + j ≡ low + suc j = omega arith in
    step (covers k m) (subst (λ x. In x (ids_from (low + 1) m keys)) n
    (in_ids (low + 1) m keys j (omega (arith, b)) c))
  where
    step : (q : Bool) → In (low + suc j) (ids_from (low + 1) m keys)
        → In (low + suc j) (cond q (low ∷ ids_from (low + 1) m keys) (ids_from (low + 1) m keys))
    step true i = inr i
    step false i = i

abbrev HasMoment : ℕ → ℕ → ℕ → List Span → Type 0
HasMoment q low m keys = (j : ℕ) × (j < length keys) × (covers (get_or keys j (span 0 0)) m ≡ true)
    × (low + j ≡ q)

has_moment : (q low m : ℕ) (keys : List Span) → In q (ids_from low m keys) → HasMoment q low m keys
has_moment q low m [] i = absurd i
has_moment q low m (k ∷ keys) i = step (λ x. (let r = has_moment q (low + 1) m keys x in let b =
    r.1 in let e = r.3 in (suc r.0, omega (arith, b), r.2, omega (arith, e)))) (covers k m) refl i
  where
    step : (In q (ids_from (low + 1) m keys) → HasMoment q low m (k ∷ keys)) → (b : Bool)
        → covers k m ≡ b → In q (cond b (low ∷ ids_from (low + 1) m keys)
        (ids_from (low + 1) m keys)) → HasMoment q low m (k ∷ keys)
    step f true e (inl x) = (0, omega arith, e, omega (arith, x))
    step f true e (inr x) = f x
    step f false e x = f x

-- ---- ends

-- no key ends after the end of all
pub keys_end : (last : Option ℕ) (type : ColType) (id : ℕ) (keys : List Span) (cells : List Cell)
    → Run last type id keys cells → (j : ℕ) → j < length keys
    → (get_or keys j (span 0 0)).end ≤ forever
keys_end last type id [] cells r j h = absurd (omega (arith, h))
keys_end last type id (left ∷ keys) [] r j h = absurd r
keys_end last type id (left ∷ keys) (c ∷ cells) r zero h =
    let up : c.period.end ≤ forever = r.0.0.1.1 in
    by_end c.period.end left.end (left.end ≤ forever) (Run last type (id + 1) keys cells)
    (Run last type id (span c.period.end left.end ∷ keys) cells)
    (λ e x. omega (arith, e, up)) (λ n x. keys_end last type id (span c.period.end left.end ∷ keys)
    cells x 0 (omega arith)) r.1
keys_end last type id (left ∷ keys) (c ∷ cells) r (suc j) h =
    by_end c.period.end left.end ((get_or keys j (span 0 0)).end ≤ forever)
    (Run last type (id + 1) keys cells) (Run last type id (span c.period.end left.end ∷ keys)
    cells)
    (λ e x. keys_end last type (id + 1) keys cells x j (omega (arith, h)))
    (λ n x. keys_end last type id (span c.period.end left.end ∷ keys) cells x (suc j)
    (omega (arith, h))) r.1

module _ (keys : List Span) (pieces : List RowStretch) (fill : Fill 0 keys pieces) (ends : (j : ℕ)
    → j < length keys → (get_or keys j (span 0 0)).end ≤ forever) where
  up_to_end : (p : RowStretch) → In p pieces → p.period.end ≤ forever
  up_to_end p i =
      let lasts = each_lasts 0 keys pieces fill p i in
      let k = of_keys 0 keys pieces fill p i in
      let within = (covers_both (get_or keys k.0 (span 0 0)) (p.period.end - 1)
      (k.3 (p.period.end - 1) (covers_so p.period (p.period.end - 1) (omega (arith, lasts))
      (omega (arith, lasts))))).1 in
      let up = ends k.0 k.1 in
      omega (arith, lasts, within, up)

  -- what goes on has the last moment
  pub still_on : (p : RowStretch) → In p pieces → on p ≡ true → covers p.period last_moment ≡ true
  still_on p i e =
      let lasts = each_lasts 0 keys pieces fill p i in
      let up = up_to_end p i in
      let on_end = leb-true forever p.period.end e in
      covers_so p.period last_moment (omega (arith, lasts, up)) (omega (arith, on_end))

  module _ (sorted : List RowStretch) (moved : IsPermutation pieces sorted) where
    is_piece : (p : RowStretch) → In p sorted → In p pieces
    is_piece p i = in_moved sorted pieces (IsPermutation-sym pieces sorted moved) p i

    pub same_ids : Same (ids_in sorted) (ids_from 0 last_moment keys)
    same_ids = record {
      there = λ q i. (let r = from_map (λ (p : RowStretch). p.id) q (filter on sorted) i in
          let f = from_filter on r.0 sorted r.1 in
          let here = is_piece r.0 f.0 in
          let k = of_keys 0 keys pieces fill r.0 here in
          subst (λ n. In n (ids_from 0 last_moment keys)) (sym k.2 ∙ r.2)
          (in_ids 0 last_moment keys k.0 k.1 (k.3 last_moment (still_on r.0 here f.1))));
      back = λ q i. (let h = has_moment q 0 last_moment keys i in
          let p = one_there 0 keys pieces fill h.0 last_moment h.1 h.2 in
          let up = (covers_both p.0.period last_moment p.3).1 in
          let goes : on p.0 ≡ true = le-leb forever p.0.period.end (omega (arith, up)) in
          subst (λ n. In n (ids_in sorted)) (p.2 ∙ h.3)
          (in_map (λ (x : RowStretch). x.id) p.0 (filter on sorted)
          (in_filter on p.0 sorted (in_moved pieces sorted moved p.0 p.1) goes)));
    }

    -- of two that go on and do not clash, the rows differ
    less_on : (p q : RowStretch) → In p pieces → In q pieces → on p ≡ true
        → NotAfter row_cmp row_exact (entry_in p) (entry_in q)
        → clash (entry_in p) (entry_in q) ≡ false → row_cmp p.row q.row ≡ Less
    less_on p q i j a (inl l) n = l
    less_on p q i j a (inr h) n =
        let low = h.1 in
        let lasts = each_lasts 0 keys pieces fill q j in
        let up = up_to_end q j in
        let end = leb-true forever p.period.end a in
        absurd (true_false (sym (clash_so (entry_in p) (entry_in q)
        (record {
          first = omega (arith, low, lasts);
          second = omega (arith, lasts, up, end);
          same = h.0;
        })) ∙ n))

    -- where lesser values are of lesser rows
    module _ (cells : List (List Cell))
        (grow : (p q : RowStretch) → In p pieces → In q pieces → on p ≡ true → on q ≡ true
        → row_cmp p.row q.row ≡ Less → row_cmp (row_at p.id last_moment cells)
        (row_at q.id last_moment cells) ≡ Less) where
      before : (p : RowStretch) → In p pieces → on p ≡ true → (some : List RowStretch)
          → ((q : RowStretch) → In q some → In q pieces)
          → ((q : RowStretch) → In q some → NotAfter row_cmp row_exact (entry_in p) (entry_in q))
          → ((q : RowStretch) → In q some → clash (entry_in p) (entry_in q) ≡ false)
          → BeforeAll row_cmp (row_at p.id last_moment cells)
          (rows_along (ids_in some) last_moment cells)
      before p i e [] g n d = tt
      before p i e (q ∷ some) g n d = step (on q) refl
          (before p i e some (λ x j. g x (inr j)) (λ x j. n x (inr j)) (λ x j. d x (inr j)))
        where
          step : (b : Bool) → on q ≡ b → BeforeAll row_cmp (row_at p.id last_moment cells)
              (rows_along (ids_in some) last_moment cells)
              → BeforeAll row_cmp (row_at p.id last_moment cells)
              (rows_along (map (λ (x : RowStretch). x.id)
              (cond b (q ∷ filter on some) (filter on some))) last_moment cells)
          step true f k = (
            grow p q i (g q (inl refl)) e f
                (less_on p q i (g q (inl refl)) e (n q (inl refl)) (d q (inl refl))),
            k,
          )
          step false f k = k

      after_first : (p : RowStretch) (some : List RowStretch)
          → Ordered row_cmp row_exact (map entry_in (p ∷ some))
          → Ordered row_cmp row_exact (map entry_in some)
      after_first p [] o = tt
      after_first p (q ∷ some) o = o.1

      rise : (some : List RowStretch) → Ordered row_cmp row_exact (map entry_in some)
          → IsDistinct clash (map entry_in some) → ((q : RowStretch) → In q some → In q pieces)
          → Ascends row_cmp (rows_along (ids_in some) last_moment cells)
      unfolding IsDistinct
      rise [] o d g = tt
      rise (p ∷ some) o d g = step (on p) refl
          (rise some (after_first p some o) d.1 (λ q i. g q (inr i)))
        where
          step : (b : Bool) → on p ≡ b → Ascends row_cmp
              (rows_along (ids_in some) last_moment cells)
              → Ascends row_cmp (rows_along (map (λ (x : RowStretch). x.id)
              (cond b (p ∷ filter on some) (filter on some))) last_moment cells)
          step true e r = (
            before p (g p (inl refl)) e some (λ q i. g q (inr i))
                (λ q i. pairwise (entry_in p) (map entry_in some) o (entry_in q) (to_map some q i))
                (λ q i. from_all (λ y. clash (entry_in p) y ≡ false) (map entry_in some) d.0
                (entry_in q) (to_map some q i)),
            r,
          )
          step false e r = r

      pub rows_rise : Ordered row_cmp row_exact (map entry_in sorted)
          → IsDistinct clash (map entry_in sorted)
          → Ascends row_cmp (rows_along (ids_in sorted) last_moment cells)
      rows_rise o d = rise sorted o d is_piece
