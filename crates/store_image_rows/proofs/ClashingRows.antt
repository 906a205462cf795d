-- Rows in order clash where one clashes with the next; and two ids show one row just where the rows
-- of their pieces clash.
use Rattle.std.proofs.Common.{◌≡◌, ℕ, ◌<◌, Bool, true, false, not, List, [], ◌∷◌, map, refl, sym}
use Rattle.std.proofs.Common.{ap, ◌∙◌, subst, arith, inl, inr}
use Rattle.std.specs.Prelude.{◌&&◌, max, nat_lt}
use Rattle.std.specs.List.{AllByRecursion, IsDistinct}
use Rattle.std.specs.List.Sorted.{IsPermutation}
use Rattle.std.specs.Ordering.{is_eq}
use Rattle.std.specs.declared.cmp.Ordering.{Ordering}
use Rattle.std.specs.declared.cmp.Ordering.TheVariants.{Less, Equal, Greater}
use Rattle.std.proofs.lemmas.Bool.{ltb-true, lt-ltb}
use Rattle.std.proofs.lemmas.List.Sorted.{IsPermutation-map, IsPermutation-sym}
use Rattle.std.proofs.lemmas.Map.Keys.{IsDistinct-IsPermutation}
use Rattle.relations_spec.specs.Sets.{In}
use Rattle.relations_spec.specs.Spans.{Span, covers}
use Rattle.relations_spec.specs.Timed.{Entry}
use Rattle.relations_spec.proofs.SetLaws.{cmp_itself}
use Rattle.prima_base.specs.Order.{row_cmp}
use Rattle.prima_base.specs.OrderLaws.{row_exact}
use Rattle.prima_base.specs.declared.value.Value.{Value}
use Rattle.history_store_spec.specs.Store.{Cell, row_at, Holds}
use Rattle.coalesce.proofs.Joined.{NotAfter, Ordered, not_after_trans}
use Rattle.coalesce.proofs.Sorted.{in_moved}
use Rattle.command_codec_spec.proofs.Correctness.{by_test, true_false}
use Rattle.command_codec_spec.proofs.Numbers.{both_true, of_both}
use Rattle.store_image_spec.proofs.Filling.{covers_so, covers_both}
use Rattle.store_image_rows.specs.Stretches.{RowStretch}
use Rattle.store_image_rows.proofs.FilledKeys.{Fill, of_keys, each_lasts, one_there, after_piece}
use Rattle.store_image_rows.proofs.FilledKeys.{fills_after_piece}
use Rattle.store_image_rows.proofs.MergedColumns.{Sound}

abbrev pub Timed : Type 0
Timed = Entry (List Value)

abbrev pub entry_in : RowStretch → Timed
entry_in p = record { item = p.row; period = p.period }

-- they are one row, and have a common moment
abbrev pub clash : Timed → Timed → Bool
clash a b = (nat_lt a.period.start b.period.end && nat_lt b.period.start a.period.end)
    && is_eq (row_cmp a.item b.item)

-- none with the next
abbrev pub none_clash : List Timed → Bool
none_clash [] = true
none_clash (a ∷ []) = true
none_clash (a ∷ (b ∷ rest)) = not (clash a b) && none_clash (b ∷ rest)

equal_is : (o : Ordering) → is_eq o ≡ true → o ≡ Equal
equal_is Less e = true_false (sym e)
equal_is Equal e = refl
equal_is Greater e = true_false (sym e)

-- ---- what a clash is

pub record Meet (a b : Timed) : Type 0 where
  pub first : a.period.start < b.period.end
  pub second : b.period.start < a.period.end
  pub same : a.item ≡ b.item

pub clash_is : (a b : Timed) → clash a b ≡ true → Meet a b
clash_is a b e =
    let x = of_both (nat_lt a.period.start b.period.end && nat_lt b.period.start a.period.end)
    (is_eq (row_cmp a.item b.item)) e in
    let y = of_both (nat_lt a.period.start b.period.end) (nat_lt b.period.start a.period.end) x.0 in
    record {
      first = ltb-true a.period.start b.period.end y.0;
      second =
          ltb-true b.period.start a.period.end y.1;
      same =
          row_exact.same a.item b.item (equal_is (row_cmp a.item b.item) x.1);
    }

pub clash_so : (a b : Timed) → Meet a b → clash a b ≡ true
clash_so a b h =
    both_true (nat_lt a.period.start b.period.end && nat_lt b.period.start a.period.end)
    (is_eq (row_cmp a.item b.item))
    (both_true (nat_lt a.period.start b.period.end) (nat_lt b.period.start a.period.end)
    (lt-ltb a.period.start b.period.end h.first) (lt-ltb b.period.start a.period.end h.second))
    (ap (λ r. is_eq (row_cmp a.item r)) (sym h.same)
    ∙ ap is_eq (cmp_itself row_cmp row_exact a.item))

no_clash : (a b : Timed) → (Meet a b → ⊥) → clash a b ≡ false
no_clash a b f = by_test (clash a b) (λ e. absurd (f (clash_is a b e))) (λ e. e)

turned : (a b : Timed) → Meet a b → Meet b a
turned a b h = record { first = h.second; second = h.first; same = sym h.same }

flips : (a b : Timed) → clash a b ≡ clash b a
flips a b = by_test (clash a b) (λ e. e ∙ sym (clash_so b a (turned a b (clash_is a b e))))
    (λ e. e ∙ sym (no_clash b a (λ h. true_false (sym (clash_so a b (turned b a h)) ∙ e))))

-- ---- rows in order

pub pairwise : (a : Timed) (rest : List Timed) → Ordered row_cmp row_exact (a ∷ rest) → (y : Timed)
    → In y rest → NotAfter row_cmp row_exact a y
pairwise a [] o y i = absurd i
pairwise a (b ∷ rest) o y (inl e) = subst (NotAfter row_cmp row_exact a) e o.0
pairwise a (b ∷ rest) o y (inr i) = not_after_trans row_cmp row_exact a b y o.0
    (pairwise b rest o.1 y i)

-- where a row does not clash with the next it does not with those after
not_after : (a b y : Timed) → NotAfter row_cmp row_exact a b → NotAfter row_cmp row_exact b y
    → b.period.start < b.period.end → (Meet a b → ⊥) → Meet a y → ⊥
not_after a b y (inl l) (inl k) long n h = row_exact.apart a.item
    (subst (λ r. row_cmp a.item r ≡ Less) (sym h.same) (row_exact.trans a.item b.item y.item l k))
not_after a b y (inl l) (inr k) long n h = row_exact.apart a.item
    (subst (λ r. row_cmp a.item r ≡ Less) (k.0 ∙ sym h.same) l)
not_after a b y (inr p) (inl k) long n h = row_exact.apart b.item
    (subst (λ r. row_cmp b.item r ≡ Less) (sym h.same ∙ p.0) k)
not_after a b y (inr p) (inr q) long n h =
    let s = p.1 in
    let t = q.1 in
    let up = h.second in
    n (record { first = omega (arith, s, long); second = omega (arith, t, up); same = p.0 })

all_such : {X : Type 0} (P : X → Type 0) (xs : List X) → ((x : X) → In x xs → P x)
    → AllByRecursion P xs
all_such P [] f = tt
all_such P (x ∷ xs) f = (f x (inl refl), all_such P xs (λ y i. f y (inr i)))

pub from_all : {X : Type 0} (P : X → Type 0) (xs : List X) → AllByRecursion P xs → (x : X) → In x xs
    → P x
from_all P [] f y i = absurd i
from_all P (x ∷ xs) f y (inl e) = subst P e f.0
from_all P (x ∷ xs) f y (inr i) = from_all P xs f.1 y i

not_true : (b : Bool) → not b ≡ true → b ≡ false
not_true true e = true_false (sym e)
not_true false e = refl

apart_in_order : (rows : List Timed) → Ordered row_cmp row_exact rows
    → ((e : Timed) → In e rows → e.period.start < e.period.end) → none_clash rows ≡ true
    → IsDistinct clash rows
unfolding IsDistinct
apart_in_order [] o l n = tt
apart_in_order (a ∷ []) o l n = (tt, tt)
apart_in_order (a ∷ (b ∷ rest)) o l n =
    let both = of_both (not (clash a b)) (none_clash (b ∷ rest)) n in
    let first : clash a b ≡ false = not_true (clash a b) both.0 in
    let apart : Meet a b → ⊥ = (λ h. true_false (sym (clash_so a b h) ∙ first)) in (
      (
        first,
        all_such (λ y. clash a y ≡ false) rest
            (λ y i. no_clash a y
            (not_after a b y o.0 (pairwise b rest o.1 y i) (l b (inr (inl refl))) apart)),
      ),
      apart_in_order (b ∷ rest) o.1 (λ e i. l e (inr i)) both.1,
    )

none_next : (rows : List Timed) → IsDistinct clash rows → none_clash rows ≡ true
unfolding IsDistinct
none_next [] d = refl
none_next (a ∷ []) d = refl
none_next (a ∷ (b ∷ rest)) d = both_true (not (clash a b)) (none_clash (b ∷ rest)) (ap not d.0.0)
    (none_next (b ∷ rest) d.1)

-- ---- pieces

from_map : (xs : List RowStretch) (e : Timed) → In e (map entry_in xs) → (q : RowStretch) × In q xs
    × (entry_in q ≡ e)
from_map [] e i = absurd i
from_map (x ∷ xs) e (inl h) = (x, inl refl, h)
from_map (x ∷ xs) e (inr i) = let r = from_map xs e i in (r.0, inr r.1, r.2)

pub to_map : (xs : List RowStretch) (y : RowStretch) → In y xs → In (entry_in y) (map entry_in xs)
to_map [] y i = absurd i
to_map (z ∷ xs) y (inl g) = inl (ap entry_in g)
to_map (z ∷ xs) y (inr i) = inr (to_map xs y i)

module _ (keys : List Span) (cells : List (List Cell)) where
  abbrev pub ApartAlways : Type 0
  ApartAlways = (m i j : ℕ) → Holds keys i m → Holds keys j m → row_at i m cells ≡ row_at j m cells
      → i ≡ j

  module _ (pieces : List RowStretch) (fill : Fill 0 keys pieces) (sound : Sound cells pieces) where
    holds : (p : RowStretch) → In p pieces → (m : ℕ) → covers p.period m ≡ true → Holds keys p.id m
    holds p i m k =
        let o = of_keys 0 keys pieces fill p i in
        let at : o.0 ≡ p.id = (let e = o.2 in omega (arith, e)) in
        subst (λ n. Holds keys n m) at (o.1, o.3 m k)

    -- where ids are apart, so are pieces
    module _ (apart : ApartAlways) where
      one_id : (p q : RowStretch) → In p pieces → In q pieces → Meet (entry_in p) (entry_in q)
          → p.period.start < p.period.end → q.period.start < q.period.end → p.id ≡ q.id
      one_id p q i j h lp lq =
          let m = max p.period.start q.period.start in
          let f = h.first in
          let s = h.second in
          let cp : covers p.period m ≡ true =
          covers_so p.period m (grind arith) (grind (arith, s, lp)) in
          let cq : covers q.period m ≡ true =
          covers_so q.period m (grind arith) (grind (arith, f, lq)) in
          apart m p.id q.id (holds p i m cp) (holds q j m cq)
          (sym (sound p i m cp) ∙ h.same ∙ sound q j m cq)

    distinct_from : ApartAlways → (id : ℕ) (ks : List Span) (some : List RowStretch)
        → Fill id ks some → ((p : RowStretch) → In p some → In p pieces)
        → IsDistinct clash (map entry_in some)
    unfolding IsDistinct
    distinct_from apart id ks [] f g = tt
    distinct_from apart id ks (p ∷ some) f g =
        let more = fills_after_piece id ks p some f in (
          all_such (λ e. clash (entry_in p) e ≡ false) (map entry_in some)
              (λ e i. apart_from e (from_map some e i)),
          distinct_from apart more.0 more.1 some more.2 (λ q i. g q (inr i)),
        )
      where
        apart_from : (e : Timed) → (q : RowStretch) × In q some × (entry_in q ≡ e)
            → clash (entry_in p) e ≡ false
        apart_from e r =
            let q = r.0 in
            subst (λ x. clash (entry_in p) x ≡ false) r.2 (no_clash (entry_in p) (entry_in q) (λ h.
            let same = one_id apart p q (g p (inl refl)) (g q (inr r.1)) h
            (each_lasts id ks (p ∷ some) f p (inl refl))
            (each_lasts id ks (p ∷ some) f q (inr r.1)) in
            let up = h.second in
            elim (after_piece id ks p some f q r.1) [
              | inl l ↦ omega (arith, l, same)
              | inr l ↦ omega (arith, l, up)
            ]))

    pub pieces_apart : ApartAlways → IsDistinct clash (map entry_in pieces)
    pieces_apart apart = distinct_from apart 0 keys pieces fill (λ p i. i)

    -- and where pieces are, so are ids
    one_piece : (some : List RowStretch) → IsDistinct clash (map entry_in some) → (p q : RowStretch)
        → In p some → In q some → Meet (entry_in p) (entry_in q) → p ≡ q
    unfolding IsDistinct
    one_piece [] d p q i j h = absurd i
    one_piece (x ∷ some) d p q (inl e) (inl f) h = sym e ∙ f
    one_piece (x ∷ some) d p q (inl e) (inr j) h =
        absurd (true_false (sym (clash_so (entry_in x) (entry_in q)
        (subst (λ (y : RowStretch). Meet (entry_in y) (entry_in q)) (sym e) h))
        ∙ from_all (λ y. clash (entry_in x) y ≡ false) (map entry_in some) d.0 (entry_in q)
        (to_map some q j)))
    one_piece (x ∷ some) d p q (inr i) (inl f) h =
        absurd (true_false (sym (clash_so (entry_in x) (entry_in p)
        (subst (λ (y : RowStretch). Meet (entry_in y) (entry_in p)) (sym f)
        (turned (entry_in p) (entry_in q) h)))
        ∙ from_all (λ y. clash (entry_in x) y ≡ false) (map entry_in some) d.0 (entry_in p)
        (to_map some p i)))
    one_piece (x ∷ some) d p q (inr i) (inr j) h = one_piece some d.1 p q i j h

    pub ids_apart : IsDistinct clash (map entry_in pieces) → ApartAlways
    ids_apart d m i j hi hj same =
        let p = one_there 0 keys pieces fill i m hi.0 hi.1 in
        let q = one_there 0 keys pieces fill j m hj.0 hj.1 in
        let bp = covers_both p.0.period m p.3 in
        let bq = covers_both q.0.period m q.3 in
        let lp = bp.0 in
        let up = bp.1 in
        let lq = bq.0 in
        let uq = bq.1 in
        let ei : p.0.id ≡ i = (let e = p.2 in omega (arith, e)) in
        let ej : q.0.id ≡ j = (let e = q.2 in omega (arith, e)) in
        let rows : p.0.row ≡ q.0.row = sound p.0 p.1 m p.3 ∙ ap (λ n. row_at n m cells) ei ∙ same
        ∙ ap (λ n. row_at n m cells) (sym ej) ∙ sym (sound q.0 q.1 m q.3) in
        let meet : Meet (entry_in p.0) (entry_in q.0) =
        record { first = omega (arith, lp, uq); second = omega (arith, lq, up); same = rows } in
        sym ei ∙ ap (λ (x : RowStretch). x.id) (one_piece pieces d p.0 q.0 p.1 q.1 meet) ∙ ej

-- ---- the pieces in order

module _ (keys : List Span) (cells : List (List Cell)) (pieces : List RowStretch)
    (fill : Fill 0 keys pieces) (sound : Sound cells pieces) (sorted : List RowStretch)
    (moved : IsPermutation pieces sorted)
    (rises : Ordered row_cmp row_exact (map entry_in sorted)) where
  perm : IsPermutation (map entry_in pieces) (map entry_in sorted)
  perm = IsPermutation-map entry_in pieces sorted moved

  back : IsPermutation (map entry_in sorted) (map entry_in pieces)
  back = IsPermutation-sym (map entry_in pieces) (map entry_in sorted) perm

  lasts : (e : Timed) → In e (map entry_in sorted) → e.period.start < e.period.end
  lasts e i =
      let r = from_map pieces e (in_moved (map entry_in sorted) (map entry_in pieces) back e i) in
      subst (λ (x : Timed). x.period.start < x.period.end) r.2
      (each_lasts 0 keys pieces fill r.0 r.1)

  -- where none clashes with the next no two do, and two ids show two rows
  pub all_distinct : none_clash (map entry_in sorted) ≡ true
      → IsDistinct clash (map entry_in sorted)
  all_distinct e = apart_in_order (map entry_in sorted) rises lasts e

  pub two_rows : none_clash (map entry_in sorted) ≡ true → ApartAlways keys cells
  two_rows e = ids_apart keys cells pieces fill sound
      (IsDistinct-IsPermutation clash flips (map entry_in sorted) (map entry_in pieces) back
      (all_distinct e))

  -- where one does, they do not
  pub one_row : none_clash (map entry_in sorted) ≡ false → ApartAlways keys cells → ⊥
  one_row e a = true_false (sym (none_next (map entry_in sorted)
      (IsDistinct-IsPermutation clash flips (map entry_in pieces) (map entry_in sorted) perm
      (pieces_apart keys cells pieces fill sound a))) ∙ e)
