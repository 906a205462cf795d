-- What is known of rows, over those that are stored, change by change.
use Rattle.std.proofs.Common.{◌≡◌, ◌⊎◌, Bool, true, false, cond, List, [], ◌∷◌, ◌++◌, length, map}
use Rattle.std.proofs.Common.{take, refl, sym, ap, ◌∙◌, subst, inl, inr}
use Rattle.std.specs.Prelude.{not, ◌&&◌, Option, Some, None, if◌then◌else◌}
use Rattle.std.specs.List.{filter, AllByRecursion}
use Rattle.std.specs.List.Sorted.{IsStrictlySortedBy}
use Rattle.std.specs.Option.{unwrap_or}
use Rattle.std.specs.Map.{lookup, keys_of}
use Rattle.std.specs.BTreeMap.{is_at}
use Rattle.std.specs.declared.cmp.Ordering.{Ordering}
use Rattle.std.specs.declared.cmp.Ordering.TheVariants.{Less, Equal, Greater}
use Rattle.std.specs.Ordering.{is_eq, is_le, is_lt, ordering_reverse, ordering_then}
use Rattle.relations_spec.specs.Sets.{In, BeforeAll, Ascends, has, put_in, set_of}
use Rattle.relations_spec.proofs.SetLaws.{in_left, in_right, in_append, in_map, from_map, in_filter}
use Rattle.relations_spec.proofs.SetLaws.{from_filter, below_each, before_in, one_list, cmp_itself}
use Rattle.relations_spec.proofs.SetLaws.{in_has, has_in, put_back, in_set, from_set}
use Rattle.prima_base.specs.declared.value.Value.{Value}
use Rattle.prima_base.specs.Order.{value_cmp, row_cmp}
use Rattle.prima_base.specs.OrderLaws.{row_exact, row_total, value_total}
use Rattle.history_store.specs.Cuts.{Cut, is_before}
use Rattle.history_store_row_order.proofs.Cutting.{before_less}
use Rattle.smo_ops_spec.specs.OneRow.{Row, Relation}
use Rattle.smo_ops_spec.specs.Effects.{gained_rows}
use Rattle.smo_ops_spec.proofs.RelationLaws.{put_is_set, filter_ascends}
use Rattle.version_groups_changes.specs.PendingChanges.{Pending, told, is_kept, LeadsTo}
use Rattle.version_groups_changes.specs.PendingChanges.{lost_by_now}
use Rattle.version_groups_changes.specs.PendingChanges.{gained_by_now}
use Rattle.version_groups_candidates.specs.Candidates.{HaveHits}
use Rattle.version_groups_changes.specs.PendingChanges.{HavePendingHits, AreHits}
use Rattle.version_groups_changes.proofs.Applying.{not_true, not_of}

-- ---- truths

pub one_truth : (a b : Bool) → (a ≡ true → b ≡ true) → (b ≡ true → a ≡ true) → a ≡ b
one_truth true b f g = sym (f refl)
one_truth false true f g = g refl
one_truth false false f g = refl

pub both : (a b : Bool) → (a && b) ≡ true → (a ≡ true) × (b ≡ true)
both true b e = (refl, e)
both false b e = absurd (cc)

pub and_true : (a b : Bool) → a ≡ true → b ≡ true → (a && b) ≡ true
and_true true b e f = f
and_true false b e f = absurd (cc)

pub known_or_not : (b : Bool) → (b ≡ true) ⊎ (b ≡ false)
known_or_not true = inl refl
known_or_not false = inr refl

pub never : (b : Bool) → b ≡ true → b ≡ false → ⊥
never true e f = cc
never false e f = cc

pub not_in : (row : Row) (rows : Relation) → (In row rows → ⊥) → has row_cmp row rows ≡ false
not_in row rows f = elim (known_or_not (has row_cmp row rows))
    [ inl e ↦ absurd (f (has_in row_cmp row_exact row rows e)) | inr e ↦ e ]

-- ---- what is told of a row

pub told_same : (a b : Bool) → a ≡ b → told a b ≡ None
told_same true true e = refl
told_same true false e = absurd (cc)
told_same false true e = absurd (cc)
told_same false false e = refl

pub told_other : (a b : Bool) → (a ≡ b → ⊥) → told a b ≡ Some b
told_other true true n = absurd (n refl)
told_other true false n = refl
told_other false true n = refl
told_other false false n = absurd (n refl)

told_now : (a b c : Bool) → told a b ≡ Some c → b ≡ c
told_now true true c e = absurd (cc)
told_now true false c e = cc
told_now false true c e = cc
told_now false false c e = absurd (cc)

told_stored : (a b c : Bool) → told a b ≡ Some c → a ≡ not c
told_stored true true c e = absurd (cc)
told_stored true false true e = absurd (cc)
told_stored true false false e = refl
told_stored false true true e = refl
told_stored false true false e = absurd (cc)
told_stored false false c e = absurd (cc)

not_told : (a b : Bool) → told a b ≡ None → a ≡ b
not_told true true e = refl
not_told true false e = absurd (cc)
not_told false true e = absurd (cc)
not_told false false e = refl

told_kept : (a b : Bool) → a ≡ true → unwrap_or (told a b) true ≡ true → b ≡ true
told_kept true true e f = refl
told_kept true false e f = absurd (cc)
told_kept false b e f = absurd (cc)

-- ---- rows that are looked up

abbrev find : Row → Pending → Option Bool
find row known = lookup (is_at (row_cmp row)) known

pub found_in : (known : Pending) (row : Row) (b : Bool) → find row known ≡ Some b
    → In (row, b) known
found_in [] row b h = absurd (cc)
found_in (e ∷ known) row b h = step (row_cmp row e.0) refl h (λ k. found_in known row b k)
  where
    step : (o : Ordering) → row_cmp row e.0 ≡ o
        → cond (is_eq o) (Some e.1) (find row known) ≡ Some b
        → (find row known ≡ Some b → In (row, b) known) → In (row, b) (e ∷ known)
    step Less q k again = inr (again k)
    step Equal q k again = let v : e.1 ≡ b = cc in
        inl (ap (λ (r : Row). (r, e.1)) (sym (row_exact.same row e.0 q))
        ∙ ap (λ (x : Bool). (row, x)) v)
    step Greater q k again = inr (again k)

pub in_found : (known : Pending) (row : Row) (b : Bool) → Ascends row_cmp (keys_of known)
    → In (row, b) known → find row known ≡ Some b
in_found [] row b a i = absurd i
in_found (e ∷ known) row b a (inl q) =
    let first : e.0 ≡ row = ap (λ (x : Row × Bool). x.0) q in
    let second : e.1 ≡ b = ap (λ (x : Row × Bool). x.1) q in
    let same : row_cmp row e.0 ≡ Equal = ap (row_cmp row) first
    ∙ cmp_itself row_cmp row_exact row in
    ap (λ o. cond (is_eq o) (Some e.1) (find row known)) same ∙ ap Some second
in_found (e ∷ known) row b a (inr i) =
    let before : row_cmp e.0 row ≡ Less = before_in row_cmp e.0 row (keys_of known) a.0
    (in_map (λ (x : Row × Bool). x.0) (row, b) known i) in
    let following : row_cmp row e.0 ≡ Greater = row_total.antisymm row e.0
    ∙ ap ordering_reverse before in
    ap (λ o. cond (is_eq o) (Some e.1) (find row known)) following ∙ in_found known row b a.1 i

-- the keys of a map ascend
pub as_ascends : (rows : List Row) → IsStrictlySortedBy row_cmp rows → Ascends row_cmp rows
unfolding IsStrictlySortedBy
as_ascends [] s = tt
as_ascends (row ∷ rows) s = (each rows s.0, as_ascends rows s.1)
  where
    each : (others : List Row) → AllByRecursion (λ y. row_cmp row y ≡ Less) others
        → BeforeAll row_cmp row others
    each [] h = tt
    each (other ∷ others) h = (h.0, each others h.1)

-- ---- what is known of some rows

pub picked_ascends : (p : Row × Bool → Bool) (known : Pending) → Ascends row_cmp (keys_of known)
    → Ascends row_cmp (keys_of (filter p known))
picked_ascends p [] a = tt
picked_ascends p (e ∷ known) a = elim (p e) as (λ b. Ascends row_cmp
    (keys_of (cond b (e ∷ filter p known) (filter p known)))) [
      | true ↦ (
        below_each row_cmp e.0 (keys_of (filter p known))
            (λ row m. before_in row_cmp e.0 row (keys_of known) a.0 (still row m)),
        picked_ascends p known a.1,
      )
      | false ↦ picked_ascends p known a.1
    ]
  where
    still : (row : Row) → In row (keys_of (filter p known)) → In row (keys_of known)
    still row m =
        let f = from_map (λ (x : Row × Bool). x.0) row (filter p known) m in
        subst (λ (r : Row). In r (keys_of known)) f.2
        (in_map (λ (x : Row × Bool). x.0) f.0 known (from_filter p f.0 known f.1).0)

pub picked_is : (p : Row × Bool → Bool) (known : Pending) (row : Row)
    → In row (keys_of (filter p known)) → (b : Bool) × In (row, b) known × (p (row, b) ≡ true)
picked_is p known row m =
    let f = from_map (λ (x : Row × Bool). x.0) row (filter p known) m in
    let g = from_filter p f.0 known f.1 in
    let e : f.0 ≡ (row, f.0.1) = ap (λ (r : Row). (r, f.0.1)) f.2 in (
      f.0.1,
      subst (λ (x : Row × Bool). In x known) e g.0,
      subst (λ (x : Row × Bool). p x ≡ true) e g.1,
    )

pub is_picked : (p : Row × Bool → Bool) (known : Pending) (row : Row) (b : Bool) → In (row, b) known
    → p (row, b) ≡ true → In row (keys_of (filter p known))
is_picked p known row b i e = in_map (λ (x : Row × Bool). x.0) (row, b) (filter p known)
    (in_filter p (row, b) known i e)

-- ---- from a cut on

from_low : (vs row : List Value) (b : Bool) → cond b (is_le (row_cmp (take (length vs) row) vs))
    (is_lt (row_cmp (take (length vs) row) vs)) ≡ false → is_le (row_cmp vs row) ≡ true
from_low [] [] b h = refl
from_low [] (x ∷ row) b h = refl
from_low (v ∷ vs) [] true h = absurd (cc)
from_low (v ∷ vs) [] false h = absurd (cc)
from_low (v ∷ vs) (x ∷ row) b h = step (value_cmp x v) refl h (λ k. from_low vs row b k)
  where
    less_first : (b : Bool) → cond b (is_le Less) (is_lt Less) ≡ false → ⊥
    less_first true k = cc
    less_first false k = cc

    step : (o : Ordering) → value_cmp x v ≡ o
        → cond b (is_le (ordering_then o (row_cmp (take (length vs) row) vs)))
        (is_lt (ordering_then o (row_cmp (take (length vs) row) vs))) ≡ false
        → (cond b (is_le (row_cmp (take (length vs) row) vs))
        (is_lt (row_cmp (take (length vs) row) vs)) ≡ false → is_le (row_cmp vs row) ≡ true)
        → is_le (ordering_then (value_cmp v x) (row_cmp vs row)) ≡ true
    step Less e k again = absurd (less_first b k)
    step Equal e k again = ap (λ o. is_le (ordering_then o (row_cmp vs row)))
        (value_total.antisymm v x ∙ ap ordering_reverse e) ∙ again k
    step Greater e k again = ap (λ o. is_le (ordering_then o (row_cmp vs row)))
        (value_total.antisymm v x ∙ ap ordering_reverse e)

pub from_cut : (c : Cut) (row : Row) → is_before c row ≡ false → is_le (row_cmp c.values row) ≡ true
from_cut c row h = from_low c.values row c.after h

-- ---- the rows that meet a condition

module _ (known : Pending) (stored now : Relation) (ordered : Ascends row_cmp (keys_of known))
    (leads : LeadsTo known stored now) where
  says : (row : Row) (b : Bool) → In (row, b) known
      → told (has row_cmp row stored) (has row_cmp row now) ≡ Some b
  says row b i = sym (leads row) ∙ in_found known row b ordered i

  pub has_now : (row : Row) (b : Bool) → In (row, b) known → has row_cmp row now ≡ b
  has_now row b i = told_now (has row_cmp row stored) (has row_cmp row now) b (says row b i)

  pub has_stored : (row : Row) (b : Bool) → In (row, b) known → has row_cmp row stored ≡ not b
  has_stored row b i = told_stored (has row_cmp row stored) (has row_cmp row now) b (says row b i)

  module _ (passes : Row → Bool) (borrowed : List Row) (has_hits : HaveHits passes stored borrowed)
      (found : List Row) (has_pending : HavePendingHits passes known found) where
    abbrev wanted : Row → Bool
    wanted row = passes row && is_kept known row

    of_stored : (row : Row) → In row (filter wanted borrowed) → In row now × (passes row ≡ true)
    of_stored row m =
        let f = from_filter wanted row borrowed m in
        let w = both (passes row) (is_kept known row) f.1 in
        let kept = told_kept (has row_cmp row stored) (has row_cmp row now)
        (in_has row_cmp row_exact row stored (has_hits.only row f.0))
        (sym (ap (λ (o : Option Bool). unwrap_or o true) (leads row)) ∙ w.1) in
        (has_in row_cmp row_exact row now kept, w.0)

    of_known : (row : Row) → In row found → In row now × (passes row ≡ true)
    of_known row m = let k = has_pending.only row m in
        (has_in row_cmp row_exact row now (has_now row true k.0), k.1)

    pub hits_are : AreHits passes now (found ++ filter wanted borrowed)
    hits_are = record { only = only; all = all }
      where
        only : (row : Row) → In row (found ++ filter wanted borrowed) → In row now
            × (passes row ≡ true)
        only row m = elim (in_append row found (filter wanted borrowed) m) [
          | inl i ↦ of_known row i
          | inr i ↦ of_stored row i
        ]

        all : (row : Row) → In row now → passes row ≡ true
            → In row (found ++ filter wanted borrowed)
        all row i p = step (find row known) refl (in_has row_cmp row_exact row now i)
          where
            step : (o : Option Bool) → find row known ≡ o → has row_cmp row now ≡ true
                → In row (found ++ filter wanted borrowed)
            step None e k =
                let h = not_told (has row_cmp row stored) (has row_cmp row now)
                (sym (leads row) ∙ e) ∙ k in
                let here = has_hits.all row (has_in row_cmp row_exact row stored h) p in
                in_right row found (filter wanted borrowed)
                (in_filter wanted row borrowed here
                (and_true (passes row) (is_kept known row) p
                (ap (λ (o : Option Bool). unwrap_or o true) e)))
            step (Some true) e k = in_left row found (filter wanted borrowed)
                (has_pending.all row (found_in known row true e) p)
            step (Some false) e k = absurd (never (has row_cmp row now) k
                (has_now row false (found_in known row false e)))

-- after a row that is not before the cut none is
pub none_past : (from to : Cut) (passes : Row → Bool) (e : Row × Bool) (rest : Pending)
    → Ascends row_cmp (keys_of (e ∷ rest)) → is_before to e.0 ≡ false
    → filter (λ (x : Row × Bool). is_before to x.0 && (x.1 && passes x.0)) (e ∷ rest) ≡ []
none_past from to passes e rest a h = ap (λ b.
    cond (b && (e.1 && passes e.0)) (e ∷ filter p rest) (filter p rest)) h
    ∙ empty rest (λ x i. later x (before_in row_cmp e.0 x.0 (keys_of rest) a.0
    (in_map (λ (y : Row × Bool). y.0) x rest i)))
  where
    p : Row × Bool → Bool
    p x = is_before to x.0 && (x.1 && passes x.0)

    later : (x : Row × Bool) → row_cmp e.0 x.0 ≡ Less → is_before to x.0 ≡ false
    later x l = elim (known_or_not (is_before to x.0))
        [ inl k ↦ absurd (never (is_before to e.0) (before_less to e.0 x.0 l k) h) | inr k ↦ k ]

    empty : (es : Pending) → ((x : Row × Bool) → In x es → is_before to x.0 ≡ false)
        → filter p es ≡ []
    empty [] f = refl
    empty (x ∷ es) f = ap (λ b. cond (b && (x.1 && passes x.0)) (x ∷ filter p es) (filter p es))
        (f x (inl refl)) ∙ empty es (λ y i. f y (inr i))

-- ---- the rows after a change

module _ (now : Relation) where
  pub has_put : (row : Row) → Ascends row_cmp now → (q : Row)
      → has row_cmp q (put_in row_cmp row now)
      ≡ cond (is_eq (row_cmp row q)) true (has row_cmp q now)
  has_put row a q = one_truth (has row_cmp q (put_in row_cmp row now))
      (cond (is_eq (row_cmp row q)) true (has row_cmp q now))
      (λ e. there (is_eq (row_cmp row q)) refl
      (put_back row_cmp row_exact row q now
      (has_in row_cmp row_exact q (put_in row_cmp row now) e)))
      (λ e. in_has row_cmp row_exact q (put_in row_cmp row now)
      (subst (In q) (sym (put_is_set row now a))
      (in_set row_cmp row_exact q (row ∷ now) (back (row_cmp row q) refl e))))
    where
      there : (b : Bool) → is_eq (row_cmp row q) ≡ b → In q (row ∷ now)
          → cond b true (has row_cmp q now) ≡ true
      there true f i = refl
      there false f (inl k) = absurd (never (is_eq (row_cmp row q))
          (ap (λ (r : Row). is_eq (row_cmp row r)) (sym k)
          ∙ ap is_eq (cmp_itself row_cmp row_exact row)) f)
      there false f (inr i) = in_has row_cmp row_exact q now i

      back : (o : Ordering) → row_cmp row q ≡ o → cond (is_eq o) true (has row_cmp q now) ≡ true
          → In q (row ∷ now)
      back Less f k = inr (has_in row_cmp row_exact q now k)
      back Equal f k = inl (row_exact.same row q f)
      back Greater f k = inr (has_in row_cmp row_exact q now k)

  module _ (passes : Row → Bool) (hits : List Row) (are : AreHits passes now hits) where
    abbrev left : Relation
    left = filter (λ row. not (passes row)) now

    pub has_left : (q : Row) → has row_cmp q left
        ≡ cond (has row_cmp q hits) false (has row_cmp q now)
    has_left q = step (has row_cmp q hits) refl
      where
        step : (b : Bool) → has row_cmp q hits ≡ b
            → has row_cmp q left ≡ cond b false (has row_cmp q now)
        step true e = not_in q left (λ m.
            let f = from_filter (λ row. not (passes row)) q now m in
            never (passes q) (are.only q (has_in row_cmp row_exact q hits e)).1
            (not_true (passes q) f.1))
        step false e = one_truth (has row_cmp q left) (has row_cmp q now)
            (λ m. in_has row_cmp row_exact q now
            (from_filter (λ row. not (passes row)) q now (has_in row_cmp row_exact q left m)).0)
            (λ m.
            let i = has_in row_cmp row_exact q now m in
            in_has row_cmp row_exact q left
            (in_filter (λ row. not (passes row)) q now i (not_of (passes q)
            (elim (known_or_not (passes q)) [
              | inl p ↦
                  absurd (never (has row_cmp q hits)
                  (in_has row_cmp row_exact q hits (are.all q i p))
                  e)
              | inr p ↦ p
            ]))))

    module _ (f : Row → Row) where
      abbrev made : Row → Row
      made row = if passes row then f row else row

      image_in : (q : Row) → In q (map f hits) → In q (map made now)
      image_in q m =
          let g = from_map f q hits m in
          let h = are.only g.0 g.1 in
          subst (λ (r : Row). In r (map made now)) (ap (λ b. if b then f g.0 else g.0) h.1 ∙ g.2)
          (in_map made g.0 now h.0)

      left_in : (q : Row) → In q left → In q (map made now)
      left_in q m =
          let g = from_filter (λ row. not (passes row)) q now m in
          subst (λ (r : Row). In r (map made now))
          (ap (λ b. if b then f q else q) (not_true (passes q) g.1)) (in_map made q now g.0)

      from_made : (q : Row) → In q (map made now) → In q (map f hits) ⊎ In q left
      from_made q m = let g = from_map made q now m in step g.0 g.1 g.2 (passes g.0) refl
        where
          step : (x : Row) → In x now → made x ≡ q → (b : Bool) → passes x ≡ b → In q (map f hits)
              ⊎ In q left
          step x i e true p = inl (subst (λ (r : Row). In r (map f hits))
              (sym (ap (λ b. if b then f x else x) p) ∙ e) (in_map f x hits (are.all x i p)))
          step x i e false p = inr (subst (λ (r : Row). In r left)
              (sym (ap (λ b. if b then f x else x) p) ∙ e)
              (in_filter (λ row. not (passes row)) x now i (not_of (passes x) p)))

      abbrev after : Relation
      after = set_of row_cmp (map made now)

      pub has_made : (q : Row) → has row_cmp q after
          ≡ cond (has row_cmp q (map f hits)) true (has row_cmp q left)
      has_made q = step (has row_cmp q (map f hits)) refl
        where
          step : (b : Bool) → has row_cmp q (map f hits) ≡ b
              → has row_cmp q after ≡ cond b true (has row_cmp q left)
          step true e = in_has row_cmp row_exact q after
              (in_set row_cmp row_exact q (map made now)
              (image_in q (has_in row_cmp row_exact q (map f hits) e)))
          step false e = one_truth (has row_cmp q after) (has row_cmp q left)
              (λ m. elim (from_made q (from_set row_cmp row_exact q (map made now)
              (has_in row_cmp row_exact q after m))) [
                | inl i ↦ absurd (never (has row_cmp q (map f hits))
                    (in_has row_cmp row_exact q (map f hits) i) e)
                | inr i ↦ in_has row_cmp row_exact q left i
              ])
              (λ m. in_has row_cmp row_exact q after
              (in_set row_cmp row_exact q (map made now)
              (left_in q (has_in row_cmp row_exact q left m))))

-- ---- change by change

module _ (old new : Pending) (stored now next : Relation) (leads : LeadsTo old stored now) where
  pub set_leads : (changes : Row → Bool) (there : Bool)
      → ((q : Row) → find q new ≡ cond (changes q) (told (has row_cmp q stored) there) (find q old))
      → ((q : Row) → has row_cmp q next ≡ cond (changes q) there (has row_cmp q now))
      → LeadsTo new stored next
  set_leads changes there h k = λ q.
      h q ∙ ap (λ (o : Option Bool). cond (changes q) (told (has row_cmp q stored) there) o)
      (leads q)
      ∙ one (changes q) (has row_cmp q stored) (has row_cmp q now)
      ∙ ap (told (has row_cmp q stored)) (sym (k q))
    where
      one : (b s n : Bool) → cond b (told s there) (told s n) ≡ told s (cond b there n)
      one true s n = refl
      one false s n = refl

-- the rows that the table has are those that are stored
pub leads_itself : (stored : Relation) → LeadsTo [] stored stored
leads_itself stored = λ q. sym (told_same (has row_cmp q stored) (has row_cmp q stored) refl)

-- what is told of a row is told of each that is equal to it
pub one_set : (row q : Row) (stored : Relation) (there : Bool) (w earlier later : Option Bool)
    → later ≡ cond (is_eq (row_cmp row q)) w earlier → told (has row_cmp row stored) there ≡ w
    → later ≡ cond (is_eq (row_cmp row q)) (told (has row_cmp q stored) there) earlier
one_set row q stored there w earlier later e is = e ∙ step (row_cmp row q) refl
  where
    step : (o : Ordering) → row_cmp row q ≡ o
        → cond (is_eq o) w earlier ≡ cond (is_eq o) (told (has row_cmp q stored) there) earlier
    step Less f = refl
    step Equal f = sym is ∙ ap (λ (r : Row). told (has row_cmp r stored) there)
        (row_exact.same row q f)
    step Greater f = refl

-- ---- what is lost and gained in the end

module _ (known : Pending) (stored now : Relation) (ordered : Ascends row_cmp (keys_of known))
    (there : Ascends row_cmp stored) (ascends : Ascends row_cmp now)
    (leads : LeadsTo known stored now) where
  abbrev is_lost : Row × Bool → Bool
  is_lost e = not e.1

  abbrev is_gained : Row × Bool → Bool
  is_gained e = e.1

  abbrev lost : Relation
  lost = lost_by_now known

  abbrev gained : Relation
  gained = gained_by_now known

  lost_was : (row : Row) → In row lost → In row stored × (has row_cmp row now ≡ false)
  lost_was row m =
      let f = picked_is is_lost known row m in (
        has_in row_cmp row_exact row stored (has_stored known stored now ordered leads row f.0 f.1
            ∙ f.2),
        has_now known stored now ordered leads row f.0 f.1 ∙ not_true f.0 f.2,
      )

  gained_is : (row : Row) → In row gained → In row now × (has row_cmp row stored ≡ false)
  gained_is row m =
      let f = picked_is is_gained known row m in (
        has_in row_cmp row_exact row now (has_now known stored now ordered leads row f.0 f.1 ∙ f.2),
        has_stored known stored now ordered leads row f.0 f.1 ∙ ap not f.2,
      )

  in_lost : (row : Row) → In row stored → has row_cmp row now ≡ false → In row lost
  in_lost row i e = is_picked is_lost known row false
      (found_in known row false (leads row ∙ ap (λ b. told b (has row_cmp row now))
      (in_has row_cmp row_exact row stored i) ∙ ap (told true) e)) refl

  in_gained : (row : Row) → In row now → has row_cmp row stored ≡ false → In row gained
  in_gained row i e = is_picked is_gained known row true
      (found_in known row true (leads row ∙ ap (λ b. told b (has row_cmp row now)) e
      ∙ ap (told false) (in_has row_cmp row_exact row now i))) refl

  pub lost_are : lost ≡ gained_rows now stored
  lost_are = one_list row_cmp row_exact lost (gained_rows now stored)
      (picked_ascends is_lost known ordered)
      (filter_ascends (λ row. not (has row_cmp row now)) stored there) (record {
        there = λ row m. let h = lost_was row m in
            in_filter (λ r. not (has row_cmp r now)) row stored h.0
            (not_of (has row_cmp row now) h.1);
        back = λ row m. let h = from_filter (λ r. not (has row_cmp r now)) row stored m in
            in_lost row h.0 (not_true (has row_cmp row now) h.1);
      })

  pub gained_are : gained ≡ gained_rows stored now
  gained_are = one_list row_cmp row_exact gained (gained_rows stored now)
      (picked_ascends is_gained known ordered)
      (filter_ascends (λ row. not (has row_cmp row stored)) now
      ascends) (record {
        there = λ row m. let h = gained_is row m in
            in_filter (λ r. not (has row_cmp r stored)) row now h.0
            (not_of (has row_cmp row stored) h.1);
        back = λ row m. let h = from_filter (λ r. not (has row_cmp r stored)) row now m in
            in_gained row h.0 (not_true (has row_cmp row stored) h.1);
      })
