-- Tables whose changes are prepared, or made, one after the other.
use Rattle.std.proofs.Common.{◌≡◌, ◌≤◌, ◌<◌, ◌+◌, ℕ, suc, zero, true, List, [], ◌∷◌, ◌++◌, length}
use Rattle.std.proofs.Common.{drop, get_or, refl, sym, ap, subst, ◌∙◌, arith, inl, inr}
use Rattle.std.proofs.Common.{length-append, get_or-set_same, get_or-set_other}
use Rattle.std.specs.Prelude.{Option, None, ◌⊎◌, ◌==◌}
use Rattle.std.specs.Borrow.{Bor}
use Rattle.std.proofs.lemmas.Bool.Decides.{nat_tests}
use Rattle.std.proofs.Math.ListN.{set, length-set, drop_of_length-le}
use Rattle.std.proofs.Math.Seq.{get_or-append_seam}
use Rattle.std.proofs.lemmas.List.{get_or_append_left, get_or_read, nil_from_length}
use Rattle.history_store.specs.Change.{PreparedChange}
use Rattle.smo_ops_types.specs.Changes.{PlainChange}
use Rattle.smo_ops_types.specs.declared.change.Change.{Change}
use Rattle.smo_ops_spec.specs.Effects.{gained_rows}
use Rattle.smo_ops_spec.specs.Inserting.{relation_after_each}
use Rattle.smo_ops_spec.proofs.CountingLaws.{gains_nothing}
use Rattle.smo_ops_spec.proofs.Firsts.{drop_at}
use Rattle.version_groups_tables.specs.declared.made_table.MadeTable.{MadeTable}
use Rattle.version_groups_changes.specs.Changing.{borrowed_changes}
use Rattle.version_groups_tables.specs.Becoming.{Leads, IsMade}
use Rattle.version_groups_tables.specs.Grouping.{of_table}
use Rattle.version_groups_tables.specs.Changing.{rows_now, rows_after_own, rows_after, ArePrepared}
use Rattle.version_groups_tables.specs.Changing.{all_gained, all_lost}
use Rattle.version_groups_tables.specs.Room.{IsSameTable, AreSameTables}
use Rattle.version_groups_changes.proofs.Becoming.{same_relation, same_columns}
use Rattle.smo_ops_spec.proofs.PastMoments.{before_or_not}

-- ---- a table that no change is of

module _ (stamp : ℕ) (own : List (Bor Change)) (t : MadeTable) (none : (length own == 0) ≡ true)
  where
    untouched_rows : rows_after_own stamp (borrowed_changes own) t ≡ rows_now stamp t
    untouched_rows = ap (λ cs. rows_after_own stamp (borrowed_changes cs) t)
        (nil_from_length own (grind (arith, nat_tests, none)))

    pub untouched_gained : 0 ≡ length (gained_rows (rows_now stamp t)
        (rows_after_own stamp (borrowed_changes own) t))
    untouched_gained = sym (ap (λ rows. length (gained_rows (rows_now stamp t) rows)) untouched_rows
        ∙ ap length (gains_nothing (rows_now stamp t)))

    pub untouched_lost : 0 ≡ length (gained_rows (rows_after_own stamp (borrowed_changes own) t)
        (rows_now stamp t))
    untouched_lost = sym (ap (λ rows. length (gained_rows rows (rows_now stamp t))) untouched_rows
        ∙ ap length (gains_nothing (rows_now stamp t)))

-- ---- one place or another

pub one_place : (k i : ℕ) → (k ≡ i) ⊎ ((k < i) ⊎ (i < k))
one_place k i = elim (before_or_not k i) [
  | inl l ↦ inr (inl l)
  | inr l ↦ elim (before_or_not i k) [ inl m ↦ inr (inr m) | inr m ↦ inl (omega (arith, l, m)) ]
]

-- ---- prepared

-- the same columns, keys and entries have the same rows after the changes
pub same_after : (stamp : ℕ) (changes : List PlainChange) (t u : MadeTable) → IsSameTable t u
    → rows_after stamp changes u ≡ rows_after stamp changes t
same_after stamp changes t u h =
    ap (λ cs. relation_after_each cs (of_table u.name changes) (rows_now stamp u))
    (same_columns t.store u.store u.store.spare u.store.indexed h.store)
    ∙ ap (λ n. relation_after_each t.store.columns (of_table n changes) (rows_now stamp u)) h.name
    ∙ ap (relation_after_each t.store.columns (of_table t.name changes))
    (same_relation t.store u.store u.store.spare u.store.indexed h.store stamp)

-- the first tables are ready
pub record ReadyTo (stamp : ℕ) (changes : List PlainChange) (old new : List MadeTable)
    (prepared : List (Option PreparedChange)) (gained lost i : ℕ) : Type 0 where
  pub long : length new ≡ length old
  pub count : length prepared ≡ i
  pub same : (k : ℕ) (d : MadeTable) → k < length old
      → IsSameTable (get_or old k d) (get_or new k d)
  pub others : (k : ℕ) (d : MadeTable) → i ≤ k → get_or new k d ≡ get_or old k d
  pub ready : (k : ℕ) (d : MadeTable) → k < i
      → Leads (get_or new k d).store stamp (rows_after stamp changes (get_or old k d))
      (get_or prepared k None)
  pub gains : all_gained stamp changes old ≡ gained + all_gained stamp changes (drop i old)
  pub loses : all_lost stamp changes old ≡ lost + all_lost stamp changes (drop i old)

pub same_table : (t : MadeTable) → IsSameTable t t
same_table t = record { name = refl; first = refl; last = refl; store = refl; spare = omega arith }

pub none_ready : (stamp : ℕ) (changes : List PlainChange) (old : List MadeTable)
    → ReadyTo stamp changes old old [] 0 0 0
none_ready stamp changes old = record {
  long = refl;
  count = refl;
  same = λ k d l. same_table (get_or old k d);
  others = λ k d l. refl;
  ready = λ k d l. absurd (omega (arith, l));
  gains = omega arith;
  loses = omega arith;
}

module _ (stamp : ℕ) (changes : List PlainChange) (old new : List MadeTable)
    (prepared : List (Option PreparedChange)) (gained lost i : ℕ)
    (h : ReadyTo stamp changes old new prepared gained lost i) where
  -- a table as it was before
  pub was : (t : MadeTable) → i < length new → t ≡ get_or new i t → (d : MadeTable)
      → get_or old i d ≡ t
  was t l e d = sym (h.others i d (omega arith)) ∙ sym (get_or_read new i t l e d)

  -- a table set in place, with more room at most
  pub set_same : (t u : MadeTable) → i < length new → t ≡ get_or new i t → IsSameTable t u
      → AreSameTables old (set new i u)
  set_same t u within is own = record {
    count = length-set new i u ∙ h.long;
    each = λ k d q.
        there k d q (one_place k i);
  }
    where
      there : (k : ℕ) (d : MadeTable) → k < length old → (k ≡ i) ⊎ ((k < i) ⊎ (i < k))
          → IsSameTable (get_or old k d) (get_or (set new i u) k d)
      there k d q (inl e) =
          subst (λ j. IsSameTable (get_or old j d) (get_or (set new i u) j d)) (sym e)
          (subst (λ (x : MadeTable). IsSameTable x (get_or (set new i u) i d))
          (sym (was t within is d)) (subst (λ (x : MadeTable). IsSameTable t x)
          (sym (get_or-set_same new i u d within)) own))
      there k d q (inr (inl m)) = subst (λ (x : MadeTable). IsSameTable (get_or old k d) x)
          (sym (get_or-set_other new i k u d (λ e. omega (arith, e, m)))) (h.same k d q)
      there k d q (inr (inr m)) = subst (λ (x : MadeTable). IsSameTable (get_or old k d) x)
          (sym (get_or-set_other new i k u d (λ e. omega (arith, e, m)))) (h.same k d q)

  pub one_ready : (t u : MadeTable) (p : Option PreparedChange) (g l : ℕ) → i < length new
      → t ≡ get_or new i t → IsSameTable t u → Leads u.store stamp (rows_after stamp changes t) p
      → g ≡ length (gained_rows (rows_now stamp t) (rows_after stamp changes t))
      → l ≡ length (gained_rows (rows_after stamp changes t) (rows_now stamp t))
      → ReadyTo stamp changes old (set new i u) (prepared ++ p ∷ []) (gained + g) (lost + l) (i + 1)
  one_ready t u p g l within is same leads gains loses =
      let long = h.long in
      let inside : i < length old = omega (arith, within, long) in
      let next = drop_at old i t inside (sym (was t within is t)) in
      let gone = h.gains in
      let left = h.loses in
      let more : all_gained stamp changes (drop i old)
      ≡ length (gained_rows (rows_now stamp t) (rows_after stamp changes t)) + all_gained stamp
      changes (drop (i + 1) old) = ap (all_gained stamp changes) next in
      let less : all_lost stamp changes (drop i old)
      ≡ length (gained_rows (rows_after stamp changes t) (rows_now stamp t)) + all_lost stamp
      changes (drop (i + 1) old) = ap (all_lost stamp changes) next in
      let count = h.count in
      record {
        long = length-set new i u ∙ h.long;
        count = length-append prepared (p ∷ []) ∙ (omega (arith, count));
        same = (set_same t u within is same).each;
        others = λ k d q. get_or-set_other new i k u d (λ e. omega (arith, e, q))
            ∙ h.others k d (omega (arith, q));
        ready = λ k d q. ready_there k d q (one_place k i);
        gains = omega (arith, gone, more, gains);
        loses = omega (arith, left, less, loses);
      }
    where
      here : (d : MadeTable) → get_or (set new i u) i d ≡ u
      here d = get_or-set_same new i u d within

      apart : (k : ℕ) (d : MadeTable) → (k < i) ⊎ (i < k)
          → get_or (set new i u) k d ≡ get_or new k d
      apart k d (inl q) = get_or-set_other new i k u d (λ e. omega (arith, e, q))
      apart k d (inr q) = get_or-set_other new i k u d (λ e. omega (arith, e, q))

      change_here : get_or (prepared ++ p ∷ []) i None ≡ p
      change_here = subst (λ j. get_or (prepared ++ p ∷ []) j None ≡ p) h.count
          (get_or-append_seam prepared p [] None)

      ready_there : (k : ℕ) (d : MadeTable) → k < i + 1 → (k ≡ i) ⊎ ((k < i) ⊎ (i < k))
          → Leads (get_or (set new i u) k d).store stamp (rows_after stamp changes (get_or old k d))
          (get_or (prepared ++ p ∷ []) k None)
      ready_there k d q (inl e) =
          subst (λ j. Leads (get_or (set new i u) j d).store stamp
          (rows_after stamp changes (get_or old j d)) (get_or (prepared ++ p ∷ []) j None)) (sym e)
          (subst (λ (x : MadeTable). Leads x.store stamp (rows_after stamp changes (get_or old i d))
          (get_or (prepared ++ p ∷ []) i None)) (sym (here d))
          (subst (λ (x : MadeTable). Leads u.store stamp (rows_after stamp changes x)
          (get_or (prepared ++ p ∷ []) i None)) (sym (was t within is d))
          (subst (λ o. Leads u.store stamp (rows_after stamp changes t) o) (sym change_here)
          leads)))
      ready_there k d q (inr (inl m)) =
          subst (λ (x : MadeTable). Leads x.store stamp (rows_after stamp changes (get_or old k d))
          (get_or (prepared ++ p ∷ []) k None)) (sym (apart k d (inl m)))
          (subst (λ o. Leads (get_or new k d).store stamp
          (rows_after stamp changes (get_or old k d)) o)
          (sym (get_or_append_left prepared (p ∷ []) None k
          (let count = h.count in omega (arith, m, count)))) (h.ready k d m))
      ready_there k d q (inr (inr m)) = absurd (omega (arith, q, m))

  pub all_same : AreSameTables old new
  all_same = record { count = h.long; each = h.same }

  module _ (all : length old ≤ i) where
    none_left : drop i old ≡ []
    none_left = drop_of_length-le old all

    pub gained_is : gained ≡ all_gained stamp changes old
    gained_is = (let g = h.gains in let none : all_gained stamp changes (drop i old) ≡ 0 =
        ap (all_gained stamp changes) none_left in omega (arith, g, none))

    pub lost_is : lost ≡ all_lost stamp changes old
    lost_is = (let l = h.loses in let none : all_lost stamp changes (drop i old) ≡ 0 =
        ap (all_lost stamp changes) none_left in omega (arith, l, none))

    pub are_ready : i ≤ length new → ArePrepared stamp changes new prepared
    are_ready few =
        let long = h.long in
        let count = h.count in
        record {
          count = omega (arith, count, all, few, long);
          each = λ k d q.
              subst (λ r. Leads (get_or new k d).store stamp r (get_or prepared k None))
              (sym (same_after stamp changes (get_or old k d) (get_or new k d)
              (h.same k d (omega (arith, q, long)))))
              (h.ready k d (omega (arith, q, all, long)));
        }

-- ---- made

-- the changes of the first tables are made
pub record MadeTo (old new : List MadeTable) (prepared : List (Option PreparedChange)) (i : ℕ) :
    Type 0 where
  pub long : length new ≡ length old
  pub made : (k : ℕ) (d : MadeTable) → k < i → IsMade (get_or old k d) (get_or prepared k None)
      (get_or new k d)
  pub others : (k : ℕ) (d : MadeTable) → i ≤ k → get_or new k d ≡ get_or old k d

pub none_made : (old : List MadeTable) (prepared : List (Option PreparedChange))
    → MadeTo old old prepared 0
none_made old prepared = record {
  long = refl;
  made = λ k d l. absurd (omega (arith, l));
  others =
      λ k d l. refl;
}

-- what is left of a list, one by one
pub record IsNext {A : Type 0} (xs left : List A) (x : A) (i : ℕ) : Type 0 where
  pub within : i < length xs
  pub is : (d : A) → get_or xs i d ≡ x
  pub more : left ≡ drop (i + 1) xs

pub next_left : {A : Type 0} (xs rest : List A) (x : A) (i : ℕ) → drop i xs ≡ x ∷ rest
    → IsNext xs rest x i
next_left {A} [] rest x zero e = absurd (cc)
next_left {A} [] rest x (suc i) e = absurd (cc)
next_left {A} (y ∷ xs) rest x zero e =
    let one : y ≡ x = cc in
    let more : xs ≡ rest = cc in
    record { within = omega arith; is = λ d. one; more = sym more }
next_left {A} (y ∷ xs) rest x (suc i) e =
    let h = next_left xs rest x i e in
    let within = h.within in
    record {
      within = omega (arith, within);
      is = h.is;
      more = h.more
          ∙ sym (ap (λ j. drop j (y ∷ xs)) (let e : suc i + 1 ≡ suc (i + 1) = omega arith in e));
    }

pub no_more : {A : Type 0} (xs : List A) (i : ℕ) → drop i xs ≡ [] → length xs ≤ i
no_more {A} [] i e = omega arith
no_more {A} (x ∷ xs) zero e = absurd (cc)
no_more {A} (x ∷ xs) (suc i) e = (let h = no_more xs i e in omega (arith, h))

module _ (old new : List MadeTable) (prepared : List (Option PreparedChange)) (i : ℕ)
    (h : MadeTo old new prepared i) where
  pub room_before : (P : MadeTable → Option PreparedChange → Type 0)
      → ((k : ℕ) (d : MadeTable) → k < length old → P (get_or old k d) (get_or prepared k None))
      → (t : MadeTable) (p : Option PreparedChange) → i < length new
      → t ≡ get_or new i t → get_or prepared i None ≡ p → P t p
  room_before P room t p l e q =
      let long = h.long in
      subst (λ (x : MadeTable). P x p) (sym (h.others i t (omega arith)) ∙ sym e)
      (subst (P (get_or old i t)) q (room i t (omega (arith, l, long))))

  pub one_made : (t u : MadeTable) (p : Option PreparedChange) → i < length new → t ≡ get_or new i t
      → get_or prepared i None ≡ p → IsMade t p u → MadeTo old (set new i u) prepared (i + 1)
  one_made t u p within is at made = record {
    long = length-set new i u ∙ h.long;
    made = λ k d q. there k d q (one_place k i);
    others = λ k d q. get_or-set_other new i k u d (λ e. omega (arith, e, q))
        ∙ h.others k d (omega (arith, q));
  }
    where
      before : (d : MadeTable) → get_or old i d ≡ t
      before d = sym (h.others i d (omega arith)) ∙ sym (get_or_read new i t within is d)

      there : (k : ℕ) (d : MadeTable) → k < i + 1 → (k ≡ i) ⊎ ((k < i) ⊎ (i < k))
          → IsMade (get_or old k d) (get_or prepared k None) (get_or (set new i u) k d)
      there k d q (inl e) =
          subst (λ j. IsMade (get_or old j d) (get_or prepared j None) (get_or (set new i u) j d))
          (sym e)
          (subst (λ (x : MadeTable). IsMade x (get_or prepared i None) (get_or (set new i u) i d))
          (sym (before d))
          (subst (λ o. IsMade t o (get_or (set new i u) i d)) (sym at)
          (subst (λ (x : MadeTable). IsMade t p x) (sym (get_or-set_same new i u d within)) made)))
      there k d q (inr (inl m)) = subst (λ (x : MadeTable).
          IsMade (get_or old k d) (get_or prepared k None) x)
          (sym (get_or-set_other new i k u d (λ e. omega (arith, e, m)))) (h.made k d m)
      there k d q (inr (inr m)) = absurd (omega (arith, q, m))
