-- What is known of rows, by the rows themselves and after their values in a column.
use Rattle.std.proofs.Common.{◌≡◌, ◌⊎◌, ◌<◌, ℕ, arith, length, get_or, Bool, true, false, cond}
use Rattle.std.proofs.Common.{List, [], ◌∷◌, ◌++◌, map, drop, take, refl, sym, ap, ◌∙◌, subst, inl}
use Rattle.std.proofs.Common.{inr}
use Rattle.std.specs.Prelude.{◌&&◌, All, Option, Some, None}
use Rattle.std.specs.List.{filter}
use Rattle.std.specs.Map.{lookup, keys_of}
use Rattle.std.specs.BTreeMap.{is_at}
use Rattle.std.specs.Ordering.{is_eq, is_le, ordering_then}
use Rattle.std.specs.declared.cmp.Ordering.{Ordering}
use Rattle.std.specs.declared.cmp.Ordering.TheVariants.{Less, Equal, Greater}
use Rattle.relations_spec.specs.Sets.{In, Ascends}
use Rattle.relations_spec.proofs.SetLaws.{in_map, from_map, cmp_itself}
use Rattle.prima_base.specs.declared.value.Value.{Value}
use Rattle.prima_base.specs.Order.{value_cmp, row_cmp}
use Rattle.prima_base.specs.OrderLaws.{row_exact}
use Rattle.history_store.specs.Cuts.{Cut, is_before}
use Rattle.history_store.specs.Handing.{is_value, at_column}
use Rattle.smo_ops_spec.specs.OneRow.{Row, Relation}
use Rattle.version_groups_candidates.specs.Ranges.{cut_at}
use Rattle.version_groups_changes.specs.PendingChanges.{Pending, pending_hits, HavePendingHits}
use Rattle.version_groups_changes.specs.PendingChanges.{AreLed, led_by}
use Rattle.version_groups_changes.specs.PendingChanges.{led_of}
use Rattle.version_groups_changes.specs.PendingChanges.{IsToldLed, Led, IsToldToo}
use Rattle.version_groups_changes.proofs.PendingLaws.{found_in, in_found, picked_is, is_picked}
use Rattle.version_groups_changes.proofs.PendingLaws.{and_true}
use Rattle.version_groups_changes.proofs.PendingLaws.{from_cut, both, never}

-- ---- the rows between the cuts

same_rows : (rows : Relation) → map (drop 0) rows ≡ rows
same_rows [] = refl
same_rows (row ∷ rows) = ap (λ rs. row ∷ rs) (same_rows rows)

pub row_hits_are : (passes : Row → Bool) (from to : Cut) (known : Pending)
    → Ascends row_cmp (keys_of known)
    → ((row : Row) → In (row, true) known → passes row ≡ true → (is_before from row ≡ false)
    × (is_before to row ≡ true)) → HavePendingHits passes known
    (map (drop 0) (pending_hits from to passes known))
row_hits_are passes from to known ordered within =
    subst (HavePendingHits passes known) (sym (same_rows (pending_hits from to passes known)))
    (record { only = only; all = all })
  where
    pick : Row × Bool → Bool
    pick e = is_le (row_cmp from.values e.0) && (is_before to e.0 && (e.1 && passes e.0))

    only : (row : Row) → In row (keys_of (filter pick known)) → In (row, true) known
        × (passes row ≡ true)
    only row m =
        let f = picked_is pick known row m in
        let g = both (is_le (row_cmp from.values row)) (is_before to row && (f.0 && passes row))
        f.2 in
        let h = both (is_before to row) (f.0 && passes row) g.1 in
        let k = both f.0 (passes row) h.1 in
        (subst (λ (b : Bool). In (row, b) known) k.0 f.1, k.1)

    all : (row : Row) → In (row, true) known → passes row ≡ true
        → In row (keys_of (filter pick known))
    all row i p =
        let l = within row i p in
        is_picked pick known row true i (and_true (is_le (row_cmp from.values row))
        (is_before to row && (true && passes row)) (from_cut from row l.0)
        (and_true (is_before to row) (true && passes row) l.1 p))

-- ---- the rows after a value

itself : (v : Value) → value_cmp v v ≡ Equal
itself v = one (value_cmp v v) (cmp_itself row_cmp row_exact (v ∷ []))
  where
    one : (o : Ordering) → ordering_then o Equal ≡ Equal → o ≡ Equal
    one Less e = cc
    one Equal e = refl
    one Greater e = cc

is_that : (v : Value) (vs : List Value) → vs ≡ v ∷ [] → is_value v vs ≡ true
is_that v vs e = rw e (ap is_eq (itself v))

no_less : (row : Row) → is_le (row_cmp [] row) ≡ true
no_less [] = refl
no_less (v ∷ row) = refl

told_in : (b : Bool) (o : Option Bool) (t : Bool) → cond b o None ≡ Some t → (b ≡ true)
    × (o ≡ Some t)
told_in true o t e = (refl, e)
told_in false o t e = absurd (cc)

pub led_hits_are : (passes : Row → Bool) (column : ℕ) (v : Value) (known led : Pending)
    → Ascends row_cmp (keys_of known) → Ascends row_cmp (keys_of led) → AreLed column known led
    → ((row : Row) → In (row, true) known → passes row ≡ true → at_column column row ≡ v ∷ [])
    → HavePendingHits passes known (map (drop 1)
    (pending_hits (cut_at (v ∷ []) false) (cut_at (v ∷ []) true) (λ row. passes (drop 1 row))
    led))
led_hits_are passes column v known led ordered after are pinned = record { only = only; all = all }
  where
    pick : Row × Bool → Bool
    pick e = is_le (row_cmp (v ∷ []) e.0) && (is_before (cut_at (v ∷ []) true) e.0
        && (e.1 && passes (drop 1 e.0)))

    stripped : (q : Row) (b : Bool) → In (q, b) led → pick (q, b) ≡ true → In (drop 1 q, true) known
        × (passes (drop 1 q) ≡ true)
    stripped [] b i p = absurd (cc)
    stripped (w ∷ row) b i p =
        let g = both (is_le (row_cmp (v ∷ []) (w ∷ row)))
        (is_before (cut_at (v ∷ []) true) (w ∷ row) && (b && passes row)) p in
        let h = both (is_before (cut_at (v ∷ []) true) (w ∷ row)) (b && passes row) g.1 in
        let k = both b (passes row) h.1 in
        let t = told_in (is_value w (at_column column row)) (lookup (is_at (row_cmp row)) known) b
        (sym (are w row) ∙ in_found led (w ∷ row) b after i) in
        (subst (λ (x : Bool). In (row, x) known) k.0 (found_in known row b t.1), k.1)

    only : (row : Row) → In row (map (drop 1) (keys_of (filter pick led))) → In (row, true) known
        × (passes row ≡ true)
    only row m =
        let f = from_map (drop 1) row (keys_of (filter pick led)) m in
        let g = picked_is pick led f.0 f.1 in
        let s = stripped f.0 g.0 g.1 g.2 in (
          subst (λ (r : Row). In (r, true) known) f.2 s.0,
          subst (λ (r : Row). passes r ≡ true) f.2 s.1,
        )

    all : (row : Row) → In (row, true) known → passes row ≡ true
        → In row (map (drop 1) (keys_of (filter pick led)))
    all row i p =
        let e = pinned row i p in
        let found = are v row ∙ ap (λ b. cond b (lookup (is_at (row_cmp row)) known) None)
        (is_that v (at_column column row) e) ∙ in_found known row true ordered i in
        let first : is_le (row_cmp (v ∷ []) (v ∷ row)) ≡ true =
        ap (λ o. is_le (ordering_then o (row_cmp [] row))) (itself v) ∙ no_less row in
        let last : is_before (cut_at (v ∷ []) true) (v ∷ row) ≡ true =
        ap (λ o. is_le (ordering_then o Equal)) (itself v) in
        in_map (drop 1) (v ∷ row) (keys_of (filter pick led))
        (is_picked pick led (v ∷ row) true (found_in led (v ∷ row) true found)
        (and_true (is_le (row_cmp (v ∷ []) (v ∷ row)))
        (is_before (cut_at (v ∷ []) true) (v ∷ row) && (true && passes row)) first
        (and_true (is_before (cut_at (v ∷ []) true) (v ∷ row)) (true && passes row) last p)))

-- ---- what is told of one more row

pub none_led : (column : ℕ) → AreLed column [] []
none_led column v row = either (is_value v (at_column column row))
  where
    either : (b : Bool) → lookup {X = Bool} (is_at (row_cmp (v ∷ row))) []
        ≡ cond b (lookup (is_at (row_cmp row)) []) None
    either true = refl
    either false = refl

is_only : (v : Value) (vs : List Value) → is_value v vs ≡ true → vs ≡ v ∷ []
is_only v [] e = absurd (cc)
is_only v (w ∷ []) e = row_exact.same (w ∷ []) (v ∷ []) (eq (value_cmp w v) e)
  where
    eq : (o : Ordering) → is_eq o ≡ true → ordering_then o Equal ≡ Equal
    eq Less f = absurd (cc)
    eq Equal f = refl
    eq Greater f = absurd (cc)
is_only v (w ∷ (x ∷ vs)) e = absurd (cc)

is_equal : (o : Ordering) → is_eq o ≡ true → o ≡ Equal
is_equal Less e = absurd (cc)
is_equal Equal e = refl
is_equal Greater e = absurd (cc)

module _ (column : ℕ) (row : Row) (told : Option Bool) (known led new : Pending)
    (are : AreLed column known led) (known_new : (q : Row)
    → lookup (is_at (row_cmp q)) new ≡ cond (is_eq (row_cmp row q)) told
    (lookup (is_at (row_cmp q)) known)) where
  abbrev find_pending : Row → Option Bool
  find_pending q = lookup (is_at (row_cmp q)) known

  -- the row has no value there
  pub led_skipped : at_column column row ≡ [] → AreLed column new led
  led_skipped e v q = are v q ∙ other (is_value v (at_column column q)) refl
    where
      new_q : Option Bool
      new_q = lookup (is_at (row_cmp q)) new

      not_same : is_value v (at_column column q) ≡ true → is_eq (row_cmp row q) ≡ false
      not_same f = step (row_cmp row q) refl
        where
          step : (o : Ordering) → row_cmp row q ≡ o → is_eq (row_cmp row q) ≡ false
          step Less g = ap is_eq g
          step Greater g = ap is_eq g
          step Equal g =
              let n : is_value v (at_column column q) ≡ false =
              ap (λ (r : Row). is_value v (at_column column r)) (sym (row_exact.same row q g))
              ∙ ap (is_value v) e in
              absurd (never (is_value v (at_column column q)) f n)

      other : (b : Bool) → is_value v (at_column column q) ≡ b
          → cond b (find_pending q) None ≡ cond b new_q None
      other false f = refl
      other true f = sym (known_new q ∙ ap (λ b. cond b told (find_pending q)) (not_same f))

  pub led_set : (w : Value) (more : Pending) → at_column column row ≡ w ∷ []
      → ((q : Row) → lookup (is_at (row_cmp q)) more
      ≡ cond (is_eq (row_cmp (w ∷ row) q)) told (lookup (is_at (row_cmp q)) led))
      → AreLed column new more
  led_set w more e h v q = h (v ∷ q) ∙ by_case (is_eq (row_cmp (w ∷ row) (v ∷ q))) refl
    where
      new_q : Option Bool
      new_q = lookup (is_at (row_cmp q)) new

      not_same : is_eq (row_cmp (w ∷ row) (v ∷ q)) ≡ false → is_value v (at_column column q) ≡ true
          → is_eq (row_cmp row q) ≡ false
      not_same n f = step (row_cmp row q) refl
        where
          step : (o : Ordering) → row_cmp row q ≡ o → is_eq (row_cmp row q) ≡ false
          step Less g = ap is_eq g
          step Greater g = ap is_eq g
          step Equal g =
              let same = row_exact.same row q g in
              let one : w ∷ [] ≡ v ∷ [] = sym e ∙ ap (at_column column) same
              ∙ is_only v (at_column column q) f in
              let whole : w ∷ row ≡ v ∷ q = ap (λ (vs : Row). vs ++ row) one
              ∙ ap (λ (r : Row). v ∷ r) same in
              let t : is_eq (row_cmp (w ∷ row) (v ∷ q)) ≡ true =
              ap is_eq (ap (row_cmp (w ∷ row)) (sym whole)
              ∙ cmp_itself row_cmp row_exact (w ∷ row)) in
              absurd (never (is_eq (row_cmp (w ∷ row) (v ∷ q))) t n)

      other : (b : Bool) → is_value v (at_column column q) ≡ b
          → is_eq (row_cmp (w ∷ row) (v ∷ q)) ≡ false
          → cond b (find_pending q) None ≡ cond b new_q None
      other false f n = refl
      other true f n = sym (known_new q ∙ ap (λ b. cond b told (find_pending q)) (not_same n f))

      by_case : (b : Bool) → is_eq (row_cmp (w ∷ row) (v ∷ q)) ≡ b
          → cond b told (lookup (is_at (row_cmp (v ∷ q))) led)
          ≡ cond (is_value v (at_column column q)) new_q None
      by_case true t =
          let same = row_exact.same (w ∷ row) (v ∷ q) (is_equal (row_cmp (w ∷ row) (v ∷ q)) t) in
          let rest : row ≡ q = ap (λ (r : Row). drop 1 r) same in
          let one : w ∷ [] ≡ v ∷ [] = ap (λ (r : Row). take 1 r) same in
          let has = is_that v (at_column column q) (sym (ap (at_column column) rest) ∙ e ∙ one) in
          let now = known_new q ∙ ap (λ b. cond b told (find_pending q))
          (ap is_eq (ap (row_cmp row) (sym rest) ∙ cmp_itself row_cmp row_exact row)) in
          sym (ap (λ b. cond b new_q None) has ∙ now)
      by_case false n = are v q ∙ other (is_value v (at_column column q)) refl n

-- ---- what is known after the change

one_value : (k : ℕ) (row : Row) → (at_column k row ≡ [])
    ⊎ ((v : Value) × (at_column k row ≡ v ∷ []))
one_value k row = step (drop k row)
  where
    step : (vs : Row) → (take 1 vs ≡ []) ⊎ ((v : Value) × (take 1 vs ≡ v ∷ []))
    step [] = inl refl
    step (v ∷ vs) = inr (v, refl)

set_led : (k : ℕ) (row : Row) (told : Option Bool) (known led new more : Pending)
    → AreLed k known led
    → ((q : Row) → lookup (is_at (row_cmp q)) new
    ≡ cond (is_eq (row_cmp row q)) told (lookup (is_at (row_cmp q)) known))
    → IsToldLed (led_of k row) told led more → AreLed k new more
set_led k row told known led new more are n m = elim (one_value k row) [
  | inl f ↦ (let s : more ≡ led = subst (λ (o : Option Row). IsToldLed o told led more)
      (ap (λ (vs : List Value). led_by vs row) f) m in
      subst (λ (es : Pending). AreLed k new es) (sym s)
      (led_skipped k row told known led new are n f))
  | inr r ↦ led_set k row told known led new are n r.0 more r.1
      (subst (λ (o : Option Row). IsToldLed o told led more)
      (ap (λ (vs : List Value). led_by vs row) r.1) m)
]

pub all_set : (row : Row) (told : Option Bool) (known new : Pending) (xs ys : List Led)
    → length ys ≡ length xs → All (λ led. AreLed led.column known led.rows) xs
    → ((q : Row) → lookup (is_at (row_cmp q)) new
    ≡ cond (is_eq (row_cmp row q)) told (lookup (is_at (row_cmp q)) known))
    → ((k : ℕ) (d : Led) → k < length xs → IsToldToo row told (get_or xs k d) (get_or ys k d))
    → All (λ led. AreLed led.column new led.rows) ys
all_set row told known new xs ys same are n each k d h =
    let b : k < length xs = omega (arith, same, h) in
    let x = get_or xs k d in
    let y = get_or ys k d in
    let t : IsToldToo row told x y = each k d b in
    subst (λ c. AreLed c new y.rows) (sym t.column)
    (set_led x.column row told known x.rows new y.rows (are k d b) n t.rows)

-- nothing is known after any column
pub all_none : (known : Pending) (leds : List Led) → known ≡ [] → All (λ led. led.rows ≡ []) leds
    → All (λ led. AreLed led.column known led.rows) leds
all_none known leds e none k d h =
    let x = get_or leds k d in
    subst (λ (es : Pending). AreLed x.column es x.rows) (sym e)
    (subst (λ (es : Pending). AreLed x.column [] es) (sym (none k d h)) (none_led x.column))
