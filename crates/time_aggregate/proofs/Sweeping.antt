-- The turns of a group, gone over.
use Rattle.std.specs.Prelude.{◌≡◌, ℕ, ◌+◌, ◌-◌, ◌^◌, ◌<◌, ◌≤◌, ◌⊎◌, ℤ, pos, ◌+ℤ◌, Bool, true, false}
use Rattle.std.specs.Prelude.{cond, List, [], ◌∷◌, ◌++◌, map, length, take, drop, All, nat_le}
use Rattle.std.specs.Prelude.{nat_lt}
use Rattle.std.proofs.Common.{refl, sym, ap, subst, ◌∙◌, inl, inr, suc, zero, get_or, arith}
use Rattle.std.specs.List.Sorted.{IsPermutation, IsSorted}
use Rattle.std.specs.Cmp.{nat_cmp_total}
use Rattle.std.specs.Ordering.{is_lt, nat_cmp}
use Rattle.std.proofs.lemmas.Int.{ints}
use Rattle.std.proofs.lemmas.Bool.Decides.{nat_tests}
use Rattle.std.proofs.lemmas.List.{take-append-drop, get_or-take, get_or-drop, length-take}
use Rattle.std.proofs.lemmas.List.{length-drop}
use Rattle.std.proofs.lemmas.List.Sorted.{sorted_far, ranks_by, All-permutation, IsPermutation-sym}
use Rattle.relations_spec.specs.Sets.{In, set_of}
use Rattle.relations_spec.specs.Spans.{span, covers, always, forever}
use Rattle.relations_spec.specs.Timed.{Entry, held_at}
use Rattle.relations_spec.specs.Listing.{IsListing}
use Rattle.relations_spec.proofs.ListingLaws.{at_or_above, at_or_below}
use Rattle.prima_base.specs.declared.value.Value.{Value}
use Rattle.prima_base.specs.declared.timed_row.TimedRow.{TimedRow}
use Rattle.prima_base.specs.Order.{shown}
use Rattle.prima_base.specs.Timed.{entries_of}
use Rattle.temporal_lang_types.specs.declared.agg_item.AggItem.{AggItem}
use Rattle.time_aggregate.specs.declared.turn.Turn.{Turn}
use Rattle.time_aggregate.specs.declared.sweep.Held.{Held}
use Rattle.prima_base.specs.Groups.{Group}
use Rattle.time_aggregate.specs.Aggregates.{Row, group_cmp, groups, total_by}
use Rattle.time_aggregate.specs.Parts.{AreOf}
use Rattle.time_aggregate.specs.Listed.{IsTold, group_of_rows}
use Rattle.time_aggregate.specs.Turns.{turns_from, opening, closing, rows_shown, row_at, weigh}
use Rattle.time_aggregate.specs.Turns.{turn_cmp}
use Rattle.time_aggregate.specs.Tallies.{IsHeld, AllTellOf, weight, has_value}
use Rattle.time_aggregate.proofs.JoinedGroups.{one_group}
use Rattle.time_aggregate.proofs.Weighing.{weighed_is_held}
use Rattle.time_aggregate.proofs.ToldSteps.{told_step, told_none}

-- members by their places
pub place_of : {X : Type 0} (x : X) (xs : List X) → In x xs → (k : ℕ) × (k < length xs)
    × ((d : X) → get_or xs k d ≡ x)
place_of x [] m = absurd m
place_of x (y ∷ xs) (inl e) = (0, omega arith, λ d. e)
place_of x (y ∷ xs) (inr m) =
    let h = place_of x xs m in let l = h.1 in (suc h.0, omega arith, h.2)

pub in_place : {X : Type 0} (xs : List X) (k : ℕ) (d : X) → k < length xs → In (get_or xs k d) xs
in_place [] k d h = absurd (omega arith)
in_place (x ∷ xs) zero d h = inl refl
in_place (x ∷ xs) (suc k) d h = inr (in_place xs k d (omega arith))

pub of_all : {X : Type 0} (P : X → Type 0) (xs : List X) (x : X) → All P xs → In x xs → P x
of_all P xs x a m = let h = place_of x xs m in subst P (h.2 x) (a h.0 x h.1)

-- the turns of a row are there
opens_in : (place : ℕ) (rows : List TimedRow) (row : TimedRow) → In row rows → (n : ℕ)
    × In (opening n row) (turns_from place rows) × In (closing n row) (turns_from place rows)
opens_in place [] row m = absurd m
opens_in place (r ∷ rows) row (inl e) = (
  place,
  inl (ap (λ (w : TimedRow). opening place w) e),
  inr (inl (ap (λ (w : TimedRow). closing place w) e)),
)
opens_in place (r ∷ rows) row (inr m) =
    let h = opens_in (place + 1) rows row m in (h.0, inr (inr h.1), inr (inr h.2))

-- what holds at two moments, of rows none of which turns between them
held_same : (rows : List TimedRow) (m n : ℕ)
    → ((row : TimedRow) → In row rows → covers row.period m ≡ covers row.period n)
    → held_at (entries_of rows) m ≡ held_at (entries_of rows) n
held_same [] m n s = refl
held_same (r ∷ rows) m n s =
    rw (s r (inl refl), held_same rows m n (λ row i. s row (inr i))) refl

held_none : (rows : List TimedRow) (m : ℕ)
    → ((row : TimedRow) → In row rows → covers row.period m ≡ false)
    → held_at (entries_of rows) m ≡ []
held_none [] m s = refl
held_none (r ∷ rows) m s = rw (s r (inl refl)) (held_none rows m (λ row i. s row (inr i)))

pub held_shown : (rows : List TimedRow) (m : ℕ) (x : Row) → In x (held_at (entries_of rows) m)
    → In x (rows_shown rows)
held_shown [] m x h = absurd h
held_shown (r ∷ rows) m x h = step (held_shown rows m x) (covers r.period m) h
  where
    step : (In x (held_at (entries_of rows) m) → In x (rows_shown rows)) → (b : Bool)
        → In x (cond b (map shown r.values.items ∷ held_at (entries_of rows) m)
        (held_at (entries_of rows) m)) → In x (rows_shown (r ∷ rows))
    step f true (inl e) = inl e
    step f true (inr k) = inr (f k)
    step f false k = inr (f k)

held_few : (rows : List TimedRow) (m : ℕ) → length (held_at (entries_of rows) m) ≤ length rows
held_few [] m = omega arith
held_few (r ∷ rows) m =
    let h = held_few rows m in
    elim (covers r.period m) as (λ (b : Bool). length (cond b (map shown r.values.items
    ∷ held_at (entries_of rows) m) (held_at (entries_of rows) m)) ≤ length (r ∷ rows)) [
      | true ↦ omega arith
      | false ↦ omega arith
    ]

total_ones : (rows : List Row) → total_by (λ (row : Row). pos 1) rows ≡ pos (length rows)
total_ones [] = refl
total_ones (row ∷ rows) = let h = total_ones rows in omega (arith, ints)

group_is : (g : ℕ) (items : List AggItem) (key : List Value) (rows : List Row) → AreOf g key rows
    → groups g items rows ≡ group_of_rows key items rows
unfolding groups set_of
group_is g items key [] a = refl
group_is g items key (row ∷ rows) a = one_group g items key row rows a

in_group_of : (key : List Value) (items : List AggItem) (rows : List Row) (x : Group)
    → In x (group_of_rows key items rows) → x.key ≡ key
in_group_of key items [] x m = absurd m
in_group_of key items (row ∷ rows) x (inl e) = sym (ap (λ (w : Group). w.key) e)
in_group_of key items (row ∷ rows) x (inr m) = absurd m

one_of_rows : (key : List Value) (items : List AggItem) (rows : List Row) (x y : Group)
    → In x (group_of_rows key items rows) → In y (group_of_rows key items rows) → x ≡ y
one_of_rows key items [] x y m n = absurd m
one_of_rows key items (row ∷ rows) x y (inl e) (inl f) = sym e ∙ f
one_of_rows key items (row ∷ rows) x y (inl e) (inr n) = absurd n
one_of_rows key items (row ∷ rows) x y (inr m) n = absurd m

-- how far a group is gone over
pub record Swept (relation : ℕ → List Group) (items : List AggItem) (all : List Row)
    (turns : List Turn) (i since : ℕ) (held : Held) (listed : List (Entry Group)) : Type 0 where
  pub tallies : IsHeld items all (take i turns) held
  pub past : (k : ℕ) (d : Turn) → k < i → k < length turns → (get_or turns k d).moment ≤ since
  pub later : (k : ℕ) (d : Turn) → i ≤ k → k < length turns → since ≤ (get_or turns k d).moment
  pub lists : IsListing group_cmp relation (span 0 since) listed

pub nothing_listed : (relation : ℕ → List Group) → IsListing group_cmp relation (span 0 0) []
nothing_listed relation = record {
  each = λ e m. absurd m;
  complete = λ x m a b i. absurd (omega arith);
  ascending = tt;
}

module _ (g : ℕ) (items : List AggItem) (key : List Value) (start : ℕ) (run : List TimedRow)
    (all : List Row) (turns : List Turn)
    (lasting : (row : TimedRow) → In row run → row.period.start < row.period.end)
    (group : AreOf g key (rows_shown run))
    (same : (k : ℕ) (d : TimedRow) → k < length run
    → row_at all (start + k) ≡ map shown (get_or run k d).values.items)
    (perm : IsPermutation (turns_from start run) turns)
    (sorted : IsSorted turn_cmp turns) where
  abbrev pub told_at : ℕ → List Group
  told_at m = groups g items (held_at (entries_of run) m)

  told_is : (m : ℕ) → told_at m ≡ group_of_rows key items (held_at (entries_of run) m)
  told_is m = group_is g items key (held_at (entries_of run) m) (λ row i.
      group row (held_shown run m row i))

  keyed : (m : ℕ) (x : Group) → In x (told_at m) → x.key ≡ key
  keyed m x h = in_group_of key items (held_at (entries_of run) m) x
      (subst (λ (w : List Group). In x w) (told_is m) h)

  one : (m : ℕ) (x y : Group) → In x (told_at m) → In y (told_at m) → x ≡ y
  one m x y h k = one_of_rows key items (held_at (entries_of run) m) x y
      (subst (λ (w : List Group). In x w) (told_is m) h)
      (subst (λ (w : List Group). In y w) (told_is m) k)

  far : (i j : ℕ) (d : Turn) → i ≤ j → j < length turns
      → (get_or turns i d).moment ≤ (get_or turns j d).moment
  far i j d h l =
      let e = sorted_far (λ (x y : Turn). is_lt (turn_cmp x y))
      (ranks_by nat_cmp_total (λ (t : Turn). t.moment)) turns sorted i j d h l in
      grind (arith, nat_tests)

  -- each turn of a row of the group is one of the turns
  turn_there : (P : Turn → Type 0) → All P turns → (row : TimedRow) → In row run
      → (n : ℕ) × P (opening n row) × P (closing n row)
  turn_there P a row m =
      let h = opens_in start run row m in
      let b = All-permutation P turns (turns_from start run)
      (IsPermutation-sym (turns_from start run) turns perm) a in (
        h.0,
        of_all P (turns_from start run) (opening h.0 row) b h.1,
        of_all P (turns_from start run) (closing h.0 row) b h.2,
      )

  module _ (i since : ℕ) (held : Held) (listed : List (Entry Group))
      (p : Swept told_at items all turns i since held listed) where
    done_past : (t : Turn) → In t (take i turns) → t.moment ≤ since
    done_past t m =
        let h = place_of t (take i turns) m in
        let l = length-take i turns in
        let k = h.1 in
        let e = h.2 t in
        let f : get_or (take i turns) h.0 t ≡ get_or turns h.0 t =
        get_or-take i turns h.0 t (omega arith) in
        let b = p.past h.0 t (omega arith) (omega arith) in
        let q : get_or turns h.0 t ≡ t = sym f ∙ e in
        subst (λ (w : Turn). w.moment ≤ since) q b

    rest_later : (m : ℕ) → ((k : ℕ) (d : Turn) → i ≤ k → k < length turns
        → m < (get_or turns k d).moment) → (t : Turn) → In t (drop i turns) → m < t.moment
    rest_later m b t n =
        let h = place_of t (drop i turns) n in
        let l = length-drop i turns in
        let k = h.1 in
        let e = h.2 t in
        let f = get_or-drop i turns h.0 t in
        subst (λ (w : Turn). m < w.moment) (sym f ∙ e) (b (i + h.0) t (omega arith) (omega arith))

    perm_split : IsPermutation (turns_from start run) (take i turns ++ drop i turns)
    perm_split = subst (λ (w : List Turn). IsPermutation (turns_from start run) w)
        (sym (take-append-drop i turns)) perm

    weighed : (f : ℕ → ℤ) (h : Row → ℤ) → ((k : ℕ) (d : TimedRow) → k < length run
        → f (start + k) ≡ h (map shown (get_or run k d).values.items)) → (m : ℕ) → since ≤ m
        → ((k : ℕ) (d : Turn) → i ≤ k → k < length turns → m < (get_or turns k d).moment)
        → weigh f (take i turns) ≡ total_by h (held_at (entries_of run) m)
    weighed f h s m a b = weighed_is_held m f h start run (take i turns) (drop i turns) lasting s
        perm_split (λ t n. (let l = done_past t n in omega arith)) (rest_later m b)

    -- the tallies tell of the rows that hold up to the next turn
    pub tells : (m : ℕ) → since ≤ m
        → ((k : ℕ) (d : Turn) → i ≤ k → k < length turns → m < (get_or turns k d).moment)
        → AllTellOf items (held_at (entries_of run) m) held
    tells m a b = record {
      count = p.tallies.count ∙ weighed (λ (n : ℕ). pos 1) (λ (r : Row). pos 1)
          (λ k d l. refl) m a b ∙ total_ones (held_at (entries_of run) m);
      wanted_is = p.tallies.wanted_is;
      each = λ k d l. (let t = p.tallies.each k d l in record {
        sum = t.sum ∙ weighed (λ (n : ℕ). weight (get_or held.tallies.items k d).item
            (row_at all n))
            (weight (get_or held.tallies.items k d).item) (λ n r q.
            ap (weight (get_or held.tallies.items k d).item) (same n r q)) m a b;
        counts = λ v. (t.counts v ∙ weighed (λ (n : ℕ).
            has_value (get_or held.tallies.items k d).item v (row_at all n))
            (has_value (get_or held.tallies.items k d).item v) (λ n r q.
            ap (has_value (get_or held.tallies.items k d).item v) (same n r q)) m a b);
        zero = t.zero;
      });
    }

    pub told_since : (d : Turn) → since < (get_or turns i d).moment
        → AllTellOf items (held_at (entries_of run) since) held
    told_since d h = tells since (omega arith) (λ k e a b.
        let f = far i k e a b in
        let q = Rattle.std.proofs.lemmas.List.get_or_default turns i d e (omega arith) in
        let g = subst (λ (w : Turn). since < w.moment) q h in omega arith)

    pub few_held : (m : ℕ) → length run < 2 ^ 64 → length (held_at (entries_of run) m) < 2 ^ 64
    few_held m h = let k = held_few run m in omega arith

    -- nothing turns before the next turn
    unturned : (to : ℕ) → ((k : ℕ) (d : Turn) → i ≤ k → k < length turns
        → to ≤ (get_or turns k d).moment) → (m : ℕ) → since ≤ m → m < to
        → held_at (entries_of run) m ≡ held_at (entries_of run) since
    unturned to b m h l = held_same run m since (λ row n.
        let t = turn_there (λ (t : Turn). (t.moment ≤ since) ⊎ (to ≤ t.moment)) (λ k d q.
        elim (at_or_below k i) [
          | inl w ↦ inl (p.past k d w q)
          | inr w ↦ inr (b k d w q)
        ]) row n in
        step row t.1 t.2)
      where
        step : (row : TimedRow) → (row.period.start ≤ since) ⊎ (to ≤ row.period.start)
            → (row.period.end ≤ since) ⊎ (to ≤ row.period.end)
            → covers row.period m ≡ covers row.period since
        step row (inl s) (inl e) =
            let x : nat_lt m row.period.end ≡ false = grind (arith, nat_tests) in
            let y : nat_lt since row.period.end ≡ false = grind (arith, nat_tests) in
            let u : nat_le row.period.start m ≡ true = grind (arith, nat_tests) in
            let v : nat_le row.period.start since ≡ true = grind (arith, nat_tests) in
            rw (u, v, x, y) refl
        step row (inl s) (inr e) =
            let x : nat_lt m row.period.end ≡ true = grind (arith, nat_tests) in
            let y : nat_lt since row.period.end ≡ true = grind (arith, nat_tests) in
            let u : nat_le row.period.start m ≡ true = grind (arith, nat_tests) in
            let v : nat_le row.period.start since ≡ true = grind (arith, nat_tests) in
            rw (u, v, x, y) refl
        step row (inr s) e =
            let u : nat_le row.period.start m ≡ false = grind (arith, nat_tests) in
            let v : nat_le row.period.start since ≡ false = grind (arith, nat_tests) in
            rw (u, v) refl

    -- one turn more
    pub swept_more : (d : Turn) → i < length turns → (held' : Held) (listed' : List (Entry Group))
        → IsHeld items all (take (i + 1) turns) held'
        → ((get_or turns i d).moment ≤ since → listed' ≡ listed)
        → (since < (get_or turns i d).moment → IsTold listed key items
        (held_at (entries_of run) since) since (get_or turns i d).moment listed')
        → Swept told_at items all turns (i + 1) (get_or turns i d).moment held' listed'
    swept_more d l held' listed' h s t = record {
      tallies = h;
      past = λ k e a b. (
          let x = far k i d (omega arith) l in
          let q = get_same k e d b in
          subst (λ (w : Turn). w.moment ≤ (get_or turns i d).moment) q x);
      later = λ k e a b. (
          let x = far i k d (omega arith) b in
          let q = get_same k e d b in
          subst (λ (w : Turn). (get_or turns i d).moment ≤ w.moment) q x);
      lists = elim (at_or_above since (get_or turns i d).moment (p.later i d (omega arith) l)) [
        | inl w ↦ subst (λ (n : ℕ). IsListing group_cmp told_at (span 0 n) listed') w
            (subst (λ (v : List (Entry Group)). IsListing group_cmp told_at (span 0 since) v)
            (sym (s (omega arith))) p.lists)
        | inr w ↦ told_step told_at key keyed one since listed p.lists items
            (held_at (entries_of run) since) (get_or turns i d).moment listed' (omega arith)
            (λ m a b. told_is m ∙ ap (λ (v : List Row). group_of_rows key items v)
            (unturned (get_or turns i d).moment (λ k e x y. next k e x y) m a b)) (t w)
      ];
    }
      where
        get_same : (k : ℕ) (e d : Turn) → k < length turns → get_or turns k d ≡ get_or turns k e
        get_same k e d b = Rattle.std.proofs.lemmas.List.get_or_default turns k d e b

        next : (k : ℕ) (e : Turn) → i ≤ k → k < length turns
            → (get_or turns i d).moment ≤ (get_or turns k e).moment
        next k e x y = subst (λ (w : Turn). (get_or turns i d).moment ≤ w.moment)
            (get_same k e d y) (far i k d x y)

    -- all turns are done
    pub swept_all : length turns ≤ i → since ≤ forever → IsListing group_cmp told_at always listed
    swept_all l f = told_none told_at key keyed one since listed p.lists forever f (λ m a b.
        told_is m ∙ ap (λ (v : List Row). group_of_rows key items v) (none m a))
      where
        none : (m : ℕ) → since ≤ m → held_at (entries_of run) m ≡ []
        none m a = held_none run m (λ row n.
            let t = turn_there (λ (t : Turn). t.moment ≤ since) (λ k d q.
            p.past k d (omega arith) q) row n in
            let e = t.2 in
            let y : nat_lt m row.period.end ≡ false = grind (arith, nat_tests) in
            elim (nat_le row.period.start m) as (λ (b : Bool).
            Rattle.std.specs.Prelude.◌&&◌ b (nat_lt m row.period.end) ≡ false) [
              | true ↦ y
              | false ↦ refl
            ])
