-- One more period of a group, told.
use Rattle.std.specs.Prelude.{◌≡◌, ℕ, ◌-◌, ◌<◌, ◌≤◌, ◌⊎◌, List, [], ◌∷◌, ◌++◌}
use Rattle.std.proofs.Common.{refl, sym, ap, subst, ◌∙◌, inl, inr, arith}
use Rattle.std.specs.declared.cmp.Ordering.{Ordering}
use Rattle.std.specs.declared.cmp.Ordering.TheVariants.{Less, Equal}
use Rattle.relations_spec.specs.Sets.{In, Ascends}
use Rattle.relations_spec.specs.Spans.{span}
use Rattle.relations_spec.specs.Timed.{Entry}
use Rattle.relations_spec.specs.Listing.{IsEntry, IsListing, Covered, entry_cmp}
use Rattle.relations_spec.proofs.SetLaws.{in_left, in_right, in_append, before_in, cmp_itself}
use Rattle.relations_spec.proofs.SetLaws.{ascends_append}
use Rattle.relations_spec.proofs.ListingLaws.{at_or_above, at_or_below, nat_less, less_nat}
use Rattle.prima_base.specs.declared.value.Value.{Value}
use Rattle.prima_base.specs.Order.{row_cmp}
use Rattle.prima_base.specs.OrderLaws.{row_exact}
use Rattle.temporal_lang_types.specs.declared.agg_item.AggItem.{AggItem}
use Rattle.prima_base.specs.Groups.{Amount, Group}
use Rattle.time_aggregate.specs.Aggregates.{Row, group_cmp, amounts_of}
use Rattle.time_aggregate.specs.Listed.{IsLast, EndsSo, IsTold, group_of_rows}

same_group : (a b : Group) → a.key ≡ b.key → a.amounts ≡ b.amounts → a ≡ b
same_group a b p q =
    ap (λ (k : List Value). record { key = k; amounts = a.amounts }) p
    ∙ ap (λ (w : List Amount). record { key = b.key; amounts = w }) q

-- entries of one group, by their starts
key_less : (a b : Entry Group) → a.item.key ≡ b.item.key → a.period.start < b.period.start
    → entry_cmp group_cmp a b ≡ Less
key_less a b e h =
    let q : row_cmp a.item.key b.item.key ≡ Equal = subst (λ (w : List Value).
    row_cmp a.item.key w ≡ Equal) e (cmp_itself row_cmp row_exact a.item.key) in
    rw q (nat_less a.period.start b.period.start h)

less_key : (a b : Entry Group) → a.item.key ≡ b.item.key → entry_cmp group_cmp a b ≡ Less
    → a.period.start < b.period.start
less_key a b e h =
    let q : row_cmp a.item.key b.item.key ≡ Equal = subst (λ (w : List Value).
    row_cmp a.item.key w ≡ Equal) e (cmp_itself row_cmp row_exact a.item.key) in
    less_nat a.period.start b.period.start (rw q at h)

-- the members of two lists that stand one after the other ascend
ascends_apart : {X : Type 0} (cmp : X → X → Ordering) (xs ys : List X) (x y : X)
    → Ascends cmp (xs ++ ys) → In x xs → In y ys → cmp x y ≡ Less
ascends_apart cmp [] ys x y a m n = absurd m
ascends_apart {X} cmp (z ∷ xs) ys x y a (inl e) n = subst (λ (w : X). cmp w y ≡ Less) e
    (before_in cmp z y (xs ++ ys) a.0 (in_right y xs ys n))
ascends_apart cmp (z ∷ xs) ys x y a (inr m) n = ascends_apart cmp xs ys x y a.1 m n

ascends_first : {X : Type 0} (cmp : X → X → Ordering) (xs ys : List X) → Ascends cmp (xs ++ ys)
    → Ascends cmp xs
ascends_first cmp [] ys a = tt
ascends_first cmp (x ∷ xs) ys a = (
  Rattle.relations_spec.proofs.SetLaws.below_each cmp x xs (λ y m.
      before_in cmp x y (xs ++ ys) a.0 (in_left y xs ys m)),
  ascends_first cmp xs ys a.1,
)

-- a member with what stands before and after it
pub found : {X : Type 0} (x : X) (xs : List X) → In x xs → (init : List X) × (rest : List X)
    × (xs ≡ init ++ x ∷ rest)
found x [] m = absurd m
found {X} x (y ∷ xs) (inl e) = ([], xs, ap (λ (w : X). w ∷ xs) e)
found {X} x (y ∷ xs) (inr m) =
    let h = found x xs m in (y ∷ h.0, h.1, ap (λ (w : List X). y ∷ w) h.2)

-- a group over time: at each moment there is at most one, of this key
module _ (relation : ℕ → List Group) (key : List Value)
    (keyed : (m : ℕ) (x : Group) → In x (relation m) → x.key ≡ key)
    (one : (m : ℕ) (x y : Group) → In x (relation m) → In y (relation m) → x ≡ y)
    (from : ℕ) (before : List (Entry Group))
    (p : IsListing group_cmp relation (span 0 from) before) where
  entry_keyed : (e : Entry Group) → In e before → e.item.key ≡ key
  entry_keyed e m = let h = p.each e m in
      let l = h.lasting in keyed e.period.start e.item (h.holds e.period.start (omega arith) l)

  -- an entry that goes on while a later one begins is not there
  overlap : (e f : Entry Group) → In e before → In f before
      → e.period.start < f.period.start → f.period.start < e.period.end → ⊥
  overlap e f m n h k =
      let a = p.each e m in
      let b = p.each f n in
      let l = b.lasting in
      let x = a.holds f.period.start (omega arith) k in
      let y = b.holds f.period.start (omega arith) l in
      let s = one f.period.start e.item f.item x y in
      elim b.begins [
        | inl w ↦ absurd (omega arith)
        | inr w ↦ w (subst (λ (v : Group). In v (relation (f.period.start - 1))) s
            (a.holds (f.period.start - 1) (omega arith) (omega arith)))
      ]

  -- only the last entry reaches the end
  last_reaches : (e : Entry Group) → In e before → e.period.end ≡ from
      → (init : List (Entry Group)) × IsLast before init e
  last_reaches e m h = let s = found e before m in step s.0 s.1 s.2
    where
      step : (init rest : List (Entry Group)) → before ≡ init ++ e ∷ rest
          → (i : List (Entry Group)) × IsLast before i e
      step init [] s = (init, s)
      step init (f ∷ rest) s =
          let n : In f before = subst (λ (w : List (Entry Group)). In f w) (sym s)
          (in_right f init (e ∷ f ∷ rest) (inr (inl refl))) in
          let a = subst (λ (w : List (Entry Group)). Ascends (entry_cmp group_cmp) w) s
          p.ascending in
          let ke = entry_keyed e m in
          let kf = entry_keyed f n in
          let less = less_key e f (ke ∙ sym kf) (after init a) in
          let b = p.each f n in
          let l = b.lasting in
          let t = b.to in
          absurd (overlap e f m n less (omega arith))
        where
          after : (i : List (Entry Group)) → Ascends (entry_cmp group_cmp) (i ++ e ∷ f ∷ rest)
              → entry_cmp group_cmp e f ≡ Less
          after [] w = w.0.0
          after (x ∷ i) w = after i w.1

  -- nothing holds up to a later moment
  pub told_none : (to : ℕ) → from ≤ to
      → ((m : ℕ) → from ≤ m → m < to → relation m ≡ [])
      → IsListing group_cmp relation (span 0 to) before
  told_none to h none = record { each = each; complete = complete; ascending = p.ascending }
    where
      ended : (e : Entry Group) → In e before → e.period.end ≡ from
          → (from ≡ to) ⊎ (from < to) → (e.period.end ≡ to) ⊎ (¬ In e.item (relation e.period.end))
      ended e m q (inl w) = inl (q ∙ w)
      ended e m q (inr w) = inr (λ i. subst (λ (v : List Group). In e.item v)
          (none from (omega arith) w) (subst (λ (v : ℕ). In e.item (relation v)) q i))

      each : (e : Entry Group) → In e before → IsEntry relation (span 0 to) e
      each e m =
          let a = p.each e m in
          let t = a.to in
          record {
            lasting = a.lasting;
            from = a.from;
            to = omega arith;
            holds = a.holds;
            begins = a.begins;
            ends = elim a.ends [
              | inl w ↦ ended e m w (at_or_above from to h)
              | inr w ↦ inr w
            ];
          }

      complete : (x : Group) (m : ℕ) → 0 ≤ m → m < to → In x (relation m) → Covered before x m
      complete x m a b i = elim (at_or_below m from) [
        | inl w ↦ p.complete x m a w i
        | inr w ↦ absurd (subst (λ (v : List Group). In x v) (none m w b) i)
      ]

  module _ (to : ℕ) (later : from < to) (x : Group)
      (held : (m : ℕ) → from ≤ m → m < to → relation m ≡ x ∷ []) where
    x_holds : (m : ℕ) → from ≤ m → m < to → In x (relation m)
    x_holds m a b = subst (λ (v : List Group). In x v) (sym (held m a b)) (inl refl)

    holds_x : (y : Group) (m : ℕ) → from ≤ m → m < to → In y (relation m) → x ≡ y
    holds_x y m a b i = elim (subst (λ (v : List Group). In y v) (held m a b) i) [
      | inl e ↦ e
      | inr w ↦ absurd w
    ]

    -- one more entry
    pub told_next : (¬ EndsSo before x.amounts from) → (e : Entry Group) → e.item ≡ x
        → e.period.start ≡ from → e.period.end ≡ to
        → IsListing group_cmp relation (span 0 to) (before ++ e ∷ [])
    told_next never e ei es ee = record { each = each; complete = complete; ascending = ascending }
      where
        not_so : (f : Entry Group) → In f before → f.period.end ≡ from → f.item ≡ x → ⊥
        not_so f m q s = let w = last_reaches f m q in
            never (w.0, f, w.1, ap (λ (v : Group). v.amounts) s, q)

        ended : (f : Entry Group) → In f before → f.period.end ≡ from
            → ¬ In f.item (relation f.period.end)
        ended f m q i = not_so f m q (sym (holds_x f.item from (omega arith) later
            (subst (λ (v : ℕ). In f.item (relation v)) q i)))

        begun : (0 ≡ from) ⊎ (0 < from)
            → (e.period.start ≡ 0) ⊎ (¬ In e.item (relation (e.period.start - 1)))
        begun (inl w) = inl (es ∙ sym w)
        begun (inr w) = inr (λ i.
            let j = subst (λ (v : Group). In v (relation (e.period.start - 1))) ei i in
            let k = subst (λ (v : ℕ). In x (relation (v - 1))) es j in
            let c = p.complete x (from - 1) (omega arith) (omega arith) k in
            let a = p.each c.0 c.1 in
            let t = a.to in
            let u = c.3 in
            let v = c.4 in
            not_so c.0 c.1 (omega arith) c.2)

        new : IsEntry relation (span 0 to) e
        new = record {
          lasting = omega arith;
          from = omega arith;
          to = omega arith;
          holds = λ m a b. subst (λ (v : Group). In v (relation m)) (sym ei)
              (x_holds m (omega arith) (omega arith));
          begins = begun (at_or_above 0 from (omega arith));
          ends = inl ee;
        }

        old : (f : Entry Group) → In f before → IsEntry relation (span 0 to) f
        old f m =
            let a = p.each f m in
            let t = a.to in
            record {
              lasting = a.lasting;
              from = a.from;
              to = omega arith;
              holds = a.holds;
              begins = a.begins;
              ends = elim a.ends [ inl w ↦ inr (ended f m w) | inr w ↦ inr w ];
            }

        each : (f : Entry Group) → In f (before ++ e ∷ []) → IsEntry relation (span 0 to) f
        each f m = elim (in_append f before (e ∷ []) m) [
          | inl w ↦ old f w
          | inr w ↦ elim w [
            | inl q ↦ subst (λ (v : Entry Group). IsEntry relation (span 0 to) v) q new
            | inr q ↦ absurd q
          ]
        ]

        complete : (y : Group) (m : ℕ) → 0 ≤ m → m < to → In y (relation m)
            → Covered (before ++ e ∷ []) y m
        complete y m a b i = elim (at_or_below m from) [
          | inl w ↦ (let c = p.complete y m a w i in
              (c.0, in_left c.0 before (e ∷ []) c.1, c.2, c.3, c.4))
          | inr w ↦ (
            e,
            in_right e before (e ∷ []) (inl refl),
            ei ∙ holds_x y m w b i,
            omega arith,
            omega arith,
          )
        ]

        ascending : Ascends (entry_cmp group_cmp) (before ++ e ∷ [])
        ascending = ascends_append (entry_cmp group_cmp) before (e ∷ []) p.ascending (tt, tt)
            (λ f g m n. elim n [
              | inl q ↦ subst (λ (v : Entry Group). entry_cmp group_cmp f v ≡ Less) q
                  (let a = p.each f m in let l = a.lasting in let t = a.to in
                  let k = keyed from x (x_holds from (omega arith) later) in
                  key_less f e (entry_keyed f m ∙ sym k ∙ ap (λ (v : Group). v.key) (sym ei))
                  (omega arith))
              | inr q ↦ absurd q
            ])

    -- the last entry goes on
    pub told_on : (init : List (Entry Group)) (last after : Entry Group) → IsLast before init last
        → last.item ≡ x → last.period.end ≡ from → after.item ≡ last.item
        → after.period.start ≡ last.period.start → after.period.end ≡ to
        → IsListing group_cmp relation (span 0 to) (init ++ after ∷ [])
    told_on init last after il ix ie ai starts ae = record {
      each = each;
      complete = complete;
      ascending = ascending;
    }
      where
        in_init : (f : Entry Group) → In f init → In f before
        in_init f m = subst (λ (v : List (Entry Group)). In f v) (sym il)
            (in_left f init (last ∷ []) m)

        last_in : In last before
        last_in = subst (λ (v : List (Entry Group)). In last v) (sym il)
            (in_right last init (last ∷ []) (inl refl))

        less_last : (f : Entry Group) → In f init → f.period.start < last.period.start
        less_last f m = less_key f last (entry_keyed f (in_init f m) ∙ sym
            (entry_keyed last last_in)) (ascends_apart (entry_cmp group_cmp) init (last ∷ []) f
            last (subst (λ (v : List (Entry Group)). Ascends (entry_cmp group_cmp) v) il
            p.ascending) m (inl refl))

        old : (f : Entry Group) → In f init → IsEntry relation (span 0 to) f
        old f m =
            let a = p.each f (in_init f m) in
            let t = a.to in
            let s = less_last f m in
            let b = p.each last last_in in
            let l = b.lasting in
            record {
              lasting = a.lasting;
              from = a.from;
              to = omega arith;
              holds = a.holds;
              begins = a.begins;
              ends = elim a.ends [
                | inl w ↦ absurd (overlap f last (in_init f m) last_in s (omega arith))
                | inr w ↦ inr w
              ];
            }

        new : IsEntry relation (span 0 to) after
        new =
            let b = p.each last last_in in
            let l = b.lasting in
            record {
              lasting = omega arith;
              from = omega arith;
              to = omega arith;
              holds = λ m u v. subst (λ (w : Group). In w (relation m)) (sym ai)
                  (elim (at_or_below m from) [
                    | inl w ↦ b.holds m (omega arith) (omega arith)
                    | inr w ↦ subst (λ (g : Group). In g (relation m)) (sym ix)
                        (x_holds m w (omega arith))
                  ]);
              begins = elim b.begins [
                | inl w ↦ inl (starts ∙ w)
                | inr w ↦ inr (λ i. w (subst (λ (v : ℕ). In last.item (relation (v - 1))) starts
                    (subst (λ (g : Group). In g (relation (after.period.start - 1))) ai i)))
              ];
              ends = inl ae;
            }

        each : (f : Entry Group) → In f (init ++ after ∷ []) → IsEntry relation (span 0 to) f
        each f m = elim (in_append f init (after ∷ []) m) [
          | inl w ↦ old f w
          | inr w ↦ elim w [
            | inl q ↦ subst (λ (v : Entry Group). IsEntry relation (span 0 to) v) q new
            | inr q ↦ absurd q
          ]
        ]

        moved : (y : Group) (m : ℕ) (f : Entry Group) → In f (init ++ last ∷ []) → f.item ≡ y
            → f.period.start ≤ m → m < f.period.end → Covered (init ++ after ∷ []) y m
        moved y m f i e a b = elim (in_append f init (last ∷ []) i) [
          | inl w ↦ (f, in_left f init (after ∷ []) w, e, a, b)
          | inr w ↦ elim w [
            | inl q ↦ (
                let s = ap (λ (v : Entry Group). v.period.start) q in
                let t = ap (λ (v : Entry Group). v.period.end) q in (
                  after,
                  in_right after init (after ∷ []) (inl refl),
                  ai ∙ ap (λ (v : Entry Group). v.item) q ∙ e,
                  omega arith,
                  omega arith,
                ))
            | inr q ↦ absurd q
          ]
        ]

        complete : (y : Group) (m : ℕ) → 0 ≤ m → m < to → In y (relation m)
            → Covered (init ++ after ∷ []) y m
        complete y m a b i = elim (at_or_below m from) [
          | inl w ↦ (let c = p.complete y m a w i in
              moved y m c.0 (subst (λ (v : List (Entry Group)). In c.0 v) il c.1) c.2 c.3 c.4)
          | inr w ↦ (let l = (p.each last last_in).lasting in (
            after,
            in_right after init (after ∷ []) (inl refl),
            ai ∙ ix ∙ holds_x y m w b i,
            omega arith,
            omega arith,
          ))
        ]

        ascending : Ascends (entry_cmp group_cmp) (init ++ after ∷ [])
        ascending = ascends_append (entry_cmp group_cmp) init (after ∷ [])
            (ascends_first (entry_cmp group_cmp) init (last ∷ [])
            (subst (λ (v : List (Entry Group)). Ascends (entry_cmp group_cmp) v) il p.ascending))
            (tt, tt) (λ f g m n. elim n [
              | inl q ↦ subst (λ (v : Entry Group). entry_cmp group_cmp f v ≡ Less) q
                  (let s = less_last f m in
                  key_less f after (entry_keyed f (in_init f m) ∙ sym (entry_keyed last last_in)
                  ∙ ap (λ (v : Group). v.key) (sym ai)) (omega arith))
              | inr q ↦ absurd q
            ])

  -- what is told of the rows that hold is listed
  pub told_step : (items : List AggItem) (rows : List Row) (to : ℕ) (after : List (Entry Group))
      → from ≤ to → ((m : ℕ) → from ≤ m → m < to → relation m ≡ group_of_rows key items rows)
      → IsTold before key items rows from to after
      → IsListing group_cmp relation (span 0 to) after
  told_step items [] to after h held t = subst (λ (v : List (Entry Group)).
      IsListing group_cmp relation (span 0 to) v) (sym t) (told_none to h held)
  told_step items (row ∷ rows) to after h held t = step (at_or_above from to h)
    where
      step : (from ≡ to) ⊎ (from < to) → IsListing group_cmp relation (span 0 to) after
      step (inl e) = subst (λ (v : List (Entry Group)). IsListing group_cmp relation (span 0 to) v)
          (sym (t.0 (omega arith))) (told_none to h (λ m a b. absurd (omega arith)))
      step (inr l) = elim (t.1 l) [
        | inl w ↦ subst (λ (v : List (Entry Group)). IsListing group_cmp relation (span 0 to) v)
            (sym w.5) (told_on to l
            (record { key = key; amounts = amounts_of items (row ∷ rows) }) held w.0 w.1
            (record { item = w.1.item; period = span w.1.period.start to }) w.2
            (same_group w.1.item (record { key = key; amounts = amounts_of items (row ∷ rows) })
            (entry_keyed w.1 (subst (λ (v : List (Entry Group)). In w.1 v) (sym w.2)
            (in_right w.1 w.0 (w.1 ∷ []) (inl refl)))) w.3) w.4 refl refl refl)
        | inr w ↦ subst (λ (v : List (Entry Group)). IsListing group_cmp relation (span 0 to) v)
            (sym w.1) (told_next to l
            (record { key = key; amounts = amounts_of items (row ∷ rows) }) held w.0
            (record {
              item = record { key = key; amounts = amounts_of items (row ∷ rows) };
              period = span from to;
            }) refl refl refl)
      ]
