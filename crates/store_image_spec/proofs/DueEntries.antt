-- The entries that fill the periods of keys are, in their order, those that are due.
use Rattle.std.proofs.Common.{◌≡◌, ℕ, ◌+◌, ◌-◌, ◌≤◌, ◌<◌, ◌==◌, eqb-true, true, false, List, []}
use Rattle.std.proofs.Common.{◌∷◌, get_or, refl, sym, ap, ◌∙◌, subst, arith, inl, inr}
use Rattle.std.specs.Prelude.{MatchBool, Option, ◌⊎◌, ⊤}
use Rattle.relations_spec.specs.Sets.{In, Ascends}
use Rattle.relations_spec.specs.Spans.{Span, span, covers}
use Rattle.relations_spec.proofs.SetLaws.{before_in}
use Rattle.prima_base.specs.declared.value.ColType.{ColType}
use Rattle.prima_base.specs.declared.value.Value.{Value}
use Rattle.history_store_spec.specs.Store.{Cell, shown_at, Fills, cell_cmp}
use Rattle.smo_ops_spec.proofs.PastMoments.{before_or_not}
use Rattle.command_codec_spec.proofs.Correctness.{by_test, true_false}
use Rattle.store_image_spec.proofs.ReadParts.{Run}
use Rattle.store_image_spec.proofs.Checking.{number_itself, period_lasts}
use Rattle.store_image_spec.proofs.Filling.{covers_so, covers_both, not_covered, cell_before}
use Rattle.store_image_spec.proofs.Filling.{shown_one, shown_past, in_shown, from_shown, fills_one}
use Rattle.store_image_spec.proofs.Filling.{fills_none, fills_so, fills_after, in_key, FillsFrom}
use Rattle.store_image_spec.proofs.Filling.{first_key, later_keys, all_keys, IsDue, is_due_so}
use Rattle.store_image_spec.proofs.Filling.{IsWell}

-- each key has a moment
abbrev pub Last : List Span → Type 0
Last [] = ⊤
Last (k ∷ keys) = (k.start < k.end) × Last keys

-- nothing stands before the first
not_earlier : (c : Cell) (cells : List Cell) (e : Cell) → Ascends cell_cmp (c ∷ cells)
    → In e (c ∷ cells) → (c.id < e.id) ⊎ ((c.id ≡ e.id) × (c.period.start ≤ e.period.start))
not_earlier c cells e a (inl q) = inr (
  ap (λ (x : Cell). x.id) q,
  (let s : c.period.start ≡ e.period.start = ap (λ (x : Cell). x.period.start) q in
      omega (arith, s)),
)
not_earlier c cells e a (inr i) = step (cell_before c e (before_in cell_cmp c e cells a.0 i))
  where
    step : (c.id < e.id) ⊎ ((c.id ≡ e.id) × (c.period.start < e.period.start)) → (c.id < e.id)
        ⊎ ((c.id ≡ e.id) × (c.period.start ≤ e.period.start))
    step (inl l) = inl l
    step (inr p) = inr (p.0, (let l = p.1 in omega (arith, l)))

module _ (last : Option ℕ) (type : ColType) (id : ℕ) (left : Span) (keys : List Span) (c : Cell)
    (cells : List Cell) (h : FillsFrom id (left ∷ keys) (c ∷ cells)) (long : left.start < left.end)
    (well : IsWell last type c) where
  filled : Fills left id (c ∷ cells)
  filled = first_key id left keys (c ∷ cells) h.filled

  lasts : c.period.start < c.period.end
  lasts = period_lasts last c.period well.period

  starting : (e : Cell) × In e (c ∷ cells) × (e.id ≡ id) × (covers e.period left.start ≡ true)
  starting =
      let v = fills_one left id (c ∷ cells) filled left.start
      (covers_so left left.start (omega arith) long) in
      let e = from_shown id left.start (c ∷ cells) v.0 (subst (In v.0) (sym v.1) (inl refl)) in
      (e.0, e.1, e.2, e.3)

  due_now : IsDue last type id left c
  due_now = step starting (h.above c (inl refl))
    where
      own_key : c.id ≡ id → (m : ℕ) → c.period.start ≤ m → m < c.period.end → (left.start ≤ m)
          × (m < left.end)
      own_key n m a b = covers_both left m (in_key left id (c ∷ cells) filled c (inl refl) n m
          (covers_so c.period m a b))

      step : ((e : Cell) × In e (c ∷ cells) × (e.id ≡ id) × (covers e.period left.start ≡ true))
          → id ≤ c.id → IsDue last type id left c
      step e above = elim (not_earlier c cells e.0 h.ascending e.1) [
        | inl l ↦ absurd (let n = e.2 in omega (arith, l, n, above))
        | inr p ↦
            let n : c.id ≡ id = p.0 ∙ e.2 in
            let low = p.1 in
            let at = (covers_both e.0.period left.start e.3).0 in
            let first = (own_key n c.period.start (omega arith) lasts).0 in
            let end = (own_key n (c.period.end - 1) (let s = lasts in omega (arith, s))
            (let s = lasts in omega (arith, s))).1 in
            record {
              own = n;
              start = (let z : c.period.start ≡ left.start =
                  omega (arith, low, at, first) in z);
              typed = well.typed;
              period = well.period;
              within = (let s = lasts in omega (arith, end, s));
            }
      ]

  ends_here : c.period.end ≡ left.end → FillsFrom (id + 1) keys cells
  ends_here q = record {
    above = above;
    known = λ d i. (let a = h.known d (inr i) in omega (arith, a));
    lasting = λ d i. h.lasting d (inr i);
    filled = λ j b. fills_after (get_or keys j (span 0 0)) ((id + 1) + j) c cells
        (λ n. (let a = due_now.own in omega (arith, a, n)))
        (later_keys id left keys (c ∷ cells) h.filled j b);
    ascending = h.ascending.1;
  }
    where
      twice : (d : Cell) → In d cells → d.id ≡ id → ⊥
      twice d i n =
          let due = due_now in
          let l = (h.lasting d (inr i)).0 in
          let m = d.period.start in
          let own : covers d.period m ≡ true = covers_so d.period m (omega arith) l in
          let k = covers_both left m (in_key left id (c ∷ cells) filled d (inr i) n m own) in
          let low = k.0 in
          let up = k.1 in
          let start = due.start in
          let both : covers c.period m ≡ true =
          covers_so c.period m (omega (arith, low, start)) (omega (arith, up, q)) in
          let v = fills_one left id (c ∷ cells) filled m
          (in_key left id (c ∷ cells) filled d (inr i) n m own) in
          let e : c.value ∷ shown_at id m cells ≡ v.0 ∷ [] =
          sym (shown_one id m c cells due.own both) ∙ v.1 in
          let none : shown_at id m cells ≡ [] = cc in
          subst (In d.value) none (in_shown id m cells d i n own)

      above : (d : Cell) → In d cells → id + 1 ≤ d.id
      above d i = by_test (d.id == id) (λ e. absurd (twice d i (eqb-true d.id id e)))
          (λ e. (let a = h.above d (inr i) in grind (arith, a, e)))

  goes_on : (c.period.end ≡ left.end → ⊥) → FillsFrom id (span c.period.end left.end ∷ keys) cells
  goes_on q = record {
    above = λ d i. h.above d (inr i);
    known = λ d i. h.known d (inr i);
    lasting = λ d i. h.lasting d (inr i);
    filled = all_keys id rest keys cells rest_filled
        (λ j b. fills_after (get_or keys j (span 0 0)) ((id + 1) + j) c cells
        (λ n. (let a = due_now.own in omega (arith, a, n)))
        (later_keys id left keys (c ∷ cells) h.filled j b));
    ascending = h.ascending.1;
  }
    where
      rest : Span
      rest = span c.period.end left.end

      one : (m : ℕ) → covers rest m ≡ true → (v : Value) × (shown_at id m cells ≡ v ∷ [])
      one m e =
          let k = covers_both rest m e in
          let low = k.0 in
          let start = due_now.start in
          let l = lasts in
          let v = fills_one left id (c ∷ cells) filled m
          (covers_so left m (omega (arith, low, start, l)) k.1) in (
            v.0,
            sym (shown_past id m c cells (not_covered c.period m
                (λ b. (let x = b.1 in omega (arith, x, low))))) ∙ v.1,
          )

      nothing : (m : ℕ) → covers rest m ≡ false → shown_at id m cells ≡ []
      nothing m e = by_test (covers c.period m)
          (λ t. (let v = fills_one left id (c ∷ cells) filled m
          (in_key left id (c ∷ cells) filled c (inl refl) due_now.own m t) in
          let w : c.value ∷ shown_at id m cells ≡ v.0 ∷ [] =
          sym (shown_one id m c cells due_now.own t) ∙ v.1 in
          let none : shown_at id m cells ≡ [] = cc in none))
          (λ t. sym (shown_past id m c cells t)
          ∙ fills_none left id (c ∷ cells) filled m
          (not_covered left m (λ b. (let start = due_now.start in let low = b.0 in let up =
          b.1 in
          true_false (sym (covers_so rest m (after t (omega (arith, low, start))) up) ∙ e)))))
        where
          after : covers c.period m ≡ false → c.period.start ≤ m → c.period.end ≤ m
          after t low = by_test (covers c.period m) (λ y. true_false (sym y ∙ t))
              (λ y. elim (before_or_not m c.period.end) [
                | inl l ↦ true_false (sym (covers_so c.period m low l) ∙ t)
                | inr g ↦ g
              ])

      rest_filled : Fills rest id cells
      rest_filled = fills_so rest id cells one nothing

pub fills_run : (last : Option ℕ) (type : ColType) (id : ℕ) (keys : List Span) (cells : List Cell)
    → FillsFrom id keys cells → Last keys → ((c : Cell) → In c cells → IsWell last type c)
    → Run last type id keys cells
fills_run last type id [] [] h l w = tt
fills_run last type id [] (c ∷ cells) h l w =
    absurd (let a = h.above c (inl refl) in let k = h.known c (inl refl) in omega (arith, a, k))
fills_run last type id (left ∷ keys) [] h l w =
    absurd (let v = fills_one left id [] (first_key id left keys [] h.filled) left.start
    (covers_so left left.start (omega arith) l.0) in let e = v.1 in cc)
fills_run last type id (left ∷ keys) (c ∷ cells) h l w =
    let well = w c (inl refl) in
    let due = due_now last type id left keys c cells h l.0 well in (
      (well.fits, is_due_so last type id left c due),
      by_test (c.period.end == left.end)
          (λ e. subst (λ b. MatchBool b (Run last type (id + 1) keys cells)
          (Run last type id (span c.period.end left.end ∷ keys) cells)) (sym e)
          (fills_run last type (id + 1) keys cells
          (ends_here last type id left keys c cells h l.0 well
          (eqb-true c.period.end left.end e)) l.1 (λ d i. w d (inr i))))
          (λ e. subst (λ b. MatchBool b (Run last type (id + 1) keys cells)
          (Run last type id (span c.period.end left.end ∷ keys) cells)) (sym e)
          (fills_run last type id (span c.period.end left.end ∷ keys) cells
          (goes_on last type id left keys c cells h l.0 well
          (λ q. (let z : (c.period.end == left.end) ≡ true = ap (λ n. n == left.end) q
          ∙ number_itself left.end in true_false (sym z ∙ e))))
          ((let within = due.within in grind (arith, within, e)), l.1) (λ d i. w d (inr i)))),
    )
