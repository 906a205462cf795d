-- What entries hold that are cut to a slice.
use Rattle.std.specs.Prelude.{◌≡◌, ◌⊎◌, ℕ, ◌<◌, ◌≤◌, Bool, true, false, cond, nat_lt, min, max}
use Rattle.std.specs.Prelude.{List, [], ◌∷◌, ◌++◌, take, length, Option, Some, None}
use Rattle.std.proofs.Common.{refl, sym, ap, subst, ◌∙◌, inl, inr, arith, ◌+◌, get_or}
use Rattle.std.specs.List.{filter_map, cons_option}
use Rattle.std.proofs.lemmas.Bool.Decides.{nat_tests}
use Rattle.std.proofs.lemmas.List.{take_more}
use Rattle.std.proofs.lemmas.List.Elements.{filter_map-append}
use Rattle.relations_spec.specs.Sets.{In}
use Rattle.relations_spec.specs.Spans.{Span, span, common}
use Rattle.relations_spec.specs.Timed.{Entry}
use Rattle.relations_spec.specs.Listing.{Covered}
use Rattle.prima_base.specs.declared.timed_row.TimedRow.{TimedRow}
use Rattle.prima_base.specs.Timed.{entry_of, entries_of}
use Rattle.coalesce.specs.Cutting.{with_period, cut_row, entry_with, cut_entry}
use Rattle.coalesce.specs.Listed.{is_inside}

-- a list with a first one more covers what that covers, and what the others do
abbrev pub Covers : {X : Type 0} → Entry X → X → ℕ → Type 0
Covers e x m = (e.item ≡ x) × (e.period.start ≤ m) × (m < e.period.end)

pub covered_first : {X : Type 0} (e : Entry X) (entries : List (Entry X)) (x : X) (m : ℕ)
    → Covers e x m → Covered (e ∷ entries) x m
covered_first e entries x m c = (e, inl refl, c.0, c.1, c.2)

pub covered_later : {X : Type 0} (e : Entry X) (entries : List (Entry X)) (x : X) (m : ℕ)
    → Covered entries x m → Covered (e ∷ entries) x m
covered_later e entries x m c = (c.0, inr c.1, c.2, c.3, c.4)

pub from_covered : {X : Type 0} (e : Entry X) (entries : List (Entry X)) (x : X) (m : ℕ)
    → Covered (e ∷ entries) x m → Covers e x m ⊎ Covered entries x m
from_covered {X} e entries x m c = elim c.1 [
  | inl i ↦ inl (subst (λ (w : Entry X). Covers w x m) (sym i) (c.2, c.3, c.4))
  | inr k ↦ inr (c.0, k, c.2, c.3, c.4)
]

-- the period is inside the slice
pub record Within {X : Type 0} (slice : Span) (e : Entry X) : Type 0 where
  pub from : slice.start ≤ e.period.start
  pub lasting : e.period.start < e.period.end
  pub to : e.period.end ≤ slice.end

-- rows are cut as entries are
row_as_entry : (row : TimedRow) (p : Option Span) → (rows : List TimedRow)
    → entries_of (cons_option (with_period row p) rows)
    ≡ cons_option (entry_with (entry_of row).item p) (entries_of rows)
row_as_entry row None rows = refl
row_as_entry row (Some p) rows = refl

pub cut_entries : (slice : Span) (rows : List TimedRow)
    → entries_of (filter_map (cut_row slice) rows) ≡ filter_map (cut_entry slice) (entries_of rows)
cut_entries slice [] = refl
cut_entries slice (row ∷ rows) =
    row_as_entry row (common row.period slice) (filter_map (cut_row slice) rows)
    ∙ ap (cons_option (cut_entry slice (entry_of row))) (cut_entries slice rows)

-- the common moments of two periods are those of both
abbrev Meets : Span → Span → Bool → Type 0
Meets p q true = max p.start q.start < min p.end q.end
Meets p q false = min p.end q.end ≤ max p.start q.start

meets : (p q : Span) (b : Bool) → nat_lt (max p.start q.start) (min p.end q.end) ≡ b → Meets p q b
meets p q true e = grind (arith, nat_tests)
meets p q false e = grind (arith, nat_tests)

module _ {X : Type 0} (slice : Span) where
  abbrev cut_by : Entry X → Bool → Option (Entry X)
  cut_by e b = entry_with e.item (cond b (Some
      (span (max e.period.start slice.start) (min e.period.end slice.end))) None)

  within_step : (e : Entry X) (b : Bool) → Meets e.period slice b → (rest : List (Entry X))
      → ((f : Entry X) → In f rest → Within slice f) → (f : Entry X)
      → In f (cons_option (cut_by e b) rest) → Within slice f
  within_step e true c rest more f (inl i) = subst (λ (w : Entry X). Within slice w) i
      (record { from = omega arith; lasting = c; to = omega arith })
  within_step e true c rest more f (inr k) = more f k
  within_step e false c rest more f k = more f k

  pub each_within : (entries : List (Entry X)) → (f : Entry X)
      → In f (filter_map (cut_entry slice) entries) → Within slice f
  each_within [] f k = absurd k
  each_within (e ∷ entries) f k =
      let b = nat_lt (max e.period.start slice.start) (min e.period.end slice.end) in
      within_step e b (meets e.period slice b refl) (filter_map (cut_entry slice) entries)
      (each_within entries) f k

  module _ (x : X) (m : ℕ) where
    there_step : (e : Entry X) (b : Bool) → Meets e.period slice b → (entries rest : List (Entry X))
        → (Covered entries x m → Covered rest x m) → slice.start ≤ m → m < slice.end
        → Covers e x m ⊎ Covered entries x m → Covered (cons_option (cut_by e b) rest) x m
    there_step e true c entries rest more s t (inl h) =
        let k = h.1 in
        let l = h.2 in
        covered_first (record {
          item = e.item;
          period =
              span (max e.period.start slice.start) (min e.period.end slice.end);
        }) rest x m
        (h.0, omega arith, omega arith)
    there_step e true c entries rest more s t (inr h) =
        covered_later (record {
          item = e.item;
          period =
              span (max e.period.start slice.start) (min e.period.end slice.end);
        }) rest x m (more h)
    there_step e false c entries rest more s t (inl h) = let k = h.1 in let l = h.2 in
        absurd (omega arith)
    there_step e false c entries rest more s t (inr h) = more h

    pub in_cut : (entries : List (Entry X)) → slice.start ≤ m → m < slice.end → Covered entries x m
        → Covered (filter_map (cut_entry slice) entries) x m
    in_cut [] s t c = c
    in_cut (e ∷ entries) s t c =
        let b = nat_lt (max e.period.start slice.start) (min e.period.end slice.end) in
        there_step e b (meets e.period slice b refl) entries (filter_map (cut_entry slice) entries)
        (in_cut entries s t) s t (from_covered e entries x m c)

    back_step : (e : Entry X) (b : Bool) → (entries rest : List (Entry X))
        → (Covered rest x m → Covered entries x m) → Covered (cons_option (cut_by e b) rest) x m
        → Covered (e ∷ entries) x m
    back_step e true entries rest more c =
        elim (from_covered (record {
          item = e.item;
          period =
              span (max e.period.start slice.start) (min e.period.end slice.end);
        }) rest x m c) [
          | inl h ↦ (let k = h.1 in let l = h.2 in
              covered_first e entries x m (h.0, omega arith, omega arith))
          | inr h ↦ covered_later e entries x m (more h)
        ]
    back_step e false entries rest more c = covered_later e entries x m (more c)

    pub from_cut : (entries : List (Entry X)) → Covered (filter_map (cut_entry slice) entries) x m
        → Covered entries x m
    from_cut [] c = c
    from_cut (e ∷ entries) c = back_step e (nat_lt (max e.period.start slice.start)
        (min e.period.end slice.end)) entries (filter_map (cut_entry slice) entries)
        (from_cut entries) c

-- ---- rows that are inside the slice

inside_common : (slice p : Span) → is_inside slice p ≡ true → common p slice ≡ Some p
inside_common slice p h =
    let from : max p.start slice.start ≡ p.start = grind (arith, nat_tests) in
    let to : min p.end slice.end ≡ p.end = grind (arith, nat_tests) in
    let lasting : nat_lt p.start p.end ≡ true = grind (arith, nat_tests) in
    (λ i. cond (nat_lt (from i) (to i)) (Some (span (from i) (to i))) None)
    ∙ ap (λ (b : Bool). cond b (Some (span p.start p.end)) None) lasting

-- one row more that is cut to itself
pub inside_more : (slice : Span) (rows : List TimedRow) (i : ℕ) (d : TimedRow) → i < length rows
    → is_inside slice (get_or rows i d).period ≡ true
    → filter_map (cut_row slice) (take i rows) ≡ take i rows
    → filter_map (cut_row slice) (take (i + 1) rows) ≡ take (i + 1) rows
inside_more slice rows i d below inside before =
    let row = get_or rows i d in
    let whole = ap (with_period row) (inside_common slice row.period inside) in
    ap (filter_map (cut_row slice)) (take_more rows i d below)
    ∙ filter_map-append (cut_row slice) (take i rows) (row ∷ [])
    ∙ (λ k. before k ++ cons_option (whole k) [])
    ∙ sym (take_more rows i d below)
