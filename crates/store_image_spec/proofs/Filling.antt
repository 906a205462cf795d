-- Entries that fill the periods of keys one after the other are those that fill them at each
-- moment.
use Rattle.std.proofs.Common.{◌≡◌, ℕ, zero, suc, ◌+◌, ◌≤◌, ◌<◌, ◌==◌, eqb-true, Bool, true, false}
use Rattle.std.proofs.Common.{cond, List, [], ◌∷◌, length, get_or, refl, sym, ap, ◌∙◌, subst, arith}
use Rattle.std.proofs.Common.{inl, inr}
use Rattle.std.specs.Prelude.{MatchBool, Option, ◌&&◌, ◌⊎◌, nat_le, if◌then◌else◌}
use Rattle.std.specs.Ordering.{nat_cmp, ordering_then}
use Rattle.std.specs.declared.cmp.Ordering.{Ordering}
use Rattle.std.specs.declared.cmp.Ordering.TheVariants.{Less, Equal, Greater}
use Rattle.std.proofs.lemmas.Bool.{leb-true, le-leb}
use Rattle.std.proofs.lemmas.Cmp.{nat_cmp_total, tied_itself, ranked}
use Rattle.relations_spec.specs.Sets.{In, Ascends}
use Rattle.relations_spec.specs.Spans.{Span, span, covers}
use Rattle.relations_spec.proofs.Held.{covers_is}
use Rattle.relations_spec.proofs.SetLaws.{below_each}
use Rattle.relations_spec.proofs.ListingLaws.{nat_less, less_nat}
use Rattle.prima_base.specs.Columns.{has_type}
use Rattle.prima_base.specs.declared.value.ColType.{ColType}
use Rattle.prima_base.specs.declared.value.Value.{Value}
use Rattle.history_store_spec.specs.Store.{Cell, shown_at, Fills, IsPeriod, cell_cmp, IsFilled}
use Rattle.command_codec_spec.proofs.Correctness.{by_test, true_false}
use Rattle.command_codec_spec.proofs.Numbers.{both_true, of_both}
use Rattle.store_image_spec.specs.ItemChecks.{is_period, is_due}
use Rattle.store_image_spec.proofs.ReadParts.{CellFits, Run}
use Rattle.store_image_spec.proofs.Checking.{number_itself, period_lasts}

-- ---- periods

pub covers_so : (p : Span) (m : ℕ) → p.start ≤ m → m < p.end → covers p m ≡ true
covers_so p m a b = (covers_is p m).1 (a, b)

pub covers_both : (p : Span) (m : ℕ) → covers p m ≡ true → (p.start ≤ m) × (m < p.end)
covers_both p m e = (covers_is p m).0 e

pub not_covered : (p : Span) (m : ℕ) → ((p.start ≤ m) × (m < p.end) → ⊥) → covers p m ≡ false
not_covered p m f = by_test (covers p m) (λ e. absurd (f (covers_both p m e))) (λ e. e)

-- ---- the order of entries

cell_later : (a b : Cell) → a.id ≡ b.id → a.period.start < b.period.start → cell_cmp a b ≡ Less
cell_later a b e l = let f : nat_cmp a.id b.id ≡ Equal = ap (λ n. nat_cmp a.id n) (sym e)
    ∙ tied_itself nat_cmp_total a.id in rw f (nat_less a.period.start b.period.start l)

cell_above : (a b : Cell) → a.id < b.id → cell_cmp a b ≡ Less
cell_above a b l = let f = nat_less a.id b.id l in rw f refl

-- what stands before another has a lower id, or the same and an earlier start
pub cell_before : (a b : Cell) → cell_cmp a b ≡ Less → (a.id < b.id)
    ⊎ ((a.id ≡ b.id) × (a.period.start < b.period.start))
cell_before a b e = step (nat_cmp a.id b.id) refl e
  where
    step : (r : Ordering) → nat_cmp a.id b.id ≡ r
        → ordering_then r (nat_cmp a.period.start b.period.start) ≡ Less → (a.id < b.id)
        ⊎ ((a.id ≡ b.id) × (a.period.start < b.period.start))
    step Less q h = inl (less_nat a.id b.id q)
    step Equal q h = inr (ranked a.id b.id Equal (sym q), less_nat a.period.start b.period.start h)
    step Greater q h = absurd (cc)

-- ---- what entries show

pub shown_one : (id m : ℕ) (c : Cell) (cells : List Cell) → c.id ≡ id → covers c.period m ≡ true
    → shown_at id m (c ∷ cells) ≡ c.value ∷ shown_at id m cells
shown_one id m c cells n e = ap (λ b. cond b (c.value ∷ shown_at id m cells) (shown_at id m cells))
    (both_true (c.id == id) (covers c.period m) (ap (λ x. x == id) n ∙ number_itself id) e)

and_false : (a b : Bool) → b ≡ false → (a && b) ≡ false
and_false true b e = e
and_false false b e = refl

false_and : (a b : Bool) → a ≡ false → (a && b) ≡ false
false_and true b e = true_false e
false_and false b e = refl

pub shown_past : (id m : ℕ) (c : Cell) (cells : List Cell) → covers c.period m ≡ false
    → shown_at id m (c ∷ cells) ≡ shown_at id m cells
shown_past id m c cells e = ap (λ b. cond b (c.value ∷ shown_at id m cells) (shown_at id m cells))
    (and_false (c.id == id) (covers c.period m) e)

not_equal : (m n : ℕ) → (m ≡ n → ⊥) → (m == n) ≡ false
not_equal m n f = by_test (m == n) (λ e. absurd (f (eqb-true m n e))) (λ e. e)

shown_other : (id m : ℕ) (c : Cell) (cells : List Cell) → (c.id ≡ id → ⊥)
    → shown_at id m (c ∷ cells) ≡ shown_at id m cells
shown_other id m c cells f = ap (λ b. cond b (c.value ∷ shown_at id m cells) (shown_at id m cells))
    (false_and (c.id == id) (covers c.period m) (not_equal c.id id f))

pub in_shown : (id m : ℕ) (cells : List Cell) (c : Cell) → In c cells → c.id ≡ id
    → covers c.period m ≡ true → In c.value (shown_at id m cells)
in_shown id m [] c i n e = absurd i
in_shown id m (d ∷ cells) c (inl q) n e =
    let at : d.id ≡ id = ap (λ (x : Cell). x.id) q ∙ n in
    let on : covers d.period m ≡ true = ap (λ (x : Cell). covers x.period m) q ∙ e in
    subst (In c.value) (sym (shown_one id m d cells at on)) (inl (ap (λ (x : Cell). x.value) q))
in_shown id m (d ∷ cells) c (inr i) n e = step (d.id == id && covers d.period m)
    (in_shown id m cells c i n e)
  where
    step : (b : Bool) → In c.value (shown_at id m cells)
        → In c.value (if b then d.value ∷ shown_at id m cells else shown_at id m cells)
    step true h = inr h
    step false h = h

-- where a value is shown an entry shows it
pub from_shown : (id m : ℕ) (cells : List Cell) (v : Value) → In v (shown_at id m cells)
    → (c : Cell) × In c cells × (c.id ≡ id) × (covers c.period m ≡ true) × (c.value ≡ v)
from_shown id m [] v i = absurd i
from_shown id m (d ∷ cells) v i = step (λ j. (let r = from_shown id m cells v j in
    (r.0, inr r.1, r.2, r.3, r.4))) (d.id == id && covers d.period m) refl i
  where
    step : (In v (shown_at id m cells) → (c : Cell) × In c (d ∷ cells) × (c.id ≡ id)
        × (covers c.period m ≡ true) × (c.value ≡ v))
        → (b : Bool) → (d.id == id && covers d.period m) ≡ b
        → In v (if b then d.value ∷ shown_at id m cells else shown_at id m cells)
        → (c : Cell) × In c (d ∷ cells) × (c.id ≡ id) × (covers c.period m ≡ true) × (c.value ≡ v)
    step later true e (inl q) = let both = of_both (d.id == id) (covers d.period m) e in
        (d, inl refl, eqb-true d.id id both.0, both.1, q)
    step later true e (inr j) = later j
    step later false e j = later j

none_shown : (id m : ℕ) (cells : List Cell) → ((c : Cell) → In c cells → c.id ≡ id → ⊥)
    → shown_at id m cells ≡ []
none_shown id m [] f = refl
none_shown id m (c ∷ cells) f = shown_other id m c cells (f c (inl refl))
    ∙ none_shown id m cells (λ d i. f d (inr i))

-- ---- keys that are filled

pub fills_one : (key : Span) (id : ℕ) (cells : List Cell) → Fills key id cells → (m : ℕ)
    → covers key m ≡ true → (v : Value) × (shown_at id m cells ≡ v ∷ [])
fills_one key id cells f m e = subst (λ b. MatchBool b ((v : Value)
    × (shown_at id m cells ≡ v ∷ [])) (shown_at id m cells ≡ [])) e (f m)

pub fills_none : (key : Span) (id : ℕ) (cells : List Cell) → Fills key id cells → (m : ℕ)
    → covers key m ≡ false → shown_at id m cells ≡ []
fills_none key id cells f m e = subst (λ b. MatchBool b ((v : Value)
    × (shown_at id m cells ≡ v ∷ [])) (shown_at id m cells ≡ [])) e (f m)

pub fills_so : (key : Span) (id : ℕ) (cells : List Cell)
    → ((m : ℕ) → covers key m ≡ true → (v : Value) × (shown_at id m cells ≡ v ∷ []))
    → ((m : ℕ) → covers key m ≡ false → shown_at id m cells ≡ []) → Fills key id cells
fills_so key id cells f g m = step (covers key m) refl
  where
    step : (b : Bool) → covers key m ≡ b → MatchBool b ((v : Value)
        × (shown_at id m cells ≡ v ∷ [])) (shown_at id m cells ≡ [])
    step true e = f m e
    step false e = g m e

-- a moment of an entry is one of its key
pub in_key : (key : Span) (id : ℕ) (cells : List Cell) → Fills key id cells → (c : Cell)
    → In c cells → c.id ≡ id → (m : ℕ) → covers c.period m ≡ true → covers key m ≡ true
in_key key id cells f c i n m e = by_test (covers key m) (λ q. q)
    (λ q. absurd (subst (In c.value) (fills_none key id cells f m q) (in_shown id m cells c i n e)))

fills_past : (key : Span) (id : ℕ) (c : Cell) (cells : List Cell) → (c.id ≡ id → ⊥)
    → Fills key id cells → Fills key id (c ∷ cells)
fills_past key id c cells f h = fills_so key id (c ∷ cells)
    (λ m e. (let v = fills_one key id cells h m e in (v.0, shown_other id m c cells f ∙ v.1)))
    (λ m e. shown_other id m c cells f ∙ fills_none key id cells h m e)

pub fills_after : (key : Span) (id : ℕ) (c : Cell) (cells : List Cell) → (c.id ≡ id → ⊥)
    → Fills key id (c ∷ cells) → Fills key id cells
fills_after key id c cells f h = fills_so key id cells
    (λ m e. (let v = fills_one key id (c ∷ cells) h m e in
    (v.0, sym (shown_other id m c cells f) ∙ v.1)))
    (λ m e. sym (shown_other id m c cells f) ∙ fills_none key id (c ∷ cells) h m e)

-- the entries of the keys whose ids begin with this one
pub record FillsFrom (low : ℕ) (keys : List Span) (cells : List Cell) : Type 0 where
  pub above : (c : Cell) → In c cells → low ≤ c.id
  pub known : (c : Cell) → In c cells → c.id < low + length keys
  pub lasting : (c : Cell) → In c cells → IsPeriod c.period
  pub filled : (j : ℕ) → j < length keys → Fills (get_or keys j (span 0 0)) (low + j) cells
  pub ascending : Ascends cell_cmp cells

pub from_first : (keys : List Span) (cells : List Cell) → FillsFrom 0 keys cells
    → IsFilled keys cells
from_first keys cells h = record {
  known = λ c i. (let a = h.known c i in omega (arith, a));
  lasting = h.lasting;
  filled = λ id b. (let n : 0 + id ≡ id = omega arith in
      subst (λ x. Fills (get_or keys id (span 0 0)) x cells) n (h.filled id b));
  ascending = h.ascending;
}

pub to_first : (keys : List Span) (cells : List Cell) → IsFilled keys cells → FillsFrom 0 keys cells
to_first keys cells h = record {
  above = λ c i. omega arith;
  known = λ c i. (let a = h.known c i in omega (arith, a));
  lasting = h.lasting;
  filled = λ j b. (let n : j ≡ 0 + j = omega arith in
      subst (λ x. Fills (get_or keys j (span 0 0)) x cells) n (h.filled j b));
  ascending = h.ascending;
}

-- the first key, and those after it
pub first_key : (low : ℕ) (k : Span) (keys : List Span) (cells : List Cell)
    → ((j : ℕ) → j < length (k ∷ keys) → Fills (get_or (k ∷ keys) j (span 0 0)) (low + j) cells)
    → Fills k low cells
first_key low k keys cells f = let n : low + 0 ≡ low = omega arith in
    subst (λ x. Fills k x cells) n (f 0 (omega arith))

pub later_keys : (low : ℕ) (k : Span) (keys : List Span) (cells : List Cell)
    → ((j : ℕ) → j < length (k ∷ keys) → Fills (get_or (k ∷ keys) j (span 0 0)) (low + j) cells)
    → (j : ℕ) → j < length keys → Fills (get_or keys j (span 0 0)) ((low + 1) + j) cells
later_keys low k keys cells f j h = let n : low + suc j ≡ (low + 1) + j = omega arith in
    subst (λ x. Fills (get_or keys j (span 0 0)) x cells) n (f (suc j) (omega (arith, h)))

pub all_keys : (low : ℕ) (k : Span) (keys : List Span) (cells : List Cell) → Fills k low cells
    → ((j : ℕ) → j < length keys → Fills (get_or keys j (span 0 0)) ((low + 1) + j) cells)
    → (j : ℕ) → j < length (k ∷ keys) → Fills (get_or (k ∷ keys) j (span 0 0)) (low + j) cells
all_keys low k keys cells f g zero h = let n : low ≡ low + 0 = omega arith in
    subst (λ x. Fills k x cells) n f
all_keys low k keys cells f g (suc j) h = let n : (low + 1) + j ≡ low + suc j = omega arith in
    subst (λ x. Fills (get_or keys j (span 0 0)) x cells) n (g j (omega (arith, h)))

-- ---- what is due

pub record IsDue (last : Option ℕ) (type : ColType) (id : ℕ) (left : Span) (c : Cell) : Type 0 where
  pub own : c.id ≡ id
  pub start : c.period.start ≡ left.start
  pub typed : has_type type c.value ≡ true
  pub period : is_period last c.period ≡ true
  pub within : c.period.end ≤ left.end

pub due_is : (last : Option ℕ) (type : ColType) (id : ℕ) (left : Span) (c : Cell)
    → is_due last type id left c ≡ true → IsDue last type id left c
due_is last type id left c e =
    let a = of_both (c.id == id && c.period.start == left.start)
    (has_type type c.value && (is_period last c.period && nat_le c.period.end left.end)) e in
    let b = of_both (c.id == id) (c.period.start == left.start) a.0 in
    let d = of_both (has_type type c.value) (is_period last c.period
    && nat_le c.period.end left.end) a.1 in
    let f = of_both (is_period last c.period) (nat_le c.period.end left.end) d.1 in
    record {
      own = eqb-true c.id id b.0;
      start = eqb-true c.period.start left.start b.1;
      typed =
          d.0;
      period = f.0;
      within = leb-true c.period.end left.end f.1;
    }

pub is_due_so : (last : Option ℕ) (type : ColType) (id : ℕ) (left : Span) (c : Cell)
    → IsDue last type id left c → is_due last type id left c ≡ true
is_due_so last type id left c h =
    both_true (c.id == id && c.period.start == left.start)
    (has_type type c.value && (is_period last c.period && nat_le c.period.end left.end))
    (both_true (c.id == id) (c.period.start == left.start)
    (ap (λ n. n == id) h.own ∙ number_itself id)
    (ap (λ n. n == left.start) h.start ∙ number_itself left.start))
    (both_true (has_type type c.value) (is_period last c.period && nat_le c.period.end left.end)
    h.typed
    (both_true (is_period last c.period) (nat_le c.period.end left.end) h.period
    (le-leb c.period.end left.end h.within)))

-- what is so of each entry apart from the others
pub record IsWell (last : Option ℕ) (type : ColType) (c : Cell) : Type 0 where
  pub fits : CellFits c
  pub typed : has_type type c.value ≡ true
  pub period : is_period last c.period ≡ true

-- ---- from a run of entries

module _ (last : Option ℕ) (type : ColType) where
  by_end : (m n : ℕ) (X P Q : Type 0) → (m ≡ n → P → X) → ((m ≡ n → ⊥) → Q → X)
      → MatchBool (m == n) P Q → X
  by_end m n X P Q f g h = step (m == n) refl h
    where
      different : (m == n) ≡ false → m ≡ n → ⊥
      different e q = true_false (sym (ap (λ x. x == n) q ∙ number_itself n) ∙ e)

      step : (b : Bool) → (m == n) ≡ b → MatchBool b P Q → X
      step true e k = f (eqb-true m n e) k
      step false e k = g (different e) k

  pub run_well : (id : ℕ) (keys : List Span) (cells : List Cell) → Run last type id keys cells
      → (c : Cell) → In c cells → IsWell last type c
  run_well id [] [] h c i = absurd i
  run_well id (left ∷ keys) [] h c i = absurd i
  run_well id [] (d ∷ cells) h c i = absurd h
  run_well id (left ∷ keys) (d ∷ cells) h c (inl q) = let due = due_is last type id left d h.0.1 in
      subst (IsWell last type) q (record { fits = h.0.0; typed = due.typed; period = due.period })
  run_well id (left ∷ keys) (d ∷ cells) h c (inr i) =
      by_end d.period.end left.end (IsWell last type c) (Run last type (id + 1) keys cells)
      (Run last type id (span d.period.end left.end ∷ keys) cells)
      (λ e r. run_well (id + 1) keys cells r c i)
      (λ e r. run_well id (span d.period.end left.end ∷ keys) cells r c i) h.1

  lasts : (c : Cell) → CellFits c → is_period last c.period ≡ true → IsPeriod c.period
  lasts c f e = (period_lasts last c.period e, f.1.1)

  -- the entry fills what was left
  module _ (id : ℕ) (left : Span) (keys : List Span) (c : Cell) (cells : List Cell)
      (fits : CellFits c) (due : IsDue last type id left c) where
    covered : (m : ℕ) → c.period.end ≡ left.end → covers c.period m ≡ covers left m
    covered m e = ap (λ s. covers (span s c.period.end) m) due.start
        ∙ ap (λ s. covers (span left.start s) m) e

    last_fills : FillsFrom (id + 1) keys cells → c.period.end ≡ left.end
        → FillsFrom id (left ∷ keys) (c ∷ cells)
    last_fills h e = record {
      above = above;
      known = known;
      lasting = lasting;
      filled =
          all_keys id left keys (c ∷ cells) filled later;
      ascending =
          (below_each cell_cmp c cells before, h.ascending);
    }
      where
        above : (d : Cell) → In d (c ∷ cells) → id ≤ d.id
        above d (inl q) = let n : d.id ≡ id = sym (ap (λ (x : Cell). x.id) q) ∙ due.own in
            omega (arith, n)
        above d (inr i) = let n = h.above d i in omega (arith, n)

        known : (d : Cell) → In d (c ∷ cells) → d.id < id + length (left ∷ keys)
        known d (inl q) = let n : d.id ≡ id = sym (ap (λ (x : Cell). x.id) q) ∙ due.own in
            omega (arith, n)
        known d (inr i) = let n = h.known d i in omega (arith, n)

        lasting : (d : Cell) → In d (c ∷ cells) → IsPeriod d.period
        lasting d (inl q) = subst (λ (x : Cell). IsPeriod x.period) q (lasts c fits due.period)
        lasting d (inr i) = h.lasting d i

        none : (m : ℕ) → shown_at id m cells ≡ []
        none m = none_shown id m cells (λ d i n. (let a = h.above d i in omega (arith, a, n)))

        filled : Fills left id (c ∷ cells)
        filled = fills_so left id (c ∷ cells)
            (λ m q. (
              c.value,
              shown_one id m c cells due.own (covered m e ∙ q)
                  ∙ ap (λ l. c.value ∷ l) (none m),
            ))
            (λ m q. shown_past id m c cells (covered m e ∙ q) ∙ none m)

        later : (j : ℕ) → j < length keys → Fills (get_or keys j (span 0 0)) ((id + 1) + j)
            (c ∷ cells)
        later j b = fills_past (get_or keys j (span 0 0)) ((id + 1) + j) c cells
            (λ n. (let a = due.own in omega (arith, a, n))) (h.filled j b)

        before : (d : Cell) → In d cells → cell_cmp c d ≡ Less
        before d i = cell_above c d (let a = h.above d i in let n = due.own in omega (arith, a, n))

    more_fills : FillsFrom id (span c.period.end left.end ∷ keys) cells
        → FillsFrom id (left ∷ keys) (c ∷ cells)
    more_fills h = record {
      above = above;
      known = known;
      lasting = lasting;
      filled =
          all_keys id left keys (c ∷ cells) filled later;
      ascending =
          (below_each cell_cmp c cells before, h.ascending);
    }
      where
        rest : Span
        rest = span c.period.end left.end

        rest_filled : Fills rest id cells
        rest_filled = first_key id rest keys cells h.filled

        above : (d : Cell) → In d (c ∷ cells) → id ≤ d.id
        above d (inl q) = let n : d.id ≡ id = sym (ap (λ (x : Cell). x.id) q) ∙ due.own in
            omega (arith, n)
        above d (inr i) = h.above d i

        known : (d : Cell) → In d (c ∷ cells) → d.id < id + length (left ∷ keys)
        known d (inl q) = let n : d.id ≡ id = sym (ap (λ (x : Cell). x.id) q) ∙ due.own in
            omega (arith, n)
        known d (inr i) = let n = h.known d i in omega (arith, n)

        lasting : (d : Cell) → In d (c ∷ cells) → IsPeriod d.period
        lasting d (inl q) = subst (λ (x : Cell). IsPeriod x.period) q (lasts c fits due.period)
        lasting d (inr i) = h.lasting d i

        one : (m : ℕ) → covers left m ≡ true → (v : Value) × (shown_at id m (c ∷ cells) ≡ v ∷ [])
        one m q = by_test (covers c.period m)
            (λ t. (
              c.value,
              shown_one id m c cells due.own t ∙ ap (λ l. c.value ∷ l)
                  (fills_none rest id cells rest_filled m
                  (not_covered rest m (λ b.
                  (let a = covers_both c.period m t in let low = b.0 in let up = a.1 in
                  omega (arith, low, up))))),
            ))
            (λ t. (let k = covers_both left m q in
            let low : c.period.end ≤ m = uncovered m t k.0 in
            let v = fills_one rest id cells rest_filled m (covers_so rest m low k.1) in
            (v.0, shown_past id m c cells t ∙ v.1)))
          where
            uncovered : (n : ℕ) → covers c.period n ≡ false → left.start ≤ n → c.period.end ≤ n
            uncovered n t l = by_test (nat_le c.period.end n) (λ y. leb-true c.period.end n y)
                (λ y. true_false (sym (covers_so c.period n
                (let s = due.start in omega (arith, s, l))
                (let z : n < c.period.end = grind (arith, y) in z)) ∙ t))

        nothing : (m : ℕ) → covers left m ≡ false → shown_at id m (c ∷ cells) ≡ []
        nothing m q =
            let start = due.start in
            let within = due.within in
            let lasts = period_lasts last c.period due.period in
            shown_past id m c cells (not_covered c.period m
            (λ b. true_false (sym (covers_so left m (let x = b.0 in omega (arith, x, start))
            (let x = b.1 in omega (arith, x, within))) ∙ q)))
            ∙ fills_none rest id cells rest_filled m
            (not_covered rest m (λ b. true_false
            (sym (covers_so left m (let x = b.0 in omega (arith, x, start, lasts)) b.1) ∙ q)))

        filled : Fills left id (c ∷ cells)
        filled = fills_so left id (c ∷ cells) one nothing

        later : (j : ℕ) → j < length keys → Fills (get_or keys j (span 0 0)) ((id + 1) + j)
            (c ∷ cells)
        later j b = fills_past (get_or keys j (span 0 0)) ((id + 1) + j) c cells
            (λ n. (let a = due.own in omega (arith, a, n)))
            (later_keys id rest keys cells h.filled j b)

        before : (d : Cell) → In d cells → cell_cmp c d ≡ Less
        before d i = by_test (d.id == id)
            (λ e. (let at : d.id ≡ id = eqb-true d.id id e in
            let lasts_d = (h.lasting d i).0 in
            let k = covers_both rest d.period.start
            (in_key rest id cells rest_filled d i at d.period.start
            (covers_so d.period d.period.start (omega arith) lasts_d)) in
            let low = k.0 in
            let lasts_c = period_lasts last c.period due.period in
            cell_later c d (due.own ∙ sym at) (omega (arith, low, lasts_c))))
            (λ e. (let a = h.above d i in let n = due.own in
            cell_above c d (grind (arith, a, n, e))))

  pub run_fills : (id : ℕ) (keys : List Span) (cells : List Cell) → Run last type id keys cells
      → FillsFrom id keys cells
  run_fills id [] [] h = record {
    above = λ c i. absurd i;
    known = λ c i. absurd i;
    lasting = λ c i.
        absurd i;
    filled = λ j b. absurd (omega (arith, b));
    ascending = tt;
  }
  run_fills id (left ∷ keys) [] h = absurd h
  run_fills id [] (c ∷ cells) h = absurd h
  run_fills id (left ∷ keys) (c ∷ cells) h =
      let due = due_is last type id left c h.0.1 in
      by_end c.period.end left.end (FillsFrom id (left ∷ keys) (c ∷ cells))
      (Run last type (id + 1) keys cells)
      (Run last type id (span c.period.end left.end ∷ keys) cells)
      (λ e r. last_fills id left keys c cells h.0.0 due (run_fills (id + 1) keys cells r) e)
      (λ e r. more_fills id left keys c cells h.0.0 due
      (run_fills id (span c.period.end left.end ∷ keys) cells r)) h.1
