-- Pieces that fill keys, and show of each id what the columns show, do so with the entries of one
-- column more.
use Rattle.std.proofs.Common.{◌≡◌, ℕ, ◌+◌, ◌≤◌, ◌<◌, ◌==◌, eqb-true, Bool, true, false, List, []}
use Rattle.std.proofs.Common.{◌∷◌, ◌++◌, length, get_or, refl, sym, ap, ◌∙◌, subst, append_assoc}
use Rattle.std.proofs.Common.{append-nil, arith, inl, inr}
use Rattle.std.specs.Prelude.{MatchBool, Option, nat_lt, if◌then◌else◌}
use Rattle.std.proofs.lemmas.Bool.{ltb-true, lt-ltb}
use Rattle.relations_spec.specs.Sets.{In}
use Rattle.relations_spec.specs.Spans.{Span, span, covers}
use Rattle.prima_base.specs.Columns.{Column}
use Rattle.prima_base.specs.declared.value.ColType.{ColType}
use Rattle.history_store_spec.specs.Store.{Cell, shown_at, row_at, IsFilled}
use Rattle.command_codec_spec.proofs.Correctness.{by_test}
use Rattle.store_image_spec.proofs.Checking.{period_lasts}
use Rattle.store_image_spec.proofs.Filling.{covers_so, covers_both, fills_one, in_shown, in_key}
use Rattle.store_image_spec.proofs.Filling.{due_is, run_fills, from_first}
use Rattle.store_image_spec.proofs.DueEntries.{Last}
use Rattle.store_image_spec.proofs.FittingRows.{AllFilled, only_one}
use Rattle.store_image_spec.proofs.ReadParts.{Run, ColumnsRead}
use Rattle.store_image_rows.specs.Stretches.{RowStretch, longer, begun, ended_by, given, left_by}
use Rattle.store_image_rows.specs.Stretches.{merged, all_merged, bare_from}
use Rattle.store_image_rows.proofs.FilledKeys.{by_end, to_end, IsNext, Fill, bare_fill}

-- each piece shows what the columns show of its id
abbrev pub Sound : List (List Cell) → List RowStretch → Type 0
Sound columns pieces = (p : RowStretch) → In p pieces → (m : ℕ) → covers p.period m ≡ true
    → p.row ≡ row_at p.id m columns

row_after : (id m : ℕ) (columns : List (List Cell)) (cells : List Cell)
    → row_at id m (columns ++ cells ∷ []) ≡ row_at id m columns ++ shown_at id m cells
row_after id m [] cells = append-nil (shown_at id m cells)
row_after id m (c ∷ columns) cells = ap (λ l. shown_at id m c ++ l) (row_after id m columns cells)
    ∙ sym (append_assoc (shown_at id m c) (row_at id m columns) (shown_at id m cells))

sound_append : (columns : List (List Cell)) (ps qs : List RowStretch) → Sound columns ps
    → Sound columns qs → Sound columns (ps ++ qs)
sound_append columns [] qs f g = g
sound_append columns (p ∷ ps) qs f g = λ q i.
    elim i as (λ x. (m : ℕ) → covers q.period m ≡ true → q.row ≡ row_at q.id m columns) [
      | inl e ↦ f q (inl e)
      | inr j ↦ sound_append columns ps qs (λ x k. f x (inr k)) g q j
    ]

-- ---- one entry

-- if true and if false
pub when_true : {X : Type 0} (b : Bool) (x y : X) → b ≡ true → (if b then x else y) ≡ x
when_true b x y e = ap (λ q. if q then x else y) e

pub when_false : {X : Type 0} (b : Bool) (x y : X) → b ≡ false → (if b then x else y) ≡ y
when_false b x y e = ap (λ q. if q then x else y) e

pub not_below : (m n : ℕ) → n ≤ m → nat_lt m n ≡ false
not_below m n l = by_test (nat_lt m n) (λ e. absurd (let k = ltb-true m n e in omega (arith, k, l)))
    (λ e. e)

pub not_equal : (m n : ℕ) → (m ≡ n → ⊥) → (m == n) ≡ false
not_equal m n f = by_test (m == n) (λ e. absurd (f (eqb-true m n e))) (λ e. e)

module _ (columns : List (List Cell)) (column : List Cell) (id : ℕ) (keys : List Span)
    (c : Cell) where
  -- what goes on after the entry, in the part of the key that is then left, or in the next key
  abbrev GoesOn : Span → List RowStretch → Type 0
  GoesOn left pieces = MatchBool (c.period.end == left.end) (Fill (id + 1) keys pieces)
      (Fill id (span c.period.end left.end ∷ keys) pieces)

  pub record After (left : Span) (pieces : List RowStretch) : Type 0 where
    pub left_fill : GoesOn left (left_by pieces c)
    pub left_sound : Sound columns (left_by pieces c)
    pub fill : (rest : List RowStretch) → GoesOn left rest
        → Fill id (left ∷ keys) (given pieces c ++ rest)
    pub sound : Sound (columns ++ column ∷ []) (given pieces c)

  abbrev ShowsFrom : ℕ → Type 0
  ShowsFrom start = (m : ℕ) → start ≤ m → m < c.period.end → shown_at id m column ≡ c.value ∷ []

  -- a piece with the entry's value more
  longer_sound : (p : RowStretch) (period : Span) → p.id ≡ id → ShowsFrom p.period.start
      → ((m : ℕ) → covers p.period m ≡ true → p.row ≡ row_at p.id m columns)
      → ((m : ℕ) → covers period m ≡ true → covers p.period m ≡ true) → period.end ≤ c.period.end
      → Sound (columns ++ column ∷ []) (longer p c.value period ∷ [])
  longer_sound p period own shows sound part within q (inr i) m k = absurd i
  longer_sound p period own shows sound part within q (inl e) m k =
      let on : covers period m ≡ true = subst (λ (x : RowStretch). covers x.period m ≡ true) (sym e)
      k in
      let both = covers_both period m on in
      let low = (covers_both p.period m (part m on)).0 in
      let up = both.1 in
      let s : shown_at p.id m column ≡ c.value ∷ [] = ap (λ n. shown_at n m column) own
      ∙ shows m low (omega (arith, up, within)) in
      let r : (longer p c.value period).row ≡ row_at p.id m (columns ++ column ∷ []) =
      ap (λ l. l ++ c.value ∷ []) (sound m (part m on))
      ∙ ap (λ l. row_at p.id m columns ++ l) (sym s) ∙ sym (row_after p.id m columns column) in
      subst (λ (x : RowStretch). x.row ≡ row_at x.id m (columns ++ column ∷ [])) e r

  module _ (left : Span) (p : RowStretch) (pieces : List RowStretch)
      (h : Fill id (left ∷ keys) (p ∷ pieces)) (s : Sound columns (p ∷ pieces))
      (within : c.period.end ≤ left.end) (long : left.start < c.period.end)
      (shows : ShowsFrom left.start) where
    next : IsNext id left p
    next = h.0

    first_sound : (m : ℕ) → covers p.period m ≡ true → p.row ≡ row_at p.id m columns
    first_sound m k = s p (inl refl) m k

    shows_from : ShowsFrom p.period.start
    shows_from m low up = shows m (let e = next.start in omega (arith, low, e)) up

    -- the piece goes on after the entry
    splits : nat_lt c.period.end p.period.end ≡ true → c.period.end < p.period.end
        → After left (p ∷ pieces)
    splits e l =
        let start = next.start in
        let within_p = next.within in
        let cut : Span = span p.period.start c.period.end in
        let low : nat_lt p.period.start c.period.end ≡ true =
        lt-ltb p.period.start c.period.end (omega (arith, start, long)) in
        let one : given (p ∷ pieces) c ≡ longer p c.value cut ∷ [] =
        when_true (nat_lt c.period.end p.period.end) (begun p c)
        (longer p c.value p.period ∷ (if p.period.end == c.period.end then []
        else given pieces c)) e
        ∙ when_true (nat_lt p.period.start c.period.end) (longer p c.value cut ∷ []) [] low in
        let two : left_by (p ∷ pieces) c ≡ ended_by p c ∷ pieces =
        when_true (nat_lt c.period.end p.period.end) (ended_by p c ∷ pieces)
        (if p.period.end == c.period.end then pieces else left_by pieces c) e in
        let ended : IsNext id (span c.period.end left.end) (ended_by p c) =
        record { own = next.own; start = refl; lasts = l; within = next.within } in
        let on : GoesOn left (ended_by p c ∷ pieces) =
        to_end c.period.end left.end (Fill (id + 1) keys (ended_by p c ∷ pieces))
        (Fill id (span c.period.end left.end ∷ keys) (ended_by p c ∷ pieces))
        (λ q. absurd (omega (arith, q, l, within_p))) (λ n. (ended, h.1)) in
        let part : (m : ℕ) → covers cut m ≡ true → covers p.period m ≡ true =
        (λ m k. let b = covers_both cut m k in let up = b.1 in
        covers_so p.period m b.0 (omega (arith, up, l))) in
        record {
          left_fill = subst (GoesOn left) (sym two) on;
          left_sound = subst (Sound columns) (sym two)
              (λ q i m k. elim i as (λ x. q.row ≡ row_at q.id m columns) [
                | inl x ↦
                    let on_p : covers (ended_by p c).period m ≡ true =
                    subst (λ (y : RowStretch). covers y.period m ≡ true) (sym x) k in
                    let b = covers_both (ended_by p c).period m on_p in
                    let from = b.0 in
                    subst (λ (y : RowStretch). y.row ≡ row_at y.id m columns) x
                    (first_sound m (covers_so p.period m (omega (arith, start, long, from)) b.1))
                | inr j ↦ s q (inr j) m k
              ]);
          fill = λ rest g. subst (λ l. Fill id (left ∷ keys) (l ++ rest)) (sym one) (
            record {
              own = next.own;
              start = next.start;
              lasts =
                  (let z : p.period.start < c.period.end = omega (arith, start, long) in z);
              within =
                  within;
            },
            g,
          );
          sound = subst (Sound (columns ++ column ∷ [])) (sym one)
              (longer_sound p cut next.own shows_from first_sound part (omega arith));
        }

    -- both end
    meets : nat_lt c.period.end p.period.end ≡ false → (p.period.end == c.period.end) ≡ true
        → p.period.end ≡ c.period.end → After left (p ∷ pieces)
    meets e q same =
        let one : given (p ∷ pieces) c ≡ longer p c.value p.period ∷ [] =
        when_false (nat_lt c.period.end p.period.end) (begun p c)
        (longer p c.value p.period ∷ (if p.period.end == c.period.end then []
        else given pieces c)) e
        ∙ ap (λ l. longer p c.value p.period ∷ l)
        (when_true (p.period.end == c.period.end) [] (given pieces c) q) in
        let two : left_by (p ∷ pieces) c ≡ pieces =
        when_false (nat_lt c.period.end p.period.end) (ended_by p c ∷ pieces)
        (if p.period.end == c.period.end then pieces else left_by pieces c) e
        ∙ when_true (p.period.end == c.period.end) pieces (left_by pieces c) q in
        record {
          left_fill = subst (GoesOn left) (sym two)
              (subst (λ n. MatchBool (n == left.end) (Fill (id + 1) keys pieces)
              (Fill id (span n left.end ∷ keys) pieces)) same h.1);
          left_sound = subst (Sound columns) (sym two) (λ x i m k. s x (inr i) m k);
          fill = λ rest g. subst (λ l. Fill id (left ∷ keys) (l ++ rest)) (sym one) (
            record {
              own = next.own;
              start = next.start;
              lasts = next.lasts;
              within =
                  next.within;
            },
            subst (λ n. MatchBool (n == left.end) (Fill (id + 1) keys rest)
                (Fill id (span n left.end ∷ keys) rest)) (sym same) g,
          );
          sound = subst (Sound (columns ++ column ∷ [])) (sym one)
              (longer_sound p p.period next.own shows_from first_sound (λ m k. k)
              (omega (arith, same)));
        }

    -- the entry goes on after the piece
    passes : (Fill id (span p.period.end left.end ∷ keys) pieces → Sound columns pieces
        → p.period.end < c.period.end → ShowsFrom p.period.end
        → After (span p.period.end left.end) pieces)
        → nat_lt c.period.end p.period.end ≡ false → (p.period.end == c.period.end) ≡ false
        → p.period.end < c.period.end → After left (p ∷ pieces)
    passes further e q l =
        let one : given (p ∷ pieces) c ≡ longer p c.value p.period ∷ given pieces c =
        when_false (nat_lt c.period.end p.period.end) (begun p c)
        (longer p c.value p.period ∷ (if p.period.end == c.period.end then []
        else given pieces c)) e
        ∙ ap (λ l. longer p c.value p.period ∷ l)
        (when_false (p.period.end == c.period.end) [] (given pieces c) q) in
        let two : left_by (p ∷ pieces) c ≡ left_by pieces c =
        when_false (nat_lt c.period.end p.period.end) (ended_by p c ∷ pieces)
        (if p.period.end == c.period.end then pieces else left_by pieces c) e
        ∙ when_false (p.period.end == c.period.end) pieces (left_by pieces c) q in
        let rest_left : Span = span p.period.end left.end in
        let goes : Fill id (rest_left ∷ keys) pieces =
        by_end p.period.end left.end (Fill id (rest_left ∷ keys) pieces) (Fill (id + 1) keys pieces)
        (Fill id (rest_left ∷ keys) pieces) (λ x f. absurd (omega (arith, x, l, within)))
        (λ n f. f) h.1 in
        let start = next.start in
        let lasts = next.lasts in
        let more = further goes (λ x i m k. s x (inr i) m k) l
        (λ m low up. shows m (omega (arith, low, start, lasts)) up) in
        record {
          left_fill = subst (GoesOn left) (sym two) more.left_fill;
          left_sound = subst (Sound columns) (sym two) more.left_sound;
          fill = λ rest g. subst (λ l. Fill id (left ∷ keys) (l ++ rest)) (sym one) (
            record { own = next.own; start = next.start; lasts = next.lasts; within = next.within },
            to_end p.period.end left.end (Fill (id + 1) keys (given pieces c ++ rest))
                (Fill id (rest_left ∷ keys) (given pieces c ++ rest))
                (λ x. absurd (omega (arith, x, l, within))) (λ n. more.fill rest g),
          );
          sound = subst (Sound (columns ++ column ∷ [])) (sym one)
              (sound_append (columns ++ column ∷ []) (longer p c.value p.period ∷ [])
              (given pieces c) (longer_sound p p.period next.own shows_from first_sound
              (λ m k. k) (omega (arith, l))) more.sound);
        }

  pub after : (left : Span) (pieces : List RowStretch) → Fill id (left ∷ keys) pieces
      → Sound columns pieces → c.period.end ≤ left.end → left.start < c.period.end
      → ShowsFrom left.start → After left pieces
  after left [] h s within long shows = absurd h
  after left (p ∷ pieces) h s within long shows =
      by_test (nat_lt c.period.end p.period.end)
      (λ e. splits left p pieces h s within long shows e (ltb-true c.period.end p.period.end e))
      (λ e. by_test (p.period.end == c.period.end)
      (λ q. meets left p pieces h s within long shows e q
      (eqb-true p.period.end c.period.end q))
      (λ q. passes left p pieces h s within long shows
      (λ f t l k. after (span p.period.end left.end) pieces f t within l k) e q
      (by_test (nat_lt p.period.end c.period.end) (λ t. ltb-true p.period.end c.period.end t)
      (λ t. grind (arith, e, q, t)))))

-- ---- a column

-- each of these entries is the one that the column shows
abbrev pub ShowEach : List Cell → List Cell → Type 0
ShowEach column cells = (c : Cell) → In c cells → (m : ℕ) → covers c.period m ≡ true
    → shown_at c.id m column ≡ c.value ∷ []

module _ (last : Option ℕ) (type : ColType) (columns : List (List Cell)) (column : List Cell) where
  pub with_column : (id : ℕ) (keys : List Span) (cells : List Cell) (pieces : List RowStretch)
      → Run last type id keys cells → ShowEach column cells → Fill id keys pieces
      → Sound columns pieces
      → Fill id keys (merged pieces cells) × Sound (columns ++ column ∷ []) (merged pieces cells)
  with_column id [] [] pieces r f h s = (tt, λ p i. absurd i)
  with_column id [] (c ∷ cells) pieces r f h s = absurd r
  with_column id (left ∷ keys) [] pieces r f h s = absurd r
  with_column id (left ∷ keys) (c ∷ cells) pieces r f h s =
      let due = due_is last type id left c r.0.1 in
      let start = due.start in
      let lasts = period_lasts last c.period due.period in
      let b = after columns column id keys c left pieces h s due.within
      (omega (arith, start, lasts))
      (λ m low up. ap (λ n. shown_at n m column) (sym due.own)
      ∙ f c (inl refl) m (covers_so c.period m (omega (arith, low, start)) up)) in
      let more = rest (λ x y z. with_column (id + 1) keys cells (left_by pieces c) x
      (λ d i. f d (inr i)) y z)
      (λ x y z. with_column id (span c.period.end left.end ∷ keys) cells (left_by pieces c) x
      (λ d i. f d (inr i)) y z) (c.period.end == left.end) r.1 b.left_fill b.left_sound in (
        b.fill (merged (left_by pieces c) cells) more.0,
        sound_append (columns ++ column ∷ []) (given pieces c) (merged (left_by pieces c) cells)
            b.sound more.1,
      )
    where
      rest : (Run last type (id + 1) keys cells → Fill (id + 1) keys (left_by pieces c)
          → Sound columns (left_by pieces c)
          → Fill (id + 1) keys (merged (left_by pieces c) cells)
          × Sound (columns ++ column ∷ []) (merged (left_by pieces c) cells))
          → (Run last type id (span c.period.end left.end ∷ keys) cells
          → Fill id (span c.period.end left.end ∷ keys) (left_by pieces c)
          → Sound columns (left_by pieces c)
          → Fill id (span c.period.end left.end ∷ keys) (merged (left_by pieces c) cells)
          × Sound (columns ++ column ∷ []) (merged (left_by pieces c) cells))
          → (q : Bool) → MatchBool q (Run last type (id + 1) keys cells)
          (Run last type id (span c.period.end left.end ∷ keys) cells)
          → MatchBool q (Fill (id + 1) keys (left_by pieces c))
          (Fill id (span c.period.end left.end ∷ keys) (left_by pieces c))
          → Sound columns (left_by pieces c)
          → MatchBool q (Fill (id + 1) keys (merged (left_by pieces c) cells))
          (Fill id (span c.period.end left.end ∷ keys) (merged (left_by pieces c) cells))
          × Sound (columns ++ column ∷ []) (merged (left_by pieces c) cells)
      rest one two true x y z = one x y z
      rest one two false x y z = two x y z

-- where a column is filled, each of its entries is shown
pub shows_each : (keys : List Span) (cells : List Cell) → IsFilled keys cells → ShowEach cells cells
shows_each keys cells h c i m k =
    let known = h.known c i in
    let fills = h.filled c.id known in
    let v = fills_one (get_or keys c.id (span 0 0)) c.id cells fills m
    (in_key (get_or keys c.id (span 0 0)) c.id cells fills c i refl m k) in
    let is : v.0 ≡ c.value = only_one c.value v.0
    (subst (In c.value) v.1 (in_shown c.id m cells c i refl k)) in
    v.1 ∙ ap (λ x. x ∷ []) is

pub run_filled : (last : Option ℕ) (type : ColType) (keys : List Span) (cells : List Cell)
    → Run last type 0 keys cells → IsFilled keys cells
run_filled last type keys cells r = from_first keys cells (run_fills last type 0 keys cells r)

-- a run of entries goes along keys that have moments
pub run_lasts : (last : Option ℕ) (type : ColType) (id : ℕ) (keys : List Span) (cells : List Cell)
    → Run last type id keys cells → Last keys
run_lasts last type id [] [] r = tt
run_lasts last type id [] (c ∷ cells) r = absurd r
run_lasts last type id (left ∷ keys) [] r = absurd r
run_lasts last type id (left ∷ keys) (c ∷ cells) r =
    let due = due_is last type id left c r.0.1 in
    let start = due.start in
    let within = due.within in
    let lasts = period_lasts last c.period due.period in (
      (omega (arith, start, within, lasts)),
      by_end c.period.end left.end (Last keys) (Run last type (id + 1) keys cells)
          (Run last type id (span c.period.end left.end ∷ keys) cells)
          (λ e x. run_lasts last type (id + 1) keys cells x)
          (λ n x. (run_lasts last type id (span c.period.end left.end ∷ keys) cells x).1) r.1,
    )

-- ---- all columns

module _ (last : Option ℕ) (keys : List Span) where
  pub all_columns : (kinds : List Column) (cells before : List (List Cell))
      (pieces : List RowStretch) → ColumnsRead last keys kinds cells → Fill 0 keys pieces
      → Sound before pieces
      → Fill 0 keys (all_merged pieces cells) × Sound (before ++ cells) (all_merged pieces cells)
  all_columns [] cells before pieces r h s = none cells r
    where
      none : (cells : List (List Cell)) → cells ≡ [] → Fill 0 keys (all_merged pieces cells)
          × Sound (before ++ cells) (all_merged pieces cells)
      none cells e = subst (λ cs. Fill 0 keys (all_merged pieces cs)
          × Sound (before ++ cs) (all_merged pieces cs)) (sym e)
          (h, subst (λ l. Sound l pieces) (sym (append-nil before)) s)
  all_columns (k ∷ kinds) [] before pieces r h s = absurd r
  all_columns (k ∷ kinds) (column ∷ cells) before pieces r h s =
      let one = with_column last k.1 before column 0 keys column pieces r.0.1
      (shows_each keys column (run_filled last k.1 keys column r.0.1)) h s in
      let more = all_columns kinds cells (before ++ column ∷ []) (merged pieces column) r.1 one.0
      one.1 in (
        more.0,
        subst (λ l. Sound l (all_merged (merged pieces column) cells))
            (append_assoc before (column ∷ []) cells) more.1,
      )

  pub all_filled : (kinds : List Column) (cells : List (List Cell))
      → ColumnsRead last keys kinds cells → AllFilled keys cells
  all_filled [] cells r c i = absurd (subst (In c) r i)
  all_filled (k ∷ kinds) [] r c i = absurd r
  all_filled (k ∷ kinds) (column ∷ cells) r c (inl e) =
      subst (IsFilled keys) e (run_filled last k.1 keys column r.0.1)
  all_filled (k ∷ kinds) (column ∷ cells) r c (inr i) = all_filled kinds cells r.1 c i

bare_sound : (id : ℕ) (keys : List Span) → Sound [] (bare_from id keys)
bare_sound id [] p i m k = absurd i
bare_sound id (key ∷ keys) p (inl e) m k = ap (λ (x : RowStretch). x.row) (sym e)
bare_sound id (key ∷ keys) p (inr i) m k = bare_sound (id + 1) keys p i m k

-- the pieces of all columns, where there is one
pub all_pieces : (last : Option ℕ) (keys : List Span) (kinds : List Column)
    (cells : List (List Cell)) → 1 ≤ length cells → ColumnsRead last keys kinds cells
    → Fill 0 keys (all_merged (bare_from 0 keys) cells)
    × Sound cells (all_merged (bare_from 0 keys) cells)
all_pieces last keys [] cells some r = absurd (let e = ap length r in omega (arith, e, some))
all_pieces last keys (k ∷ kinds) [] some r = absurd r
all_pieces last keys (k ∷ kinds) (column ∷ cells) some r =
    all_columns last keys (k ∷ kinds) (column ∷ cells) [] (bare_from 0 keys) r
    (bare_fill 0 keys (run_lasts last k.1 0 keys column r.0.1)) (bare_sound 0 keys)
