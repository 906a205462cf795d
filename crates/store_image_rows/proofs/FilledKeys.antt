-- Pieces that fill the periods of keys, one after the other.
use Rattle.std.proofs.Common.{◌≡◌, ℕ, zero, suc, ◌+◌, ◌≤◌, ◌<◌, ◌==◌, eqb-true, Bool, true, false}
use Rattle.std.proofs.Common.{List, [], ◌∷◌, length, get_or, refl, sym, ap, ◌∙◌, subst, arith, inl}
use Rattle.std.proofs.Common.{inr}
use Rattle.std.specs.Prelude.{MatchBool, ◌⊎◌, ⊤}
use Rattle.relations_spec.specs.Sets.{In}
use Rattle.relations_spec.specs.Spans.{Span, span, covers}
use Rattle.smo_ops_spec.proofs.PastMoments.{before_or_not}
use Rattle.command_codec_spec.proofs.Correctness.{true_false}
use Rattle.store_image_spec.proofs.Checking.{number_itself}
use Rattle.store_image_spec.proofs.Filling.{covers_so, covers_both}
use Rattle.store_image_spec.proofs.DueEntries.{Last}
use Rattle.store_image_rows.specs.Stretches.{RowStretch, bare_from}

-- ---- by the ends

pub by_end : (m n : ℕ) (X P Q : Type 0) → (m ≡ n → P → X) → ((m ≡ n → ⊥) → Q → X)
    → MatchBool (m == n) P Q → X
by_end m n X P Q f g h = step (m == n) refl h
  where
    different : (m == n) ≡ false → m ≡ n → ⊥
    different e q = true_false (sym (ap (λ x. x == n) q ∙ number_itself n) ∙ e)

    step : (b : Bool) → (m == n) ≡ b → MatchBool b P Q → X
    step true e k = f (eqb-true m n e) k
    step false e k = g (different e) k

pub to_end : (m n : ℕ) (P Q : Type 0) → (m ≡ n → P) → ((m ≡ n → ⊥) → Q) → MatchBool (m == n) P Q
to_end m n P Q f g = step (m == n) refl
  where
    step : (b : Bool) → (m == n) ≡ b → MatchBool b P Q
    step true e = f (eqb-true m n e)
    step false e = g (λ q. true_false (sym (ap (λ x. x == n) q ∙ number_itself n) ∙ e))

-- ---- pieces

-- the piece with which this part of a key goes on
pub record IsNext (id : ℕ) (left : Span) (p : RowStretch) : Type 0 where
  pub own : p.id ≡ id
  pub start : p.period.start ≡ left.start
  pub lasts : p.period.start < p.period.end
  pub within : p.period.end ≤ left.end

abbrev pub Fill : ℕ → List Span → List RowStretch → Type 0
Fill id [] [] = ⊤
Fill id [] (p ∷ pieces) = ⊥
Fill id (left ∷ keys) [] = ⊥
Fill id (left ∷ keys) (p ∷ pieces) = IsNext id left p
    × MatchBool (p.period.end == left.end) (Fill (id + 1) keys pieces)
    (Fill id (span p.period.end left.end ∷ keys) pieces)

-- keys are filled by themselves
pub bare_fill : (id : ℕ) (keys : List Span) → Last keys → Fill id keys (bare_from id keys)
bare_fill id [] h = tt
bare_fill id (k ∷ keys) h = (
  record { own = refl; start = refl; lasts = h.0; within = omega arith },
  to_end k.end k.end (Fill (id + 1) keys (bare_from (id + 1) keys))
      (Fill id (span k.end k.end ∷ keys) (bare_from (id + 1) keys))
      (λ e. bare_fill (id + 1) keys h.1) (λ n. absurd (n refl)),
)

-- ---- what such pieces show

-- each piece is of a key, and each moment of it is one of the key
abbrev pub OfKey : ℕ → List Span → RowStretch → Type 0
OfKey id keys p = (j : ℕ) × (j < length keys) × (p.id ≡ id + j)
    × ((m : ℕ) → covers p.period m ≡ true → covers (get_or keys j (span 0 0)) m ≡ true)

of_next : (id : ℕ) (left : Span) (keys : List Span) (p : RowStretch) → IsNext id left p
    → OfKey id (left ∷ keys) p
of_next id left keys p h = (
  0,
  omega arith,
  (let e = h.own in let z : p.id ≡ id + 0 = omega (arith, e) in z),
  λ m c. (let k = covers_both p.period m c in
      let low = k.0 in
      let up = k.1 in
      let start = h.start in
      let within = h.within in
      covers_so left m (omega (arith, low, start)) (omega (arith, up, within))),
)

of_later : (id : ℕ) (left : Span) (keys : List Span) (p : RowStretch) → OfKey (id + 1) keys p
    → OfKey id (left ∷ keys) p
of_later id left keys p h = let b = h.1 in let e = h.2 in
    (suc h.0, omega (arith, b), (let z : p.id ≡ id + suc h.0 = omega (arith, e) in z), h.3)

of_rest : (id end : ℕ) (left : Span) (keys : List Span) (p : RowStretch) → left.start < end
    → OfKey id (span end left.end ∷ keys) p → OfKey id (left ∷ keys) p
of_rest id end left keys p l (zero, b, e, f) = (
  zero,
  omega arith,
  e,
  λ m c. (let k = covers_both (span end left.end) m (f m c) in let low =
      k.0 in covers_so left m (omega (arith, low, l)) k.1),
)
of_rest id end left keys p l (suc j, b, e, f) = (suc j, omega (arith, b), e, f)

pub of_keys : (id : ℕ) (keys : List Span) (pieces : List RowStretch) → Fill id keys pieces
    → (p : RowStretch) → In p pieces → OfKey id keys p
of_keys id [] [] h p i = absurd i
of_keys id [] (q ∷ pieces) h p i = absurd h
of_keys id (left ∷ keys) [] h p i = absurd i
of_keys id (left ∷ keys) (q ∷ pieces) h p (inl e) =
    subst (OfKey id (left ∷ keys)) e (of_next id left keys q h.0)
of_keys id (left ∷ keys) (q ∷ pieces) h p (inr i) =
    by_end q.period.end left.end (OfKey id (left ∷ keys) p) (Fill (id + 1) keys pieces)
    (Fill id (span q.period.end left.end ∷ keys) pieces)
    (λ e f. of_later id left keys p (of_keys (id + 1) keys pieces f p i))
    (λ n f. of_rest id q.period.end left keys p
    (let s = h.0.start in let l = h.0.lasts in omega (arith, s, l))
    (of_keys id (span q.period.end left.end ∷ keys) pieces f p i)) h.1

-- each has a moment
pub each_lasts : (id : ℕ) (keys : List Span) (pieces : List RowStretch) → Fill id keys pieces
    → (p : RowStretch) → In p pieces → p.period.start < p.period.end
each_lasts id [] [] h p i = absurd i
each_lasts id [] (q ∷ pieces) h p i = absurd h
each_lasts id (left ∷ keys) [] h p i = absurd i
each_lasts id (left ∷ keys) (q ∷ pieces) h p (inl e) =
    subst (λ (x : RowStretch). x.period.start < x.period.end) e h.0.lasts
each_lasts id (left ∷ keys) (q ∷ pieces) h p (inr i) =
    by_end q.period.end left.end (p.period.start < p.period.end) (Fill (id + 1) keys pieces)
    (Fill id (span q.period.end left.end ∷ keys) pieces)
    (λ e f. each_lasts (id + 1) keys pieces f p i)
    (λ n f. each_lasts id (span q.period.end left.end ∷ keys) pieces f p i) h.1

-- at each moment of a key one is there
abbrev pub There : List RowStretch → ℕ → ℕ → Type 0
There pieces id m = (p : RowStretch) × In p pieces × (p.id ≡ id) × (covers p.period m ≡ true)

later_there : (q : RowStretch) (pieces : List RowStretch) (id n m : ℕ) → id ≡ n → There pieces id m
    → There (q ∷ pieces) n m
later_there q pieces id n m e h = (h.0, inr h.1, h.2 ∙ e, h.3)

pub one_there : (id : ℕ) (keys : List Span) (pieces : List RowStretch) → Fill id keys pieces
    → (j m : ℕ) → j < length keys → covers (get_or keys j (span 0 0)) m ≡ true
    → There pieces (id + j) m
one_there id [] pieces h j m b c = absurd (omega (arith, b))
one_there id (left ∷ keys) [] h j m b c = absurd h
one_there id (left ∷ keys) (q ∷ pieces) h zero m b c = elim (before_or_not m q.period.end) [
  | inl l ↦ (
    q,
    inl refl,
    (let e = h.0.own in let z : q.id ≡ id + 0 = omega (arith, e) in z),
    (let k = (covers_both left m c).0 in let s = h.0.start in
        covers_so q.period m (omega (arith, k, s)) l),
  )
  | inr g ↦
      by_end q.period.end left.end (There (q ∷ pieces) (id + 0) m) (Fill (id + 1) keys pieces)
      (Fill id (span q.period.end left.end ∷ keys) pieces)
      (λ e f. absurd (let k = (covers_both left m c).1 in omega (arith, k, e, g)))
      (λ n f. later_there q pieces (id + 0) (id + 0) m refl
      (one_there id (span q.period.end left.end ∷ keys) pieces f 0 m (omega arith)
      (covers_so (span q.period.end left.end) m g (covers_both left m c).1))) h.1
]
one_there id (left ∷ keys) (q ∷ pieces) h (suc j) m b c =
    by_end q.period.end left.end (There (q ∷ pieces) (id + suc j) m) (Fill (id + 1) keys pieces)
    (Fill id (span q.period.end left.end ∷ keys) pieces)
    (λ e f. later_there q pieces ((id + 1) + j) (id + suc j) m (omega arith)
    (one_there (id + 1) keys pieces f j m (omega (arith, b)) c))
    (λ n f. later_there q pieces (id + suc j) (id + suc j) m refl
    (one_there id (span q.period.end left.end ∷ keys) pieces f (suc j) m (omega (arith, b)) c))
    h.1

-- what stands after a piece is of a later key, or starts where it has ended
pub after_piece : (id : ℕ) (keys : List Span) (q : RowStretch) (pieces : List RowStretch)
    → Fill id keys (q ∷ pieces) → (p : RowStretch) → In p pieces → (q.id < p.id)
    ⊎ (q.period.end ≤ p.period.start)
after_piece id [] q pieces h p i = absurd h
after_piece id (left ∷ keys) q pieces h p i =
    by_end q.period.end left.end ((q.id < p.id) ⊎ (q.period.end ≤ p.period.start))
    (Fill (id + 1) keys pieces) (Fill id (span q.period.end left.end ∷ keys) pieces)
    (λ e f. inl (let k = of_keys (id + 1) keys pieces f p i in let n = k.2 in let own = h.0.own in
    omega (arith, n, own)))
    (λ n f. rest (of_keys id (span q.period.end left.end ∷ keys) pieces f p i)
    (each_lasts id (span q.period.end left.end ∷ keys) pieces f p i)) h.1
  where
    rest : OfKey id (span q.period.end left.end ∷ keys) p → p.period.start < p.period.end
        → (q.id < p.id) ⊎ (q.period.end ≤ p.period.start)
    rest (zero, b, e, f) l = inr (covers_both (span q.period.end left.end) p.period.start
        (f p.period.start (covers_so p.period p.period.start (omega arith) l))).0
    rest (suc j, b, e, f) l = inl (let own = h.0.own in omega (arith, e, own))

-- what stands after it fills keys too
pub fills_after_piece : (id : ℕ) (keys : List Span) (q : RowStretch) (pieces : List RowStretch)
    → Fill id keys (q ∷ pieces) → (n : ℕ) × (ks : List Span) × Fill n ks pieces
fills_after_piece id [] q pieces h = absurd h
fills_after_piece id (left ∷ keys) q pieces h =
    by_end q.period.end left.end ((n : ℕ) × (ks : List Span) × Fill n ks pieces)
    (Fill (id + 1) keys pieces) (Fill id (span q.period.end left.end ∷ keys) pieces)
    (λ e f. (id + 1, keys, f)) (λ n f. (id, span q.period.end left.end ∷ keys, f)) h.1
