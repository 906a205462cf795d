-- The commands of the turns of all tables are those of their listings.
use Rattle.std.specs.Prelude.{◌≡◌, ◌==◌, ◌++◌, ◌<◌, ℕ, Bool, true, false, cond, List, []}
use Rattle.std.specs.Prelude.{◌∷◌, map}
use Rattle.std.proofs.Common.{refl, sym, ap, subst, ◌∙◌, inl, inr, arith}
use Rattle.std.proofs.lemmas.List.{append-nil}
use Rattle.std.proofs.lemmas.Bool.Decides.{nat_tests}
use Rattle.std.specs.List.{filter, flat_map}
use Rattle.std.specs.Ordering.{nat_cmp}
use Rattle.relations_spec.specs.Sets.{In, Same, set_of}
use Rattle.relations_spec.specs.Timed.{Entry}
use Rattle.relations_spec.proofs.SetLaws.{in_left, in_right, in_append, in_map, from_map}
use Rattle.relations_spec.proofs.SetLaws.{in_filter, from_filter, in_flat_map, from_flat_map}
use Rattle.relations_spec.proofs.SetLaws.{below_each, one_list, in_set, from_set, set_ascends}
use Rattle.relations_spec.proofs.SetLaws.{set_same}
use Rattle.relations_spec.proofs.ListingLaws.{nat_less}
use Rattle.smo_ops_types.specs.Changes.{PlainChange}
use Rattle.smo_ops_spec.specs.OneRow.{Row}
use Rattle.version_export_past_spec.specs.Rows.{ending, beginning}
use Rattle.version_export_past_spec.specs.Commands.{if_any}
use Rattle.version_export.specs.ByListings.{Listed, listed_at, entry_moments, listed_moments}
use Rattle.version_export.specs.ByListings.{moments_after, commands_listed, is_later}
use Rattle.version_export.specs.Turns.{Turn, moments_of, changes_at, commands_of, end_turns}
use Rattle.version_export.specs.Turns.{start_turns, table_turns, turns_of}
use Rattle.version_export.proofs.ByListings.{nat_exact}

-- ---- lists

pub same_on : {X Y : Type 0} (f g : X → List Y) (xs : List X) → ((x : X) → In x xs → f x ≡ g x)
    → flat_map f xs ≡ flat_map g xs
same_on f g [] h = refl
same_on f g (x ∷ xs) h = λ i. (h x (inl refl) i) ++ (same_on f g xs (λ y m. h y (inr m)) i)

filter_append : {X : Type 0} (p : X → Bool) (xs ys : List X)
    → filter p (xs ++ ys) ≡ filter p xs ++ filter p ys
filter_append p [] ys = refl
filter_append {X} p (x ∷ xs) ys = step (p x) (filter_append p xs ys)
  where
    step : (b : Bool) → filter p (xs ++ ys) ≡ filter p xs ++ filter p ys
        → cond b (x ∷ filter p (xs ++ ys)) (filter p (xs ++ ys))
        ≡ cond b (x ∷ filter p xs) (filter p xs) ++ filter p ys
    step true h = ap (λ l. x ∷ l) h
    step false h = h

map_append : {X Y : Type 0} (f : X → Y) (xs ys : List X)
    → map f (xs ++ ys) ≡ map f xs ++ map f ys
map_append f [] ys = refl
map_append f (x ∷ xs) ys = ap (λ l. f x ∷ l) (map_append f xs ys)

-- a test that follows from another takes nothing more away
filter_both : {X : Type 0} (p q : X → Bool) (xs : List X)
    → ((x : X) → p x ≡ true → q x ≡ true) → filter p (filter q xs) ≡ filter p xs
filter_both p q [] h = refl
filter_both {X} p q (x ∷ xs) h = step (q x) (p x) refl refl (filter_both p q xs h)
  where
    step : (b c : Bool) → q x ≡ b → p x ≡ c → filter p (filter q xs) ≡ filter p xs
        → filter p (cond b (x ∷ filter q xs) (filter q xs)) ≡ cond c (x ∷ filter p xs) (filter p xs)
    step true true e f r = rw f (ap (λ l. x ∷ l) r)
    step true false e f r = rw f r
    step false true e f r = absurd (let z : true ≡ false = sym (h x f) ∙ e in cc)
    step false false e f r = r

-- ---- the changes of one moment

abbrev at : ℕ → Turn → Bool
at m t = t.0 == m

-- of entries that turn at a moment of their own
turned : (key : Entry Row → ℕ) (change : Row → PlainChange) (m : ℕ) (es : List (Entry Row))
    → changes_at m (map (λ (e : Entry Row). (key e, change e.item)) es)
    ≡ map change (map (λ (e : Entry Row). e.item) (filter (λ (e : Entry Row). key e == m) es))
turned key change m [] = refl
turned key change m (e ∷ es) = step (key e == m) (turned key change m es)
  where
    step : (b : Bool)
        → changes_at m (map (λ (d : Entry Row). (key d, change d.item)) es)
        ≡ map change (map (λ (d : Entry Row). d.item) (filter (λ (d : Entry Row). key d == m) es))
        → map (λ (t : Turn). t.1) (cond b ((key e, change e.item)
        ∷ filter (at m) (map (λ (d : Entry Row). (key d, change d.item)) es))
        (filter (at m) (map (λ (d : Entry Row). (key d, change d.item)) es)))
        ≡ map change (map (λ (d : Entry Row). d.item) (cond b
        (e ∷ filter (λ (d : Entry Row). key d == m) es)
        (filter (λ (d : Entry Row). key d == m) es)))
    step true h = ap (λ l. change e.item ∷ l) h
    step false h = h

changes_append : (m : ℕ) (ts us : List Turn)
    → changes_at m (ts ++ us) ≡ changes_at m ts ++ changes_at m us
changes_append m ts us = ap (map (λ (t : Turn). t.1)) (filter_append (at m) ts us)
    ∙ map_append (λ (t : Turn). t.1) (filter (at m) ts) (filter (at m) us)

table_changes : (m : ℕ) (l : Listed) → changes_at m (table_turns l) ≡ listed_at m l
table_changes m l = changes_append m (end_turns l) (start_turns l)
    ∙ (λ i. (turned (λ (e : Entry Row). e.period.end) (ending l.0) m l.1 i)
    ++ (turned (λ (e : Entry Row). e.period.start) (beginning l.0) m l.1 i))

all_changes : (m : ℕ) (ls : List Listed)
    → changes_at m (flat_map table_turns ls) ≡ flat_map (listed_at m) ls
all_changes m [] = refl
all_changes m (l ∷ ls) = changes_append m (table_turns l) (flat_map table_turns ls)
    ∙ (λ i. (table_changes m l i) ++ (all_changes m ls i))

pub same_moment : (a b : ℕ) → (a == b) ≡ true → a ≡ b
same_moment a b h = grind (arith, nat_tests)

-- at a later moment no turn is left out
later_changes : (first m : ℕ) (ls : List Listed) → is_later first m ≡ true
    → changes_at m (turns_of first ls) ≡ flat_map (listed_at m) ls
later_changes first m ls h = ap (map (λ (t : Turn). t.1))
    (filter_both (at m) (λ (t : Turn). is_later first t.0) (flat_map table_turns ls)
    (λ t e. ap (is_later first) (same_moment t.0 m e) ∙ h))
    ∙ all_changes m ls

-- ---- the moments

turn_moment : (l : Listed) (t : Turn) → In t (table_turns l) → In t.0 (listed_moments l)
turn_moment l t m = elim (in_append t (end_turns l) (start_turns l) m) [
  | inl a ↦ (let h = from_map (λ (e : Entry Row). (e.period.end, ending l.0 e.item)) t l.1 a in
      in_flat_map entry_moments h.0 t.0 l.1 h.1 (inr (inl (ap (λ (u : Turn). u.0) h.2))))
  | inr b ↦ (let h = from_map (λ (e : Entry Row). (e.period.start, beginning l.0 e.item)) t l.1 b in
      in_flat_map entry_moments h.0 t.0 l.1 h.1 (inl (ap (λ (u : Turn). u.0) h.2)))
]

entry_turn : (l : Listed) (e : Entry Row) (z : ℕ) → In e l.1 → In z (entry_moments e)
    → (t : Turn) × In t (table_turns l) × (t.0 ≡ z)
entry_turn l e z m (inl s) = (
  (e.period.start, beginning l.0 e.item),
  in_right (e.period.start, beginning l.0 e.item) (end_turns l) (start_turns l)
      (in_map (λ (d : Entry Row). (d.period.start, beginning l.0 d.item)) e l.1 m),
  s,
)
entry_turn l e z m (inr (inl s)) = (
  (e.period.end, ending l.0 e.item),
  in_left (e.period.end, ending l.0 e.item) (end_turns l) (start_turns l)
      (in_map (λ (d : Entry Row). (d.period.end, ending l.0 d.item)) e l.1 m),
  s,
)
entry_turn l e z m (inr (inr s)) = absurd s

same_moments : (first : ℕ) (ls : List Listed)
    → Same (filter (is_later first) (flat_map listed_moments ls)) (moments_of (turns_of first ls))
same_moments first ls = record {
  there = λ z m.
      let f = from_filter (is_later first) z (flat_map listed_moments ls) m in
      let l = from_flat_map listed_moments z ls f.0 in
      let e = from_flat_map entry_moments z l.0.1 l.2 in
      let t = entry_turn l.0 e.0 z e.1 e.2 in
      subst (λ (w : ℕ). In w (moments_of (turns_of first ls))) t.2
      (in_map (λ (u : Turn). u.0) t.0 (turns_of first ls)
      (in_filter (λ (u : Turn). is_later first u.0) t.0 (flat_map table_turns ls)
      (in_flat_map table_turns l.0 t.0 ls l.1 t.1) (ap (is_later first) t.2 ∙ f.1)));
  back = λ z m.
      let t = from_map (λ (u : Turn). u.0) z (turns_of first ls) m in
      let f = from_filter (λ (u : Turn). is_later first u.0) t.0 (flat_map table_turns ls) t.1 in
      let l = from_flat_map table_turns t.0 ls f.0 in
      subst (λ (w : ℕ). In w (filter (is_later first) (flat_map listed_moments ls))) t.2
      (in_filter (is_later first) t.0.0 (flat_map listed_moments ls)
      (in_flat_map listed_moments l.0 t.0.0 ls l.1 (turn_moment l.0 t.0 l.2)) f.1);
}

-- ---- the commands

pub by_turns : (first : ℕ) (ls : List Listed)
    → commands_listed first ls ≡ commands_of (turns_of first ls)
by_turns first ls =
    same_on (λ m. if_any m (flat_map (listed_at m) ls))
    (λ m. if_any m (changes_at m (turns_of first ls))) (moments_after first ls)
    (λ m i. ap (if_any m) (sym (later_changes first m ls
    (from_filter (is_later first) m (flat_map listed_moments ls)
    (from_set nat_cmp nat_exact m (filter (is_later first) (flat_map listed_moments ls)) i)).1)))
    ∙ ap (flat_map (λ m. if_any m (changes_at m (turns_of first ls))))
    (set_same nat_cmp nat_exact (filter (is_later first) (flat_map listed_moments ls))
    (moments_of (turns_of first ls)) (same_moments first ls))

-- ---- turns of one moment, before those of later ones

module _ (m : ℕ) (now later : List Turn) (all : (t : Turn) → In t now → t.0 ≡ m)
    (after : (t : Turn) → In t later → m < t.0) where
  abbrev rest : List ℕ
  rest = set_of nat_cmp (moments_of later)

  rest_after : (z : ℕ) → In z rest → m < z
  rest_after z i =
      let t = from_map (λ (u : Turn). u.0) z later
      (from_set nat_cmp nat_exact z (moments_of later) i) in
      subst (λ (w : ℕ). m < w) t.2 (after t.0 t.1)

  all_kept : (ts : List Turn) → ((t : Turn) → In t ts → t.0 ≡ m) → filter (at m) ts ≡ ts
  all_kept [] h = refl
  all_kept (t ∷ ts) h =
      let e : (t.0 == m) ≡ true = let k = h t (inl refl) in grind (arith, nat_tests) in
      rw e (ap (λ l. t ∷ l) (all_kept ts (λ u i. h u (inr i))))

  none_kept : (k : ℕ) (ts : List Turn) → ((t : Turn) → In t ts → (t.0 == k) ≡ false)
      → filter (at k) ts ≡ []
  none_kept k [] h = refl
  none_kept k (t ∷ ts) h = rw (h t (inl refl)) (none_kept k ts (λ u i. h u (inr i)))

  here : changes_at m (now ++ later) ≡ map (λ (t : Turn). t.1) now
  here = ap (map (λ (t : Turn). t.1)) (filter_append (at m) now later
      ∙ (λ i. (all_kept now all i) ++ (none_kept m later
      (λ t n. let k = after t n in grind (arith, nat_tests)) i))
      ∙ append-nil now)

  there : (k : ℕ) → m < k → changes_at k (now ++ later) ≡ changes_at k later
  there k l = ap (map (λ (t : Turn). t.1)) (filter_append (at k) now later
      ∙ ap (λ xs. xs ++ filter (at k) later) (none_kept k now
      (λ t n. let e = all t n in grind (arith, nat_tests))))

  module _ (one : Turn) (some : In one now) where
    moments : set_of nat_cmp (moments_of (now ++ later)) ≡ m ∷ rest
    moments = one_list nat_cmp nat_exact (set_of nat_cmp (moments_of (now ++ later))) (m ∷ rest)
        (set_ascends nat_cmp nat_exact (moments_of (now ++ later))) (
          below_each nat_cmp m rest (λ z i. nat_less m z (rest_after z i)),
          set_ascends nat_cmp nat_exact (moments_of later),
        )
        (record { there = forth; back = back })
      where
        forth : (z : ℕ) → In z (set_of nat_cmp (moments_of (now ++ later))) → In z (m ∷ rest)
        forth z i =
            let t = from_map (λ (u : Turn). u.0) z (now ++ later)
            (from_set nat_cmp nat_exact z (moments_of (now ++ later)) i) in
            elim (in_append t.0 now later t.1) [
              | inl a ↦ inl (sym (all t.0 a) ∙ t.2)
              | inr b ↦ inr (in_set nat_cmp nat_exact z (moments_of later)
                  (subst (λ (w : ℕ). In w (moments_of later)) t.2
                  (in_map (λ (u : Turn). u.0) t.0 later b)))
            ]

        back : (z : ℕ) → In z (m ∷ rest) → In z (set_of nat_cmp (moments_of (now ++ later)))
        back z (inl e) = in_set nat_cmp nat_exact z (moments_of (now ++ later))
            (subst (λ (w : ℕ). In w (moments_of (now ++ later))) (all one some ∙ e)
            (in_map (λ (u : Turn). u.0) one (now ++ later) (in_left one now later some)))
        back z (inr i) =
            let t = from_map (λ (u : Turn). u.0) z later
            (from_set nat_cmp nat_exact z (moments_of later) i) in
            in_set nat_cmp nat_exact z (moments_of (now ++ later))
            (subst (λ (w : ℕ). In w (moments_of (now ++ later))) t.2
            (in_map (λ (u : Turn). u.0) t.0 (now ++ later) (in_right t.0 now later t.1)))

    -- their command, and then those of the later ones
    pub first_command : commands_of (now ++ later)
        ≡ if_any m (map (λ (t : Turn). t.1) now) ++ commands_of later
    first_command =
        ap (flat_map (λ k. if_any k (changes_at k (now ++ later)))) moments
        ∙ (λ i. if_any m (here i) ++ (same_on (λ k. if_any k (changes_at k (now ++ later)))
        (λ k. if_any k (changes_at k later)) rest
        (λ k n. ap (if_any k) (there k (rest_after k n))) i))
