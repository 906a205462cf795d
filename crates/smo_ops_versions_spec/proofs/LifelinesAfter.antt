-- The lifelines after the members of an operator: those of each version up to its own stay, and
-- those of the next are its tables'.
use Rattle.std.proofs.Common.{◌≡◌, ◌≤◌, ◌<◌, ◌+◌, ℕ, Bool, true, false, List, [], ◌∷◌, ◌++◌, map, T}
use Rattle.std.proofs.Common.{refl, sym, ap, subst, ◌∙◌, arith, inl, inr, is_some}
use Rattle.std.specs.Prelude.{cond, Option, Some, None, ◌⊎◌}
use Rattle.std.specs.List.{filter}
use Rattle.std.specs.FinMap.{get, entries, is_sorted, entries_sorted}
use Rattle.relations_spec.specs.Sets.{In}
use Rattle.relations_spec.proofs.SetLaws.{in_left, in_right, in_append, in_map, from_map, in_filter}
use Rattle.relations_spec.proofs.SetLaws.{from_filter}
use Rattle.prima_base.specs.Columns.{Column}
use Rattle.prima_base.specs.Order.{bytes_cmp}
use Rattle.schema_catalog.specs.Tables.{Tables}
use Rattle.smo_ops_types.specs.Commands.{PlainVersion}
use Rattle.smo_ops_spec.specs.Evolutions.{schema_after_each, AllOperatorsAccepted}
use Rattle.smo_ops_spec.specs.Evolutions.{one_makes, one_consumes}
use Rattle.smo_ops_spec.proofs.MemberLaws.{each_table_stays, each_table_gone, each_made_is_free}
use Rattle.smo_ops_versions_spec.specs.Lifelines.{Lifeline, last_after, line_after, line_begun}
use Rattle.smo_ops_versions_spec.specs.Lifelines.{made_tables}
use Rattle.smo_ops_versions_spec.specs.Lifelines.{lifelines_after, IsUpTo, Covers, AreApart}
use Rattle.smo_ops_versions_spec.specs.Lifelines.{HaveTables}
use Rattle.smo_ops_versions_spec.proofs.NamedEntries.{found_under, entry_under, other_name}
use Rattle.smo_ops_versions_spec.proofs.NamedEntries.{after_first}

-- each has begun by version k, and those that have ended did so before it
pub record HaveBegun (k : ℕ) (lines : List Lifeline) : Type 0 where
  pub begun : (l : Lifeline) → In l lines → l.first ≤ k
  pub ended : (l : Lifeline) → In l lines → (j : ℕ) → l.last ≡ Some j → j < k

abbrev Of : ℕ → Lifeline → Type 0
Of j l = Covers l.first l.last j

-- ---- lifelines apart

both_apart : (j : ℕ) (lines more : List Lifeline) → AreApart j lines → AreApart j more
    → ((l r : Lifeline) → In l lines → In r more → l.table ≡ r.table → Of j l → Of j r → ⊥)
    → AreApart j (lines ++ more)
both_apart j [] more a b f = b
both_apart j (l ∷ lines) more a b f = (
  λ r m. elim (in_append r lines more m) [ inl x ↦ a.0 r x | inr x ↦ f l r (inl refl) x ],
  both_apart j lines more a.1 b (λ x r m n. f x r (inr m) n),
)

-- none covers the version
none_apart : (j : ℕ) (lines : List Lifeline) → ((l : Lifeline) → In l lines → Of j l → ⊥)
    → AreApart j lines
none_apart j [] f = tt
none_apart j (l ∷ lines) f = (
  λ r m e c d. f l (inl refl) c,
  none_apart j lines (λ x m. f x (inr m)),
)

-- ---- ends

-- a lifeline covers each version up to the operator's that it covered, and no other
still_up_to : (b : Bool) (k : ℕ) (last : Option ℕ) (j : ℕ) → j ≤ k → IsUpTo last j
    → IsUpTo (last_after b k last) j
still_up_to true k None j l h = l
still_up_to false k None j l h = tt
still_up_to b k (Some last) j l h = h

was_up_to : (b : Bool) (k : ℕ) (last : Option ℕ) (j : ℕ) → IsUpTo (last_after b k last) j
    → IsUpTo last j
was_up_to b k None j h = tt
was_up_to b k (Some last) j h = h

module _ (before : Tables) (k : ℕ) (lines : List Lifeline) (v : PlainVersion) where
  abbrev consumed : List ℕ → Bool
  consumed = one_consumes before v.op

  abbrev made : List (List ℕ × List Column)
  made = made_tables before v.op v.tables

  abbrev next : List Lifeline
  next = lifelines_after before k lines v

  -- one that stood before, or one that begins
  stood_or_begins : (l : Lifeline) → In l next
      → ((x : Lifeline) × In x lines × (line_after consumed k x ≡ l))
      ⊎ ((t : List ℕ × List Column) × In t made × (line_begun (k + 1) t ≡ l))
  stood_or_begins l m = elim (in_append l (map (line_after consumed k) lines)
      (map (line_begun (k + 1)) made) m) [
        | inl x ↦ inl (from_map (line_after consumed k) l lines x)
        | inr x ↦ inr (from_map (line_begun (k + 1)) l made x)
      ]

  stood : (l : Lifeline) → In l lines → In (line_after consumed k l) next
  stood l m = in_left (line_after consumed k l) (map (line_after consumed k) lines)
      (map (line_begun (k + 1)) made) (in_map (line_after consumed k) l lines m)

  begins : (t : List ℕ × List Column) → In t made → In (line_begun (k + 1) t) next
  begins t m = in_right (line_begun (k + 1) t) (map (line_after consumed k) lines)
      (map (line_begun (k + 1)) made) (in_map (line_begun (k + 1)) t made m)

  -- ---- each version up to the operator's

  module _ (j : ℕ) (low : j ≤ k) where
    still : (l : Lifeline) → Of j l → Of j (line_after consumed k l)
    still l c = (c.0, still_up_to (consumed l.table) k l.last j low c.1)

    was : (l : Lifeline) → Of j (line_after consumed k l) → Of j l
    was l c = (c.0, was_up_to (consumed l.table) k l.last j c.1)

    not_yet : (t : List ℕ × List Column) → Of j (line_begun (k + 1) t) → ⊥
    not_yet t c = (let f = c.0 in absurd (omega (arith, f, low)))

    -- one that begins is of none of them
    none_yet : (l : Lifeline) → In l (map (line_begun (k + 1)) made) → Of j l → ⊥
    none_yet l m c = (let t = from_map (line_begun (k + 1)) l made m in
        not_yet t.0 (subst (Of j) (sym t.2) c))

    still_apart : (ls : List Lifeline) → AreApart j ls → AreApart j (map (line_after consumed k) ls)
    still_apart [] a = tt
    still_apart (l ∷ ls) a = (
      λ r m e c d.
          let x = from_map (line_after consumed k) r ls m in
          a.0 x.0 x.1 (e ∙ ap (λ (y : Lifeline). y.table) (sym x.2)) (was l c)
          (was x.0 (subst (Of j) (sym x.2) d)),
      still_apart ls a.1,
    )

    pub tables_still : (tables : Tables) → HaveTables j tables lines → HaveTables j tables next
    tables_still tables h = record {
      has = λ l m c. elim (stood_or_begins l m) [
        | inl x ↦ subst (λ (y : Lifeline). get tables y.table ≡ Some y.columns) x.2
            (h.has x.0 x.1 (was x.0 (subst (Of j) (sym x.2) c)))
        | inr t ↦ absurd (not_yet t.0 (subst (Of j) (sym t.2) c))
      ];
      each = λ name columns e. (let x = h.each name columns e in
          (line_after consumed k x.0, stood x.0 x.1, still x.0 x.2, x.3));
      once = both_apart j (map (line_after consumed k) lines) (map (line_begun (k + 1)) made)
          (still_apart lines h.once)
          (none_apart j (map (line_begun (k + 1)) made) none_yet) (λ l r m n e c d. none_yet r n d);
    }

  -- ---- the next version

  module _ (accepted : AllOperatorsAccepted before v.op)
      (is : v.tables ≡ schema_after_each before v.op) (h : HaveTables k before lines)
      (b : HaveBegun k lines) where
    -- one that goes on was of the version before, and is not consumed
    goes_on : (l : Lifeline) → In l lines → Of (k + 1) (line_after consumed k l) → Of k l
        × (consumed l.table ≡ false)
    goes_on l m c = step (consumed l.table) refl l.last refl c.1
      where
        step : (x : Bool) → consumed l.table ≡ x → (o : Option ℕ) → l.last ≡ o
            → IsUpTo (last_after x k o) (k + 1) → Of k l × (consumed l.table ≡ false)
        step true e None q u = absurd (omega (arith, u))
        step false e None q u = ((b.begun l m, subst (λ o. IsUpTo o k) (sym q) tt), e)
        step x e (Some j) q u = absurd (let n = b.ended l m j q in omega (arith, u, n))

    lives_on : (l : Lifeline) → In l lines → Of k l → consumed l.table ≡ false
        → Of (k + 1) (line_after consumed k l)
    lives_on l m c e = (let f = c.0 in omega (arith, f), ap_step l.last refl c.1)
      where
        ap_step : (o : Option ℕ) → l.last ≡ o → IsUpTo o k
            → IsUpTo (last_after (consumed l.table) k l.last) (k + 1)
        ap_step None q u = rw (q, e) tt
        ap_step (Some j) q u = absurd (let n = b.ended l m j q in omega (arith, u, n))

    -- a table that stood is made only where it is consumed
    unmade : (l : Lifeline) → In l lines → Of k l → consumed l.table ≡ false
        → one_makes before v.op l.table ≡ false
    unmade l m c e = step (one_makes before v.op l.table) refl
      where
        step : (x : Bool) → one_makes before v.op l.table ≡ x → x ≡ false
        step true q = absurd (let f = each_made_is_free before v.op l.table accepted q
            (ap is_some (h.has l m c)) in cc)
        step false q = refl

    stays : (l : Lifeline) → In l lines → Of (k + 1) (line_after consumed k l)
        → get v.tables l.table ≡ Some l.columns
    stays l m c =
        let g = goes_on l m c in
        ap (λ (x : Tables). get x l.table) is
        ∙ each_table_stays before v.op l.table (unmade l m g.0 g.1) g.1 ∙ h.has l m g.0

    is_made : (t : List ℕ × List Column) → In t made → In t (entries v.tables)
        × (one_makes before v.op t.0 ≡ true)
    is_made t m = from_filter (λ (x : List ℕ × List Column). one_makes before v.op x.0) t
        (entries v.tables) m

    has_next : (l : Lifeline) → In l next → Of (k + 1) l → get v.tables l.table ≡ Some l.columns
    has_next l m c = elim (stood_or_begins l m) [
      | inl x ↦ subst (λ (y : Lifeline). get v.tables y.table ≡ Some y.columns) x.2
          (stays x.0 x.1 (subst (Of (k + 1)) (sym x.2) c))
      | inr t ↦ subst (λ (y : Lifeline). get v.tables y.table ≡ Some y.columns) t.2
          (found_under v.tables t.0 (is_made t.0 t.1).0)
    ]

    abbrev Found : List ℕ → Type 0
    Found name = (l : Lifeline) × In l next × Of (k + 1) l × (l.table ≡ name)

    begins_here : (name : List ℕ) (columns : List Column) → get v.tables name ≡ Some columns
        → one_makes before v.op name ≡ true → Found name
    begins_here name columns e q = (
      line_begun (k + 1) (name, columns),
      begins (name, columns) (in_filter (λ (x : List ℕ × List Column). one_makes before v.op x.0)
          (name, columns) (entries v.tables) (entry_under v.tables name columns e) q),
      (omega arith, tt),
      refl,
    )

    lives_here : (name : List ℕ) (columns : List Column) → get before name ≡ Some columns
        → consumed name ≡ false → Found name
    lives_here name columns e q =
        let l = h.each name columns e in
        (line_after consumed k l.0, stood l.0 l.1, lives_on l.0 l.1 l.2 (ap consumed l.3 ∙ q), l.3)

    each_next : (name : List ℕ) (columns : List Column) → get v.tables name ≡ Some columns
        → Found name
    each_next name columns e = step (one_makes before v.op name) refl (consumed name) refl
      where
        step : (x : Bool) → one_makes before v.op name ≡ x → (y : Bool) → consumed name ≡ y → Found name
        step true q y p = begins_here name columns e q
        step false q true p = absurd (let g = each_table_gone before v.op name q p in let f =
            ap (λ (x : Tables). get x name) (sym is) in cc)
        step false q false p = lives_here name columns
            (sym (each_table_stays before v.op name q p) ∙ ap (λ (x : Tables). get x name) (sym is) ∙ e)
            p

    stood_apart : (ls : List Lifeline) → ((l : Lifeline) → In l ls → In l lines) → AreApart k ls
        → AreApart (k + 1) (map (line_after consumed k) ls)
    stood_apart [] f a = tt
    stood_apart (l ∷ ls) f a = (
      λ r m e c d.
          let x = from_map (line_after consumed k) r ls m in
          a.0 x.0 x.1 (e ∙ ap (λ (y : Lifeline). y.table) (sym x.2))
          (goes_on l (f l (inl refl)) c).0
          (goes_on x.0 (f x.0 (inr x.1)) (subst (Of (k + 1)) (sym x.2) d)).0,
      stood_apart ls (λ x m. f x (inr m)) a.1,
    )

    begun_apart : (p : List ℕ × List Column → Bool) (es : List (List ℕ × List Column))
        → T (is_sorted bytes_cmp es) → AreApart (k + 1) (map (line_begun (k + 1)) (filter p es))
    begun_apart p [] s = tt
    begun_apart p (t ∷ es) s = step (p t) (begun_apart p es (after_first t es s))
      where
        step : (x : Bool) → AreApart (k + 1) (map (line_begun (k + 1)) (filter p es))
            → AreApart (k + 1) (map (line_begun (k + 1)) (cond x (t ∷ filter p es) (filter p es)))
        step true more = (
          λ r m e c d.
              let x = from_map (line_begun (k + 1)) r (filter p es) m in
              other_name t es x.0 s (from_filter p x.0 es x.1).0
              (e ∙ ap (λ (y : Lifeline). y.table) (sym x.2)),
          more,
        )
        step false more = more

    -- a table that goes on is not made
    none_twice : (l r : Lifeline) → In l (map (line_after consumed k) lines)
        → In r (map (line_begun (k + 1)) made) → l.table ≡ r.table → Of (k + 1) l → Of (k + 1) r → ⊥
    none_twice l r m n e c d =
        let x = from_map (line_after consumed k) l lines m in
        let t = from_map (line_begun (k + 1)) r made n in
        let g = goes_on x.0 x.1 (subst (Of (k + 1)) (sym x.2) c) in
        let u = unmade x.0 x.1 g.0 g.1 in
        let q = (is_made t.0 t.1).1 in
        let same : x.0.table ≡ t.0.0 = ap (λ (y : Lifeline). y.table) x.2 ∙ e
        ∙ ap (λ (y : Lifeline). y.table) (sym t.2) in
        let f = ap (one_makes before v.op) same in
        absurd (cc)

    pub tables_next : HaveTables (k + 1) v.tables next
    tables_next = record {
      has = has_next;
      each = each_next;
      once = both_apart (k + 1) (map (line_after consumed k) lines) (map (line_begun (k + 1)) made)
          (stood_apart lines (λ l m. m) h.once)
          (begun_apart (λ (x : List ℕ × List Column). one_makes before v.op x.0) (entries v.tables)
          (entries_sorted v.tables)) none_twice;
    }

    pub begun_next : HaveBegun (k + 1) next
    begun_next = record {
      begun = λ l m. elim (stood_or_begins l m) [
        | inl x ↦ subst (λ (y : Lifeline). y.first ≤ k + 1) x.2
            (let f = b.begun x.0 x.1 in omega (arith, f))
        | inr t ↦ subst (λ (y : Lifeline). y.first ≤ k + 1) t.2 (omega arith)
      ];
      ended = λ l m j e. elim (stood_or_begins l m) [
        | inl x ↦ ends x.0 x.1 j (ap (λ (y : Lifeline). y.last) x.2 ∙ e)
        | inr t ↦ absurd (let f = ap (λ (y : Lifeline). y.last) t.2 in cc)
      ];
    }
      where
        ends : (l : Lifeline) → In l lines → (j : ℕ)
            → last_after (consumed l.table) k l.last ≡ Some j → j < k + 1
        ends l m j e = step (consumed l.table) l.last refl e
          where
            step : (x : Bool) (o : Option ℕ) → l.last ≡ o → last_after x k o ≡ Some j → j < k + 1
            step true None q f = (let p : k ≡ j = cc in omega (arith, p))
            step false None q f = absurd (cc)
            step x (Some i) q f = (let p : i ≡ j = cc in let n = b.ended l m i q in
                omega (arith, p, n))
