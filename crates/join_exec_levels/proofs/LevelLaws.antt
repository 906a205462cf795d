-- Choices made level by level, and what is answered of them.
use Rattle.std.proofs.Common.{◌≡◌, ◌<◌, ◌+◌, ◌-◌, take_all, ℕ, zero, suc, Bool, true, false, cond}
use Rattle.std.proofs.Common.{List, [], ◌∷◌, ◌++◌, append_assoc, map, take, drop, length, get_or}
use Rattle.std.proofs.Common.{refl, sym, ap, ◌∙◌, subst, inl, inr, arith}
use Rattle.std.specs.Borrow.{Bor}
use Rattle.std.specs.List.{filter, flat_map}
use Rattle.std.proofs.lemmas.List.{append-nil}
use Rattle.std.proofs.lemmas.List.Concat.{flat_map-append}
use Rattle.relations_spec.specs.Sets.{In, set_of}
use Rattle.relations_spec.specs.Spans.{Span, covers}
use Rattle.relations_spec.specs.Timed.{Entry, held_at, at}
use Rattle.relations_spec.proofs.SetLaws.{in_left, in_right, in_append, in_set, from_set, set_same}
use Rattle.prima_base.specs.declared.value.Value.{Value}
use Rattle.prima_base.specs.declared.timed_row.TimedRow.{TimedRow}
use Rattle.prima_base.specs.Order.{row_cmp, shown}
use Rattle.prima_base.specs.OrderLaws.{row_exact}
use Rattle.prima_base.specs.Timed.{entry_of, entries_of}
use Rattle.cond_expr.specs.declared.expr.Column.{Column}
use Rattle.cond_expr.specs.declared.expr.Cond.{Cond}
use Rattle.cond_expr.specs.Trees.{Tree, Test}
use Rattle.join_exec_spec.specs.Answering.{outputs, answer, answers}
use Rattle.join_exec_spec.specs.Choosing.{paired, extended_where}
use Rattle.join_exec_spec.specs.Fitting.{Fit}
use Rattle.join_exec_spec.specs.Keeping.{meets, passing, values_at, borrowed_tests, IsValidRow}
use Rattle.join_exec_spec.specs.Keeping.{AllValid}
use Rattle.join_exec_spec.specs.BorrowedOutputs.{BorrowedValues}
use Rattle.join_exec_spec.proofs.HeldPairs.{held_append, held_pairs}
use Rattle.join_exec_spec.proofs.JoinLaws.{held_answers, paired_valid}
use Rattle.join_exec_spec.proofs.OneMore.{flat_step}
use Rattle.join_exec_levels.specs.declared.level.Level.{Level}
use Rattle.join_exec_levels.specs.declared.source.Source.{Source}
use Rattle.join_exec_levels.specs.Levels.{with_key, made_beside, made_on, made_through}
use Rattle.join_exec_levels.specs.Levels.{IsValidLevel}
use Rattle.join_exec_levels.specs.Levels.{AreValidLevels, LevelBorrows, LevelsBorrow}

-- ---- one level more

pub through_more : (cs : List Column) (levels : List Level) (level : Level)
    (ps : List (Entry (List Value))) → made_through cs (levels ++ level ∷ []) ps
    ≡ made_on cs level (made_through cs levels ps)
through_more cs [] level ps = refl
through_more cs (l ∷ levels) level ps = through_more cs levels level (made_on cs l ps)

pub valid_more : (levels : List Level) (level : Level) → AreValidLevels levels → IsValidLevel level
    → AreValidLevels (levels ++ level ∷ [])
valid_more [] level h k = (k, tt)
valid_more (l ∷ levels) level h k = (h.0, valid_more levels level h.1 k)

pub levels_more : (which : BorrowedValues) (before own : List Column) (levels : List Level)
    (level : Level)
    → LevelsBorrow which before levels → LevelBorrows which own level
    → LevelsBorrow which (before ++ own) (levels ++ level ∷ [])
levels_more which before own [] level h k = (
  own,
  [],
  ap (λ (cs : List Column). cs ++ own) h ∙ sym (append-nil own),
  k,
  refl,
)
levels_more which before own (l ∷ levels) level h k = (
  h.0,
  h.1 ++ own,
  ap (λ (cs : List Column). cs ++ own) h.2 ∙ append_assoc h.0 h.1 own,
  h.3,
  levels_more which h.1 own levels level h.4 k,
)

pub nothing_left : {X : Type 0} (xs : List X) → length xs ≡ 0 → xs ≡ []
nothing_left [] e = refl
nothing_left (x ∷ xs) e = absurd (omega arith)

-- the lists are all taken where there is no first one
pub none_left : (all rest : List Source) → all ≡ rest → rest ≡ drop 1 all → all ≡ []
none_left [] rest a b = refl
none_left (x ∷ all) rest a b = absurd (let k : length (x ∷ all) ≡ length all =
    ap (λ (xs : List Source). length xs) (a ∙ b) in omega (arith, k))

-- the first of the levels, and those after it
pub first_and_rest : (levels : List Level) (level : Level) → 0 < length levels
    → level ≡ get_or levels 0 level → level ∷ take (length levels - 1) (drop 1 levels) ≡ levels
first_and_rest [] level l is = absurd (omega arith)
first_and_rest (x ∷ levels) level l is =
    let e : length (x ∷ levels) - 1 ≡ length levels = omega arith in
    ap (λ (n : ℕ). level ∷ take n levels) e ∙ ap (λ (ls : List Level). level ∷ ls)
    (take_all (length levels) levels (omega arith)) ∙ ap (λ (y : Level). y ∷ levels) is

pub rest_shorter : (levels rest : List Level) (level : Level) → level ∷ rest ≡ levels
    → length rest < length levels
rest_shorter levels rest level e = (let k : length (level ∷ rest) ≡ length levels =
    ap (λ (ls : List Level). length ls) e in omega (arith, k))

-- what is made of one choice with the first
pub made_here : (cs : List Column) (level : Level) (choice : TimedRow) (own : List ℕ)
    (tests : List (Bor Cond)) (start made given : List TimedRow) → own ≡ level.own.items
    → tests ≡ level.tests.items → start ≡ []
    → entries_of made ≡ entries_of start ++ flat_map
    (paired (passing cs (borrowed_tests tests)) (entry_of choice))
    (entries_of (with_key level (values_at own (map shown choice.values.items))))
    → given ≡ made → entries_of given ≡ made_beside cs level (entry_of choice)
made_here cs level choice own tests start made given is_own are_tests none is same =
    ap entries_of same ∙ is
    ∙ ap (λ (rows : List TimedRow). entries_of rows
    ++ flat_map (paired (passing cs (borrowed_tests tests)) (entry_of choice))
    (entries_of (with_key level (values_at own (map shown choice.values.items))))) none
    ∙ ap (λ (bs : List (Bor Cond)). flat_map (paired (passing cs (borrowed_tests bs))
    (entry_of choice)) (entries_of (with_key level
    (values_at own (map shown choice.values.items))))) are_tests
    ∙ ap (λ (places : List ℕ). flat_map (paired (passing cs (borrowed_tests level.tests.items))
    (entry_of choice)) (entries_of (with_key level
    (values_at places (map shown choice.values.items))))) is_own

pub valid_beside : (cs : List Column) (level : Level) (choice : TimedRow) (given : List TimedRow)
    → entries_of given ≡ made_beside cs level (entry_of choice)
    → IsValidRow (map shown choice.values.items) → IsValidLevel level
    → AllValid (entries_of given)
valid_beside cs level choice given is row valid =
    subst AllValid (sym is) (paired_valid (passing cs (borrowed_tests level.tests.items))
    (entry_of choice) (entries_of (with_key level
    (values_at level.own.items (map shown choice.values.items)))) row
    (valid (values_at level.own.items (map shown choice.values.items))))

-- ---- choice by choice

like_more : (xs ys zs : List (List Value)) → set_of row_cmp xs ≡ set_of row_cmp ys
    → set_of row_cmp (xs ++ zs) ≡ set_of row_cmp (ys ++ zs)
like_more xs ys zs h = set_same row_cmp row_exact (xs ++ zs) (ys ++ zs)
    (record { there = other xs ys h; back = other ys xs (sym h) })
  where
    other : (ps qs : List (List Value)) → set_of row_cmp ps ≡ set_of row_cmp qs → (x : List Value)
        → In x (ps ++ zs) → In x (qs ++ zs)
    other ps qs e x i = elim (in_append x ps zs i) [
      | inl a ↦ in_left x qs zs (from_set row_cmp row_exact x qs
          (subst (λ (l : List (List Value)). In x l) e (in_set row_cmp row_exact x ps a)))
      | inr b ↦ in_right x qs zs b
    ]

-- after entries that hold the same at the moment
at_more : (es fs more : List (Entry (List Value))) (m : ℕ) → at row_cmp es m ≡ at row_cmp fs m
    → at row_cmp (es ++ more) m ≡ at row_cmp (fs ++ more) m
unfolding at
at_more es fs more m h =
    ap (set_of row_cmp) (held_append es more m)
    ∙ like_more (held_at es m) (held_at fs m) (held_at more m) h
    ∙ ap (set_of row_cmp) (sym (held_append fs more m))

nothing_set : set_of row_cmp [] ≡ []
unfolding set_of
nothing_set = refl

pub nothing_at : (m : ℕ) → at row_cmp [] m ≡ []
unfolding at
nothing_at m = nothing_set

module _ (cs : List Column) (outs : List Tree) (c : Test) where
  -- what is answered of a choice with a row of each level after, and of several
  abbrev pub of_choice : Level → List Level → Entry (List Value) → List (Entry (List Value))
  of_choice level levels e = answers cs outs c (made_through cs levels (made_beside cs level e))

  through_both : (levels : List Level) (ps qs : List (Entry (List Value)))
      → made_through cs levels (ps ++ qs) ≡ made_through cs levels ps ++ made_through cs levels qs
  through_both [] ps qs = refl
  through_both (level ∷ levels) ps qs = ap (made_through cs levels)
      (flat_map-append (made_beside cs level) ps qs)
      ∙ through_both levels (made_on cs level ps) (made_on cs level qs)

  through_none : (levels : List Level) → made_through cs levels [] ≡ []
  through_none [] = refl
  through_none (level ∷ levels) = through_none levels

  pub each_choice : (level : Level) (levels : List Level) (ps : List (Entry (List Value)))
      → flat_map (of_choice level levels) ps ≡ answers cs outs c
      (made_through cs (level ∷ levels) ps)
  each_choice level levels [] = ap (answers cs outs c) (sym (through_none levels))
  each_choice level levels (p ∷ ps) =
      ap (λ (es : List (Entry (List Value))). of_choice level levels p ++ es)
      (each_choice level levels ps)
      ∙ sym (flat_map-append (answer cs outs c) (made_through cs levels (made_beside cs level p))
      (made_through cs levels (made_on cs level ps)))
      ∙ ap (answers cs outs c) (sym (through_both levels (made_beside cs level p)
      (made_on cs level ps)))

  pub one_choice : (level : Level) (levels : List Level) (choices : List TimedRow) (i : ℕ)
      (choice : TimedRow) (start before : List (Entry (List Value))) (made : List TimedRow)
      (after : List (List Value)) (m : ℕ)
      → i < length choices → choice ≡ get_or choices i choice
      → entries_of made ≡ made_beside cs level (entry_of choice)
      → at row_cmp before m ≡ at row_cmp (start
      ++ flat_map (of_choice level levels) (entries_of (take i choices))) m
      → after ≡ at row_cmp (before ++ answers cs outs c (made_through cs levels (entries_of made)))
      m
      → after ≡ at row_cmp (start ++ flat_map (of_choice level levels)
      (entries_of (take (i + 1) choices))) m
  one_choice level levels choices i choice start before made after m below is made_is so now =
      let told : List (Entry (List Value)) = flat_map (of_choice level levels)
      (entries_of (take i choices)) in
      let one : List (Entry (List Value)) = of_choice level levels (entry_of choice) in
      now
      ∙ ap (λ (es : List (Entry (List Value))).
      at row_cmp (before ++ answers cs outs c (made_through cs levels es)) m) made_is
      ∙ at_more before (start ++ told) one m so
      ∙ ap (λ (es : List (Entry (List Value))). at row_cmp es m) (append_assoc start told one)
      ∙ ap (λ (es : List (Entry (List Value))). at row_cmp (start ++ es) m)
      (flat_step (of_choice level levels) entry_of choices i choice told (told ++ one) below is
      refl refl)

  -- what is answered at a moment of all
  pub told_at : (ps : List (Entry (List Value))) (m : ℕ)
      → at row_cmp (answers cs outs c ps) m ≡ set_of row_cmp
      (map (outputs cs outs) (filter (meets cs c) (held_at ps m)))
  unfolding at
  told_at ps m = ap (set_of row_cmp) (held_answers cs outs c m ps)

  -- nothing more where nothing more holds
  pub nothing_told : (rows : List (Entry (List Value))) (ps : List (Entry (List Value))) (m : ℕ)
      → held_at ps m ≡ [] → at row_cmp rows m ≡ []
      → at row_cmp (rows ++ answers cs outs c ps) m ≡ []
  nothing_told rows ps m none before =
      at_more rows [] (answers cs outs c ps) m (before ∙ sym (nothing_at m))
      ∙ told_at ps m
      ∙ ap (λ (xs : List (List Value)). set_of row_cmp
      (map (outputs cs outs) (filter (meets cs c) xs))) none
      ∙ nothing_set

-- ---- where no choice holds

one_not_held : (p : Entry (List Value)) (more : List (List Value)) (b : Bool)
    → cond b (p.item ∷ more) more ≡ [] → (more ≡ []) × (cond b (p.item ∷ []) [] ≡ [])
one_not_held p more true h = absurd (cc)
one_not_held p more false h = (h, refl)

not_held : (choices : List TimedRow) (i : ℕ) (choice : TimedRow) (m : ℕ) → i < length choices
    → choice ≡ get_or choices i choice → held_at (entries_of choices) m ≡ []
    → held_at (entry_of choice ∷ []) m ≡ []
not_held [] i choice m below is h = absurd (omega arith)
not_held (r ∷ choices) zero choice m below is h =
    ap (λ (x : TimedRow). held_at (entry_of x ∷ []) m) is
    ∙ (one_not_held (entry_of r) (held_at (entries_of choices) m) (covers r.period m) h).1
not_held (r ∷ choices) (suc i) choice m below is h =
    not_held choices i choice m (omega arith) is
    (one_not_held (entry_of r) (held_at (entries_of choices) m) (covers r.period m) h).0

pub none_beside : (cs : List Column) (level : Level) (choices : List TimedRow) (i : ℕ)
    (choice : TimedRow) (m : ℕ) → i < length choices → choice ≡ get_or choices i choice
    → held_at (entries_of choices) m ≡ []
    → held_at (made_beside cs level (entry_of choice)) m ≡ []
none_beside cs level choices i choice m below is h =
    let p = entry_of choice in
    let keep = passing cs (borrowed_tests level.tests.items) in
    let ys : List (Entry (List Value)) = entries_of
    (with_key level (values_at level.own.items p.item)) in
    ap (λ (es : List (Entry (List Value))). held_at es m)
    (sym (append-nil (flat_map (paired keep p) ys)))
    ∙ held_pairs keep m (p ∷ []) ys
    ∙ ap (λ (ps : List (List Value)). extended_where keep ps (held_at ys m))
    (not_held choices i choice m below is h)

-- ---- the choice of no row

pub none_fits : (s : Span) (es : List (Entry (List Value)))
    → es ≡ record { item = []; period = s } ∷ [] → Fit 0 es
none_fits s es made = λ e i. one e (subst (λ (l : List (Entry (List Value))). In e l) made i)
  where
    one : (e : Entry (List Value)) → In e (record { item = []; period = s } ∷ [])
        → (length e.item ≡ 0) × IsValidRow e.item
    one e (inl q) = subst (λ (x : Entry (List Value)). (length x.item ≡ 0) × IsValidRow x.item) q
        (refl, tt)
    one e (inr k) = absurd k
