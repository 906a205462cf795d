-- One atom more.
use Rattle.std.proofs.Common.{◌≡◌, ℕ, suc, ◌+◌, ◌<◌, Result, Ok, Err, List, [], ◌∷◌, ◌++◌, length}
use Rattle.std.proofs.Common.{get_or, take, drop, sym, ap, ◌∙◌, subst, arith, length-take}
use Rattle.std.proofs.lemmas.List.{take_more, at_drop_more}
use Rattle.std.specs.Prelude.{Option, SomeIff, IfOk}
use Rattle.std.specs.Result.{result_ok}
use Rattle.prima_base.specs.declared.failure.NoMemory.{NoMemory}
use Rattle.relations_spec.specs.Spans.{Span}
use Rattle.history_store.specs.Store.{Store}
use Rattle.cond_expr.specs.declared.expr.ColRef.{ColRef}
use Rattle.plain_answers_spec.specs.Naming.{names_at}
use Rattle.version_groups.specs.Groups.{Kept, table_in}
use Rattle.join_exec_engine.specs.declared.atom.Atom.{Atom}
use Rattle.join_exec.specs.Pieces.{reads_stored, atoms_read}
use Rattle.join_exec.specs.Atoms.{IsReadOf, AreRead, IsReadable, AreReadable}

-- what is known in any case is known of a success
pub if_known : {X E : Type 0} (r : Result X E) {P : Type 0} → P → IfOk r (λ _. P)
if_known (Ok x) p = p
if_known (Err e) p = tt

-- a number that could be counted on is the next
pub one_more : (o : Option ℕ) (r : Result ℕ NoMemory) (room : Type 0) (next n : ℕ)
    → SomeIff o room next → o ≡ result_ok r → r ≡ Ok n → n ≡ next
one_more o r room next n s made is = (subst (λ (x : Option ℕ). SomeIff x room next)
    (made ∙ ap result_ok is) s).1

next_tables : (tables : List (List ℕ)) (i : ℕ) (n : List ℕ) → i < length tables
    → n ≡ get_or tables i n → drop i tables ≡ n ∷ drop (i + 1) tables
next_tables tables i n l e = at_drop_more (λ (ts : List (List ℕ)). ts) tables i n l
    ∙ ap (λ x. x ∷ drop (i + 1) tables) (sym e)

module _ (kept : Kept) (k : ℕ) (rs : List ColRef) where
  pub next_ready : (tables : List (List ℕ)) (i : ℕ) (n : List ℕ) → i < length tables
      → n ≡ get_or tables i n → AreReadable kept k rs i (drop i tables)
      → IsReadable (table_in kept k n) (names_at i rs)
      × AreReadable kept k rs (i + 1) (drop (i + 1) tables)
  next_ready tables i n l e h = subst (λ ts. AreReadable kept k rs i ts)
      (next_tables tables i n l e) h

  pub next_count : (tables : List (List ℕ)) (i : ℕ) (n : List ℕ) → i < length tables
      → n ≡ get_or tables i n
      → atoms_read kept k rs i (drop i tables)
      ≡ reads_stored (table_in kept k n) (names_at i rs) + atoms_read kept k rs (i + 1)
      (drop (i + 1) tables)
  next_count tables i n l e = ap (λ ts. atoms_read kept k rs i ts) (next_tables tables i n l e)

  module _ (slice : Span) where
    read_more : (i : ℕ) (tables : List (List ℕ)) (atoms : List Atom) (n : List ℕ) (a : Atom)
        → AreRead kept k slice rs i tables atoms
        → IsReadOf (table_in kept k n) slice (i + length tables) (names_at (i + length tables) rs) a
        → AreRead kept k slice rs i (tables ++ n ∷ []) (atoms ++ a ∷ [])
    read_more i [] [] n a h g = let z : i + 0 ≡ i = omega arith in
        (subst (λ j. IsReadOf (table_in kept k n) slice j (names_at j rs) a) z g, tt)
    read_more i [] (x ∷ atoms) n a h g = absurd h
    read_more i (t ∷ tables) [] n a h g = absurd h
    read_more i (t ∷ tables) (x ∷ atoms) n a h g =
        let e : i + suc (length tables) ≡ i + 1 + length tables = omega arith in (
          h.0,
          read_more (i + 1) tables atoms n a h.1
              (subst (λ j. IsReadOf (table_in kept k n) slice j (names_at j rs) a) e g),
        )

    pub next_read : (tables : List (List ℕ)) (i : ℕ) (n : List ℕ) (atoms new : List Atom) (a : Atom)
        → i < length tables → n ≡ get_or tables i n
        → AreRead kept k slice rs 0 (take i tables) atoms
        → IsReadOf (table_in kept k n) slice i (names_at i rs) a → new ≡ atoms ++ a ∷ []
        → AreRead kept k slice rs 0 (take (i + 1) tables) new
    next_read tables i n atoms new a l e h g made =
        let more : take (i + 1) tables ≡ take i tables ++ n ∷ [] = take_more tables i n l
        ∙ ap (λ x. take i tables ++ x ∷ []) (sym e) in
        let count : i ≡ 0 + length (take i tables) = omega (arith, length-take i tables) in
        let there : AreRead kept k slice rs 0 (take i tables ++ n ∷ []) (atoms ++ a ∷ []) =
        read_more 0 (take i tables) atoms n a h
        (subst (λ j. IsReadOf (table_in kept k n) slice j (names_at j rs) a) count g) in
        subst (λ (ts : List (List ℕ)). AreRead kept k slice rs 0 ts new) (sym more)
        (subst (λ (xs : List Atom). AreRead kept k slice rs 0 (take i tables ++ n ∷ []) xs)
        (sym made) there)

-- the atom at hand: its number, its table, and the columns that are named of it
module _ (kept : Kept) (k : ℕ) (rs : List ColRef) (i number : ℕ) (n : List ℕ) (o : Option Store)
    (names : List (List ℕ)) (at : number ≡ i) (found : o ≡ table_in kept k n)
    (named : names ≡ names_at number rs) where
  its_names : names ≡ names_at i rs
  its_names = named ∙ ap (λ j. names_at j rs) at

  pub here_ready : IsReadable (table_in kept k n) (names_at i rs) → IsReadable o names
  here_ready h = subst (λ x. IsReadable x names) (sym found)
      (subst (λ ns. IsReadable (table_in kept k n) ns) (sym its_names) h)

  pub here_read : (slice : Span) (a : Atom) → IsReadOf o slice number names a
      → IsReadOf (table_in kept k n) slice i (names_at i rs) a
  here_read slice a h = subst (λ x. IsReadOf x slice i (names_at i rs) a) found
      (subst (λ ns. IsReadOf o slice i ns a) its_names
      (subst (λ j. IsReadOf o slice j names a) at h))

  pub here_count : reads_stored o names ≡ reads_stored (table_in kept k n) (names_at i rs)
  here_count = ap (λ x. reads_stored x names) found
      ∙ ap (reads_stored (table_in kept k n)) its_names
