-- What is answered does not depend on the order of the atoms.
use Rattle.std.proofs.Common.{◌≡◌, ℕ, Bool, true, false, cond, List, [], ◌∷◌, ◌++◌, append_assoc}
use Rattle.std.proofs.Common.{map, length, length-append, refl, sym, ap, ◌∙◌, subst, inl, inr}
use Rattle.std.proofs.Common.{arith}
use Rattle.std.specs.Prelude.{◌&&◌, ◌==◌}
use Rattle.std.specs.List.{filter}
use Rattle.std.proofs.lemmas.List.{append-nil}
use Rattle.std.proofs.lemmas.Bool.Decides.{nat_tests}
use Rattle.std.proofs.Math.Path.{fun_ext}
use Rattle.relations_spec.specs.Sets.{In}
use Rattle.relations_spec.specs.Choices.{choices}
use Rattle.relations_spec.proofs.SetLaws.{in_map, from_map, in_filter, from_filter, in_flat_map}
use Rattle.relations_spec.proofs.SetLaws.{from_flat_map, set_same}
use Rattle.prima_base.specs.declared.value.Value.{Value}
use Rattle.prima_base.specs.Order.{row_cmp}
use Rattle.prima_base.specs.OrderLaws.{row_exact}
use Rattle.cond_expr.specs.declared.expr.Whose.{Whose}
use Rattle.cond_expr.specs.declared.expr.Whose.TheVariants.{Free, Alias, Atom}
use Rattle.cond_expr.specs.declared.expr.Column.{Column}
use Rattle.cond_expr.specs.Trees.{Tree, Test}
use Rattle.cond_expr.specs.Values.{Cells, value, truth}
use Rattle.cond_expr.specs.Rows.{names, same, cells}
use Rattle.join_exec_spec.specs.Keeping.{meets}
use Rattle.join_exec_spec.specs.Answering.{outputs, one_row}
use Rattle.join_exec_spec.specs.Fitting.{AreOwn}
use Rattle.join_exec_spec.specs.Blocks.{Block, types_of, rows_of, answered_rows, answered, IsBlock}
use Rattle.join_exec_spec.specs.Blocks.{Apart, AreBlocks}

-- what stands before is looked at first
abbrev after : List Column → List Value → Whose → List ℕ → Value → Value
after [] row w n d = d
after (c ∷ cs) [] w n d = d
after (c ∷ cs) (v ∷ row) w n d = cond (names w n c) v (after cs row w n d)

cells_after : (cs suffix : List Column) (row more : List Value) (w : Whose) (n : List ℕ)
    → length row ≡ length cs → cells (cs ++ suffix) (row ++ more) w n
    ≡ after cs row w n (cells suffix more w n)
cells_after [] suffix [] more w n e = refl
cells_after [] suffix (v ∷ row) more w n e = absurd (omega arith)
cells_after (c ∷ cs) suffix [] more w n e = absurd (omega arith)
cells_after (c ∷ cs) suffix (v ∷ row) more w n e =
    ap (λ x. cond (names w n c) v x) (cells_after cs suffix row more w n (omega arith))

-- columns of another atom are passed over
passed : (k j : ℕ) (cs : List Column) (row : List Value) (n : List ℕ) (d : Value) → AreOwn k cs
    → (j ≡ k → ⊥) → after cs row (Atom j) n d ≡ d
passed k j [] row n d o h = refl
passed k j (c ∷ cs) [] n d o h = refl
passed k j (c ∷ cs) (v ∷ row) n d o h =
    let e : (c.atom == j) ≡ false = apart c.atom k j o.0 h in
    ap (λ b. cond (b && same n c.name) v (after cs row (Atom j) n d)) e
    ∙ passed k j cs row n d o.1 h
  where
    apart : (a k j : ℕ) → a ≡ k → (j ≡ k → ⊥) → (a == j) ≡ false
    apart a k j e h = grind (arith, nat_tests)

no_name : (cs : List Column) (row : List Value) (w : Whose) (n : List ℕ) (d : Value)
    → ((c : Column) → names w n c ≡ false) → after cs row w n d ≡ d
no_name [] row w n d h = refl
no_name (c ∷ cs) [] w n d h = refl
no_name (c ∷ cs) (v ∷ row) w n d h = rw (h c) (no_name cs row w n d h)

other_number : (j k l : ℕ) → (j == k) ≡ true → (l ≡ k → ⊥) → j ≡ l → ⊥
other_number j k l e h f = grind (arith, nat_tests)

not_this : (j k : ℕ) → (j == k) ≡ false → j ≡ k → ⊥
not_this j k e f = grind (arith, nat_tests)

-- two atoms' columns in either order
module _ (a b : Block) (ra rb : List Value) (ia : IsBlock a) (ib : IsBlock b)
    (far : b.number ≡ a.number → ⊥) where
  in_turn : (w : Whose) (n : List ℕ) (d : Value)
      → after a.columns ra w n (after b.columns rb w n d)
      ≡ after b.columns rb w n (after a.columns ra w n d)
  in_turn Free n d = no_name a.columns ra Free n (after b.columns rb Free n d) (λ c. refl)
      ∙ ap (λ x. after b.columns rb Free n x) (sym (no_name a.columns ra Free n d (λ c. refl)))
  in_turn (Alias s) n d = no_name a.columns ra (Alias s) n (after b.columns rb (Alias s) n d)
      (λ c. refl) ∙ ap (λ x. after b.columns rb (Alias s) n x)
      (sym (no_name a.columns ra (Alias s) n d (λ c. refl)))
  in_turn (Atom j) n d = step (j == a.number) refl
    where
      step : (t : Bool) → (j == a.number) ≡ t
          → after a.columns ra (Atom j) n (after b.columns rb (Atom j) n d)
          ≡ after b.columns rb (Atom j) n (after a.columns ra (Atom j) n d)
      step true e =
          let h : j ≡ b.number → ⊥ = other_number j a.number b.number e far in
          ap (λ x. after a.columns ra (Atom j) n x) (passed b.number j b.columns rb n d ib.own h)
          ∙ sym (passed b.number j b.columns rb n (after a.columns ra (Atom j) n d) ib.own h)
      step false e =
          let h : j ≡ a.number → ⊥ = not_this j a.number e in
          passed a.number j a.columns ra n (after b.columns rb (Atom j) n d) ia.own h
          ∙ ap (λ x. after b.columns rb (Atom j) n x)
          (sym (passed a.number j a.columns ra n d ia.own h))

-- two beginnings after which each reference stands for the same
abbrev Alike : List Column → List Value → List Column → List Value → Type 0
Alike cs row ds other = (suffix : List Column) (more : List Value)
    → cells (cs ++ suffix) (row ++ more) ≡ cells (ds ++ suffix) (other ++ more)

module _ (outs : List Tree) (c : Test) where
  -- the row is answered of a choice that begins so
  abbrev pub Reach : List Column → List Value → List Block → List Value → Type 0
  Reach cs row [] x = (meets cs c row ≡ true) × (outputs cs outs row ≡ x)
  Reach cs row (b ∷ blocks) x = (r : List Value) × In r b.rows
      × Reach (cs ++ b.columns) (row ++ r) blocks x

  pub alike_reach : (blocks : List Block) (cs ds : List Column) (row other : List Value)
      (x : List Value) → Alike cs row ds other → Reach cs row blocks x → Reach ds other blocks x
  alike_reach [] cs ds row other x h r =
      let e : cells cs row ≡ cells ds other =
      ap (λ (k : List Column). cells k row) (sym (append-nil cs))
      ∙ ap (λ (k : List Value). cells (cs ++ []) k) (sym (append-nil row)) ∙ h [] []
      ∙ ap (λ (k : List Value). cells (ds ++ []) k) (append-nil other)
      ∙ ap (λ (k : List Column). cells k other) (append-nil ds) in (
        ap (λ (at : Cells). truth at c) (sym e) ∙ r.0,
        ap (λ (at : Cells). map (value at) outs) (sym e) ∙ r.1,
      )
  alike_reach (b ∷ blocks) cs ds row other x h r = (
    r.0,
    r.1,
    alike_reach blocks (cs ++ b.columns) (ds ++ b.columns) (row ++ r.0) (other ++ r.0) x
        (λ suffix more. ap (λ (k : List Column). cells k ((row ++ r.0) ++ more))
        (append_assoc cs b.columns suffix)
        ∙ ap (λ (k : List Value). cells (cs ++ (b.columns ++ suffix)) k)
        (append_assoc row r.0 more)
        ∙ h (b.columns ++ suffix) (r.0 ++ more)
        ∙ sym (ap (λ (k : List Column). cells k ((other ++ r.0) ++ more))
        (append_assoc ds b.columns suffix)
        ∙ ap (λ (k : List Value). cells (ds ++ (b.columns ++ suffix)) k)
        (append_assoc other r.0 more))) r.2,
  )

  -- two atoms in either order
  module _ (cs suffix a b : List Column) (row more ra rb : List Value) (l : length row ≡ length cs)
      (la : length ra ≡ length a) (lb : length rb ≡ length b) where
    pub three : (w : Whose) (n : List ℕ) → cells (((cs ++ a) ++ b) ++ suffix)
        (((row ++ ra) ++ rb) ++ more) w n ≡ after cs row w n
        (after a ra w n (after b rb w n (cells suffix more w n)))
    three w n =
        ap (λ (k : List Column). cells k (((row ++ ra) ++ rb) ++ more) w n)
        (append_assoc (cs ++ a) b suffix ∙ append_assoc cs a (b ++ suffix))
        ∙ ap (λ (k : List Value). cells (cs ++ (a ++ (b ++ suffix))) k w n)
        (append_assoc (row ++ ra) rb more ∙ append_assoc row ra (rb ++ more))
        ∙ cells_after cs (a ++ (b ++ suffix)) row (ra ++ (rb ++ more)) w n l
        ∙ ap (after cs row w n) (cells_after a (b ++ suffix) ra (rb ++ more) w n la
        ∙ ap (after a ra w n) (cells_after b suffix rb more w n lb))

  swapped : (a b : Block) (blocks : List Block) (cs : List Column) (row x : List Value) → IsBlock a
      → IsBlock b → (b.number ≡ a.number → ⊥) → length row ≡ length cs
      → Reach cs row (a ∷ b ∷ blocks) x → Reach cs row (b ∷ a ∷ blocks) x
  swapped a b blocks cs row x ia ib far l r =
      let la : length r.0 ≡ length a.columns = ia.wide r.0 r.1 in
      let lb : length r.2.0 ≡ length b.columns = ib.wide r.2.0 r.2.1 in (
        r.2.0,
        r.2.1,
        (
          r.0,
          r.1,
          alike_reach blocks ((cs ++ a.columns) ++ b.columns) ((cs ++ b.columns) ++ a.columns)
              ((row ++ r.0) ++ r.2.0) ((row ++ r.2.0) ++ r.0) x
              (λ suffix more. fun_ext (λ w. fun_ext
              (λ n. three cs suffix a.columns b.columns row more r.0 r.2.0 l la lb w n
              ∙ ap (after cs row w n) (in_turn a b r.0 r.2.0 ia ib far w n
              (cells suffix more w n)) ∙ sym
              (three cs suffix b.columns a.columns row more r.2.0 r.0 l lb la w n))))
              r.2.2,
        ),
      )

  longer : (b : Block) (cs : List Column) (row r : List Value) → IsBlock b → In r b.rows
      → length row ≡ length cs → length (row ++ r) ≡ length (cs ++ b.columns)
  longer b cs row r ib i l = let e : length r ≡ length b.columns = ib.wide r i in
      rw (length-append, length-append) (omega arith)

  to_prefix : (prefix : List Block) (b : Block) (blocks : List Block) (cs : List Column)
      (row x : List Value) → AreBlocks prefix → IsBlock b → Apart b.number prefix
      → length row ≡ length cs
      → Reach cs row (prefix ++ b ∷ blocks) x → Reach cs row (b ∷ (prefix ++ blocks)) x
  to_prefix [] b blocks cs row x f ib far l r = r
  to_prefix (a ∷ prefix) b blocks cs row x f ib far l r =
      swapped a b (prefix ++ blocks) cs row x f.0 ib (λ e. far.0 (sym e)) l (
        r.0,
        r.1,
        to_prefix prefix b blocks (cs ++ a.columns) (row ++ r.0) x f.1 ib far.1
            (longer a cs row r.0 f.0 r.1 l) r.2,
      )

  from_prefix : (prefix : List Block) (b : Block) (blocks : List Block) (cs : List Column)
      (row x : List Value) → AreBlocks prefix → IsBlock b → Apart b.number prefix
      → length row ≡ length cs
      → Reach cs row (b ∷ (prefix ++ blocks)) x → Reach cs row (prefix ++ b ∷ blocks) x
  from_prefix [] b blocks cs row x f ib far l r = r
  from_prefix (a ∷ prefix) b blocks cs row x f ib far l r =
      let s = swapped b a (prefix ++ blocks) cs row x ib f.0 far.0 l r in (
        s.0,
        s.1,
        from_prefix prefix b blocks (cs ++ a.columns) (row ++ s.0) x f.1 ib far.1
            (longer a cs row s.0 f.0 s.1 l) s.2,
      )

  -- after the same atoms
  later : (before as_was as_is : List Block) (cs : List Column) (row x : List Value)
      → AreBlocks before → ((ds : List Column) (other : List Value) → length other ≡ length ds
      → Reach ds other as_was x → Reach ds other as_is x)
      → length row ≡ length cs → Reach cs row (before ++ as_was) x
      → Reach cs row (before ++ as_is) x
  later [] as_was as_is cs row x f h l r = h cs row l r
  later (b ∷ before) as_was as_is cs row x f h l r = (
    r.0,
    r.1,
    later before as_was as_is (cs ++ b.columns) (row ++ r.0) x f.1 h
        (longer b cs row r.0 f.0 r.1 l) r.2,
  )

  -- what is reached is what is answered
  abbrev pub Chosen : List Column → List Value → List Block → List Value → Type 0
  Chosen cs row blocks x = (choice : List (List Value)) × In choice (choices (rows_of blocks))
      × (meets (cs ++ types_of blocks) c (row ++ one_row choice) ≡ true)
      × (outputs (cs ++ types_of blocks) outs (row ++ one_row choice) ≡ x)

  pub chosen : (blocks : List Block) (cs : List Column) (row x : List Value) → Reach cs row blocks x
      → Chosen cs row blocks x
  chosen [] cs row x r = (
    [],
    inl refl,
    rw (append-nil cs, append-nil row) r.0,
    rw (append-nil cs, append-nil row) r.1,
  )
  chosen (b ∷ blocks) cs row x r =
      let s = chosen blocks (cs ++ b.columns) (row ++ r.0) x r.2 in (
        r.0 ∷ s.0,
        in_flat_map (λ (y : List Value). map (λ (d : List (List Value)). y ∷ d)
            (choices (rows_of blocks))) r.0 (r.0 ∷ s.0) b.rows r.1
            (in_map (λ (d : List (List Value)). r.0 ∷ d) s.0 (choices (rows_of blocks)) s.1),
        rw (← append_assoc cs b.columns (types_of blocks), ← append_assoc row r.0 (one_row s.0))
            s.2,
        rw (← append_assoc cs b.columns (types_of blocks), ← append_assoc row r.0 (one_row s.0))
            s.3,
      )

  reached : (blocks : List Block) (cs : List Column) (row x : List Value)
      (choice : List (List Value)) → In choice (choices (rows_of blocks))
      → meets (cs ++ types_of blocks) c (row ++ one_row choice) ≡ true
      → outputs (cs ++ types_of blocks) outs (row ++ one_row choice) ≡ x → Reach cs row blocks x
  reached [] cs row x choice (inl e) t o = at_end choice e t o
    where
      at_end : (ch : List (List Value)) → [] ≡ ch → meets (cs ++ []) c (row ++ one_row ch) ≡ true
          → outputs (cs ++ []) outs (row ++ one_row ch) ≡ x → (meets cs c row ≡ true)
          × (outputs cs outs row ≡ x)
      at_end [] e t o = (
        rw (append-nil cs, append-nil row) at t,
        rw (append-nil cs, append-nil row) at o,
      )
      at_end (y ∷ ch) e t o = absurd (cc)
  reached [] cs row x choice (inr i) t o = absurd i
  reached (b ∷ blocks) cs row x choice i t o =
      let r = from_flat_map (λ (y : List Value).
      map (λ (d : List (List Value)). y ∷ d) (choices (rows_of blocks))) choice b.rows i in
      let q = from_map (λ (d : List (List Value)). r.0 ∷ d) choice (choices (rows_of blocks)) r.2 in
      let u : meets (cs ++ (b.columns ++ types_of blocks)) c (row ++ (r.0 ++ one_row q.0)) ≡ true =
      ap (λ (ch : List (List Value)). meets (cs ++ (b.columns ++ types_of blocks)) c
      (row ++ one_row ch)) q.2 ∙ t in
      let v : outputs (cs ++ (b.columns ++ types_of blocks)) outs (row ++ (r.0 ++ one_row q.0))
      ≡ x = ap (λ (ch : List (List Value)).
      outputs (cs ++ (b.columns ++ types_of blocks)) outs (row ++ one_row ch)) q.2 ∙ o in (
        r.0,
        r.1,
        reached blocks (cs ++ b.columns) (row ++ r.0) x q.0 q.1
            (rw (append_assoc cs b.columns (types_of blocks), append_assoc row r.0 (one_row q.0)) u)
            (rw (append_assoc cs b.columns (types_of blocks), append_assoc row r.0 (one_row q.0))
            v),
      )

  pub reach_answered : (blocks : List Block) (x : List Value) → In x (answered_rows outs c blocks)
      → Reach [] [] blocks x
  reach_answered blocks x i =
      let r = from_map (outputs (types_of blocks) outs) x
      (filter (meets (types_of blocks) c) (map one_row (choices (rows_of blocks)))) i in
      let f = from_filter (meets (types_of blocks) c) r.0 (map one_row (choices (rows_of blocks)))
      r.1 in
      let ch = from_map one_row r.0 (choices (rows_of blocks)) f.0 in
      reached blocks [] [] x ch.0 ch.1 (ap (meets (types_of blocks) c) ch.2 ∙ f.1)
      (ap (outputs (types_of blocks) outs) ch.2 ∙ r.2)

  pub answered_reach : (blocks : List Block) (x : List Value) → Reach [] [] blocks x
      → In x (answered_rows outs c blocks)
  answered_reach blocks x r =
      let s = chosen blocks [] [] x r in
      subst (λ (y : List Value). In y (answered_rows outs c blocks)) s.3
      (in_map (outputs (types_of blocks) outs) (one_row s.0)
      (filter (meets (types_of blocks) c) (map one_row (choices (rows_of blocks))))
      (in_filter (meets (types_of blocks) c) (one_row s.0) (map one_row (choices (rows_of blocks)))
      (in_map one_row s.0 (choices (rows_of blocks)) s.1) s.2))

  -- an atom moved to the start of those that are left
  pub moved : (before prefix : List Block) (b : Block) (blocks : List Block) → AreBlocks before
      → AreBlocks prefix → IsBlock b → Apart b.number prefix
      → answered outs c (before ++ (prefix ++ b ∷ blocks))
      ≡ answered outs c (before ++ (b ∷ (prefix ++ blocks)))
  moved before prefix b blocks f g ib far = set_same row_cmp row_exact
      (answered_rows outs c (before ++ (prefix ++ b ∷ blocks)))
      (answered_rows outs c (before ++ (b ∷ (prefix ++ blocks)))) (record {
        there = λ x i. answered_reach (before ++ (b ∷ (prefix ++ blocks))) x
            (later before (prefix ++ b ∷ blocks) (b ∷ (prefix ++ blocks)) [] [] x f
            (λ ds other l r. to_prefix prefix b blocks ds other x g ib far l r) refl
            (reach_answered (before ++ (prefix ++ b ∷ blocks)) x i));
        back = λ x i. answered_reach (before ++ (prefix ++ b ∷ blocks)) x
            (later before (b ∷ (prefix ++ blocks)) (prefix ++ b ∷ blocks) [] [] x f
            (λ ds other l r. from_prefix prefix b blocks ds other x g ib far l r) refl
            (reach_answered (before ++ (b ∷ (prefix ++ blocks))) x i));
      })
