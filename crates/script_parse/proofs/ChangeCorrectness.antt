-- The readers of changes are good for their grammars.
use Rattle.std.proofs.Common.{◌≡◌, ℕ, zero, suc, ◌+◌, Bool, false, cond, ◌||◌, List, [], ◌∷◌, ◌++◌}
use Rattle.std.proofs.Common.{zip, length, inl, inr, refl, sym, ap, ◌∙◌, subst, codes, arith}
use Rattle.prima_base.specs.declared.value.Value.{Value}
use Rattle.cond_expr.specs.Trees.{Test, always}
use Rattle.smo_ops_types.specs.Changes.{PlainChange, insertion, deletion, update}
use Rattle.lexer_spec.specs.Lexemes.{Lexeme, word, sign, is_word, is_sign}
use Rattle.lexer_combinators.specs.Grammar.{Grammar}
use Rattle.lexer_combinators.specs.Parsing.{Parser, IsCorrectParser, Stops, No, Takes, bind, pure}
use Rattle.lexer_combinators.specs.Parsing.{lead, map_to, fresh}
use Rattle.lexer_combinators.specs.Grammar.{Size, no_end, AreMore}
use Rattle.lexer_combinators.specs.Grammar as grammar
use Rattle.lexer_trees_spec.specs.Grammar.{IsExpr, IsCond}
use Rattle.lexer_trees_spec.specs.Reader.{outermost, follow_expr, follow_cond}
use Rattle.lexer_trees_spec.specs.Constants.{name, name_grammar, names, names_grammar, constant}
use Rattle.lexer_trees_spec.specs.Constants.{constant_grammar}
use Rattle.lexer_combinators.proofs.Parsing.{correct_iff, correct_follow, bind_correct, bind_lead}
use Rattle.lexer_combinators.proofs.Parsing.{lead_correct, map_correct, pure_correct}
use Rattle.lexer_combinators.proofs.Parsing.{choose_correct, option_takes_correct}
use Rattle.lexer_spec.proofs.LexemeTests.{word_is, word_exact, sign_is, sign_exact}
use Rattle.lexer_trees_spec.proofs.Singles.{name_correct, names_correct, constant_correct}
use Rattle.lexer_trees_spec.proofs.Correctness.{fresh_expr_correct, fresh_cond_correct}
use Rattle.lexer_trees_spec.specs.Where.{IsFreshWhere, fresh_where, follow_where}
use Rattle.lexer_trees_spec.proofs.Where.{fresh_where_correct}
use Rattle.lexer_combinators.proofs.Alternatives.{stops_never, or_left, or_right, stops_fewer}
use Rattle.lexer_combinators.proofs.Alternatives.{NotFirst, NotNone, lead_not_none, lead_not_first}
use Rattle.lexer_combinators.proofs.Alternatives.{either_not_none, either_not_first, list_correct}
use Rattle.lexer_combinators.proofs.Alternatives.{last_arm, first_arm}
use Rattle.script_parse.specs.Productions.{AreSoMany, IsRow, IsInsert, IsDelete, IsSetting}
use Rattle.script_parse.specs.Productions.{IsUpdate, IsChange}
use Rattle.script_parse.specs.StatementReader.{more_constants, constants, row, insert_rest}
use Rattle.script_parse.specs.StatementReader.{delete_rest, setting, settings, update_rest}
use Rattle.script_parse.specs.StatementReader.{change_arm, change, changes, follow_settings}
use Rattle.script_parse.specs.StatementReader.{follow_change, follow_changes}

-- goes on with nothing
abbrev pub ends : Lexeme → Bool
ends x = false

-- a word, or a sign, and what follows it
pub word_correct : {A : Type 0} (w : List ℕ) (p : Parser A) (G : Grammar A) (follow : Lexeme → Bool)
    → IsCorrectParser 0 32 p G follow → IsCorrectParser 0 32 (lead (is_word w) p)
    (grammar.lead (word w) G) follow
word_correct w p G follow g = lead_correct (is_word w) (word w) (word_is w) (word_exact w) 0 32 p G
    follow g

sign_correct : {A : Type 0} (w : List ℕ) (p : Parser A) (G : Grammar A) (follow : Lexeme → Bool)
    → IsCorrectParser 0 32 p G follow → IsCorrectParser 0 32 (lead (is_sign w) p)
    (grammar.lead (sign w) G) follow
sign_correct w p G follow g = lead_correct (is_sign w) (sign w) (sign_is w) (sign_exact w) 0 32 p G
    follow g

-- a part that ends by itself, and what follows it
pub single_then : {A B : Type 0} (p : Parser A) (f : A → Parser B) (G : Grammar A) (H : A
    → Grammar B) (follow : Lexeme → Bool) →
    IsCorrectParser 0 32 p G ends → ((a : A) → IsCorrectParser 0 32 (f a) (H a) follow)
    → IsCorrectParser 0 32 (bind p f) (grammar.seq G H) follow
single_then p f G H follow g h = bind_correct 0 32 p f G H ends follow g h
    (λ a b s ts rest k stops. stops_never (ts ++ rest))

-- ---- VALUES

-- so many more constants, after some
abbrev SoManyMore : ℕ → ℕ → Grammar (List Value)
SoManyMore n j values s ts = (length values ≡ n)
    × AreMore (sign (codes ",")) no_end constant_grammar j values s ts

-- a constant, and what is read after it
abbrev Next : Grammar (List Value) → Grammar (List Value)
Next G = grammar.seq constant_grammar (λ v. grammar.map (λ l. v ∷ l) G)

module _ (follow : Lexeme → Bool) where
  next_correct : (p : Parser (List Value)) (G : Grammar (List Value))
      → IsCorrectParser 0 32 p G follow → IsCorrectParser 0 32
      (bind constant (λ v. map_to (λ l. v ∷ l) p)) (Next G) follow
  next_correct p G g = single_then constant (λ v. map_to (λ l. v ∷ l) p) constant_grammar
      (λ v. grammar.map (λ l. v ∷ l) G) follow (constant_correct 0 32 ends)
      (λ v. map_correct 0 32 (λ l. v ∷ l) p G follow g)

  no_more_up : (j : ℕ) (l : List Value) (s : Size) (ts : List Lexeme) → grammar.pure [] l s ts
      → SoManyMore 0 j l s ts
  no_more_up j l s ts h = rw h.0 (refl, (h.1, h.2))

  no_more_down : (j : ℕ) (l : List Value) (s : Size) (ts : List Lexeme) → SoManyMore 0 j l s ts
      → grammar.pure [] l s ts
  no_more_down j [] s ts h = (refl, h.1.0, h.1.1)
  no_more_down j (v ∷ l) s ts h = absurd (omega (arith, h.0))

  more_up : (n j : ℕ) (l : List Value) (s : Size) (ts : List Lexeme)
      → grammar.lead (sign (codes ",")) (Next (SoManyMore n (j + 1))) l s ts
      → SoManyMore (suc n) j l s ts
  more_up n j l s ts h =
      let k = h.2 in let m = k.8 in
      rw m.1 (
        ap suc m.2.0,
        (
          k.1,
          k.2,
          k.3,
          k.4,
          k.5,
          h.1 ∙ ap (λ u. sign (codes ",") ∷ u) k.6,
          k.7,
          m.2.1,
        ),
      )

  more_down : (n j : ℕ) (l : List Value) (s : Size) (ts : List Lexeme) → SoManyMore (suc n) j l s ts
      → grammar.lead (sign (codes ",")) (Next (SoManyMore n (j + 1))) l s ts
  more_down n j [] s ts h = absurd (omega (arith, h.0))
  more_down n j (v ∷ l) s ts h = let k = h.1 in (
    k.2 ++ k.3,
    k.5,
    (
      v,
      k.0,
      k.1,
      k.2,
      k.3,
      k.4,
      refl,
      k.6,
      (l, refl, ((let z : length l ≡ n = omega (arith, h.0) in z), k.7)),
    ),
  )

  more_constants_correct : (n j : ℕ) → IsCorrectParser 0 32 (more_constants n) (SoManyMore n j)
      follow
  unfolding more_constants
  more_constants_correct zero j = correct_iff 0 32 (pure []) (grammar.pure []) (SoManyMore 0 j)
      follow (no_more_up j) (no_more_down j) (pure_correct 0 32 [] follow)
  more_constants_correct (suc n) j =
      correct_iff 0 32 _ _ (SoManyMore (suc n) j) follow (more_up n j) (more_down n j)
      (sign_correct (codes ",") (bind constant (λ v. map_to (λ l. v ∷ l) (more_constants n)))
      (Next (SoManyMore n (j + 1))) follow
      (next_correct (more_constants n) (SoManyMore n (j + 1))
      (more_constants_correct n (j + 1))))

  none_up : (l : List Value) (s : Size) (ts : List Lexeme) → grammar.pure [] l s ts
      → AreSoMany 0 l s ts
  none_up l s ts h = rw h.0 (refl, (h.1, h.2))

  none_down : (l : List Value) (s : Size) (ts : List Lexeme) → AreSoMany 0 l s ts
      → grammar.pure [] l s ts
  none_down [] s ts h = (refl, h.1.0, h.1.1)
  none_down (v ∷ l) s ts h = absurd (omega (arith, h.0))

  some_up : (n : ℕ) (l : List Value) (s : Size) (ts : List Lexeme) → Next (SoManyMore n 0) l s ts
      → AreSoMany (suc n) l s ts
  some_up n l s ts h = let m = h.8 in rw m.1 (
    ap suc m.2.0,
    (h.0, h.1, h.2, h.3, h.4, h.5, h.6, h.7, (m.0, refl, m.2.1)),
  )

  some_down : (n : ℕ) (l : List Value) (s : Size) (ts : List Lexeme) → AreSoMany (suc n) l s ts
      → Next (SoManyMore n 0) l s ts
  some_down n [] s ts h = absurd (omega (arith, h.0))
  some_down n (v ∷ l) s ts h =
      let k = h.1 in
      let m = k.8 in
      let z : v ∷ l ≡ k.0 ∷ m.0 = m.1 in
      let few : length m.0 ≡ n = omega (arith, h.0, ap length z) in
      (k.0, k.1, k.2, k.3, k.4, k.5, k.6, k.7, (m.0, z, (few, m.2)))

  constants_correct : (n : ℕ) → IsCorrectParser 0 32 (constants n) (AreSoMany n) follow
  unfolding constants
  constants_correct zero = correct_iff 0 32 (pure []) (grammar.pure []) (AreSoMany 0) follow none_up
      none_down (pure_correct 0 32 [] follow)
  constants_correct (suc n) = correct_iff 0 32 _ _ (AreSoMany (suc n)) follow (some_up n)
      (some_down n) (next_correct (more_constants n) (SoManyMore n 0) (more_constants_correct n 0))

row_correct : (ns : List (List ℕ)) (follow : Lexeme → Bool)
    → IsCorrectParser 0 32 (row ns) (IsRow ns) follow
unfolding row
row_correct ns follow = sign_correct (codes "(") _ _ follow
    (bind_lead 0 32 (constants (length ns)) _ (AreSoMany (length ns)) (sign (codes ")"))
    (λ l. grammar.pure (zip ns l)) ends follow refl (constants_correct ends (length ns))
    (λ l. sign_correct (codes ")") (pure (zip ns l)) (grammar.pure (zip ns l)) follow
    (pure_correct 0 32 (zip ns l) follow)))

-- ---- changes

pub where_change : (x : Lexeme) → follow_change x ≡ false → follow_where false x ≡ false
where_change x h = or_right (follow_settings x) (follow_where false x) h

where_then : IsCorrectParser 0 32 (fresh_where false) (IsFreshWhere false) follow_change
where_then = correct_follow 0 32 (fresh_where false) (IsFreshWhere false) (follow_where false)
    follow_change where_change (fresh_where_correct false)

pub settings_change : (x : Lexeme) → follow_change x ≡ false → follow_settings x ≡ false
settings_change x h = or_left (follow_settings x) (follow_where false x) h

-- after INSERT, DELETE and UPDATE
abbrev InsertRest : Grammar PlainChange
InsertRest = grammar.lead (word (codes "INTO"))
    (grammar.seq name_grammar (λ t. grammar.lead (sign (codes "("))
    (grammar.seq names_grammar (λ ns. grammar.lead (sign (codes ")"))
    (grammar.lead (word (codes "VALUES")) (grammar.map (λ l. insertion t l) (IsRow ns)))))))

abbrev DeleteRest : Grammar PlainChange
DeleteRest = grammar.lead (word (codes "FROM"))
    (grammar.seq name_grammar (λ t. grammar.map (λ c. deletion t c) (IsFreshWhere false)))

abbrev UpdateRest : Grammar PlainChange
UpdateRest = grammar.seq name_grammar (λ t. grammar.lead (word (codes "SET"))
    (grammar.seq (grammar.list (sign (codes ",")) IsSetting)
    (λ l. grammar.map (λ c. update t l c) (IsFreshWhere false))))

insert_correct : IsCorrectParser 0 32 insert_rest InsertRest follow_change
unfolding insert_rest
insert_correct = word_correct (codes "INTO") _ _ follow_change
    (single_then name _ name_grammar _ follow_change (name_correct 0 32 ends)
    (λ t. sign_correct (codes "(") _ _ follow_change
    (bind_lead 0 32 names _ names_grammar (sign (codes ")")) _ (λ x. is_sign (codes ",") x || false)
    follow_change refl (names_correct 32) (λ ns. sign_correct (codes ")") _ _ follow_change
    (word_correct (codes "VALUES") _ _ follow_change
    (map_correct 0 32 (λ l. insertion t l) (row ns) (IsRow ns) follow_change
    (row_correct ns follow_change)))))))

delete_correct : IsCorrectParser 0 32 delete_rest DeleteRest follow_change
unfolding delete_rest
delete_correct = word_correct (codes "FROM") _ _ follow_change
    (single_then name _ name_grammar _ follow_change (name_correct 0 32 ends)
    (λ t. map_correct 0 32 (λ c. deletion t c) (fresh_where false) (IsFreshWhere false)
    follow_change where_then))

pub setting_correct : IsCorrectParser 0 32 setting IsSetting (follow_expr false)
unfolding setting
setting_correct = single_then name _ name_grammar _ (follow_expr false) (name_correct 0 32 ends)
    (λ n. sign_correct (codes "=") _ _ (follow_expr false)
    (map_correct 0 32 (λ e. (n, e)) (fresh (outermost false).expr) (grammar.fresh (IsExpr false))
    (follow_expr false) (fresh_expr_correct false 0)))

settings_correct : IsCorrectParser 0 32 settings (grammar.list (sign (codes ",")) IsSetting)
    follow_settings
unfolding settings
settings_correct = list_correct (is_sign (codes ",")) (sign (codes ",")) (sign_is (codes ","))
    (sign_exact (codes ",")) 32 setting IsSetting (follow_expr false) setting_correct refl

-- a WHERE, or what no change goes on with
pub where_side : (c : Test) (s : Size) (ts rest : List Lexeme) → IsFreshWhere false c s ts
    → Stops follow_change rest → Stops follow_settings (ts ++ rest)
where_side c s ts rest (inl k) stops = let P : List Lexeme
    → Type 0 = λ u. Stops follow_settings (u ++ rest) in
    subst P (sym k.2) (stops_fewer follow_settings follow_change settings_change rest stops)
where_side c s ts rest (inr k) stops = let P : List Lexeme
    → Type 0 = λ u. Stops follow_settings (u ++ rest) in subst P (sym k.1) refl

update_correct : IsCorrectParser 0 32 update_rest UpdateRest follow_change
unfolding update_rest
update_correct = single_then name _ name_grammar _ follow_change (name_correct 0 32 ends)
    (λ t. word_correct (codes "SET") _ _ follow_change
    (bind_correct 0 32 settings (λ l. map_to (λ c. update t l c) (fresh_where false))
    (grammar.list (sign (codes ",")) IsSetting)
    (λ l. grammar.map (λ c. update t l c) (IsFreshWhere false)) follow_settings follow_change
    settings_correct
    (λ l. map_correct 0 32 (λ c. update t l c) (fresh_where false) (IsFreshWhere false)
    follow_change where_then)
    (λ l c s ts rest h stops. where_side h.0 s ts rest h.2 stops)))

-- no change is without a lexeme
pub change_not_none : NotNone IsChange
change_not_none = either_not_none IsInsert (grammar.alt IsDelete IsUpdate)
    (lead_not_none (word (codes "INSERT")) InsertRest)
    (either_not_none IsDelete IsUpdate (lead_not_none (word (codes "DELETE")) DeleteRest)
    (lead_not_none (word (codes "UPDATE")) UpdateRest))

-- a word with which no change begins
pub change_not_first : (w : List ℕ) → is_word (codes "INSERT") (word w) ≡ false
    → is_word (codes "DELETE") (word w) ≡ false → is_word (codes "UPDATE") (word w) ≡ false
    → NotFirst IsChange (word w)
change_not_first w e f g = either_not_first (word w) IsInsert (grammar.alt IsDelete IsUpdate)
    (apart (codes "INSERT") InsertRest e) (either_not_first (word w) IsDelete IsUpdate
    (apart (codes "DELETE") DeleteRest f) (apart (codes "UPDATE") UpdateRest g))
  where
    apart : (v : List ℕ) (G : Grammar PlainChange) → is_word v (word w) ≡ false
        → NotFirst (grammar.lead (word v) G) (word w)
    apart v G h = lead_not_first (is_word v) (word w) (word v) G h (word_is v)

pub change_correct : IsCorrectParser 0 32 change IsChange follow_change
unfolding change
change_correct = choose_correct 0 32 change_arm IsChange follow_change
    (deletion_live insert_correct.live) change_not_none
    (λ x. first_arm (is_word (codes "INSERT")) (word (codes "INSERT")) (word_is (codes "INSERT"))
    (word_exact (codes "INSERT")) 32 insert_rest InsertRest follow_change insert_correct
    (λ y. cond (is_word (codes "DELETE") y) (Takes delete_rest)
    (cond (is_word (codes "UPDATE") y) (Takes update_rest) No)) (grammar.alt IsDelete IsUpdate)
    (either_not_first (word (codes "INSERT")) IsDelete IsUpdate
    (lead_not_first (is_word (codes "DELETE")) (word (codes "INSERT")) (word (codes "DELETE"))
    DeleteRest refl (word_is (codes "DELETE")))
    (lead_not_first (is_word (codes "UPDATE")) (word (codes "INSERT")) (word (codes "UPDATE"))
    UpdateRest refl (word_is (codes "UPDATE")))) x
    (first_arm (is_word (codes "DELETE")) (word (codes "DELETE")) (word_is (codes "DELETE"))
    (word_exact (codes "DELETE")) 32 delete_rest DeleteRest follow_change delete_correct
    (λ y. cond (is_word (codes "UPDATE") y) (Takes update_rest) No) IsUpdate
    (lead_not_first (is_word (codes "UPDATE")) (word (codes "DELETE")) (word (codes "UPDATE"))
    UpdateRest refl (word_is (codes "UPDATE"))) x
    (last_arm (is_word (codes "UPDATE")) (word (codes "UPDATE")) (word_is (codes "UPDATE"))
    (word_exact (codes "UPDATE")) 32 update_rest UpdateRest follow_change update_correct x)))
  where
    deletion_live : (a : PlainChange) × (s : Size) × (ts : List Lexeme) × InsertRest a s ts
        → (a : PlainChange) × (s : Size) × (ts : List Lexeme) × IsChange a s ts
    deletion_live l = (l.0, l.1, word (codes "INSERT") ∷ l.2, inl (l.2, refl, l.3))

pub changes_correct : IsCorrectParser 0 32 changes (grammar.list (word (codes "THEN")) IsChange)
    follow_changes
unfolding changes
changes_correct = list_correct (is_word (codes "THEN")) (word (codes "THEN"))
    (word_is (codes "THEN")) (word_exact (codes "THEN")) 32 change IsChange follow_change
    change_correct refl
