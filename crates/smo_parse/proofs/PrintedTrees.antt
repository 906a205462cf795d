-- What can be read prints as a text whose tokens spell it, with no more constructs open than the
-- tree is deep.
use Rattle.std.proofs.Common.{◌≡◌, ℕ, ◌+◌, ◌≤◌, max, Bool, true, false, List, [], ◌∷◌, ◌++◌, codes}
use Rattle.std.proofs.Common.{refl, sym, ap, ◌∙◌, subst, append_assoc, arith}
use Rattle.std.proofs.Math.Nat.{le-max_left, le-max_right, max-le}
use Rattle.prima_base.specs.Bytes.{IsName, IsTxt}
use Rattle.prima_base.specs.declared.refusal.What.{What}
use Rattle.prima_base.specs.declared.refusal.What.TheVariants as what
use Rattle.cond_expr.specs.declared.expr.CmpOp.{CmpOp}
use Rattle.cond_expr.specs.declared.expr.CmpOp.TheVariants.{Eq, Ne, Lt, Le, Gt, Ge}
use Rattle.cond_expr.specs.Trees.{Tree, Test, never, always, all_of, some_of, fails, compared}
use Rattle.cond_expr.specs.Trees.{a_test}
use Rattle.cond_expr.specs.Seen.{trees_of, tests_of}
use Rattle.cond_expr.specs.Sizes.{depth_of, trees_depth, test_depth, tests_depth}
use Rattle.lexer_spec.specs.Lexemes.{Lexeme, word, number, text, sign, is_name}
use Rattle.lexer_combinators.specs.Grammar.{Size, nothing_counted, both, one_node, one_open}
use Rattle.lexer_combinators.specs.Grammar.{so_wide}
use Rattle.lexer_trees_spec.specs.Grammar as g
use Rattle.lexer_trees_spec.specs.Grammar.{comparison_lexeme, leaf, IsExpr, AreParts, IsFact}
use Rattle.lexer_trees_spec.specs.Grammar.{AreFacts}
use Rattle.lexer_trees_spec.specs.Grammar.{IsConj}
use Rattle.lexer_trees_spec.specs.Grammar.{AreConjs, IsCond}
use Rattle.smo_parse.specs.TreeTexts.{sign_text, tree_text, more_trees_text, test_text}
use Rattle.smo_parse.specs.TreeTexts.{more_tests_text}
use Rattle.smo_parse.proofs.Spellings.{Closing, any_int}
use Rattle.smo_parse.proofs.Spelled.{Spells, none, a_space, a_token, an_open, a_point, single, join}
use Rattle.smo_parse.proofs.Spelled.{as_text, right3, right5, right7}

-- ---- lexemes that were read from a text

-- what a word that is a name holds, and what a text stands for
abbrev pub Valid : Lexeme → Type 0
Valid (word w) = is_name w ≡ true → IsName w
Valid (number z) = Unit {0}
Valid (text t) = IsTxt t
Valid (sign s) = Unit {0}

abbrev pub AllValid : List Lexeme → Type 0
AllValid [] = Unit {0}
AllValid (x ∷ f) = Valid x × AllValid f

pub valid_left : (f g : List Lexeme) → AllValid (f ++ g) → AllValid f
valid_left [] g h = tt
valid_left (x ∷ f) g h = (h.0, valid_left f g h.1)

pub valid_right : (f g : List Lexeme) → AllValid (f ++ g) → AllValid g
valid_right [] g h = h
valid_right (x ∷ f) g h = valid_right f g h.1

-- ---- words and signs

-- a reserved word has the form of a name
pub CASE : IsName (codes "CASE")
CASE = record { some = omega arith; short = omega arith; valid = refl }

pub WHEN : IsName (codes "WHEN")
WHEN = record { some = omega arith; short = omega arith; valid = refl }

pub THEN : IsName (codes "THEN")
THEN = record { some = omega arith; short = omega arith; valid = refl }

pub ELSE : IsName (codes "ELSE")
ELSE = record { some = omega arith; short = omega arith; valid = refl }

pub END : IsName (codes "END")
END = record { some = omega arith; short = omega arith; valid = refl }

pub LENGTH : IsName (codes "LENGTH")
LENGTH = record { some = omega arith; short = omega arith; valid = refl }

pub CONCAT : IsName (codes "CONCAT")
CONCAT = record { some = omega arith; short = omega arith; valid = refl }

pub AND : IsName (codes "AND")
AND = record { some = omega arith; short = omega arith; valid = refl }

pub OR : IsName (codes "OR")
OR = record { some = omega arith; short = omega arith; valid = refl }

pub NOT : IsName (codes "NOT")
NOT = record { some = omega arith; short = omega arith; valid = refl }

pub TRUE : IsName (codes "TRUE")
TRUE = record { some = omega arith; short = omega arith; valid = refl }

pub FALSE : IsName (codes "FALSE")
FALSE = record { some = omega arith; short = omega arith; valid = refl }

abbrev pub OPEN : Lexeme
OPEN = sign (codes "(")

abbrev pub CLOSE : Lexeme
CLOSE = sign (codes ")")

-- in brackets
pub in_brackets : (f : List Lexeme) (bytes : List ℕ) → Spells f bytes
    → Spells (OPEN ∷ (f ++ CLOSE ∷ [])) (40 ∷ (bytes ++ 41 ∷ []))
in_brackets f bytes s = an_open (f ++ CLOSE ∷ []) (bytes ++ 41 ∷ [])
    (join f (CLOSE ∷ []) bytes (41 ∷ []) s (single CLOSE refl) refl)

-- between spaces
compares : (o : CmpOp) (f : List Lexeme) (suffix : List ℕ) → Spells f suffix
    → Spells (comparison_lexeme o ∷ f) (32 ∷ (sign_text o ++ 32 ∷ suffix))
compares Eq f suffix s = a_space _ _ (a_token (comparison_lexeme Eq) f (32 ∷ suffix) refl refl
    (a_space f suffix s))
compares Ne f suffix s = a_space _ _ (a_token (comparison_lexeme Ne) f (32 ∷ suffix) refl refl
    (a_space f suffix s))
compares Lt f suffix s = a_space _ _ (a_token (comparison_lexeme Lt) f (32 ∷ suffix) refl refl
    (a_space f suffix s))
compares Le f suffix s = a_space _ _ (a_token (comparison_lexeme Le) f (32 ∷ suffix) refl refl
    (a_space f suffix s))
compares Gt f suffix s = a_space _ _ (a_token (comparison_lexeme Gt) f (32 ∷ suffix) refl refl
    (a_space f suffix s))
compares Ge f suffix s = a_space _ _ (a_token (comparison_lexeme Ge) f (32 ∷ suffix) refl refl
    (a_space f suffix s))

-- a word between spaces, and what follows
pub spaced : (w : List ℕ) (f : List Lexeme) (suffix : List ℕ) → IsName w → Spells f suffix
    → Spells (word w ∷ f) (32 ∷ (w ++ 32 ∷ suffix))
spaced w f suffix h s = a_space _ _ (a_token (word w) f (32 ∷ suffix) h refl (a_space f suffix s))

-- a first word
pub first : (w : List ℕ) (f : List Lexeme) (suffix : List ℕ) → IsName w → Spells f suffix
    → Spells (word w ∷ f) (w ++ 32 ∷ suffix)
first w f suffix h s = a_token (word w) f (32 ∷ suffix) h refl (a_space f suffix s)

-- ---- what is printed

-- lexemes of the grammar that the text spells, of so many nodes and lists as long, with no more
-- open at once than so many
pub record Printed (G : Size → List Lexeme → Type 0) (nodes : ℕ) (wide : What → ℕ) (deep : ℕ)
    (bytes : List ℕ) : Type 0 where
  pub size : Size
  pub prefix : List Lexeme
  pub same : G size prefix
  pub as_many : size.nodes ≡ nodes
  pub as_wide : (w : What) → size.wide w ≡ wide w
  pub no_deeper : size.depth ≤ deep
  pub spells : Spells prefix bytes

-- as a part of another condition, and by itself
pub record BothWays (q : Bool) (c : Test) (nodes : ℕ) (wide : What → ℕ) : Type 0 where
  pub part : Printed (IsFact q c) nodes wide (test_depth c) (test_text false true c)
  pub whole : Printed (IsCond q c) nodes wide (test_depth c) (test_text false false c)

as_conj : (q : Bool) (c : Test) (nodes : ℕ) (wide : What → ℕ) (deep : ℕ) (bytes : List ℕ)
    → Printed (IsFact q c) nodes wide deep bytes → Printed (IsConj q c) nodes wide deep bytes
as_conj q c nodes wide deep bytes p = record {
  size = p.size;
  prefix = p.prefix;
  same =
      g.one_fact q c p.size p.prefix p.same;
  as_many = p.as_many;
  as_wide = p.as_wide;
  no_deeper =
      p.no_deeper;
  spells = p.spells;
}

as_cond : (q : Bool) (c : Test) (nodes : ℕ) (wide : What → ℕ) (deep : ℕ) (bytes : List ℕ)
    → Printed (IsConj q c) nodes wide deep bytes → Printed (IsCond q c) nodes wide deep bytes
as_cond q c nodes wide deep bytes p = record {
  size = p.size;
  prefix = p.prefix;
  same =
      g.one_conj q c p.size p.prefix p.same;
  as_many = p.as_many;
  as_wide = p.as_wide;
  no_deeper =
      p.no_deeper;
  spells = p.spells;
}

-- what has no brackets as a part
same_ways : (q : Bool) (c : Test) (nodes : ℕ) (wide : What → ℕ)
    → test_text false true c ≡ test_text false false c
    → Printed (IsFact q c) nodes wide (test_depth c) (test_text false true c)
    → BothWays q c nodes wide
same_ways q c nodes wide e p =
    let P : List ℕ → Type 0 = λ l. Printed (IsCond q c) nodes wide (test_depth c) l in
    record {
      part = p;
      whole = subst P e (as_cond q c nodes wide (test_depth c)
          (test_text false true c)
          (as_conj q c nodes wide (test_depth c) (test_text false true c) p));
    }

-- one less than the depth by itself, and in brackets as a part
bracket_ways : (q : Bool) (c : Test) (nodes : ℕ) (wide : What → ℕ) (deep : ℕ)
    → test_depth c ≡ deep + 1 → test_text false true c ≡ 40 ∷ (test_text false false c ++ 41 ∷ [])
    → Printed (IsCond q c) nodes wide deep (test_text false false c) → BothWays q c nodes wide
bracket_ways q c nodes wide deep e f p =
    let P : List ℕ → Type 0 = λ l. Spells (OPEN ∷ (p.prefix ++ CLOSE ∷ [])) l in
    record {
      part = record {
        size = one_open p.size;
        prefix = OPEN ∷ (p.prefix ++ CLOSE ∷ []);
        same = g.bracketed q c p.size p.prefix p.same;
        as_many = p.as_many;
        as_wide = p.as_wide;
        no_deeper = omega (arith, p.no_deeper, e);
        spells = subst P (sym f) (in_brackets p.prefix (test_text false false c) p.spells);
      };
      whole = record {
        size = p.size;
        prefix = p.prefix;
        same = p.same;
        as_many = p.as_many;
        as_wide = p.as_wide;
        no_deeper = omega (arith, p.no_deeper, e);
        spells = p.spells;
      };
    }

wide_too : (a b c d : ℕ) → a ≡ c → b ≡ d → max a b ≡ max c d
wide_too a b c d e f = ap (λ x. max x b) e ∙ ap (max c) f

deep_too : (a b c d : ℕ) → a ≤ c → b ≤ d → max a b ≤ max c d
deep_too a b c d e f = max-le (omega (arith, e, le-max_left c d))
    (omega (arith, f, le-max_right c d))

-- a name after a point
pointed : (a n : List ℕ) → Spells (word a ∷ sign (codes ".") ∷ word n ∷ []) (a ++ 46 ∷ n)
    → Spells (word a ∷ sign (codes ".") ∷ word n ∷ []) (a ++ codes "." ++ n)
pointed a n h = as_text _ (a ++ codes "." ++ n) (a ++ 46 ∷ n) (right3 a (codes ".") n) h

-- ---- what stands after parts

more_trees_close : (l : List Tree) (suffix : List ℕ) → Closing suffix
    → Closing (more_trees_text false (trees_of l) ++ suffix)
more_trees_close [] suffix h = h
more_trees_close (e ∷ l) suffix h = refl

more_close : (l : List Tree) → Closing (more_trees_text false (trees_of l))
more_close [] = tt
more_close (e ∷ l) = refl

more_tests_close : (w : List ℕ) (l : List Test)
    → Closing (more_tests_text false (32 ∷ w) (tests_of l))
more_tests_close w [] = tt
more_tests_close w (c ∷ l) = refl

-- ---- whatever can be read

mutual
  pub expr_printed : (q : Bool) (e : Tree) (s : Size) (f : List Lexeme) → IsExpr q e s f
      → AllValid f → Printed (IsExpr q e) s.nodes s.wide (depth_of e) (tree_text false e)
  expr_printed q e s f (g.an_int p z h) r = record {
    size = leaf;
    prefix = number z ∷ [];
    same =
        g.an_int p z h;
    as_many = refl;
    as_wide = λ w. refl;
    no_deeper = omega arith;
    spells =
        single (number z) (any_int z h);
  }
  expr_printed q e s f (g.a_text p t) r = record {
    size = leaf;
    prefix = text t ∷ [];
    same =
        g.a_text p t;
    as_many = refl;
    as_wide = λ w. refl;
    no_deeper = omega arith;
    spells =
        single (text t) r.0;
  }
  expr_printed q e s f (g.of_atom n h) r = record {
    size = leaf;
    prefix = word n ∷ [];
    same =
        g.of_atom n h;
    as_many = refl;
    as_wide = λ w. refl;
    no_deeper = omega arith;
    spells =
        single (word n) (r.0 h);
  }
  expr_printed q e s f (g.of_free n h) r = record {
    size = leaf;
    prefix = word n ∷ [];
    same =
        g.of_free n h;
    as_many = refl;
    as_wide = λ w. refl;
    no_deeper = omega arith;
    spells =
        single (word n) (r.0 h);
  }
  expr_printed q e s f (g.of_alias a n h k) r =
      let t : Spells (word a ∷ sign (codes ".") ∷ word n ∷ []) (a ++ 46 ∷ n) =
      a_token (word a) (sign (codes ".") ∷ word n ∷ []) (46 ∷ n) (r.0 h) refl
      (a_point (word n ∷ []) n (single (word n) (r.1.1.0 k))) in
      record {
        size = leaf;
        prefix = word a ∷ sign (codes ".") ∷ word n ∷ [];
        same =
            g.of_alias a n h k;
        as_many = refl;
        as_wide = λ w. refl;
        no_deeper = omega arith;
        spells =
            pointed a n t;
      }
  expr_printed q e s f (g.a_length p x u k h) r =
      let i = expr_printed p x u k h (valid_left k (CLOSE ∷ []) r.1.1) in
      record {
        size = one_node (one_open i.size);
        prefix = word (codes "LENGTH") ∷ OPEN ∷ (i.prefix ++ CLOSE ∷ []);
        same = g.a_length p x i.size i.prefix i.same;
        as_many = ap (λ n. n + 1) i.as_many;
        as_wide = i.as_wide;
        no_deeper = omega (arith, i.no_deeper);
        spells = as_text _ _ _ (right3 (codes "LENGTH(") (tree_text false x) (codes ")"))
            (a_token (word (codes "LENGTH")) _ _ LENGTH refl
            (in_brackets i.prefix (tree_text false x) i.spells));
      }
  expr_printed q e s f (g.a_concat p x l u v k m h hl) r =
      let i = expr_printed p x u k h (valid_left k (m ++ CLOSE ∷ []) r.1.1) in
      let j = parts_printed p 1 l v m hl (valid_left m (CLOSE ∷ [])
      (valid_right k (m ++ CLOSE ∷ []) r.1.1)) in
      record {
        size = one_node (one_open (both i.size j.size));
        prefix = word (codes "CONCAT") ∷ OPEN ∷ (i.prefix ++ (j.prefix ++ CLOSE ∷ []));
        same = g.a_concat p x l i.size j.size i.prefix j.prefix i.same j.same;
        as_many = omega (arith, i.as_many, j.as_many);
        as_wide = λ w. wide_too _ _ _ _ (i.as_wide w) (j.as_wide w);
        no_deeper = omega (
          arith,
          deep_too i.size.depth j.size.depth (depth_of x)
              (trees_depth (trees_of l)) i.no_deeper j.no_deeper,
        );
        spells = as_text _ _ _ (right3 (codes "CONCAT(")
            (tree_text false x ++ more_trees_text false (trees_of l)) (codes ")")
            ∙ ap (λ b. codes "CONCAT(" ++ b) (append_assoc (tree_text false x)
            (more_trees_text false (trees_of l)) (codes ")")))
            (a_token (word (codes "CONCAT")) _ _ CONCAT refl (an_open _ _
            (join i.prefix (j.prefix ++ CLOSE ∷ []) (tree_text false x)
            (more_trees_text false (trees_of l) ++ 41 ∷ []) i.spells
            (join j.prefix (CLOSE ∷ []) (more_trees_text false (trees_of l)) (41 ∷ []) j.spells
            (single CLOSE refl) refl)
            (more_trees_close l (41 ∷ []) refl))));
      }
  expr_printed q e s f (g.a_case p c a b u v w k m o hc ha hb) r =
      let i = (cond_printed p c u k hc (valid_left k _ r.1.1)).whole in
      let r2 = valid_right k _ r.1.1 in
      let j = expr_printed p a v m ha (valid_left m _ r2.1) in
      let r3 = valid_right m _ r2.1 in
      let y = expr_printed p b w o hb (valid_left o _ r3.1) in
      record {
        size = one_node (one_open (both i.size (both j.size y.size)));
        prefix = word (codes "CASE") ∷ word (codes "WHEN")
            ∷ (i.prefix ++ word (codes "THEN")
            ∷ (j.prefix ++ word (codes "ELSE") ∷ (y.prefix ++ word (codes "END") ∷ [])));
        same = g.a_case p c a b i.size j.size y.size i.prefix j.prefix y.prefix i.same j.same
            y.same;
        as_many = omega (arith, i.as_many, j.as_many, y.as_many);
        as_wide = λ z. wide_too _ _ _ _ (i.as_wide z)
            (wide_too _ _ _ _ (j.as_wide z) (y.as_wide z));
        no_deeper = omega (
          arith,
          deep_too i.size.depth (max j.size.depth y.size.depth)
              (test_depth c) (max (depth_of a) (depth_of b)) i.no_deeper
              (deep_too j.size.depth y.size.depth (depth_of a) (depth_of b) j.no_deeper
              y.no_deeper),
        );
        spells = as_text _ _ _ (right7 (codes "CASE WHEN ") (test_text false false c)
            (codes " THEN ") (tree_text false a) (codes " ELSE ") (tree_text false b)
            (codes " END")) (first (codes "CASE") _ _ CASE (first (codes "WHEN") _ _ WHEN
            (join i.prefix _ (test_text false false c) _ i.spells (spaced (codes "THEN") _ _ THEN
            (join j.prefix _ (tree_text false a) _ j.spells (spaced (codes "ELSE") _ _ ELSE
            (join y.prefix _ (tree_text false b) (codes " END") y.spells
            (a_space _ _ (single (word (codes "END")) END)) refl)) refl)) refl)));
      }

  parts_printed : (q : Bool) (j : ℕ) (l : List Tree) (s : Size) (f : List Lexeme)
      → AreParts q j l s f → AllValid f → Printed (AreParts q j l) s.nodes s.wide
      (trees_depth (trees_of l)) (more_trees_text false (trees_of l))
  parts_printed q j l s f (g.no_part p i) r =
      record {
        size = so_wide what.Parts i;
        prefix = [];
        same = g.no_part p i;
        as_many = refl;
        as_wide = λ w. refl;
        no_deeper = omega arith;
        spells = none;
      }
  parts_printed q j l s f (g.a_part p n e others u v k m h hl) r =
      let i = expr_printed p e u k h (valid_left k m r.1) in
      let y = parts_printed p (n + 1) others v m hl (valid_right k m r.1) in
      record {
        size = both i.size y.size;
        prefix = sign (codes ",") ∷ (i.prefix ++ y.prefix);
        same = g.a_part p n e others i.size y.size i.prefix y.prefix i.same y.same;
        as_many = omega (arith, i.as_many, y.as_many);
        as_wide = λ w. wide_too _ _ _ _ (i.as_wide w) (y.as_wide w);
        no_deeper = deep_too i.size.depth y.size.depth (depth_of e) (trees_depth (trees_of others))
            i.no_deeper y.no_deeper;
        spells = as_text _ _ _ (right3 (codes ", ") (tree_text false e)
            (more_trees_text false (trees_of others)))
            (a_token (sign (codes ",")) _ _ refl refl
            (a_space _ _ (join i.prefix y.prefix (tree_text false e)
            (more_trees_text false (trees_of others)) i.spells y.spells (more_close others))));
      }

  fact_printed : (q : Bool) (c : Test) (s : Size) (f : List Lexeme) → IsFact q c s f → AllValid f
      → BothWays q c s.nodes s.wide
  fact_printed q c s f (g.negated p d u k h) r =
      let i = (fact_printed p d u k h r.1).part in
      same_ways p (fails d) (one_node (one_open u)).nodes u.wide refl (record {
        size = one_node (one_open i.size);
        prefix = word (codes "NOT") ∷ i.prefix;
        same = g.negated p d i.size i.prefix i.same;
        as_many = ap (λ n. n + 1) i.as_many;
        as_wide = i.as_wide;
        no_deeper = omega (arith, i.no_deeper);
        spells = first (codes "NOT") _ _ NOT i.spells;
      })
  fact_printed q c s f (g.bracketed p d u k h) r =
      cond_printed p d u k h (valid_left k (CLOSE ∷ []) r.1)
  fact_printed q c s f (g.truth p) r =
      same_ways p always 1 (λ w. 0) refl (record {
        size = leaf;
        prefix = word (codes "TRUE") ∷ [];
        same = g.truth p;
        as_many = refl;
        as_wide = λ w. refl;
        no_deeper = omega arith;
        spells =
            single (word (codes "TRUE")) TRUE;
      })
  fact_printed q c s f (g.falsehood p) r =
      same_ways p never 1 (λ w. 0) refl (record {
        size = leaf;
        prefix = word (codes "FALSE") ∷ [];
        same = g.falsehood p;
        as_many = refl;
        as_wide = λ w. refl;
        no_deeper = omega arith;
        spells =
            single (word (codes "FALSE")) FALSE;
      })
  fact_printed q c s f (g.comparison p o a b u v k m ha hb) r =
      let i = expr_printed p a u k ha (valid_left k (comparison_lexeme o ∷ m) r) in
      let j = expr_printed p b v m hb (valid_right k (comparison_lexeme o ∷ m) r).1 in
      same_ways p (compared o a b) (both u (one_node v)).nodes (both u (one_node v)).wide refl
      (record {
        size = both i.size (one_node j.size);
        prefix = i.prefix ++ comparison_lexeme o ∷ j.prefix;
        same = g.comparison p o a b i.size j.size i.prefix j.prefix i.same j.same;
        as_many = omega (arith, i.as_many, j.as_many);
        as_wide = λ w. wide_too _ _ _ _ (i.as_wide w) (j.as_wide w);
        no_deeper = omega (
          arith,
          deep_too i.size.depth j.size.depth (depth_of a) (depth_of b)
              i.no_deeper j.no_deeper,
        );
        spells = as_text _ _ _ (right5 (tree_text false a) (codes " ") (sign_text o) (codes " ")
            (tree_text false b)) (join i.prefix (comparison_lexeme o ∷ j.prefix) (tree_text false a)
            (32 ∷ (sign_text o ++ 32 ∷ tree_text false b)) i.spells
            (compares o j.prefix (tree_text false b) j.spells) refl);
      })

  facts_printed : (q : Bool) (l : List Test) (s : Size) (f : List Lexeme) → AreFacts q l s f
      → AllValid f → Printed (AreFacts q l) s.nodes s.wide (tests_depth (tests_of l))
      (more_tests_text false (codes " AND ") (tests_of l))
  facts_printed q l s f (g.no_fact p) r = record {
    size = nothing_counted;
    prefix = [];
    same =
        g.no_fact p;
    as_many = refl;
    as_wide = λ w. refl;
    no_deeper = omega arith;
    spells = none;
  }
  facts_printed q l s f (g.a_fact p c others u v k m h hl) r =
      let i = (fact_printed p c u k h (valid_left k m r.1)).part in
      let y = facts_printed p others v m hl (valid_right k m r.1) in
      record {
        size = both i.size y.size;
        prefix = word (codes "AND") ∷ (i.prefix ++ y.prefix);
        same = g.a_fact p c others i.size y.size i.prefix y.prefix i.same y.same;
        as_many = omega (arith, i.as_many, y.as_many);
        as_wide = λ w. wide_too _ _ _ _ (i.as_wide w) (y.as_wide w);
        no_deeper = deep_too i.size.depth y.size.depth (test_depth c)
            (tests_depth (tests_of others)) i.no_deeper y.no_deeper;
        spells = as_text _ _ _ (right3 (codes " AND ") (test_text false true c)
            (more_tests_text false (codes " AND ") (tests_of others)))
            (spaced (codes "AND") _ _ AND (join i.prefix y.prefix (test_text false true c)
            (more_tests_text false (codes " AND ") (tests_of others)) i.spells y.spells
            (more_tests_close (codes "AND ") others)));
      }

  conj_printed : (q : Bool) (c : Test) (s : Size) (f : List Lexeme) → IsConj q c s f → AllValid f
      → BothWays q c s.nodes s.wide
  conj_printed q c s f (g.one_fact p d u k h) r = fact_printed p d u k h r
  conj_printed q c s f (g.an_and p d e l u v w k m o hd he hl) r =
      let i = (fact_printed p d u k hd (valid_left k _ r)).part in
      let r2 = (valid_right k _ r).1 in
      let j = (fact_printed p e v m he (valid_left m o r2)).part in
      let y = facts_printed p l w o hl (valid_right m o r2) in
      let deep : ℕ = max (test_depth d) (max (test_depth e) (tests_depth (tests_of l))) in
      bracket_ways p (all_of (a_test d (a_test e (tests_of l))))
      (both u (one_node (both v w))).nodes (both u (one_node (both v w))).wide deep refl refl
      (as_cond p _ _ _ _ _ (record {
        size = both i.size (one_node (both j.size y.size));
        prefix = i.prefix ++ word (codes "AND") ∷ (j.prefix ++ y.prefix);
        same = g.an_and p d e l i.size j.size y.size i.prefix j.prefix y.prefix i.same j.same
            y.same;
        as_many = omega (arith, i.as_many, j.as_many, y.as_many);
        as_wide = λ z. wide_too _ _ _ _ (i.as_wide z)
            (wide_too _ _ _ _ (j.as_wide z) (y.as_wide z));
        no_deeper = deep_too i.size.depth (max j.size.depth y.size.depth) (test_depth d)
            (max (test_depth e) (tests_depth (tests_of l))) i.no_deeper
            (deep_too j.size.depth y.size.depth (test_depth e) (tests_depth (tests_of l))
            j.no_deeper y.no_deeper);
        spells = as_text _ _ _ (ap (λ b. test_text false true d ++ b)
            (right3 (codes " AND ") (test_text false true e)
            (more_tests_text false (codes " AND ") (tests_of l))))
            (join i.prefix _ (test_text false true d) _ i.spells
            (spaced (codes "AND") _ _ AND
            (join j.prefix y.prefix (test_text false true e)
            (more_tests_text false (codes " AND ") (tests_of l)) j.spells y.spells
            (more_tests_close (codes "AND ") l))) refl);
      }))

  conjs_printed : (q : Bool) (l : List Test) (s : Size) (f : List Lexeme) → AreConjs q l s f
      → AllValid f → Printed (AreConjs q l) s.nodes s.wide (tests_depth (tests_of l))
      (more_tests_text false (codes " OR ") (tests_of l))
  conjs_printed q l s f (g.no_conj p) r = record {
    size = nothing_counted;
    prefix = [];
    same =
        g.no_conj p;
    as_many = refl;
    as_wide = λ w. refl;
    no_deeper = omega arith;
    spells = none;
  }
  conjs_printed q l s f (g.a_conj p c others u v k m h hl) r =
      let i = as_conj p c _ _ _ _ (conj_printed p c u k h (valid_left k m r.1)).part in
      let y = conjs_printed p others v m hl (valid_right k m r.1) in
      record {
        size = both i.size y.size;
        prefix = word (codes "OR") ∷ (i.prefix ++ y.prefix);
        same = g.a_conj p c others i.size y.size i.prefix y.prefix i.same y.same;
        as_many = omega (arith, i.as_many, y.as_many);
        as_wide = λ w. wide_too _ _ _ _ (i.as_wide w) (y.as_wide w);
        no_deeper = deep_too i.size.depth y.size.depth (test_depth c)
            (tests_depth (tests_of others)) i.no_deeper y.no_deeper;
        spells = as_text _ _ _ (right3 (codes " OR ") (test_text false true c)
            (more_tests_text false (codes " OR ") (tests_of others)))
            (spaced (codes "OR") _ _ OR (join i.prefix y.prefix (test_text false true c)
            (more_tests_text false (codes " OR ") (tests_of others)) i.spells y.spells
            (more_tests_close (codes "OR ") others)));
      }

  pub cond_printed : (q : Bool) (c : Test) (s : Size) (f : List Lexeme) → IsCond q c s f
      → AllValid f → BothWays q c s.nodes s.wide
  cond_printed q c s f (g.one_conj p d u k h) r = conj_printed p d u k h r
  cond_printed q c s f (g.an_or p d e l u v w k m o hd he hl) r =
      let i = as_conj p d _ _ _ _ (conj_printed p d u k hd (valid_left k _ r)).part in
      let r2 = (valid_right k _ r).1 in
      let j = as_conj p e _ _ _ _ (conj_printed p e v m he (valid_left m o r2)).part in
      let y = conjs_printed p l w o hl (valid_right m o r2) in
      let deep : ℕ = max (test_depth d) (max (test_depth e) (tests_depth (tests_of l))) in
      bracket_ways p (some_of (a_test d (a_test e (tests_of l))))
      (both u (one_node (both v w))).nodes (both u (one_node (both v w))).wide deep refl refl
      (record {
        size = both i.size (one_node (both j.size y.size));
        prefix = i.prefix ++ word (codes "OR") ∷ (j.prefix ++ y.prefix);
        same = g.an_or p d e l i.size j.size y.size i.prefix j.prefix y.prefix i.same j.same y.same;
        as_many = omega (arith, i.as_many, j.as_many, y.as_many);
        as_wide = λ z. wide_too _ _ _ _ (i.as_wide z)
            (wide_too _ _ _ _ (j.as_wide z) (y.as_wide z));
        no_deeper = deep_too i.size.depth (max j.size.depth y.size.depth) (test_depth d)
            (max (test_depth e) (tests_depth (tests_of l))) i.no_deeper
            (deep_too j.size.depth y.size.depth (test_depth e) (tests_depth (tests_of l))
            j.no_deeper y.no_deeper);
        spells = as_text _ _ _ (ap (λ b. test_text false true d ++ b)
            (right3 (codes " OR ") (test_text false true e)
            (more_tests_text false (codes " OR ") (tests_of l))))
            (join i.prefix _ (test_text false true d) _ i.spells
            (spaced (codes "OR") _ _ OR (join j.prefix y.prefix (test_text false true e)
            (more_tests_text false (codes " OR ") (tests_of l)) j.spells y.spells
            (more_tests_close (codes "OR ") l))) refl);
      })
