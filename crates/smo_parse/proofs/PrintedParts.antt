-- The parts of operators that can be read print as texts whose tokens are in the grammar again.
use Rattle.std.proofs.Common.{◌≡◌, ℕ, ◌+◌, ◌≤◌, true, false, cond, List, [], ◌∷◌, ◌++◌, codes, map}
use Rattle.std.proofs.Common.{Some, None, inl, inr, refl, sym, ap, subst, arith}
use Rattle.std.proofs.Math.Nat.{le-max_left, le-max_right, max-le}
use Rattle.prima_base.specs.Bytes.{IsName}
use Rattle.prima_base.specs.Columns.{Column}
use Rattle.prima_base.specs.declared.refusal.What.{What}
use Rattle.prima_base.specs.declared.value.ColType.{ColType}
use Rattle.prima_base.specs.declared.value.ColType.TheVariants.{Int, Text}
use Rattle.cond_expr.specs.Trees.{Tree, Test, always}
use Rattle.cond_expr.specs.Sizes.{depth_of, test_depth}
use Rattle.lexer_spec.specs.Lexemes.{Lexeme, word, sign, is_name}
use Rattle.lexer_combinators.specs.Grammar.{Grammar}
use Rattle.lexer_combinators.specs.Parsing.{limit}
use Rattle.lexer_combinators.specs.Grammar.{Size, nothing_counted, both, no_end, AreMore}
use Rattle.lexer_combinators.specs.Grammar as grammar
use Rattle.lexer_trees_spec.specs.Grammar as g
use Rattle.lexer_trees_spec.specs.Grammar.{leaf, IsExpr, IsCond}
use Rattle.lexer_trees_spec.specs.Constants.{name_grammar, names_grammar}
use Rattle.lexer_trees_spec.proofs.Singles.{name_is}
use Rattle.lexer_trees_spec.specs.Where.{IsWhere}
use Rattle.smo_parse.specs.Productions.{IsType, IsColumn, AreColumns, IsPart, IsTest, IsTree, IsNop}
use Rattle.smo_parse.specs.Productions.{IsCreateTable, IsDropTable, IsRenameTable, IsCopyTable}
use Rattle.smo_parse.specs.Productions.{IsMergeTable, IsPartitionTable, IsDecomposeTable}
use Rattle.smo_parse.specs.Productions.{IsJoinTable, IsAddColumn, IsDropColumn, IsRenameColumn}
use Rattle.smo_parse.specs.Productions.{IsOperator}
use Rattle.smo_parse.specs.TreeTexts.{tree_text, test_text}
use Rattle.smo_parse.specs.Texts.{more_listed, listed, type_text, column_text, part_text, expr_text}
use Rattle.smo_parse.specs.Texts.{cond_text, operator_text}
use Rattle.smo_parse.specs.Printed.{tree_depth}
use Rattle.smo_parse.proofs.Spellings.{Closing}
use Rattle.smo_parse.proofs.Spelled.{Spells, none, a_space, a_token, an_open, single, join, as_text}
use Rattle.smo_parse.proofs.Spelled.{right3, right4}
use Rattle.smo_parse.proofs.PrintedTrees.{Valid, AllValid, valid_left, valid_right, OPEN, CLOSE}
use Rattle.smo_parse.proofs.PrintedTrees.{TRUE, spaced, first, expr_printed, cond_printed}

-- ---- what was read, and what is printed

-- lexemes of a text that spell it, within the limits
pub record Read {A : Type 0} (G : A → Size → List Lexeme → Type 0) (a : A) : Type 0 where
  pub size : Size
  pub prefix : List Lexeme
  pub same : G a size prefix
  pub valid : AllValid prefix
  pub few : size.nodes ≤ 256
  pub narrow : (w : What) → size.wide w ≤ limit w

-- lexemes that spell it, of no more nodes than so many and within the other limits, and their text
pub record Printed {A : Type 0} (G : A → Size → List Lexeme → Type 0) (most : ℕ) (a : A)
    (bytes : List ℕ) : Type 0 where
  pub size : Size
  pub prefix : List Lexeme
  pub same : G a size prefix
  pub few : size.nodes ≤ most
  pub shallow : size.depth ≤ 32
  pub narrow : (w : What) → size.wide w ≤ limit w
  pub spells : Spells prefix bytes

-- ---- reading apart

pub unlead : {A : Type 0} (x : Lexeme) (G : Grammar A) (a : A) → Read (grammar.lead x G) a
    → Read G a
unlead x G a h = record {
  size = h.size;
  prefix = h.same.0;
  same = h.same.2;
  valid =
      (subst AllValid h.same.1 h.valid).1;
  few = h.few;
  narrow = h.narrow;
}

module _ {A B : Type 0} (G : A → Size → List Lexeme → Type 0) (H : A → B → Size → List Lexeme
    → Type 0) (b : B) (h : Read (grammar.seq G H) b) where
  abbrev pub bound : A
  bound = h.same.0

  pub left : Read G bound
  left = record {
    size = h.same.1;
    prefix = h.same.3;
    same = h.same.7;
    valid = valid_left h.same.3 h.same.4 (subst AllValid h.same.6 h.valid);
    few = omega (arith, h.few, ap (λ z. z.nodes) h.same.5);
    narrow = λ w. omega (
      arith,
      h.narrow w,
      ap (λ z. z.wide w) h.same.5,
      le-max_left (h.same.1.wide w) (h.same.2.wide w),
    );
  }

  pub right : Read (H bound) b
  right = record {
    size = h.same.2;
    prefix = h.same.4;
    same = h.same.8;
    valid = valid_right h.same.3 h.same.4 (subst AllValid h.same.6 h.valid);
    few = omega (arith, h.few, ap (λ z. z.nodes) h.same.5);
    narrow = λ w. omega (
      arith,
      h.narrow w,
      ap (λ z. z.wide w) h.same.5,
      le-max_right (h.same.1.wide w) (h.same.2.wide w),
    );
  }

pub unmap : {A B : Type 0} (f : A → B) (G : Grammar A) (b : B) → (h : Read (grammar.map f G) b)
    → Read G h.same.0
unmap f G b h = record {
  size = h.size;
  prefix = h.prefix;
  same = h.same.2;
  valid = h.valid;
  few =
      h.few;
  narrow = h.narrow;
}

-- a word that is a name
abbrev pub IsNamed : List ℕ → Type 0
IsNamed n = IsName n × (is_name n ≡ true)

pub named : (n : List ℕ) → Read name_grammar n → IsNamed n
named n h =
    let k = name_is h.same.0 n h.same.1 in
    let P : Lexeme → Type 0 = λ x. Valid x in
    let l : AllValid (h.same.0 ∷ []) = subst AllValid h.same.3 h.valid in
    ((let i : is_name n ≡ true → IsName n = subst P k.0 l.0 in i k.1), k.1)

-- ---- printing together

pub led : {A : Type 0} (x : Lexeme) (G : Grammar A) (most : ℕ) (a : A) (b c : List ℕ)
    → ((f : List Lexeme) → Spells f b → Spells (x ∷ f) c) → Printed G most a b
    → Printed (grammar.lead x G) most a c
led x G most a b c step p = record {
  size = p.size;
  prefix = x ∷ p.prefix;
  same =
      (p.prefix, refl, p.same);
  few = p.few;
  shallow = p.shallow;
  narrow = p.narrow;
  spells =
      step p.prefix p.spells;
}

pub bind_printed : {A B : Type 0} (G : Grammar A) (H : A → Grammar B) (m n most : ℕ) (a : A) (b : B)
    (c d : List ℕ) → m + n ≤ most → Closing d → Printed G m a c → Printed (H a) n b d
    → Printed (grammar.seq G H) most b (c ++ d)
bind_printed G H m n most a b c d e z p k = record {
  size = both p.size k.size;
  prefix = p.prefix ++ k.prefix;
  same = (a, p.size, k.size, p.prefix, k.prefix, refl, refl, p.same, k.same);
  few = omega (arith, p.few, k.few, e);
  shallow = max-le p.shallow k.shallow;
  narrow = λ w. max-le (p.narrow w) (k.narrow w);
  spells = join p.prefix k.prefix c d p.spells k.spells z;
}

pub map_printed : {A B : Type 0} (f : A → B) (G : Grammar A) (most : ℕ) (a : A) (c : List ℕ)
    → Printed G most a c → Printed (grammar.map f G) most (f a) c
map_printed f G most a c p = record {
  size = p.size;
  prefix = p.prefix;
  same = (a, refl, p.same);
  few = p.few;
  shallow = p.shallow;
  narrow = p.narrow;
  spells = p.spells;
}

pub pure_printed : {A : Type 0} (most : ℕ) (a : A) → Printed (grammar.pure a) most a []
pure_printed most a = record {
  size = nothing_counted;
  prefix = [];
  same = (refl, refl, refl);
  few =
      omega arith;
  shallow = omega arith;
  narrow = λ w. omega arith;
  spells = none;
}

pub as_bytes : {A : Type 0} (G : Grammar A) (most : ℕ) (a : A) (b c : List ℕ) → b ≡ c
    → Printed G most a c → Printed G most a b
as_bytes G most a b c e p = record {
  size = p.size;
  prefix = p.prefix;
  same = p.same;
  few = p.few;
  shallow = p.shallow;
  narrow = p.narrow;
  spells = as_text p.prefix b c e p.spells;
}

-- one grammar among others
pub among : {A : Type 0} (G H : Grammar A) (most : ℕ) (a : A) (c : List ℕ)
    → ((s : Size) (f : List Lexeme) → G a s f → H a s f) → Printed G most a c → Printed H most a c
among G H most a c up p = record {
  size = p.size;
  prefix = p.prefix;
  same =
      up p.size p.prefix p.same;
  few = p.few;
  shallow = p.shallow;
  narrow = p.narrow;
  spells =
      p.spells;
}

pub name_printed : (most : ℕ) (n : List ℕ) → IsNamed n → Printed name_grammar most n n
name_printed most n h = record {
  size = nothing_counted;
  prefix = word n ∷ [];
  same = (word n, ap (λ b. cond b (Some n) None) h.1, refl, refl);
  few = omega arith;
  shallow = omega arith;
  narrow = λ w. omega arith;
  spells = single (word n) h.0;
}

-- a name, and what follows it
pub name_then : {B : Type 0} (H : List ℕ → Grammar B) (most : ℕ) (n : List ℕ) (b : B) (d : List ℕ)
    → IsNamed n → Closing d → Printed (H n) most b d
    → Printed (grammar.seq name_grammar H) most b (n ++ d)
name_then H most n b d h z k = bind_printed name_grammar H 0 most most n b n d (omega arith) z
    (name_printed 0 n h) k

pub last_name : {B : Type 0} (f : List ℕ → B) (most : ℕ) (n : List ℕ) → IsNamed n
    → Printed (grammar.map f name_grammar) most (f n) n
last_name f most n h = map_printed f name_grammar most n n (name_printed most n h)

-- a first word; a word between spaces; the same of a comma, which has no space before it
pub word_first : {A : Type 0} (w : List ℕ) (G : Grammar A) (most : ℕ) (a : A) (b : List ℕ)
    → IsName w → Printed G most a b → Printed (grammar.lead (word w) G) most a (w ++ 32 ∷ b)
word_first w G most a b h p = led (word w) G most a b (w ++ 32 ∷ b) (λ f s. first w f b h s) p

pub word_next : {A : Type 0} (w : List ℕ) (G : Grammar A) (most : ℕ) (a : A) (b : List ℕ) → IsName w
    → Printed G most a b → Printed (grammar.lead (word w) G) most a (32 ∷ (w ++ 32 ∷ b))
word_next w G most a b h p = led (word w) G most a b (32 ∷ (w ++ 32 ∷ b)) (λ f s. spaced w f b h s)
    p

pub comma_next : {A : Type 0} (G : Grammar A) (most : ℕ) (a : A) (b : List ℕ) → Printed G most a b
    → Printed (grammar.lead (sign (codes ",")) G) most a (44 ∷ 32 ∷ b)
comma_next G most a b p = led (sign (codes ",")) G most a b (44 ∷ 32 ∷ b)
    (λ f s. a_token (sign (codes ",")) f (32 ∷ b) refl refl (a_space f b s)) p

-- ---- the words of operators

pub CREATE : IsName (codes "CREATE")
CREATE = record { some = omega arith; short = omega arith; valid = refl }

pub TABLE : IsName (codes "TABLE")
TABLE = record { some = omega arith; short = omega arith; valid = refl }

pub DROP : IsName (codes "DROP")
DROP = record { some = omega arith; short = omega arith; valid = refl }

pub RENAME : IsName (codes "RENAME")
RENAME = record { some = omega arith; short = omega arith; valid = refl }

pub COPY : IsName (codes "COPY")
COPY = record { some = omega arith; short = omega arith; valid = refl }

pub MERGE : IsName (codes "MERGE")
MERGE = record { some = omega arith; short = omega arith; valid = refl }

pub PARTITION : IsName (codes "PARTITION")
PARTITION = record { some = omega arith; short = omega arith; valid = refl }

pub DECOMPOSE : IsName (codes "DECOMPOSE")
DECOMPOSE = record { some = omega arith; short = omega arith; valid = refl }

pub JOIN : IsName (codes "JOIN")
JOIN = record { some = omega arith; short = omega arith; valid = refl }

pub ADD : IsName (codes "ADD")
ADD = record { some = omega arith; short = omega arith; valid = refl }

pub COLUMN : IsName (codes "COLUMN")
COLUMN = record { some = omega arith; short = omega arith; valid = refl }

pub INTO : IsName (codes "INTO")
INTO = record { some = omega arith; short = omega arith; valid = refl }

pub WITH : IsName (codes "WITH")
WITH = record { some = omega arith; short = omega arith; valid = refl }

pub WHERE : IsName (codes "WHERE")
WHERE = record { some = omega arith; short = omega arith; valid = refl }

pub AS : IsName (codes "AS")
AS = record { some = omega arith; short = omega arith; valid = refl }

pub FROM : IsName (codes "FROM")
FROM = record { some = omega arith; short = omega arith; valid = refl }

pub IN : IsName (codes "IN")
IN = record { some = omega arith; short = omega arith; valid = refl }

pub TO : IsName (codes "TO")
TO = record { some = omega arith; short = omega arith; valid = refl }

pub NOP : IsName (codes "NOP")
NOP = record { some = omega arith; short = omega arith; valid = refl }

pub INT : IsName (codes "INT")
INT = record { some = omega arith; short = omega arith; valid = refl }

pub TEXT : IsName (codes "TEXT")
TEXT = record { some = omega arith; short = omega arith; valid = refl }

-- a last word
pub word_last : {A : Type 0} (w : List ℕ) (most : ℕ) (a : A) → IsName w
    → Printed (grammar.lead (word w) (grammar.pure a)) most a w
word_last w most a h = record {
  size = nothing_counted;
  prefix = word w ∷ [];
  same =
      ([], refl, (refl, refl, refl));
  few = omega arith;
  shallow = omega arith;
  narrow = λ z.
      omega arith;
  spells = single (word w) h;
}

-- ---- parts of operators

pub tree_printed : (e : Tree) → depth_of e ≤ 32 → Read IsTree e → Printed IsTree 256 e (expr_text e)
tree_printed e deep h =
    let p = expr_printed false e h.size h.prefix h.same h.valid in
    record {
      size = p.size;
      prefix = p.prefix;
      same = p.same;
      few = omega (arith, p.as_many, h.few);
      shallow = omega (arith, p.no_deeper, deep);
      narrow = λ w.
          omega (arith, p.as_wide w, h.narrow w);
      spells = p.spells;
    }

pub test_printed : (c : Test) → test_depth c ≤ 32 → Read IsTest c
    → Printed IsTest 256 c (cond_text c)
test_printed c deep h =
    let p = (cond_printed false c h.size h.prefix h.same h.valid).whole in
    record {
      size = p.size;
      prefix = p.prefix;
      same = p.same;
      few = omega (arith, p.as_many, h.few);
      shallow = omega (arith, p.no_deeper, deep);
      narrow = λ w.
          omega (arith, p.as_wide w, h.narrow w);
      spells = p.spells;
    }

pub true_printed : Printed IsTest 256 always (cond_text always)
true_printed = record {
  size = leaf;
  prefix = word (codes "TRUE") ∷ [];
  same = g.one_conj false always leaf _ (g.one_fact false always leaf _ (g.truth false));
  few = omega arith;
  shallow = omega arith;
  narrow = λ w. omega arith;
  spells = single (word (codes "TRUE")) TRUE;
}

-- a missing WHERE is printed
pub where_printed : (c : Test) → test_depth c ≤ 32 → Read (IsWhere false) c
    → Printed (IsWhere false) 256 c (codes "WHERE " ++ cond_text c)
where_printed c deep h = by_case h.same
  where
    written : Printed IsTest 256 c (cond_text c)
        → Printed (IsWhere false) 256 c (codes "WHERE " ++ cond_text c)
    written p = among (grammar.lead (word (codes "WHERE")) IsTest) (IsWhere false) 256 c
        (codes "WHERE " ++ cond_text c) (λ s f k. inr k)
        (word_first (codes "WHERE") IsTest 256 c (cond_text c) WHERE p)

    by_case : IsWhere false c h.size h.prefix
        → Printed (IsWhere false) 256 c (codes "WHERE " ++ cond_text c)
    by_case (inl k) = let P : Test → Type 0 = λ d. Printed IsTest 256 d (cond_text d) in
        written (subst P (sym k.0) true_printed)
    by_case (inr k) = written (test_printed c deep
        (unlead (word (codes "WHERE")) IsTest c
        (record {
          size = h.size;
          prefix = h.prefix;
          same = k;
          valid = h.valid;
          few = h.few;
          narrow =
              h.narrow;
        })))

pub type_printed : (k : ColType) → Printed IsType 0 k (type_text k)
type_printed Int = among (grammar.lead (word (codes "INT")) (grammar.pure Int)) IsType 0 Int
    (codes "INT") (λ s f k. inl k) (word_last (codes "INT") 0 Int INT)
type_printed Text = among (grammar.lead (word (codes "TEXT")) (grammar.pure Text)) IsType 0 Text
    (codes "TEXT") (λ s f k. inr k) (word_last (codes "TEXT") 0 Text TEXT)

-- ---- lists

pub more_closes : (texts : List (List ℕ)) (suffix : List ℕ) → Closing suffix
    → Closing (more_listed texts ++ suffix)
more_closes [] suffix h = h
more_closes (t ∷ texts) suffix h = refl

pub more_closes_all : (texts : List (List ℕ)) → Closing (more_listed texts)
more_closes_all [] = tt
more_closes_all (t ∷ texts) = refl

abbrev pub Comma : Lexeme
Comma = sign (codes ",")

module _ {A : Type 0} (G : A → Size → List Lexeme → Type 0) (written : A → List ℕ) (item : (a : A)
    → Read G a → Printed G 0 a (written a)) where
  pub more_printed : (l : List A) (j : ℕ) → Read (AreMore Comma no_end G j) l
      → Printed (AreMore Comma no_end G j) 0 l (more_listed (map written l))
  more_printed [] j h = record {
    size = nothing_counted;
    prefix = [];
    same = (refl, refl);
    few =
        omega arith;
    shallow = omega arith;
    narrow = λ w. omega arith;
    spells = none;
  }
  more_printed (a ∷ l) j h =
      let all : AllValid (h.same.2 ++ h.same.3) = (subst AllValid h.same.5 h.valid).1 in
      let p = item a (record {
        size = h.same.0;
        prefix = h.same.2;
        same = h.same.6;
        valid = valid_left h.same.2 h.same.3 all;
        few = omega (arith, h.few, ap (λ z. z.nodes) h.same.4);
        narrow = λ w. omega (
          arith,
          h.narrow w,
          ap (λ z. z.wide w) h.same.4,
          le-max_left (h.same.0.wide w) (h.same.1.wide w),
        );
      }) in
      let k = more_printed l (j + 1) (record {
        size = h.same.1;
        prefix = h.same.3;
        same = h.same.7;
        valid = valid_right h.same.2 h.same.3 all;
        few = omega (arith, h.few, ap (λ z. z.nodes) h.same.4);
        narrow = λ w. omega (
          arith,
          h.narrow w,
          ap (λ z. z.wide w) h.same.4,
          le-max_right (h.same.0.wide w) (h.same.1.wide w),
        );
      }) in
      record {
        size = both p.size k.size;
        prefix = Comma ∷ (p.prefix ++ k.prefix);
        same = (p.size, k.size, p.prefix, k.prefix, refl, refl, p.same, k.same);
        few = omega (arith, p.few, k.few);
        shallow = max-le p.shallow k.shallow;
        narrow = λ w. max-le (p.narrow w) (k.narrow w);
        spells = as_text _ _ _ (right3 (codes ", ") (written a) (more_listed (map written l)))
            (a_token Comma _ _ refl refl (a_space _ _
            (join p.prefix k.prefix (written a) (more_listed (map written l)) p.spells k.spells
            (more_closes_all (map written l)))));
      }

  pub list_printed : (l : List A) → Read (grammar.list Comma G) l
      → Printed (grammar.list Comma G) 0 l (listed (map written l))
  list_printed l h =
      let a : A = bound G (λ a. grammar.map (λ l. a ∷ l) (AreMore Comma no_end G 0)) l h in
      let r = right G (λ a. grammar.map (λ l. a ∷ l) (AreMore Comma no_end G 0)) l h in
      let others : List A = r.same.0 in
      let P : List A → Type 0 = λ m. Printed (grammar.list Comma G) 0 m (listed (map written m)) in
      subst P (sym r.same.1)
      (bind_printed G (λ a. grammar.map (λ l. a ∷ l) (AreMore Comma no_end G 0)) 0 0 0 a
      (a ∷ others) (written a) (more_listed (map written others)) (omega arith)
      (more_closes_all (map written others))
      (item a (left G (λ a. grammar.map (λ l. a ∷ l) (AreMore Comma no_end G 0)) l h))
      (map_printed (λ l. a ∷ l) (AreMore Comma no_end G 0) 0 others
      (more_listed (map written others)) (more_printed others 0
      (unmap (λ l. a ∷ l) (AreMore Comma no_end G 0) l r))))

-- names
pub map_same : (l : List (List ℕ)) → map (λ n. n) l ≡ l
map_same [] = refl
map_same (n ∷ l) = ap (λ m. n ∷ m) (map_same l)

pub names_printed : (l : List (List ℕ)) → Read names_grammar l
    → Printed names_grammar 0 l (listed l)
names_printed l h = as_bytes names_grammar 0 l (listed l) (listed (map (λ n. n) l))
    (ap listed (sym (map_same l))) (list_printed name_grammar (λ n. n)
    (λ n k. name_printed 0 n (named n k)) l h)

-- columns
pub column_printed : (c : Column) → Read IsColumn c → Printed IsColumn 0 c (column_text c)
column_printed c h =
    let r = right name_grammar (λ n. grammar.map (λ k. (n, k)) IsType) c h in
    let n : List ℕ = bound name_grammar (λ n. grammar.map (λ k. (n, k)) IsType) c h in
    let P : Column → Type 0 = λ d. Printed IsColumn 0 d (column_text d) in
    subst P (sym r.same.1)
    (as_bytes IsColumn 0 (n, r.same.0) (n ++ codes " " ++ type_text r.same.0)
    (n ++ 32 ∷ type_text r.same.0) (right3 n (codes " ") (type_text r.same.0))
    (name_then (λ n. grammar.map (λ k. (n, k)) IsType) 0 n (n, r.same.0) (32 ∷ type_text r.same.0)
    (named n (left name_grammar (λ n. grammar.map (λ k. (n, k)) IsType) c h)) refl
    (map_printed (λ k. (n, k)) IsType 0 r.same.0 (32 ∷ type_text r.same.0) (after_space r.same.0))))
  where
    after_space : (k : ColType) → Printed IsType 0 k (32 ∷ type_text k)
    after_space k = let p = type_printed k in
        record {
          size = p.size;
          prefix = p.prefix;
          same = p.same;
          few = p.few;
          shallow = p.shallow;
          narrow = p.narrow;
          spells = a_space p.prefix (type_text k) p.spells;
        }

pub columns_printed : (l : List Column) → Read AreColumns l
    → Printed AreColumns 0 l (listed (map column_text l))
columns_printed l h = list_printed IsColumn column_text column_printed l h

-- ---- a table and the columns that it gets

pub spaced_printed : {A : Type 0} (G : Grammar A) (most : ℕ) (a : A) (b : List ℕ)
    → Printed G most a b → Printed G most a (32 ∷ b)
spaced_printed G most a b p = record {
  size = p.size;
  prefix = p.prefix;
  same = p.same;
  few = p.few;
  shallow = p.shallow;
  narrow = p.narrow;
  spells = a_space p.prefix b p.spells;
}

-- an open bracket after a space, and a closing one
pub open_next : {A : Type 0} (G : Grammar A) (most : ℕ) (a : A) (b : List ℕ) → Printed G most a b
    → Printed (grammar.lead OPEN G) most a (32 ∷ 40 ∷ b)
open_next G most a b p = led OPEN G most a b (32 ∷ 40 ∷ b)
    (λ f s. a_space (OPEN ∷ f) (40 ∷ b) (an_open f b s)) p

pub close_last : {A : Type 0} (most : ℕ) (a : A)
    → Printed (grammar.lead CLOSE (grammar.pure a)) most a (41 ∷ [])
close_last most a = led CLOSE (grammar.pure a) most a [] (41 ∷ [])
    (λ f s. a_token CLOSE f [] refl tt s) (pure_printed most a)

pub part_printed : (p : List ℕ × List (List ℕ)) → Read IsPart p
    → Printed IsPart 0 p (part_text p.0 p.1)
part_printed p h =
    let n = named _ (left _ _ _ h) in
    let m = unlead _ _ _ (right _ _ _ h) in
    let l = names_printed _ (left _ _ _ m) in
    let e = unlead _ _ _ (right _ _ _ m) in
    let P : (List ℕ × List (List ℕ)) → Type 0 = λ x. Printed IsPart 0 x (part_text x.0 x.1) in
    subst P (sym e.same.0)
    (as_bytes IsPart 0 _ _ _ (right4 h.same.0 (codes " (") (listed m.same.0) (codes ")"))
    (name_then _ 0 h.same.0 _ _ n refl (open_next _ 0 _ _
    (bind_printed names_grammar _ 0 0 0 m.same.0 _ (listed m.same.0) _ (omega arith) refl l
    (close_last 0 _)))))
