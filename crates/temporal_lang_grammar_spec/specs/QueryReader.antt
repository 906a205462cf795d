-- Reading queries, from left to right.
use Rattle.std.specs.Prelude.{ℕ, true, false, is_some, Bool, ◌||◌, List, [], ◌∷◌, codes}
use Rattle.std.specs.Prelude.{if◌then◌else◌, Option, Some, None}
use Rattle.relations_spec.specs.Spans.{forever}
use Rattle.prima_base.specs.declared.refusal.What.{What}
use Rattle.prima_base.specs.declared.refusal.What.TheVariants.{Outputs, Tables, Branches, Keeps}
use Rattle.prima_base.specs.declared.keep.Keep.{Keep}
use Rattle.prima_base.specs.declared.keep.Keep.TheVariants.{Starting, Ending, Lasting, Covering}
use Rattle.prima_base.specs.declared.keep.Keep.TheVariants.{Overlapping}
use Rattle.cond_expr.specs.Trees.{Tree}
use Rattle.lexer_spec.specs.Lexemes.{Lexeme, is_word, is_sign}
use Rattle.lexer_combinators.specs.Parsing.{Parser, Arm, No, Takes, bind, pure, map_to, lead}
use Rattle.lexer_combinators.specs.Parsing.{choose, option, maybe, more, single, fresh}
use Rattle.lexer_trees_spec.specs.Reader.{outermost}
use Rattle.lexer_trees_spec.specs.Constants.{as_name, name, small, moment}
use Rattle.lexer_trees_spec.specs.Where.{fresh_where, follow_where}
use Rattle.temporal_lang_types.specs.declared.when.When.{When}
use Rattle.temporal_lang_types.specs.declared.when.When.TheVariants.{Always, AsOf, During}
use Rattle.plain_answers_spec.specs.Branches.{Item, PlainBranch, a_branch}
use Rattle.temporal_lang_types.specs.Queries.{PlainQuery, a_query}
use Rattle.temporal_lang_grammar_spec.specs.QueryGrammar.{as_moment_or, last_moment}

-- one, and no more than so many more, each after the separator
abbrev pub counted : {A : Type 0} → (Lexeme → Bool) → What → ℕ → Parser A → Parser (List A)
counted separates w k item = bind item (λ a. map_to (λ l. a ∷ l) (more separates w item k))

-- ---- branches

unfoldable pub output : Parser Tree
output = fresh (outermost true).expr

-- 32 at most
unfoldable pub outputs : Parser (List Tree)
outputs = counted (is_sign (codes ",")) Outputs 31 output

-- after a table
unfoldable pub alias : List ℕ → Parser (List ℕ)
alias table = maybe as_name table

unfoldable pub item : Parser Item
item = bind name (λ table. map_to (λ named. (table, named)) (alias table))

-- eight at most
unfoldable pub items : Parser (List Item)
items = counted (is_sign (codes ",")) Tables 7 item

unfoldable pub branch : Parser PlainBranch
branch = lead (is_word (codes "SELECT")) (bind outputs
    (λ outs. lead (is_word (codes "FROM")) (bind items
    (λ from. map_to (λ c. a_branch outs from c) (fresh_where true)))))

-- sixteen at most
unfoldable pub branches : Parser (List PlainBranch)
branches = counted (is_word (codes "UNION")) Branches 15 branch

-- ---- which moments are asked of, and which entries are kept

unfoldable pub moment_or : ℕ → Parser ℕ
moment_or last = single (as_moment_or last)

unfoldable pub bounds : Parser (ℕ × ℕ)
bounds = bind moment (λ a. lead (is_word (codes "TO")) (map_to (λ b. (a, b)) (moment_or forever)))

-- after AS
abbrev pub as_of_rest : Parser (Option ℕ)
as_of_rest = lead (is_word (codes "OF")) (map_to (λ m. Some m) (moment_or last_moment))

-- the moment, where there is one alone
unfoldable pub as_of : Parser (Option ℕ)
as_of = option (is_word (codes "AS")) (Takes as_of_rest) None

-- after DURING
abbrev pub during_rest : Parser When
during_rest = map_to (λ b. During b.0 b.1) bounds

unfoldable pub during : Parser When
during = option (is_word (codes "DURING")) (Takes during_rest) Always

-- after the word of a condition with two bounds
unfoldable pub between : (ℕ → ℕ → Keep) → Parser Keep
between make = map_to (λ b. make b.0 b.1) bounds

-- after COVERING
unfoldable pub covering : Parser Keep
covering = map_to (λ m. Covering m) moment

abbrev pub keep_arm : Lexeme → Arm Keep
keep_arm x =
    if is_word (codes "STARTING") x then Takes (between Starting)
    else (if is_word (codes "ENDING") x then Takes (between Ending) else
    (if is_word (codes "LASTING") x then Takes (between Lasting)
    else (if is_word (codes "OVERLAPPING") x then Takes (between Overlapping) else
    (if is_word (codes "COVERING") x then Takes covering else No))))

unfoldable pub keep : Parser Keep
keep = choose keep_arm

-- eight at most
unfoldable pub keeps : Parser (List Keep)
keeps = counted (is_word (codes "AND")) Keeps 7 keep

unfoldable pub keeping : Parser (List Keep)
keeping = option (is_word (codes "KEEP")) (Takes keeps) []

unfoldable pub range : Parser (When × List Keep)
range = bind during (λ when. map_to (λ l. (when, l)) keeping)

-- nothing is kept after AS OF
abbrev pub after_as_of : Option ℕ → Parser (When × List Keep)
after_as_of (Some m) = pure (AsOf m, [])
after_as_of None = range

unfoldable pub when_part : Parser (When × List Keep)
when_part = bind as_of after_as_of

-- after an AS OF, or where there is none
abbrev pub after_moment : Option ℕ → Parser When
after_moment (Some m) = pure (AsOf m)
after_moment None = during

unfoldable pub moments : Parser When
moments = bind as_of after_moment

-- ---- queries

unfoldable pub ask : Parser PlainQuery
ask = lead (is_word (codes "VERSION")) (bind small
    (λ version. bind branches (λ l. map_to (λ w. a_query version l w.0 w.1) when_part)))

-- each entry is kept
unfoldable pub full_ask : Parser PlainQuery
full_ask = lead (is_word (codes "VERSION")) (bind small
    (λ version. bind branches (λ l. map_to (λ w. a_query version l w []) moments)))

-- ---- what each goes on with

abbrev pub follow_item : Lexeme → Bool
follow_item x = is_some (as_name x)

abbrev pub follow_items : Lexeme → Bool
follow_items x = is_sign (codes ",") x || follow_item x

abbrev pub follow_branch : Lexeme → Bool
follow_branch x = follow_items x || follow_where true x

abbrev pub follow_branches : Lexeme → Bool
follow_branches x = is_word (codes "UNION") x || follow_branch x

abbrev pub follow_keeps : Lexeme → Bool
follow_keeps x = is_word (codes "AND") x || false

abbrev pub follow_keeping : Lexeme → Bool
follow_keeping x = is_word (codes "KEEP") x || follow_keeps x

abbrev pub follow_range : Lexeme → Bool
follow_range x = is_word (codes "DURING") x || follow_keeping x

abbrev pub follow_when : Lexeme → Bool
follow_when x = is_word (codes "AS") x || follow_range x

abbrev pub follow_ask : Lexeme → Bool
follow_ask x = follow_branches x || follow_when x

abbrev pub follow_moments : Lexeme → Bool
follow_moments x = is_word (codes "AS") x || is_word (codes "DURING") x

abbrev pub follow_full_ask : Lexeme → Bool
follow_full_ask x = follow_branches x || follow_moments x
