-- What the rows of an option and of the other word hold, after one more use of either.
use Rattle.std.proofs.Common.{◌≡◌, Bool, true, false, List, [], ◌∷◌, ◌++◌, refl, codes, ap, Option}
use Rattle.std.proofs.Common.{Some, sym, subst, ◌∙◌, unwrap_or}
use Rattle.std.specs.Prelude.{is_some}
use Rattle.std.specs.Str.{bytes_eq}
use Rattle.std.proofs.lemmas.Slice.Eq.{bytes_eq-Decides}
use Rattle.std.proofs.lemmas.Bool.{or_parts}
use Rattle.clap.specs.Walk.{Row, all_of, first_of, has_row, with_values, without}
use Rattle.clap.specs.declared.builder.value_parser.Reading.{Reading}
use Rattle.clap.specs.declared.parser.matches.ValueSource.TheVariants.{CommandLine}
use Rattle.script_cli_arguments.specs.Arguments.{Word, Parts, Setting, journal_limit, size}
use Rattle.script_cli_arguments.specs.Arguments.{setting_name}
use Rattle.script_cli_arguments.specs.Arguments.{with_value}

abbrev pub word_name : Word
word_name = codes "word"

-- the values of an option
abbrev pub values_of : Setting → Parts → List Word
values_of journal_limit parts = parts.limits
values_of size parts = parts.sizes

-- those that the rows hold
abbrev pub held_values : Setting → List Row → List Word
held_values setting rows = unwrap_or (all_of (setting_name setting) rows) []

-- the rows hold what the parts say
pub record Keeps (rows : List Row) (parts : Parts) : Type 0 where
  pub values : (setting : Setting) → held_values setting rows ≡ values_of setting parts
  pub other : first_of word_name rows ≡ parts.other
  pub has : has_row word_name rows ≡ is_some parts.other

-- ---- a use of an option, whose name is not that of others

module _ (name : Word) (itself : bytes_eq name name ≡ true) (how : Reading) (word : Word) where
  abbrev with_one : List Row → List Row
  with_one = with_values name how CommandLine (word ∷ [])

  values_here : (r : Row) (rows : List Row) (b : Bool) → bytes_eq r.id name ≡ b
      → unwrap_or (all_of name (with_one rows)) [] ≡ unwrap_or (all_of name rows) [] ++ word ∷ []
      → unwrap_or (all_of name (with_one (r ∷ rows))) [] ≡ unwrap_or (all_of name (r ∷ rows)) []
      ++ word ∷ []
  values_here r rows true e h = rw (e, e)
  values_here r rows false e h = rw (e, e) h

  pub more_values : (rows : List Row) → unwrap_or (all_of name (with_one rows)) []
      ≡ unwrap_or (all_of name rows) [] ++ word ∷ []
  more_values [] = rw itself
  more_values (r ∷ rows) = values_here r rows (bytes_eq r.id name) refl (more_values rows)

  module _ (other : Word) (apart : bytes_eq name other ≡ false) where
    not_there : (id : Word) → bytes_eq id name ≡ true → bytes_eq id other ≡ false
    not_there id e = subst (λ x. bytes_eq x other ≡ false) (sym ((bytes_eq-Decides id name).0 e))
        apart

    past_all : (r : Row) (rows : List Row) (b : Bool) → bytes_eq r.id name ≡ false
        → bytes_eq r.id other ≡ b
        → all_of other (with_one rows) ≡ all_of other rows
        → all_of other (with_one (r ∷ rows)) ≡ all_of other (r ∷ rows)
    past_all r rows true e d h = rw (e, d)
    past_all r rows false e d h = rw (e, d) h

    all_here : (r : Row) (rows : List Row) (b : Bool) → bytes_eq r.id name ≡ b
        → all_of other (with_one rows) ≡ all_of other rows
        → all_of other (with_one (r ∷ rows)) ≡ all_of other (r ∷ rows)
    all_here r rows true e h = let none = not_there r.id e in rw (e, none)
    all_here r rows false e h = past_all r rows (bytes_eq r.id other) e refl h

    pub same_all : (rows : List Row) → all_of other (with_one rows) ≡ all_of other rows
    same_all [] = rw apart
    same_all (r ∷ rows) = all_here r rows (bytes_eq r.id name) refl (same_all rows)

    past_first : (r : Row) (rows : List Row) (b : Bool) → bytes_eq r.id name ≡ false
        → bytes_eq r.id other ≡ b
        → first_of other (with_one rows) ≡ first_of other rows
        → first_of other (with_one (r ∷ rows)) ≡ first_of other (r ∷ rows)
    past_first r rows true e d h = rw (e, d)
    past_first r rows false e d h = rw (e, d) h

    first_here : (r : Row) (rows : List Row) (b : Bool) → bytes_eq r.id name ≡ b
        → first_of other (with_one rows) ≡ first_of other rows
        → first_of other (with_one (r ∷ rows)) ≡ first_of other (r ∷ rows)
    first_here r rows true e h = let none = not_there r.id e in rw (e, none)
    first_here r rows false e h = past_first r rows (bytes_eq r.id other) e refl h

    pub same_first : (rows : List Row) → first_of other (with_one rows) ≡ first_of other rows
    same_first [] = rw apart
    same_first (r ∷ rows) = first_here r rows (bytes_eq r.id name) refl (same_first rows)

    has_here : (r : Row) (rows : List Row) (b : Bool) → bytes_eq r.id name ≡ b
        → has_row other (with_one rows) ≡ has_row other rows
        → has_row other (with_one (r ∷ rows)) ≡ has_row other (r ∷ rows)
    has_here r rows true e h = rw e
    has_here r rows false e h = rw (e, h)

    pub same_has : (rows : List Row) → has_row other (with_one rows) ≡ has_row other rows
    same_has [] = rw apart
    same_has (r ∷ rows) = has_here r rows (bytes_eq r.id name) refl (same_has rows)

-- ---- the use of the other word

module _ (how : Reading) (word : Word) where
  abbrev with_word : List Row → List Row
  with_word rows = with_values word_name how CommandLine (word ∷ []) (without word_name rows)

  module _ (name : Word) (apart : bytes_eq word_name name ≡ false) where
    past_values : (r : Row) (rows : List Row) (b : Bool) → bytes_eq r.id word_name ≡ false
        → bytes_eq r.id name ≡ b
        → all_of name (with_word rows) ≡ all_of name rows
        → all_of name (with_word (r ∷ rows)) ≡ all_of name (r ∷ rows)
    past_values r rows true e d h = rw (e, e, d)
    past_values r rows false e d h = rw (e, e, d) h

    pub word_values : (rows : List Row) → has_row word_name rows ≡ false
        → all_of name (with_word rows) ≡ all_of name rows
    word_values [] none = rw apart
    word_values (r ∷ rows) none = let parts =
        or_parts (bytes_eq r.id word_name) (has_row word_name rows) none in
        past_values r rows (bytes_eq r.id name) parts.0 refl (word_values rows parts.1)

  pub word_other : (rows : List Row) → has_row word_name rows ≡ false
      → first_of word_name (with_word rows) ≡ Some word
  word_other [] none = refl
  word_other (r ∷ rows) none = let parts = or_parts (bytes_eq r.id word_name)
      (has_row word_name rows) none in rw (parts.0, parts.0, parts.0) (word_other rows parts.1)

  pub word_has : (rows : List Row) → has_row word_name rows ≡ false
      → has_row word_name (with_word rows) ≡ true
  word_has [] none = refl
  word_has (r ∷ rows) none = let parts = or_parts (bytes_eq r.id word_name) (has_row word_name rows)
      none in rw (parts.0, parts.0, parts.0) (word_has rows parts.1)

-- ---- one more value of an option

pub more_of : (setting : Setting) (how : Reading) (word : Word) (rows : List Row) (parts : Parts)
    → Keeps rows parts
    → Keeps (with_values (setting_name setting) how CommandLine (word ∷ []) rows)
    (with_value setting word parts)
more_of journal_limit how word rows parts k = record {
  values = both;
  other = same_first (codes "journal-limit") refl how word word_name refl rows ∙ k.other;
  has = same_has (codes "journal-limit") refl how word word_name refl rows ∙ k.has;
}
  where
    both : (setting : Setting) → held_values setting
        (with_one (codes "journal-limit") refl how word rows)
        ≡ values_of setting (with_value journal_limit word parts)
    both journal_limit = more_values (codes "journal-limit") refl how word rows
        ∙ ap (λ (l : List Word). l ++ word ∷ []) (k.values journal_limit)
    both size = ap (λ (o : Option (List Word)). unwrap_or o [])
        (same_all (codes "journal-limit") refl how word (codes "size") refl rows) ∙ k.values size
more_of size how word rows parts k = record {
  values = both;
  other = same_first (codes "size") refl how word word_name refl rows ∙ k.other;
  has = same_has (codes "size") refl how word word_name refl rows ∙ k.has;
}
  where
    both : (setting : Setting) → held_values setting (with_one (codes "size") refl how word rows)
        ≡ values_of setting (with_value size word parts)
    both journal_limit = ap (λ (o : Option (List Word)). unwrap_or o [])
        (same_all (codes "size") refl how word (codes "journal-limit") refl rows)
        ∙ k.values journal_limit
    both size = more_values (codes "size") refl how word rows
        ∙ ap (λ (l : List Word). l ++ word ∷ []) (k.values size)

-- the other word
pub word_of : (how : Reading) (word : Word) (rows : List Row) (parts : Parts)
    → has_row word_name rows ≡ false → Keeps rows parts
    → Keeps (with_word how word rows) (record parts { other = Some word })
word_of how word rows parts lacks k = record {
  values = both;
  other = word_other how word rows lacks;
  has = word_has how word rows lacks;
}
  where
    both : (setting : Setting) → held_values setting (with_word how word rows)
        ≡ values_of setting (record parts { other = Some word })
    both journal_limit = ap (λ (o : Option (List Word)). unwrap_or o [])
        (word_values how word (codes "journal-limit") refl rows lacks) ∙ k.values journal_limit
    both size = ap (λ (o : Option (List Word)). unwrap_or o [])
        (word_values how word (codes "size") refl rows lacks) ∙ k.values size
