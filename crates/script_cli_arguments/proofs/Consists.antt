-- Words are read as asking for something just where they consist of what asks for it.
use Rattle.std.proofs.Common.{◌≡◌, ℕ, Bool, true, false, List, [], ◌∷◌, ◌++◌, refl, ap, ap₂, sym}
use Rattle.std.proofs.Common.{subst, ◌∙◌, Option, Some, None, codes, append_assoc, append-nil, ◌↔◌}
use Rattle.std.specs.Str.{bytes_eq}
use Rattle.std.specs.List.{AllByRecursion}
use Rattle.std.proofs.lemmas.Bool.{both_ways}
use Rattle.std.proofs.lemmas.Slice.Eq.{bytes_eq-Decides}
use Rattle.script_cli_arguments.specs.declared.request.Mode.{Mode}
use Rattle.script_cli_arguments.specs.declared.request.Request.{Request}
use Rattle.script_cli_arguments.specs.Arguments.{Word, Parts, Setting, journal_limit, size}
use Rattle.script_cli_arguments.specs.Arguments.{setting_name}
use Rattle.script_cli_arguments.specs.Arguments.{with_value, any, value, no_option, no_parts}
use Rattle.script_cli_arguments.specs.Arguments.{asked_by}
use Rattle.script_cli_arguments.specs.Arguments.{asked}
use Rattle.script_cli_arguments.specs.Arguments.{limit_of, size_of, mode_of, words_read, is_dashed}
use Rattle.script_cli_arguments.specs.Arguments.{option_name, option_value}
use Rattle.script_cli_arguments.specs.Consisting.{AskFor, Item, joined, apart, plain, IsItem}
use Rattle.script_cli_arguments.specs.Consisting.{words_of}
use Rattle.script_cli_arguments.specs.Consisting.{values_in, plain_in, with_dashes, after_dashes}
use Rattle.script_cli_arguments.proofs.WordKinds.{IsPlainWord, KindOf, dashes, long, short}
use Rattle.script_cli_arguments.proofs.WordKinds.{kind_of_word}
use Rattle.script_cli_arguments.proofs.WordKinds as kinds
use Rattle.script_cli_arguments.proofs.OptionTexts.{name_alone, name_and_value}
use Rattle.script_cli_arguments.proofs.WordsRead.{IsNamed, Naming, names, unknown, naming}
use Rattle.script_cli_arguments.proofs.WordsRead.{reads_unknown}
use Rattle.script_cli_arguments.proofs.WordsRead.{reads_apart, reads_joined, reads_short}
use Rattle.script_cli_arguments.proofs.WordsRead.{reads_other}
use Rattle.script_cli_arguments.proofs.WordsRead.{reads_second, reads_value, reads_no_value}
use Rattle.script_cli_arguments.proofs.WordsRead.{reads_second_after}

abbrev pub parts_at : List Word → List Word → Option Word → Parts
parts_at limits sizes other = record { limits = limits; sizes = sizes; other = other }

abbrev pub others : Option Word → List Word
others None = []
others (Some word) = word ∷ []

-- ---- words that consist of items are read as these

plain_word : (word : Word) → is_dashed word ≡ false → KindOf word → IsPlainWord word
plain_word word e (dashes is) = absurd (both_ways (is_dashed word) e (ap is_dashed is))
plain_word word e (long x xs is) = absurd (both_ways (is_dashed word) e (ap is_dashed is))
plain_word word e (short x xs is f) = absurd (both_ways (is_dashed word) e (ap is_dashed is))
plain_word word e (kinds.plain p) = p

module _ (word : Word) where
  after_completes : (following : List Word) (limits sizes : List Word) (other : Option Word)
      → others other ++ following ≡ word ∷ []
      → words_read no_option (parts_at limits sizes other) following
      ≡ Some (parts_at limits sizes (Some word))
  after_completes [] limits sizes None h = absurd (cc)
  after_completes [] limits sizes (Some v) h = let same : v ≡ word = cc in
      ap (λ (x : Word). Some (parts_at limits sizes (Some x))) same
  after_completes (v ∷ []) limits sizes None h = let same : v ≡ word = cc in
      ap (λ (x : Word). Some (parts_at limits sizes (Some x))) same
  after_completes (v ∷ u ∷ following) limits sizes None h = absurd (cc)
  after_completes (v ∷ following) limits sizes (Some u) h = absurd (cc)

  tail_completes : (tail : Option (List Word)) (limits sizes : List Word) (other : Option Word)
      → others other ++ after_dashes tail ≡ word ∷ []
      → words_read any (parts_at limits sizes other) (with_dashes tail)
      ≡ Some (parts_at limits sizes (Some word))
  tail_completes None limits sizes None h = absurd (cc)
  tail_completes None limits sizes (Some v) h = let same : v ≡ word = cc in
      ap (λ (x : Word). Some (parts_at limits sizes (Some x))) same
  tail_completes (Some following) limits sizes other h =
      after_completes following limits sizes other h

  more_limits : (limits sizes more : List Word) (text : Word)
      → Some (parts_at ((limits ++ text ∷ []) ++ more) sizes (Some word))
      ≡ Some (parts_at (limits ++ (text ∷ more)) sizes (Some word))
  more_limits limits sizes more text = ap (λ (l : List Word). Some (parts_at l sizes (Some word)))
      (append_assoc limits (text ∷ []) more)

  more_sizes : (limits sizes more : List Word) (text : Word)
      → Some (parts_at limits ((sizes ++ text ∷ []) ++ more) (Some word))
      ≡ Some (parts_at limits (sizes ++ (text ∷ more)) (Some word))
  more_sizes limits sizes more text = ap (λ (l : List Word). Some (parts_at limits l (Some word)))
      (append_assoc sizes (text ∷ []) more)

  completes : (tail : Option (List Word)) (items : List Item) → AllByRecursion IsItem items
      → (limits sizes : List Word) (other : Option Word)
      → others other ++ (plain_in items ++ after_dashes tail) ≡ word ∷ []
      → words_read any (parts_at limits sizes other) (words_of items ++ with_dashes tail)
      ≡ Some (parts_at (limits ++ values_in journal_limit items) (sizes ++ values_in size items)
      (Some word))
  completes tail [] valid limits sizes other h =
      tail_completes tail limits sizes other h
      ∙ ap₂ (λ (l k : List Word). Some (parts_at l k (Some word))) (sym (append-nil limits))
      (sym (append-nil sizes))
  completes tail (joined journal_limit text ∷ items) valid limits sizes other h =
      reads_joined (parts_at limits sizes other) (words_of items ++ with_dashes tail) journal_limit
      106 (codes "ournal-limit=" ++ text) text refl refl
      ∙ completes tail items valid.1 (limits ++ text ∷ []) sizes other h
      ∙ more_limits limits _ (values_in journal_limit items) text
  completes tail (joined size text ∷ items) valid limits sizes other h =
      reads_joined (parts_at limits sizes other) (words_of items ++ with_dashes tail) size 115
      (codes "ize=" ++ text) text (refl, refl) refl
      ∙ completes tail items valid.1 limits (sizes ++ text ∷ []) other h
      ∙ more_sizes _ sizes (values_in size items) text
  completes tail (apart journal_limit text ∷ items) valid limits sizes other h =
      reads_apart (parts_at limits sizes other) (text ∷ (words_of items ++ with_dashes tail))
      journal_limit 106 (codes "ournal-limit") refl refl
      ∙ reads_value (parts_at limits sizes other) (words_of items ++ with_dashes tail) journal_limit
      text valid.0
      ∙ completes tail items valid.1 (limits ++ text ∷ []) sizes other h
      ∙ more_limits limits _ (values_in journal_limit items) text
  completes tail (apart size text ∷ items) valid limits sizes other h =
      reads_apart (parts_at limits sizes other) (text ∷ (words_of items ++ with_dashes tail)) size
      115 (codes "ize") (refl, refl) refl
      ∙ reads_value (parts_at limits sizes other) (words_of items ++ with_dashes tail) size text
      valid.0
      ∙ completes tail items valid.1 limits (sizes ++ text ∷ []) other h
      ∙ more_sizes _ sizes (values_in size items) text
  completes tail (plain v ∷ items) valid limits sizes None h =
      reads_other (parts_at limits sizes None) (words_of items ++ with_dashes tail) v
      (plain_word v valid.0 (kind_of_word v)) refl
      ∙ completes tail items valid.1 limits sizes (Some v) h
  completes tail (plain v ∷ items) valid limits sizes (Some u) h = absurd (cc)

-- ---- words that are read consist of items

record Consists (before : Parts) (arguments : List Word) (after : Parts) : Type 0 where
  items : List Item
  tail : Option (List Word)
  words_are : arguments ≡ words_of items ++ with_dashes tail
  valid : AllByRecursion IsItem items
  other_is : others before.other ++ (plain_in items ++ after_dashes tail) ≡ others after.other
  limits_are : after.limits ≡ before.limits ++ values_in journal_limit items
  sizes_are : after.sizes ≡ before.sizes ++ values_in size items

record BeginsWithValue (setting : Setting) (before : Parts) (arguments : List Word)
    (after : Parts) :
    Type 0 where
  text : Word
  rest : List Word
  words_are : arguments ≡ text ∷ rest
  plain_text : is_dashed text ≡ false
  later : Consists (with_value setting text before) rest after

nothing_read : {A : Type 0} (a : Option Parts) (parts : Parts) → a ≡ None → a ≡ Some parts → A
nothing_read a parts none some = let clash : None ≡ Some parts = sym none ∙ some in absurd (cc)

after_consists : (arguments : List Word) (limits sizes : List Word) (other : Option Word)
    (after : Parts)
    → words_read no_option (parts_at limits sizes other) arguments ≡ Some after
    → (others other ++ arguments ≡ others after.other) × (after.limits ≡ limits)
    × (after.sizes ≡ sizes)
after_consists [] limits sizes other after e =
    let same : parts_at limits sizes other ≡ after = cc in (
      append-nil (others other) ∙ ap (λ (p : Parts). others p.other) same,
      sym (ap (λ (p : Parts). p.limits) same),
      sym (ap (λ (p : Parts). p.sizes) same),
    )
after_consists (word ∷ arguments) limits sizes None after e =
    after_consists arguments limits sizes (Some word) after e
after_consists (word ∷ arguments) limits sizes (Some u) after e =
    nothing_read _ after (reads_second_after (parts_at limits sizes (Some u)) arguments word u refl)
    e

-- the name of an option that is known
named : (setting : Setting) (text : Word) → IsNamed setting text
    → setting_name setting ≡ option_name text
named journal_limit text n = (bytes_eq-Decides (codes "journal-limit") (option_name text)).0 n
named size text n = (bytes_eq-Decides (codes "size") (option_name text)).0 n.1

-- one value more at the start of those to come
module _ (text : Word) (before after : Parts) (items : List Item) where
  limits_apart : (setting : Setting) → after.limits ≡ (with_value setting text before).limits
      ++ values_in journal_limit items
      → after.limits ≡ before.limits ++ values_in journal_limit (apart setting text ∷ items)
  limits_apart journal_limit e = e ∙ append_assoc before.limits (text ∷ [])
      (values_in journal_limit items)
  limits_apart size e = e

  sizes_apart : (setting : Setting) → after.sizes ≡ (with_value setting text before).sizes
      ++ values_in size items
      → after.sizes ≡ before.sizes ++ values_in size (apart setting text ∷ items)
  sizes_apart journal_limit e = e
  sizes_apart size e = e ∙ append_assoc before.sizes (text ∷ []) (values_in size items)

  other_same : (setting : Setting) (rest : List Word)
      → others (with_value setting text before).other ++ rest ≡ others after.other
      → others before.other ++ rest ≡ others after.other
  other_same journal_limit rest e = e
  other_same size rest e = e

module _ (arguments : List Word) (later : (before after : Parts)
    → words_read any before arguments ≡ Some after → Consists before arguments after)
    (later_value : (setting : Setting) (before after : Parts)
    → words_read (value setting) before arguments ≡ Some after
    → BeginsWithValue setting before arguments after)
    (before after : Parts) where
  value_consists : (setting : Setting) (word : Word) (b : Bool) → is_dashed word ≡ b
      → words_read (value setting) before (word ∷ arguments) ≡ Some after
      → BeginsWithValue setting before (word ∷ arguments) after
  value_consists setting word true d e = nothing_read _ after
      (reads_no_value before arguments setting word d) e
  value_consists setting word false d e = record {
    text = word;
    rest = arguments;
    words_are = refl;
    plain_text = d;
    later = later (with_value setting word before) after
        (sym (reads_value before arguments setting word d) ∙ e);
  }

  option_consists : (x : ℕ) (xs : List ℕ) (given : Option Word) → Naming (x ∷ xs)
      → option_value (x ∷ xs) ≡ given
      → words_read any before ((45 ∷ 45 ∷ x ∷ xs) ∷ arguments) ≡ Some after
      → Consists before ((45 ∷ 45 ∷ x ∷ xs) ∷ arguments) after
  option_consists x xs given (unknown n) d e =
      nothing_read _ after (reads_unknown before arguments x xs n) e
  option_consists x xs None (names setting n) d e =
      let found = later_value setting before after
      (sym (reads_apart before arguments setting x xs n d) ∙ e) in
      let text_is : x ∷ xs ≡ setting_name setting =
      sym (named setting (x ∷ xs) n ∙ name_alone (x ∷ xs) d) in record {
        items = apart setting found.text ∷ found.later.items;
        tail = found.later.tail;
        words_are = ap₂ (λ (t : Word) (ws : List Word). (45 ∷ 45 ∷ t) ∷ ws) text_is
            (found.words_are ∙ ap (λ (ws : List Word). found.text ∷ ws) found.later.words_are);
        valid = (found.plain_text, found.later.valid);
        other_is = other_same found.text before after found.later.items setting _
            found.later.other_is;
        limits_are = limits_apart found.text before after found.later.items setting
            found.later.limits_are;
        sizes_are = sizes_apart found.text before after found.later.items setting
            found.later.sizes_are;
      }
  option_consists x xs (Some text) (names setting n) d e =
      let found = later (with_value setting text before) after
      (sym (reads_joined before arguments setting x xs text n d) ∙ e) in
      let text_is : x ∷ xs ≡ setting_name setting ++ 61 ∷ text = name_and_value (x ∷ xs) text d
      ∙ ap (λ (t : Word). t ++ 61 ∷ text) (sym (named setting (x ∷ xs) n)) in record {
        items = joined setting text ∷ found.items;
        tail = found.tail;
        words_are = ap₂ (λ (t : Word) (ws : List Word). (45 ∷ 45 ∷ t) ∷ ws) text_is found.words_are;
        valid = (tt, found.valid);
        other_is = other_same text before after found.items setting _ found.other_is;
        limits_are = limits_apart text before after found.items setting found.limits_are;
        sizes_are = sizes_apart text before after found.items setting found.sizes_are;
      }

  plain_consists : (other : Option Word) (word : Word) → before.other ≡ other → IsPlainWord word
      → words_read any before (word ∷ arguments) ≡ Some after
      → Consists before (word ∷ arguments) after
  plain_consists None word o w e =
      let found = later (record before { other = Some word }) after
      (sym (reads_other before arguments word w o) ∙ e) in record {
        items = plain word ∷ found.items;
        tail = found.tail;
        words_are = ap (λ (ws : List Word). word ∷ ws) found.words_are;
        valid = (w.dashed, found.valid);
        other_is = ap (λ (q : Option Word). others q
            ++ (word ∷ (plain_in found.items ++ after_dashes found.tail))) o ∙ found.other_is;
        limits_are = found.limits_are;
        sizes_are = found.sizes_are;
      }
  plain_consists (Some u) word o w e = nothing_read _ after
      (reads_second before arguments word u w o) e

  word_consists : (word : Word) → KindOf word
      → words_read any before (word ∷ arguments) ≡ Some after
      → Consists before (word ∷ arguments) after
  word_consists word (dashes is) e =
      let following = after_consists arguments before.limits before.sizes before.other after
      (subst (λ (w : Word). words_read any before (w ∷ arguments) ≡ Some after) is e) in record {
        items = [];
        tail = Some arguments;
        words_are = ap (λ (w : Word). w ∷ arguments) is;
        valid = tt;
        other_is = following.0;
        limits_are = following.1 ∙ sym (append-nil before.limits);
        sizes_are = following.2 ∙ sym (append-nil before.sizes);
      }
  word_consists word (long x xs is) e = subst (λ (w : Word). Consists before (w ∷ arguments) after)
      (sym is)
      (option_consists x xs (option_value (x ∷ xs)) (naming (x ∷ xs)) refl
      (subst (λ (w : Word). words_read any before (w ∷ arguments) ≡ Some after) is e))
  word_consists word (short x xs is f) e =
      nothing_read _ after (reads_short before arguments x xs f)
      (subst (λ (w : Word). words_read any before (w ∷ arguments) ≡ Some after) is e)
  word_consists word (kinds.plain w) e = plain_consists before.other word refl w e

all_consist : (arguments : List Word)
    → ((before after : Parts) → words_read any before arguments ≡ Some after
    → Consists before arguments after)
    × ((setting : Setting) (before after : Parts)
    → words_read (value setting) before arguments ≡ Some after
    → BeginsWithValue setting before arguments after)
all_consist [] = (
  λ before after e. let same : before ≡ after = cc in record {
    items = [];
    tail = None;
    words_are = refl;
    valid = tt;
    other_is = append-nil (others before.other) ∙ ap (λ (p : Parts). others p.other) same;
    limits_are = sym (ap (λ (p : Parts). p.limits) same) ∙ sym (append-nil before.limits);
    sizes_are = sym (ap (λ (p : Parts). p.sizes) same) ∙ sym (append-nil before.sizes);
  },
  λ setting before after e. absurd (cc),
)
all_consist (word ∷ arguments) =
    let later = all_consist arguments in (
      λ before after e. word_consists arguments later.0 later.1 before after word
          (kind_of_word word) e,
      λ setting before after e. value_consists arguments later.0 later.1 before after setting word
          (is_dashed word) refl e,
    )

-- ---- what is asked for

is_asked : (arguments : List Word) (request : Request) → AskFor arguments request
    → asked arguments ≡ Some request
is_asked arguments request ask =
    let read : words_read any no_parts arguments ≡ Some
    (parts_at (values_in journal_limit ask.items) (values_in size ask.items) (Some ask.word)) =
    ap (words_read any no_parts) ask.words_are
    ∙ completes ask.word ask.tail ask.items ask.valid [] [] None ask.one_other in
    let limit_is = ask.limit_is in
    let size_is = ask.size_is in
    let mode_is = ask.mode_is in
    ap asked_by read ∙ rw (limit_is, size_is, mode_is)

module _ (arguments : List Word) (request : Request) (parts : Parts)
    (c : Consists no_parts arguments parts)
    (h : asked_by (Some parts) ≡ Some request) where
  refused : asked_by (Some parts) ≡ None → AskFor arguments request
  refused none = let clash : None ≡ Some request = sym none ∙ h in absurd (cc)

  by_mode : (limit n : ℕ) (other : Option Word) (mode : Option Mode)
      → limit_of parts.limits ≡ Some limit → size_of parts.sizes ≡ Some n → parts.other ≡ other
      → mode_of other n ≡ mode → AskFor arguments request
  by_mode limit n None mode l s o m = refused (rw (l, s, o))
  by_mode limit n (Some word) None l s o m = refused (rw (l, s, o, m))
  by_mode limit n (Some word) (Some mode) l s o m =
      let same : asked_by (Some parts) ≡ Some (record { journal_limit = limit; mode = mode }) =
      rw (l, s, o, m) in
      let is : record { journal_limit = limit; mode = mode } ≡ request =
      let both : Some (record { journal_limit = limit; mode = mode }) ≡ Some request = sym same
      ∙ h in cc in record {
        items = c.items;
        tail = c.tail;
        word = word;
        n = n;
        words_are = c.words_are;
        valid = c.valid;
        one_other = c.other_is ∙ ap others o;
        limit_is = ap limit_of (sym c.limits_are) ∙ l
            ∙ ap (λ (r : Request). Some r.journal_limit) is;
        size_is = ap size_of (sym c.sizes_are) ∙ s;
        mode_is = m ∙ ap (λ (r : Request). Some r.mode) is;
      }

  by_size : (limit : ℕ) (n : Option ℕ) → limit_of parts.limits ≡ Some limit
      → size_of parts.sizes ≡ n → AskFor arguments request
  by_size limit None l s = refused (rw (l, s))
  by_size limit (Some n) l s = by_mode limit n parts.other (mode_of parts.other n) l s refl refl

  by_limit : (limit : Option ℕ) → limit_of parts.limits ≡ limit → AskFor arguments request
  by_limit None l = refused (rw l)
  by_limit (Some limit) l = by_size limit (size_of parts.sizes) l refl

asked_parts : (arguments : List Word) (request : Request) (read : Option Parts)
    → words_read any no_parts arguments ≡ read → asked_by read ≡ Some request
    → AskFor arguments request
asked_parts arguments request None e h = absurd (cc)
asked_parts arguments request (Some parts) e h = by_limit arguments request parts
    ((all_consist arguments).0 no_parts parts e) h (limit_of parts.limits) refl

words_ask : (arguments : List Word) (request : Request)
    → (asked arguments ≡ Some request) ↔ AskFor arguments request
words_ask arguments request = (
  asked_parts arguments request (words_read any no_parts arguments) refl,
  is_asked arguments request,
)

pub asked_consist : (arguments : List Word) (it : Option Request) → it ≡ asked arguments
    → (request : Request) → (it ≡ Some request) ↔ AskFor arguments request
asked_consist arguments it e request = subst (λ (o : Option Request). (o ≡ Some request)
    ↔ AskFor arguments request) (sym e) (words_ask arguments request)
