-- Texts that are written part by part, one after the other.
use Rattle.std.specs.Prelude.{◌≡◌, ◌+◌, ◌-◌, ◌++◌, ◌<◌, ◌≤◌, ◌∷◌, [], ℕ, suc, List, map, codes}
use Rattle.std.specs.Prelude.{length, take, drop, get_or}
use Rattle.std.proofs.Common.{refl, sym, ap, ◌∙◌, arith}
use Rattle.std.proofs.lemmas.List.{append_assoc}
use Rattle.std.proofs.Math.Seq.{drop-cons}
use Rattle.prima_base.specs.Columns.{Column}
use Rattle.schema_catalog.specs.Places.{NamedColumns}
use Rattle.smo_ops_spec.specs.Checks.{pair_names}
use Rattle.smo_ops_spec.specs.OneRow.{Row}
use Rattle.smo_parse.specs.TreeTexts.{value_text}
use Rattle.smo_parse.specs.Texts.{listed, part_text}
use Rattle.smo_parse.proofs.After.{one_more}
use Rattle.version_export_past_spec.specs.Rows.{row_cells, beginning}
use Rattle.version_export_lines_spec.specs.Lines.{change_text, then_texts, changes_text}
use Rattle.version_export_lines_spec.specs.Lines.{cell_values}
use Rattle.version_export.specs.declared.row_turn.RowTurn.{RowTurn}
use Rattle.version_export.specs.declared.seen_table.SeenTable.{SeenTable}
use Rattle.version_export.specs.Statements.{create_text, then_creates, creates_text}
use Rattle.version_export.specs.Turns.{change_of}
use Rattle.version_export.specs.Written.{tables_seen}

-- ---- bytes

three : (o p q r a b c : List ℕ) → p ≡ o ++ a → q ≡ p ++ b → r ≡ q ++ c → r ≡ o ++ (a ++ b ++ c)
three o p q r a b c e f g = one_more o q r (a ++ b) c (one_more o p q a b e f) g

pub four : (o p q r s a b c d : List ℕ) → p ≡ o ++ a → q ≡ p ++ b → r ≡ q ++ c → s ≡ r ++ d
    → s ≡ o ++ (a ++ b ++ c ++ d)
four o p q r s a b c d e f g h = one_more o r s (a ++ b ++ c) d (three o p q r a b c e f g) h

-- two parts more, before the rest
two_before : (old mid new a b rest : List ℕ) → mid ≡ old ++ a → new ≡ mid ++ b
    → new ++ rest ≡ old ++ (a ++ (b ++ rest))
two_before old mid new a b rest e f = ap (λ x. x ++ rest) f ∙ append_assoc mid b rest
    ∙ ap (λ x. x ++ (b ++ rest)) e ∙ append_assoc old a (b ++ rest)

-- three parts at the end of a text
at_end : (s a b c : List ℕ) → s ++ (a ++ b ++ c) ≡ s ++ a ++ b ++ c
at_end s a b c = sym (append_assoc (s ++ a) b c ∙ append_assoc s a (b ++ c)
    ∙ ap (λ x. s ++ x) (sym (append_assoc a b c)))

-- ---- items

-- what is left from an item on
left_from : {X : Type 0} (xs : List X) (i : ℕ) (x : X) → i < length xs → x ≡ get_or xs i x
    → drop i xs ≡ x ∷ drop (i + 1) xs
left_from xs i x l e =
    let one : suc i ≡ i + 1 = omega arith in
    drop-cons xs i x l ∙ ap (λ y. y ∷ drop (suc i) xs) (sym e)
    ∙ ap (λ k. x ∷ drop k xs) one

-- the first item, and the rest as a pattern has it
cut_first : {X : Type 0} (xs : List X) (x : X) → 1 ≤ length xs → x ≡ get_or xs 0 x
    → xs ≡ x ∷ take (length xs - 1) (drop 1 xs)
cut_first [] x l e = absurd (omega (arith, l))
cut_first (y ∷ xs) x l e = ap (λ z. z ∷ xs) (sym e)
    ∙ ap (λ ys. x ∷ ys) (sym (all_taken xs (length (y ∷ xs) - 1) (omega arith)))
  where
    all_taken : {Y : Type 0} (ys : List Y) (n : ℕ) → n ≡ length ys → take n ys ≡ ys
    all_taken ys n q = ap (λ k. take k ys) q ∙ whole ys
      where
        whole : {Z : Type 0} (zs : List Z) → take (length zs) zs ≡ zs
        whole [] = refl
        whole (z ∷ zs) = ap (λ l. z ∷ l) (whole zs)

-- ---- tables

pub one_created : (tables : List SeenTable) (i : ℕ) (t : SeenTable) (old mid new start : List ℕ)
    → i < length tables → t ≡ get_or tables i t
    → old ++ then_creates (tables_seen (drop i tables)) ≡ start → mid ≡ old ++ codes " THEN "
    → new ≡ mid ++ create_text t.table.now
    → new ++ then_creates (tables_seen (drop (i + 1) tables)) ≡ start
one_created tables i t old mid new start l e s f g =
    two_before old mid new (codes " THEN ") (create_text t.table.now)
    (then_creates (tables_seen (drop (i + 1) tables))) f g
    ∙ ap (λ (ts : List SeenTable). old ++ then_creates (tables_seen ts))
    (sym (left_from tables i t l e))
    ∙ s

pub list_created : (tables : List SeenTable) (t : SeenTable) (old new : List ℕ)
    → 2 ≤ length tables → t ≡ get_or tables 0 t
    → new ≡ old ++ (codes "(" ++ create_text t.table.now
    ++ then_creates (tables_seen (take (length tables - 1) (drop 1 tables))) ++ codes ")")
    → new ≡ old ++ creates_text (tables_seen tables)
list_created tables t old new l e f = f ∙ ap (λ text. old ++ text)
    (several (take (length tables - 1) (drop 1 tables)) more
    ∙ ap (λ (ts : List SeenTable). creates_text (tables_seen ts)) (sym cut))
  where
    cut : tables ≡ t ∷ take (length tables - 1) (drop 1 tables)
    cut = cut_first tables t (omega (arith, l)) e

    more : 1 ≤ length (take (length tables - 1) (drop 1 tables))
    more = (let n = ap (λ (ts : List SeenTable). length ts) cut in omega (arith, n, l))

    several : (ts : List SeenTable) → 1 ≤ length ts
        → codes "(" ++ create_text t.table.now ++ then_creates (tables_seen ts) ++ codes ")"
        ≡ creates_text (tables_seen (t ∷ ts))
    several [] k = absurd (omega (arith, k))
    several (u ∷ ts) k = refl

-- ---- changes

pub one_changed : (turns : List RowTurn) (i : ℕ) (t : RowTurn) (old mid new start : List ℕ)
    → i < length turns → t ≡ get_or turns i t
    → old ++ then_texts (map change_of (drop i turns)) ≡ start → mid ≡ old ++ codes " THEN "
    → new ≡ mid ++ change_text (change_of t)
    → new ++ then_texts (map change_of (drop (i + 1) turns)) ≡ start
one_changed turns i t old mid new start l e s f g =
    two_before old mid new (codes " THEN ") (change_text (change_of t))
    (then_texts (map change_of (drop (i + 1) turns))) f g
    ∙ ap (λ (ts : List RowTurn). old ++ then_texts (map change_of ts))
    (sym (left_from turns i t l e))
    ∙ s

pub changes_cut : (turns : List RowTurn) (t : RowTurn) → 1 ≤ length turns
    → t ≡ get_or turns 0 t → changes_text (map change_of turns)
    ≡ change_text (change_of t)
    ++ then_texts (map change_of (take (length turns - 1) (drop 1 turns)))
changes_cut turns t l e =
    ap (λ (ts : List RowTurn). changes_text (map change_of ts)) (cut_first turns t l e)

-- ---- a row

pub row_begun : (o p q r : List ℕ) (t : NamedColumns) (columns : List Column) (row : Row)
    → columns ≡ t.1 → p ≡ o ++ codes "INSERT INTO "
    → q ≡ p ++ part_text t.0 (pair_names (row_cells t.1 row))
    → r ≡ q ++ (codes " VALUES (" ++ listed (map value_text (cell_values (row_cells columns row)))
    ++ codes ")")
    → r ≡ o ++ change_text (beginning t row)
row_begun o p q r t columns row e f g h =
    let named : List ℕ = part_text t.0 (pair_names (row_cells t.1 row)) in
    let values : List ℕ = listed (map value_text (cell_values (row_cells t.1 row))) in
    three o p q r (codes "INSERT INTO ") named
    (codes " VALUES (" ++ values ++ codes ")") f g
    (h ∙ ap (λ (cs : List Column). q ++ (codes " VALUES ("
    ++ listed (map value_text (cell_values (row_cells cs row))) ++ codes ")")) e)
    ∙ ap (λ text. o ++ text) (at_end (codes "INSERT INTO " ++ named) (codes " VALUES (") values
    (codes ")"))
