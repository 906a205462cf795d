-- The lines of the commands that rebuild rows are read as these commands.
use Rattle.std.specs.Prelude.{◌≡◌, ◌≤◌, ◌<◌, ◌-◌, ◌++◌, ℕ, false, cond, List, [], ◌∷◌, map}
use Rattle.std.specs.Prelude.{length, nat_lt, Option, Some, None, ⊤}
use Rattle.std.proofs.Common.{refl, sym, ap, ◌∙◌, inl, inr, arith}
use Rattle.std.proofs.lemmas.Bool.Decides.{nat_tests}
use Rattle.std.specs.FinMap.{get, entries}
use Rattle.relations_spec.specs.Sets.{In}
use Rattle.relations_spec.specs.Spans.{forever}
use Rattle.prima_base.specs.Limits.{max_statement}
use Rattle.prima_base.specs.Columns.{Column, IsRow}
use Rattle.schema_catalog.specs.Places.{NamedColumns}
use Rattle.schema_catalog.specs.Tables.{Tables, IsSchema}
use Rattle.schema_catalog.specs.Databases.{Database, DatabaseEntry, Rows, Lost, IsDatabase}
use Rattle.smo_ops_types.specs.Changes.{PlainChange}
use Rattle.smo_ops_types.specs.Commands.{changing, PlainCommand}
use Rattle.smo_ops_spec.specs.Preconditions.{AreNarrow}
use Rattle.smo_ops_spec.specs.OneRow.{Row}
use Rattle.smo_ops_spec.specs.Effects.{rows_under}
use Rattle.smo_ops_spec.specs.ValidValues.{HoldsValues, EntryHolds, AreValues}
use Rattle.script_parse.specs.Productions.{IsChange, IsInsert, IsDelete, AreChanges}
use Rattle.script_parse.specs.Productions.{IsBody, IsStatement}
use Rattle.script_parse.specs.Statements.{write}
use Rattle.script_parse.specs.Script.{part_of}
use Rattle.script_parse.specs.Script.{Skipped}
use Rattle.script_parse.specs.Script.{Whole as WholePart}
use Rattle.script_parse.specs.Reading.{reading}
use Rattle.smo_parse.proofs.PrintedParts.{Printed, among}
use Rattle.version_export_past_spec.specs.Rows.{row_cells, ending as ending_of, beginning}
use Rattle.version_export_past_spec.specs.Rows.{changes_between}
use Rattle.version_export_past_spec.specs.Commands.{a_command, if_any, commands_at, row_commands}
use Rattle.version_export_past_spec.proofs.Acceptance.{cells_count}
use Rattle.version_export_past_spec.proofs.Changing.{each_change}
use Rattle.version_export_lines_spec.specs.Lines.{change_text, command_text}
use Rattle.version_export_lines_spec.specs.Named.{AreFreeNames, IsReadable, AreReadable}
use Rattle.version_export_lines_spec.specs.Read.{AllShort, AllBefore, as_read, IsReadBack}
use Rattle.version_export_lines_spec.proofs.Printing.{AllPrinted, insert_printed, delete_printed}
use Rattle.version_export_lines_spec.proofs.Printing.{changes_printed, command_printed}
use Rattle.version_export_lines_spec.proofs.Reading.{reads, reads_after_line}
use Rattle.version_export_lines_spec.proofs.Splitting.{spells_lead, AllLead, texts_in, later_texts}
use Rattle.version_export_lines_spec.proofs.Splitting.{script_statements, script_ends}

-- ---- rows

cells_read : (columns : List Column) (row : Row) → AreFreeNames columns → IsRow columns row
    → AreValues row → AreReadable (row_cells columns row)
cells_read [] row n r v = tt
cells_read (c ∷ columns) [] n r v = absurd r
cells_read (c ∷ columns) (x ∷ row) n r v = (
  (n.0, v x (inl refl)),
  cells_read columns row n.1 r.1 (λ y m. v y (inr m)),
)

values_in : (x : Option DatabaseEntry) (row : Row) → EntryHolds x → In row (rows_under x)
    → AreValues row
values_in None row h m = absurd m
values_in (Some (Rows rows)) row h m = h row m
values_in (Some (Lost k i)) row h m = absurd m

module _ (t : NamedColumns) (readable : IsReadable t) (row : Row) (fits : IsRow t.1 row)
    (values : AreValues row) where
  cells : AreReadable (row_cells t.1 row)
  cells = cells_read t.1 row readable.columns fits values

  some : 1 ≤ length (row_cells t.1 row)
  some = (let s = readable.some in let c = cells_count t.1 row fits in omega (arith, s, c))

  ending_printed : Printed IsChange 0 (ending_of t row) (change_text (ending_of t row))
  ending_printed = among IsDelete IsChange 0 _ _ (λ s f k. inr (inl k))
      (delete_printed t.0 readable.table (row_cells t.1 row) some
      (let f = readable.few in let c = cells_count t.1 row fits in omega (arith, f, c)) cells)

  beginning_printed : Printed IsChange 0 (beginning t row) (change_text (beginning t row))
  beginning_printed = among IsInsert IsChange 0 _ _ (λ s f k. inl k)
      (insert_printed t.0 readable.table (row_cells t.1 row) some cells)

-- ---- commands

abbrev pub AllLines : List PlainCommand → Type 0
AllLines [] = ⊤
AllLines (c ∷ commands) = Printed IsStatement 0 (write c) (command_text c) × AllLines commands

lines_append : (a b : List PlainCommand) → AllLines a → AllLines b → AllLines (a ++ b)
lines_append [] b h k = k
lines_append (c ∷ a) b h k = (h.0, lines_append a b h.1 k)

each_printed : (changes : List PlainChange)
    → ((c : PlainChange) → In c changes → Printed IsChange 0 c (change_text c))
    → AllPrinted IsChange change_text changes
each_printed [] h = tt
each_printed (c ∷ changes) h = (h c (inl refl), each_printed changes (λ d m. h d (inr m)))

one_line : (m : ℕ) (changes : List PlainChange) → m < forever
    → AllPrinted IsChange change_text changes → AllLines (if_any m changes)
one_line m [] l h = tt
one_line m (c ∷ changes) l h = (
  command_printed (a_command m (changing (c ∷ changes))) (omega (arith, l))
      (among AreChanges IsBody 0 _ _ (λ s f k. inr k) (changes_printed c changes h)),
  tt,
)

module _ (tables : Tables) (schema : IsSchema tables) (narrow : AreNarrow tables)
    (readable : (t : NamedColumns) → In t (entries tables) → IsReadable t)
    (shown : ℕ → Database) (each : (m : ℕ) → IsDatabase tables (shown m))
    (values : (m : ℕ) → HoldsValues (shown m)) where
  pub row_lines : (moments : List ℕ) → AllBefore moments
      → AllLines (row_commands (entries tables) shown moments)
  row_lines [] h = tt
  row_lines (m ∷ moments) h = lines_append (commands_at (entries tables) shown m)
      (row_commands (entries tables) shown moments)
      (one_line m (changes_between (entries tables) (shown (m - 1)) (shown m)) h.0
      (each_printed _ (each_change tables schema narrow (shown (m - 1)) (shown m) (each (m - 1))
      (each m) (λ c. Printed IsChange 0 c (change_text c))
      (λ t row i r k. ending_printed t (readable t i) row r
      (values_in (get (shown (m - 1)) t.0) row (values (m - 1) t.0) k))
      (λ t row i r k. beginning_printed t (readable t i) row r
      (values_in (get (shown m) t.0) row (values m t.0) k)))))
      (row_lines moments h.1)

-- ---- the script

lines_lead : (commands : List PlainCommand) → AllLines commands → AllLead commands
lines_lead [] h = tt
lines_lead (c ∷ commands) h = (
  spells_lead (h.0).prefix (command_text c) (h.0).spells,
  lines_lead commands h.1,
)

later_read : (commands : List PlainCommand) → AllLines commands
    → map reading (later_texts commands) ≡ map as_read commands
later_read [] h = refl
later_read (c ∷ commands) h =
    ap (λ r. r ∷ map reading (later_texts commands))
    (reads_after_line (write c) (command_text c) h.0)
    ∙ ap (λ rs. as_read c ∷ rs) (later_read commands h.1)

all_read : (commands : List PlainCommand) → AllLines commands
    → map reading (texts_in commands) ≡ map as_read commands
all_read [] h = refl
all_read (c ∷ commands) h =
    ap (λ r. r ∷ map reading (later_texts commands)) (reads (write c) (command_text c) h.0)
    ∙ ap (λ rs. as_read c ∷ rs) (later_read commands h.1)

fits_in : (text : List ℕ) → length text ≤ max_statement → part_of text ≡ WholePart text
fits_in text l = ap (λ b. cond b Skipped (WholePart text))
    (let n : nat_lt max_statement (length text) ≡ false = grind (arith, nat_tests, l) in n)

later_whole : (commands : List PlainCommand) → AllShort commands
    → map part_of (later_texts commands) ≡ map (λ s. WholePart s) (later_texts commands)
later_whole [] h = refl
later_whole (c ∷ commands) h =
    let short = h.0 in
    ap (λ p. p ∷ map part_of (later_texts commands))
    (fits_in (10 ∷ command_text c) (omega (arith, short)))
    ∙ ap (λ ps. WholePart (10 ∷ command_text c) ∷ ps) (later_whole commands h.1)

all_whole : (commands : List PlainCommand) → AllShort commands
    → map part_of (texts_in commands) ≡ map (λ s. WholePart s) (texts_in commands)
all_whole [] h = refl
all_whole (c ∷ commands) h =
    let short = h.0 in
    ap (λ p. p ∷ map part_of (later_texts commands))
    (fits_in (command_text c) (omega (arith, short)))
    ∙ ap (λ ps. WholePart (command_text c) ∷ ps) (later_whole commands h.1)

pub read_back : (commands : List PlainCommand) → AllLines commands → AllShort commands
    → IsReadBack commands
read_back commands h short =
    let cut = script_statements commands (lines_lead commands h) in
    record {
      whole = ap (map part_of) cut ∙ all_whole commands short
          ∙ sym (ap (map (λ s. WholePart s)) cut);
      read = ap (map reading) cut ∙ all_read commands h;
      ends = script_ends commands (lines_lead commands h);
    }
