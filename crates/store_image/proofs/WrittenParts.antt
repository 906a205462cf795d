-- Parts of an image that are written one after the other.
use Rattle.std.proofs.Common.{◌≡◌, ◌<◌, ℕ, ◌+◌, List, [], ◌∷◌, ◌++◌, length, map, drop, get_or}
use Rattle.std.proofs.Common.{refl, sym, ap, subst, ◌∙◌, append_assoc, inl, inr}
use Rattle.std.specs.Prelude.{Option}
use Rattle.std.specs.List.{flat_map, AllByRecursion}
use Rattle.std.proofs.lemmas.List.{drop_more}
use Rattle.std.proofs.lemmas.List.Concat.{flat_map-cons}
use Rattle.relations_spec.specs.Spans.{Span}
use Rattle.prima_base.specs.Columns.{IsValid}
use Rattle.schema_catalog.specs.Tables.{Tables}
use Rattle.history_store.specs.Scans.{keys_from}
use Rattle.history_store.specs.declared.scan.KeyEntry.{KeyEntry}
use Rattle.history_store_spec.specs.Store.{Cell}
use Rattle.smo_ops_types.specs.declared.version.Version.{Version}
use Rattle.smo_ops_types.specs.Commands.{PlainVersion, version_of}
use Rattle.smo_ops_spec.specs.After.{IsValid as AreTables}
use Rattle.smo_ops_spec.specs.ValidPast.{AreVersions}
use Rattle.smo_ops_spec.proofs.MemberLaws.{all_accepted, each_is_valid}
use Rattle.command_codec_spec.specs.Encoding.{number, list_bytes}
use Rattle.command_codec_spec.proofs.OneMember.{ones_of_code}
use Rattle.store_image_spec.specs.Images.{VersionsOfOne}
use Rattle.store_image_spec.specs.Encoding.{span_bytes, cell_bytes, stored_bytes}
use Rattle.store_image_spec.proofs.ValidVersions.{version_writable}
use Rattle.version_groups.specs.StoredTables.{MadeTable}
use Rattle.store_image.specs.ImageIn.{kept_line, CanBeWritten, AreValid}

-- one part more
pub part_more : {A : Type 0} (f : A → List ℕ) (out new : List ℕ) (x : A) (before rest : List A)
    → before ≡ x ∷ rest → new ≡ out ++ f x → new ++ flat_map f rest ≡ out ++ flat_map f before
part_more f out new x before rest e is =
    ap (λ l. l ++ flat_map f rest) is ∙ append_assoc out (f x) (flat_map f rest)
    ∙ ap (λ l. out ++ l) (sym (flat_map-cons f x rest) ∙ sym (ap (flat_map f) e))

-- an entry, after the valid ones
pub valid_more : (c : Cell) (before rest : List Cell) → before ≡ c ∷ rest → IsValid c.value
    → AreValid rest → AreValid before
valid_more c before rest e valid others = subst AreValid (sym e) each
  where
    each : AreValid (c ∷ rest)
    each d (inl is) = subst (λ x. IsValid x.value) is valid
    each d (inr i) = others d i

-- the keys of a table, of which each has its id
periods_are : (id : ℕ) (keys : List Span) → map (λ k. k.period) (keys_from id keys) ≡ keys
periods_are id [] = refl
periods_are id (p ∷ keys) = ap (λ ps. p ∷ ps) (periods_are (id + 1) keys)

-- keys with their count
pub keys_written : (out mid new : List ℕ) (n : ℕ) (keys : List Span) (scan : List KeyEntry)
    → n ≡ length keys → scan ≡ keys_from 0 keys
    → mid ≡ out ++ number 8 n → new ≡ mid ++ flat_map span_bytes (map (λ k. k.period) scan)
    → new ≡ out ++ list_bytes 8 span_bytes keys
keys_written out mid new n keys scan count are first second =
    let all : map (λ k. k.period) scan ≡ keys = ap (map (λ (k : KeyEntry). k.period)) are
    ∙ periods_are 0 keys in
    second ∙ ap (λ ps. mid ++ flat_map span_bytes ps) all
    ∙ ap (λ l. l ++ flat_map span_bytes keys) (first ∙ ap (λ m. out ++ number 8 m) count)
    ∙ append_assoc out (number 8 (length keys)) (flat_map span_bytes keys)

-- a column with its count
pub column_more : (out mid new : List ℕ) (columns : List (List Cell)) (k n : ℕ) (cells : List Cell)
    → k < length columns → n ≡ length cells → cells ≡ get_or columns k []
    → mid ≡ out ++ number 8 n → new ≡ mid ++ flat_map cell_bytes cells
    → new ++ flat_map (list_bytes 8 cell_bytes) (drop (k + 1) columns) ≡ out
    ++ flat_map (list_bytes 8 cell_bytes) (drop k columns)
column_more out mid new columns k n cells inside count are first second =
    part_more (list_bytes 8 cell_bytes) out new cells (drop k columns) (drop (k + 1) columns)
    (drop_more columns k [] inside ∙ ap (λ c. c ∷ drop (k + 1) columns) (sym are))
    (second ∙ ap (λ l. l ++ flat_map cell_bytes cells) (first ∙ ap (λ m. out ++ number 8 m) count)
    ∙ append_assoc out (number 8 (length cells)) (flat_map cell_bytes cells))

-- a lifeline, and what is kept over it
pub stored_more : (out new : List ℕ) (tables : List MadeTable) (k : ℕ) (t : MadeTable)
    → k < length tables → get_or tables k t ≡ t → new ≡ out ++ stored_bytes (kept_line t)
    → new ++ flat_map stored_bytes (map kept_line (drop (k + 1) tables)) ≡ out
    ++ flat_map stored_bytes (map kept_line (drop k tables))
stored_more out new tables k t inside is written =
    part_more stored_bytes out new (kept_line t) (map kept_line (drop k tables))
    (map kept_line (drop (k + 1) tables))
    (ap (map kept_line) (drop_more tables k t inside ∙ ap (λ u. u ∷ drop (k + 1) tables) is))
    written

-- the operators of versions of the code have one member each
pub versions_of_one : (versions : List Version) → VersionsOfOne (map version_of versions)
versions_of_one [] = tt
versions_of_one (v ∷ versions) = (ones_of_code v.op v.inverse.items, versions_of_one versions)

-- such versions, accepted one after the other, can be written
pub all_writable : (last : Option ℕ) (tables : Tables) (versions : List PlainVersion)
    → AreTables tables → AreVersions last tables versions → VersionsOfOne versions
    → AllByRecursion CanBeWritten versions
all_writable last tables [] valid are one = tt
all_writable last tables (v ∷ versions) valid are one = (
  version_writable last tables v valid one.0 are.0,
  all_writable _ v.tables versions (subst AreTables (sym are.0.tables)
      (each_is_valid tables v.op valid (all_accepted tables v.op are.0.accepted))) are.1 one.1,
)
