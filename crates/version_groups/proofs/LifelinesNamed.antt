-- The lifelines that the sizes of a past name are those of its versions.
use Rattle.std.proofs.Common.{◌≡◌, ◌+◌, ℕ, Bool, true, false, List, [], ◌∷◌, ◌++◌, map, length}
use Rattle.std.proofs.Common.{refl, sym, ap, ◌∙◌}
use Rattle.std.specs.Prelude.{Option, Some, None, if◌then◌else◌}
use Rattle.std.proofs.lemmas.List.{map-append}
use Rattle.schema_catalog.specs.Tables.{Tables}
use Rattle.schema_catalog.specs.Databases.{Database}
use Rattle.smo_ops_types.specs.Commands.{PlainVersion, PlainBody, changing, evolving}
use Rattle.smo_ops_types.specs.Operators.{Operator}
use Rattle.smo_ops_spec.specs.Past.{Past, newest_tables, newest_database, next_version}
use Rattle.smo_ops_spec.specs.Past.{next_database, next_past}
use Rattle.smo_ops_spec.specs.Sizes.{Size, if_living, size_changed, living_changed, ended_with}
use Rattle.smo_ops_spec.specs.Sizes.{size_after, size_begun, sizes_evolved}
use Rattle.smo_ops_spec.specs.Evolutions.{one_consumes}
use Rattle.version_groups_tables.proofs.RestoredTables.{Listed}
use Rattle.version_groups.specs.Lifelines.{last_after, Lifeline, line_after, line_begun}
use Rattle.version_groups.specs.Lifelines.{made_tables, lifelines_after, lifelines_of, Named}
use Rattle.version_groups.specs.Lifelines.{size_named, line_named, NamesLifelines}
use Rattle.version_groups.proofs.Covered.{lifelines_with}

-- ---- after changes

living_named : (o : Option ℕ) (living s : Size) → size_named living ≡ size_named s
    → size_named (if_living o living s) ≡ size_named s
living_named None living s e = e
living_named (Some k) living s e = refl

changed_named : (old new : Database) (sizes : List Size)
    → map size_named (map (size_changed old new) sizes) ≡ map size_named sizes
changed_named old new [] = refl
changed_named old new (s ∷ sizes) =
    ap (λ (n : Named). n ∷ map size_named (map (size_changed old new) sizes))
    (living_named s.last (living_changed old new s) s refl)
    ∙ ap (λ (ns : List Named). size_named s ∷ ns) (changed_named old new sizes)

-- ---- after an operator

module _ (before : Tables) (op : List Operator) (k : ℕ) where
  named_after : Named → Named
  named_after n = (n.0, n.1, last_after (one_consumes before op n.0) k n.2)

  size_ends : (s : Size) → size_named (size_after before op k s) ≡ named_after (size_named s)
  unfolding named_after
  size_ends s = step s.last refl (one_consumes before op s.table)
    where
      step : (o : Option ℕ) → s.last ≡ o → (b : Bool)
          → size_named (if_living o (if b then ended_with k s else s) s)
          ≡ (s.table, s.first, last_after b k o)
      step None e true = refl
      step None e false = ap (λ o. (s.table, s.first, o)) e
      step (Some l) e b = ap (λ o. (s.table, s.first, o)) e

  sizes_end : (sizes : List Size) → map size_named (map (size_after before op k) sizes)
      ≡ map named_after (map size_named sizes)
  sizes_end [] = refl
  sizes_end (s ∷ sizes) =
      ap (λ (n : Named). n ∷ map size_named (map (size_after before op k) sizes)) (size_ends s)
      ∙ ap (λ (ns : List Named). named_after (size_named s) ∷ ns) (sizes_end sizes)

  lines_end : (lines : List Lifeline) → map line_named
      (map (line_after (one_consumes before op) k) lines) ≡ map named_after (map line_named lines)
  unfolding named_after
  lines_end [] = refl
  lines_end (l ∷ lines) = ap (λ (ns : List Named).
      line_named (line_after (one_consumes before op) k l) ∷ ns) (lines_end lines)

sizes_begin : (k : ℕ) (database : Database) (made : List Listed)
    → map size_named (map (size_begun k database) made) ≡ map line_named (map (line_begun k) made)
sizes_begin k database [] = refl
sizes_begin k database (m ∷ made) = ap (λ (ns : List Named). line_named (line_begun k m) ∷ ns)
    (sizes_begin k database made)

evolved_named : (before : Tables) (k : ℕ) (v : PlainVersion) (database : Database)
    (sizes : List Size) (lines : List Lifeline) → map size_named sizes ≡ map line_named lines
    → map size_named (sizes_evolved before v.op v.tables database k sizes)
    ≡ map line_named (lifelines_after before k lines v)
evolved_named before k v database sizes lines e =
    map-append size_named (map (size_after before v.op k) sizes)
    (map (size_begun (k + 1) database) (made_tables before v.op v.tables))
    ∙ ap (λ (ns : List Named). ns ++ map size_named
    (map (size_begun (k + 1) database) (made_tables before v.op v.tables)))
    (sizes_end before v.op k sizes ∙ ap (map (named_after before v.op k)) e
    ∙ sym (lines_end before v.op k lines))
    ∙ ap (λ (ns : List Named). map line_named (map (line_after (one_consumes before v.op) k) lines)
    ++ ns) (sizes_begin (k + 1) database (made_tables before v.op v.tables))
    ∙ sym (map-append line_named (map (line_after (one_consumes before v.op) k) lines)
    (map (line_begun (k + 1)) (made_tables before v.op v.tables)))

-- so it is with one command more
pub names_with : (past : Past) (stamp : ℕ) (body : PlainBody) → NamesLifelines past
    → NamesLifelines (next_past stamp body past)
names_with past stamp (changing changes) h = changed_named (newest_database past)
    (next_database (changing changes) past) past.sizes ∙ h
names_with past stamp (evolving op inverse) h =
    let v = next_version stamp op inverse past in
    evolved_named (newest_tables past) (length past.versions) v
    (next_database (evolving op inverse) past) past.sizes (lifelines_of past.versions) h
    ∙ ap (map line_named) (sym (lifelines_with past.versions v))
