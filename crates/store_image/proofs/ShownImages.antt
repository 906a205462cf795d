-- The image of groups that represent a past shows just this past.
use Rattle.std.proofs.Common.{◌≡◌, ◌≤◌, ◌<◌, ℕ, List, length, map, refl, sym, subst, ap, ◌∙◌, arith}
use Rattle.std.specs.Prelude.{Option, Some, None, slice_get, option_map}
use Rattle.std.specs.FinMap.{get, same_map, slice_cmp-IsAntisymmetric, nat_cmp-IsAntisymmetric}
use Rattle.std.specs.Cmp.Lexicographic.{nat_list_cmp_total}
use Rattle.std.proofs.lemmas.List.{length-map}
use Rattle.std.proofs.lemmas.Option.{slice_get-map}
use Rattle.relations_spec.specs.Sets.{In}
use Rattle.relations_spec.specs.Spans.{forever}
use Rattle.relations_spec.proofs.SetLaws.{in_map, from_map}
use Rattle.prima_base.specs.Columns.{Column}
use Rattle.prima_base.specs.Limits.{max_versions}
use Rattle.schema_catalog.specs.Tables.{Tables}
use Rattle.schema_catalog.specs.Databases.{DatabaseEntry, Rows, Lost, IsEntry, IsDatabase}
use Rattle.history_store_spec.specs.Store.{Cell, Store, AllBefore, relation_at}
use Rattle.smo_ops_types.specs.Commands.{PlainVersion, version_of}
use Rattle.smo_ops_spec.specs.Effects.{rows_under}
use Rattle.smo_ops_spec.specs.ValidPast.{last_or_nought, IsLater, AllInForce, AreVersions, IsPast}
use Rattle.smo_ops_spec.specs.Past.{Past, no_tables, tables_from, tables_of, begun_at, version_at}
use Rattle.smo_ops_spec.specs.Past.{database_at}
use Rattle.smo_ops_spec.proofs.PastMoments.{few_begun}
use Rattle.smo_ops_versions_spec.specs.Lifelines.{Covers}
use Rattle.store_image_spec.specs.Images.{Image, IsStoredLine, IsImage, store_of}
use Rattle.store_image_spec.specs.ShownPast.{image_past}
use Rattle.store_image_spec.specs.Lengths.{image_length}
use Rattle.store_image_spec.proofs.ImageLengths.{has_length}
use Rattle.store_image_spec.proofs.SamePasts.{known_past}
use Rattle.store_image_spec.proofs.ShownPasts.{is_past, table_shown}
use Rattle.version_groups.specs.StoredTables.{MadeTable}
use Rattle.version_groups.specs.Covering.{line_of}
use Rattle.version_groups.specs.Groups.{Kept, versions_in, places_of, table_in}
use Rattle.version_groups.specs.Representation.{Represents, RepresentsTable, RepresentsEntry}
use Rattle.version_groups.proofs.OwnMoments.{own_moment}
use Rattle.store_image.specs.ImageIn.{kept_line, image_in, ColumnHolds, TableHolds, GroupsHold}
use Rattle.store_image.specs.ImageIn.{IsImageOf}
use Rattle.store_image.proofs.WrittenParts.{versions_of_one}
use Rattle.store_image.proofs.KeptTables.{got_in, all_before, ends_up_to, sizes_are, lines_are}
use Rattle.store_image.proofs.KeptTables.{same_relations, covering, found_at, all_in}

-- entries of one table with the same rows are one
same_entry : (o : Option (List Column)) (x y : Option DatabaseEntry) → IsEntry o x → IsEntry o y
    → ((columns : List Column) → o ≡ Some columns → rows_under x ≡ rows_under y) → x ≡ y
same_entry None None None i j f = refl
same_entry None None (Some y) i j f = absurd j
same_entry None (Some x) y i j f = absurd i
same_entry (Some c) None y i j f = absurd i
same_entry (Some c) (Some (Lost k l)) y i j f = absurd i
same_entry (Some c) (Some (Rows a)) None i j f = absurd j
same_entry (Some c) (Some (Rows a)) (Some (Lost k l)) i j f = absurd j
same_entry (Some c) (Some (Rows a)) (Some (Rows b)) i j f = ap (λ r. Some (Rows r)) (f c refl)

-- what is stored of a table that a version has
shown_entry : (past : Past) (k : ℕ) (name : List ℕ) (o : Option (List Column)) (s : Option Store)
    (columns : List Column) → RepresentsEntry past k name o s → o ≡ Some columns
    → (store : Store) × (s ≡ Some store) × RepresentsTable past k name columns store
shown_entry past k name None s columns represents e = absurd (cc)
shown_entry past k name (Some its) None columns represents e = absurd represents
shown_entry past k name (Some its) (Some store) columns represents e =
    let same : its ≡ columns = cc in (
      store,
      refl,
      subst (λ c. RepresentsTable past k name c store) same represents,
    )

module _ (kept : Kept) (past : Past) (last : Option ℕ) (represents : Represents kept past)
    (ends : last ≡ past.last) (holds : GroupsHold kept) where
  abbrev image : Image
  image = image_in kept last

  stored_line : (t : MadeTable) → In t kept.stored → IsStoredLine last (kept_line t)
  stored_line t i =
      let h = all_in TableHolds kept.stored holds.tables t i in
      let s = h.store in
      let column : (cells : List Cell) → In cells t.store.cells
      → ColumnHolds cells = all_in ColumnHolds t.store.cells h.columns in
      let all : (m : ℕ) → IsLater last m → AllBefore t.store m = λ m later.
      all_before past.last kept.stored represents.stamps t i m
      (subst (λ l. IsLater l m) ends later) in
      record {
        store = record {
          columns = s.columns;
          width = s.width;
          lasting = s.lasting;
          filled =
              s.filled;
          fitting = s.fitting;
          apart = s.apart;
        };
        values = λ cells j. (column cells j).values;
        keys = λ p j. ends_up_to last p (λ m later. (all m later).keys p j);
        entries = λ cells j c k. ends_up_to last c.period
            (λ m later. (all m later).cells cells j c k);
        few_keys = h.few;
        few_cells = λ cells j. (column cells j).few;
      }

  is_image : IsImage image
  is_image = record {
    evolved = subst (AreVersions None no_tables) (sym represents.versions) represents.valid.evolved;
    few = subst (λ (vs : List PlainVersion). length vs ≤ max_versions) (sym represents.versions)
        represents.valid.few;
    named = holds.named;
    members = versions_of_one kept.versions;
    ends = subst (λ l. last_or_nought l < forever) (sym ends) represents.ends;
    begun = subst (λ l. AllInForce (last_or_nought l) (versions_in kept)) (sym ends)
        (subst (AllInForce (last_or_nought past.last))
        (sym represents.versions) represents.valid.versions);
    without = λ e. represents.versions ∙ represents.valid.without (sym ends ∙ e);
    lines = lines_are kept.stored ∙ represents.lifelines.lines;
    each = λ l i. let h = from_map kept_line l kept.stored i in
        subst (IsStoredLine last) h.2 (stored_line h.0 h.1);
  }

  abbrev shown : Past
  shown = image_past past.commands image

  valid : IsPast shown
  valid = is_past past.commands image is_image

  one_version : (m : ℕ) → version_at shown m ≡ version_at past m
  one_version m = ap (λ vs. length (begun_at m vs)) represents.versions

  within : (m : ℕ) → version_at past m ≤ length past.versions
  within m = few_begun m past.versions

  within_kept : (m : ℕ) → version_at past m ≤ length kept.versions
  within_kept m = let n = within m in omega (
    arith,
    n,
    ap (λ (vs : List PlainVersion). length vs) represents.versions,
    length-map kept.versions version_of,
  )

  -- each table of the version in force has the rows that the past has
  same_rows : (m : ℕ) → m < forever → (name : List ℕ) (columns : List Column)
      → get (tables_of past (version_at past m)) name ≡ Some columns
      → rows_under (get (database_at shown m) name) ≡ rows_under (get (database_at past m) name)
  same_rows m lasts name columns e =
      let k = version_at past m in
      let entry = shown_entry past k name (get (tables_of past k) name) (table_in kept k name)
      columns (represents.tables k name (within m)) e in
      let found = found_at kept.stored (places_of kept k) name entry.0 entry.1 in
      let t = found.table in
      let line : slice_get (map line_of kept.stored) found.place ≡ Some (line_of t) =
      slice_get-map line_of kept.stored found.place ∙ ap (option_map line_of) found.at in
      let covered : Covers t.first t.last k =
      covering k (line_of t) (represents.lifelines.places.covered k found.place (line_of t)
      (within_kept m) line found.among) in
      let own : rows_under (get (database_at shown m) t.name)
      ≡ relation_at (store_of (kept_line t)) m =
      table_shown past.commands image is_image m lasts (kept_line t)
      (in_map kept_line t kept.stored (got_in kept.stored found.place t found.at))
      (subst (Covers t.first t.last) (sym (one_version m)) covered) in
      ap (λ n. rows_under (get (database_at shown m) n)) (sym found.named) ∙ own
      ∙ same_relations t m ∙ ap (λ s. relation_at s m) found.is
      ∙ entry.2.shown m (own_moment past represents.valid k m lasts refl)

  same_databases : (m : ℕ) → m < forever → database_at shown m ≡ database_at past m
  same_databases m lasts =
      let tables : tables_of shown (version_at shown m) ≡ tables_of past (version_at past m) =
      ap (λ n. tables_from no_tables (versions_in kept) n) (one_version m)
      ∙ ap (λ vs. tables_from no_tables vs (version_at past m)) represents.versions in
      let of_shown : IsDatabase (tables_of past (version_at past m)) (database_at shown m) =
      subst (λ (t : Tables). IsDatabase t (database_at shown m)) tables (valid.each m) in
      same_map nat_list_cmp_total (slice_cmp-IsAntisymmetric nat_cmp-IsAntisymmetric)
      (database_at shown m) (database_at past m)
      (λ n. same_entry (get (tables_of past (version_at past m)) n) (get (database_at shown m) n)
      (get (database_at past m) n) (of_shown n) (represents.valid.each m n)
      (λ c e. same_rows m lasts n c e))

  same_past : shown ≡ past
  same_past = known_past shown past valid represents.valid is_image.ends represents.versions ends
      refl
      (sizes_are past.sizes kept.stored represents.sizes) same_databases

  its_image : IsImageOf past image
  its_image = record {
    valid = is_image;
    shows = same_past;
    length = has_length past.commands image ∙ ap image_length same_past;
  }

pub shows_its_archive : (kept : Kept) (past : Past) (last : Option ℕ) → Represents kept past
    → last ≡ past.last → GroupsHold kept → IsImageOf past (image_in kept last)
shows_its_archive = its_image
