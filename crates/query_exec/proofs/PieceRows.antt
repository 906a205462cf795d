-- Rows of pieces that are run one by one, at the moments of one part.
use Rattle.std.proofs.Common.{◌≡◌, ◌+◌, ◌<◌, ℕ, true, false, List, [], ◌∷◌, ◌++◌, length, get_or}
use Rattle.std.proofs.Common.{take, drop, sym, ap, subst, ◌∙◌, inl, inr}
use Rattle.std.specs.Prelude.{◌⊎◌}
use Rattle.std.proofs.lemmas.List.{map-append}
use Rattle.relations_spec.specs.Sets.{In}
use Rattle.relations_spec.specs.Spans.{Span, covers}
use Rattle.relations_spec.specs.Timed.{Entry, at}
use Rattle.relations_spec.proofs.SetLaws.{one_list}
use Rattle.relations_spec.proofs.Held.{in_at, at_ascends}
use Rattle.prima_base.specs.declared.timed_row.TimedRow.{TimedRow}
use Rattle.prima_base.specs.Order.{row_cmp}
use Rattle.prima_base.specs.OrderLaws.{row_exact}
use Rattle.prima_base.specs.Timed.{entry_of, entries_of, rows_at}
use Rattle.schema_catalog.specs.Tables.{Tables}
use Rattle.schema_catalog.specs.Databases.{Database}
use Rattle.smo_ops_spec.specs.OneRow.{Row, Relation}
use Rattle.version_groups.specs.Groups.{Kept}
use Rattle.piece_ir_spec.specs.Pieces.{PlainPiece, means, all_mean}
use Rattle.piece_ir.specs.Shown.{piece_of, shown_pieces}
use Rattle.piece_ir.specs.declared.piece.Piece.{Piece}
use Rattle.query_pieces_spec.specs.Gathering.{IsGathered}
use Rattle.query_pieces_spec.proofs.Gatherings.{of_either, more_gathered}
use Rattle.query_pieces_spec.proofs.RunPieces.{one_more_run}
use Rattle.join_exec.specs.Pieces.{piece_reads}
use Rattle.query_exec.specs.Reads.{pieces_read}
use Rattle.query_exec.proofs.ListSteps.{left_is}

-- rows that are put after others
pub joined_entries : (old news new : List TimedRow) → new ≡ old ++ news
    → entries_of new ≡ entries_of old ++ entries_of news
joined_entries old news new e = ap entries_of e ∙ map-append entry_of old news

nothing_joined : (a b : List (Entry Row)) (m : ℕ) → at row_cmp a m ≡ [] → at row_cmp b m ≡ []
    → at row_cmp (a ++ b) m ≡ []
nothing_joined a b m e f =
    one_list row_cmp row_exact (at row_cmp (a ++ b) m) [] (at_ascends row_cmp row_exact (a ++ b) m)
    tt (record {
      there = λ x k. step x (of_either a b x m k);
      back = λ x k. absurd k;
    })
  where
    step : (x : Row) → In x (at row_cmp a m) ⊎ In x (at row_cmp b m) → In x []
    step x (inl k) = subst (λ (r : Relation). In x r) e k
    step x (inr k) = subst (λ (r : Relation). In x r) f k

pub nothing_at : (m : ℕ) → at row_cmp [] m ≡ []
nothing_at m =
    one_list row_cmp row_exact (at row_cmp [] m) [] (at_ascends row_cmp row_exact [] m) tt (record {
      there = λ x k. absurd ((in_at row_cmp row_exact [] x m).0 k).1;
      back = λ x k. absurd k;
    })

pub none_after : (old news new : List TimedRow) (m : ℕ) → new ≡ old ++ news → rows_at old m ≡ []
    → rows_at news m ≡ [] → rows_at new m ≡ []
none_after old news new m e f g = ap (λ (es : List (Entry Row)). at row_cmp es m)
    (joined_entries old news new e) ∙ nothing_joined (entries_of old) (entries_of news) m f g

module _ (pieces : List Piece) (i : ℕ) (p : Piece) (l : i < length pieces)
    (is : p ≡ get_or pieces i p) where
  pub reads_left : (kept : Kept) (k : ℕ) → pieces_read kept k (shown_pieces (drop i pieces))
      ≡ piece_reads kept k (piece_of p) + pieces_read kept k (shown_pieces (drop (i + 1) pieces))
  reads_left kept k = ap (λ (ps : List Piece). pieces_read kept k (shown_pieces ps))
      (left_is pieces i p l is)

-- the rows of one piece more, which is alike to the next of the pieces at the version in force
pub next_run : (tables : Tables) (db : Database) (qs more : List PlainPiece) (q : PlainPiece)
    (old news new : List TimedRow) (m : ℕ) → more ≡ qs ++ q ∷ [] → new ≡ old ++ news
    → rows_at old m ≡ all_mean tables db qs → rows_at news m ≡ means tables db q
    → rows_at new m ≡ all_mean tables db more
next_run tables db qs more q old news new m t e f g =
    ap (λ (es : List (Entry Row)). at row_cmp es m) (joined_entries old news new e)
    ∙ one_more_run tables db qs q (entries_of old) (entries_of news) m f g
    ∙ ap (all_mean tables db) (sym t)

-- the rows of one part more
pub part_gathered : (relation : ℕ → Relation) (spans : List Span) (p : Span)
    (old news new : List TimedRow) → new ≡ old ++ news → IsGathered relation spans (entries_of old)
    → ((m : ℕ) → covers p m ≡ true → rows_at news m ≡ relation m)
    → ((m : ℕ) → covers p m ≡ false → rows_at news m ≡ [])
    → IsGathered relation (spans ++ p ∷ []) (entries_of new)
part_gathered relation spans p old news new e g inside outside =
    subst (λ (es : List (Entry Row)). IsGathered relation (spans ++ p ∷ []) es)
    (sym (joined_entries old news new e))
    (more_gathered relation spans (entries_of old) p (entries_of news) g
    (record { inside = inside; outside = outside }))
