-- Of a draft all can be read where rows are not compared.
use Rattle.std.proofs.Common.{◌≡◌, inl, inr, ℕ, ◌*◌, ◌≤◌, true, List, [], ◌∷◌, map}
use Rattle.std.proofs.Common.{length}
use Rattle.std.proofs.Common.{refl, subst, arith}
use Rattle.std.specs.Prelude.{Option, Some, None}
use Rattle.relations_spec.specs.Sets.{In}
use Rattle.relations_spec.specs.Spans.{Span}
use Rattle.prima_base.specs.Columns.{Column}
use Rattle.prima_base.specs.Limits.{max_versions}
use Rattle.history_store_spec.specs.Store.{Cell}
use Rattle.smo_ops_spec.specs.Past.{no_tables}
use Rattle.smo_ops_versions_spec.specs.Lifelines.{Lifeline, lifelines_of}
use Rattle.store_image_spec.specs.Images.{StoredLine, Image}
use Rattle.store_image_spec.specs.ItemChecks.{is_period}
use Rattle.store_image_spec.specs.Encoding.{last_number}
use Rattle.store_image_spec.proofs.Checking.{is_period_so}
use Rattle.store_image_spec.proofs.Filling.{to_first}
use Rattle.store_image_spec.proofs.DueEntries.{Last, fills_run}
use Rattle.store_image_spec.proofs.FittingRows.{Typed, AllFilled, entries_typed}
use Rattle.store_image_spec.proofs.DueLifelines.{IsLifeline, EndsBy, due_lifelines}
use Rattle.store_image_spec.proofs.ReadImages.{all_last, keys_read, below_last}
use Rattle.store_image_spec.proofs.ReadParts.{CellFits, LineFits, AllRead}
use Rattle.store_image_spec.proofs.ValidVersions.{valid_read, none_is_valid}
use Rattle.store_image_breaks_spec.specs.Drafts.{IsDraftLine, IsDraft}
use Rattle.store_image_breaks_spec.proofs.Filled.{ColumnsRun}
use Rattle.store_image_breaks_spec.proofs.Within.{BodyRun, AreFull, IsFull}

-- column by column, however many entries
columns_filled : (last : Option ℕ) (keys : List Span) (columns : List Column)
    (cells : List (List Cell)) → Last keys → Typed columns cells → AllFilled keys cells
    → ((x : List Cell) → In x cells → (c : Cell) → In c x → CellFits c
    × (is_period last c.period ≡ true)) → ColumnsRun last keys columns cells
columns_filled last keys [] [] l t f w = refl
columns_filled last keys [] (cells ∷ more) l t f w = absurd t
columns_filled last keys (c ∷ columns) [] l t f w = absurd t
columns_filled last keys (c ∷ columns) (cells ∷ more) l t f w = (
  fills_run last c.1 0 keys cells (to_first keys cells (f cells (inl refl))) l
      (λ d i. (let u = w cells (inl refl) d i in
      record { fits = u.0; typed = t.0 d i; period = u.1 })),
  columns_filled last keys columns more l t.1 (λ x i. f x (inr i)) (λ x i. w x (inr i)),
)

line_full : (last : Option ℕ) (n : ℕ) (l : StoredLine) → n ≤ max_versions → IsLifeline n l.line
    → IsDraftLine last l → LineFits l.line × BodyRun last l.line l
line_full last n l few d h = (
  (((let f = d.first in omega (arith, f, few)), ends l.line.last d.last), d.named),
  (
    refl,
    keys_read last l.keys h.few_keys h.lasting h.keys,
    columns_filled last l.keys l.line.columns l.cells (all_last l.keys h.lasting) typed filled
        well,
  ),
)
  where
    ends : (o : Option ℕ) → EndsBy n o → last_number o ≤ 4294967295
    ends None e = omega arith
    ends (Some k) e = omega (arith, e, few)

    filled : AllFilled l.keys l.cells
    filled = h.filled

    typed : Typed l.line.columns l.cells
    typed = entries_typed l.keys l.line.columns l.cells h.width filled h.fitting

    well : (x : List Cell) → In x l.cells → (c : Cell) → In c x → CellFits c
        × (is_period last c.period ≡ true)
    well x i c j =
        let known = (h.filled x i).known c j in
        let lasts = (h.filled x i).lasting c j in
        let start = lasts.0 in
        let end = lasts.1 in
        let short = h.few_keys in (
          (
            (omega (arith, known, short), h.values x i c j),
            (omega (arith, start, end), end),
          ),
          is_period_so last c.period lasts (h.entries x i c j),
        )

lines_full : (last : Option ℕ) (n : ℕ) (l : List StoredLine) → n ≤ max_versions
    → ((d : Lifeline) → In d (map (λ (x : StoredLine). x.line) l) → IsLifeline n d)
    → ((x : StoredLine) → In x l → IsDraftLine last x)
    → AreFull last (map (λ (x : StoredLine). x.line) l) l
lines_full last n [] few f h = tt
lines_full last n (x ∷ l) few f h = (
  line_full last n x few (f x.line (inl refl)) (h x (inl refl)),
  lines_full last n l few (λ d i. f d (inr i)) (λ y i. h y (inr i)),
)

pub draft_is_full : (i : Image) → IsDraft i → IsFull i
draft_is_full i h = record {
  last = below_last i.last h.ends;
  versions = versions;
  lines = subst (λ ds. AreFull i.last ds i.lines) h.lines
      (lines_full i.last (length i.versions) i.lines few
      (λ d j. due.0 d (subst (In d) h.lines j)) h.each);
}
  where
    few : length i.versions ≤ max_versions
    few = h.few

    versions : AllRead i.last i.versions
    versions = (
      omega (arith, few),
      valid_read i.last h.ends 0 None no_tables i.versions
          none_is_valid h.evolved h.begun h.without (let f = few in omega (arith, f)) h.named
          h.members,
    )

    due : ((d : Lifeline) → In d (lifelines_of i.versions) → IsLifeline (length i.versions) d)
        × (length (lifelines_of i.versions) ≤ 64 * length i.versions)
    due = due_lifelines i.versions h.evolved h.named
