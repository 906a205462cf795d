-- What was read is a draft of an image: of each lifeline all but that rows stand apart.
use Rattle.std.proofs.Common.{◌≡◌, inl, inr, ℕ, suc, List, [], ◌∷◌}
use Rattle.std.proofs.Common.{map, length, refl, sym, ap, ◌∙◌, subst, arith}
use Rattle.std.specs.Prelude.{Option, None}
use Rattle.relations_spec.specs.Sets.{In}
use Rattle.relations_spec.specs.Spans.{Span}
use Rattle.prima_base.specs.Columns.{Column, AreColumns}
use Rattle.prima_base.specs.declared.value.ColType.{ColType}
use Rattle.history_store_spec.specs.Store.{Cell, IsPeriod}
use Rattle.smo_ops_spec.specs.Past.{no_tables}
use Rattle.smo_ops_versions_spec.specs.Lifelines.{Lifeline, lifelines_of}
use Rattle.store_image_spec.specs.Images.{StoredLine, Image, EndsUpTo}
use Rattle.store_image_spec.proofs.Checking.{period_lasts, period_up_to}
use Rattle.store_image_spec.proofs.Filling.{from_first, IsWell, run_well, run_fills}
use Rattle.store_image_spec.proofs.FittingRows.{Typed, AllFilled, rows_fit}
use Rattle.store_image_spec.proofs.DueLifelines.{IsLifeline, due_lifelines}
use Rattle.store_image_spec.proofs.ReadImages.{each_in, last_below}
use Rattle.store_image_spec.proofs.ReadParts.{IsKey, Run}
use Rattle.store_image_spec.proofs.ValidVersions.{read_valid}
use Rattle.store_image_breaks_spec.specs.Drafts.{IsDraftLine, IsDraft}
use Rattle.store_image_breaks_spec.proofs.Filled.{AreKeys, ColumnsRun}
use Rattle.store_image_breaks_spec.proofs.StopsInLines.{IsKept, AreKept, IsReadDraft}

module _ (last : Option ℕ) (keys : List Span) where
  key_is_period : AreKeys last keys → (p : Span) → In p keys → IsPeriod p
  key_is_period h p i = let k = each_in (IsKey last) (length keys) keys h p i in
      (period_lasts last p k.1, k.0.1)

  key_ends : AreKeys last keys → (p : Span) → In p keys → EndsUpTo last p
  key_ends h p i = period_up_to last p (each_in (IsKey last) (length keys) keys h p i).1

  as_wide : (columns : List Column) (cells : List (List Cell))
      → ColumnsRun last keys columns cells → length cells ≡ length columns
  as_wide [] cells h = ap length h
  as_wide (c ∷ columns) [] h = absurd h
  as_wide (c ∷ columns) (x ∷ cells) h = ap suc (as_wide columns cells h.1)

  are_typed : (columns : List Column) (cells : List (List Cell))
      → ColumnsRun last keys columns cells → Typed columns cells
  are_typed [] [] h = tt
  are_typed [] (x ∷ cells) h = absurd (let e : x ∷ cells ≡ [] = h in cc)
  are_typed (c ∷ columns) [] h = absurd h
  are_typed (c ∷ columns) (x ∷ cells) h = (
    (λ d i. (run_well last c.1 0 keys x h.0 d i).typed),
    are_typed columns cells h.1,
  )

  -- each column of the list is that of some type
  column_in : (columns : List Column) (cells : List (List Cell))
      → ColumnsRun last keys columns cells → (x : List Cell) → In x cells → (type : ColType)
      × Run last type 0 keys x
  column_in [] cells h x i = absurd (subst (In x) h i)
  column_in (c ∷ columns) [] h x i = absurd i
  column_in (c ∷ columns) (y ∷ cells) h x (inl e) = (c.1, subst (Run last c.1 0 keys) e h.0)
  column_in (c ∷ columns) (y ∷ cells) h x (inr i) = column_in columns cells h.1 x i

line_drafted : (last : Option ℕ) (n : ℕ) (due : Lifeline) (l : StoredLine) → IsLifeline n due
    → IsKept last due l → IsDraftLine last l
line_drafted last n due l d h = record {
  columns = subst AreColumns same d.columns;
  width = as_wide last l.keys l.line.columns l.cells are;
  lasting = key_is_period last l.keys h.keys;
  filled = filled;
  fitting = λ m id holds. rows_fit l.keys l.line.columns l.cells
      (are_typed last l.keys l.line.columns l.cells are) filled m id holds;
  values = λ cells i c j. (well cells i c j).1.fits.0.1;
  keys = key_ends last l.keys h.keys;
  entries = λ cells i c j. period_up_to last c.period (well cells i c j).1.period;
  few_keys = (let few = h.few in omega (arith, few));
}
  where
    same : due.columns ≡ l.line.columns
    same = ap (λ (x : Lifeline). x.columns) (sym h.line)

    are : ColumnsRun last l.keys l.line.columns l.cells
    are = subst (λ cs. ColumnsRun last l.keys cs l.cells) same h.cells

    each : (cells : List Cell) → In cells l.cells → (type : ColType)
        × Run last type 0 l.keys cells
    each cells i = column_in last l.keys l.line.columns l.cells are cells i

    filled : AllFilled l.keys l.cells
    filled cells i = (let r = each cells i in
        from_first l.keys cells (run_fills last r.0 0 l.keys cells r.1))

    well : (cells : List Cell) → In cells l.cells → (c : Cell) → In c cells → (type : ColType)
        × IsWell last type c
    well cells i c j = (let r = each cells i in (r.0, run_well last r.0 0 l.keys cells r.1 c j))

lines_drafted : (last : Option ℕ) (n : ℕ) (due : List Lifeline) (l : List StoredLine)
    → ((d : Lifeline) → In d due → IsLifeline n d) → AreKept last due l
    → (map (λ (x : StoredLine). x.line) l ≡ due) × ((x : StoredLine) → In x l → IsDraftLine last x)
lines_drafted last n [] [] f h = (refl, λ x i. absurd i)
lines_drafted last n [] (x ∷ l) f h = absurd h
lines_drafted last n (d ∷ due) [] f h = absurd h
lines_drafted last n (d ∷ due) (x ∷ l) f h =
    let r = lines_drafted last n due l (λ e i. f e (inr i)) h.1 in (
      ap (λ e. e ∷ map (λ (y : StoredLine). y.line) l) h.0.line ∙ ap (λ es. d ∷ es) r.0,
      each (line_drafted last n d x (f d (inl refl)) h.0) r.1,
    )
  where
    each : IsDraftLine last x → ((y : StoredLine) → In y l → IsDraftLine last y)
        → (y : StoredLine) → In y (x ∷ l) → IsDraftLine last y
    each g r y (inl e) = subst (IsDraftLine last) e g
    each g r y (inr i) = r y i

pub read_is_draft : (i : Image) → IsReadDraft i → IsDraft i
read_is_draft i h =
    let v = read_valid i.last (length i.versions) 0 None no_tables i.versions h.versions in
    let due = due_lifelines i.versions v.evolved v.named in
    let lines = lines_drafted i.last (length i.versions) (lifelines_of i.versions) i.lines due.0
    h.lines in
    record {
      evolved = v.evolved;
      few = (let f = v.few (omega arith) in omega (arith, f));
      named = v.named;
      members = v.members;
      ends = last_below i.last h.last;
      begun = v.begun;
      without = v.without;
      lines = lines.0;
      each = lines.1;
    }
