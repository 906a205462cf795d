-- Rows in runs, one run after the other.
use Rattle.std.proofs.Common.{◌≡◌, ◌<◌, ◌+◌, ℕ, zero, suc, List, [], ◌∷◌, ◌++◌, append_assoc}
use Rattle.std.proofs.Common.{append-nil, map, length, get_or, refl, sym, ap, ◌∙◌, subst, inl, inr}
use Rattle.std.proofs.Common.{arith}
use Rattle.std.specs.List.{flat_map}
use Rattle.std.proofs.Math.ListN.{set}
use Rattle.std.proofs.lemmas.List.{map-append}
use Rattle.std.proofs.lemmas.List.Concat.{flat_map-append}
use Rattle.relations_spec.specs.Sets.{In}
use Rattle.relations_spec.specs.Timed.{Entry}
use Rattle.relations_spec.proofs.SetLaws.{in_map, from_map, in_flat_map}
use Rattle.prima_base.specs.declared.value.Value.{Value}
use Rattle.prima_base.specs.declared.timed_row.TimedRow.{TimedRow}
use Rattle.prima_base.specs.Timed.{entry_of, entries_of}
use Rattle.join_exec_spec.specs.Keeping.{AllValid, IsValidRow}
use Rattle.prima_base.specs.declared.value.Val.{Val}
use Rattle.join_exec_spec.specs.BorrowedOutputs.{EachRow}
use Rattle.join_exec_spec.proofs.BorrowedLaws.{each_member, all_members}
use Rattle.join_exec_levels.specs.Grouping.{rows_of_runs}

pub runs_pairs : (f : Entry (List Value) → List (Entry (List Value))) (runs : List (List TimedRow))
    → flat_map (flat_map f) (map entries_of runs) ≡ flat_map f (entries_of (rows_of_runs runs))
runs_pairs f [] = refl
runs_pairs f (run ∷ runs) =
    ap (λ (es : List (Entry (List Value))). flat_map f (entries_of run) ++ es) (runs_pairs f runs)
    ∙ sym (flat_map-append f (entries_of run) (entries_of (rows_of_runs runs)))
    ∙ ap (flat_map f) (sym (map-append entry_of run (rows_of_runs runs)))

-- the rows of one of them
run_among : (runs : List (List TimedRow)) (i : ℕ) (run : List TimedRow) → i < length runs
    → run ≡ get_or runs i run → In run runs
run_among [] i run below is = absurd (omega arith)
run_among (x ∷ runs) zero run below is = inl (sym is)
run_among (x ∷ runs) (suc i) run below is = inr (run_among runs i run (omega arith) is)

row_among : (runs : List (List TimedRow)) (i : ℕ) (run : List TimedRow) → i < length runs
    → run ≡ get_or runs i run → (t : TimedRow) → In t run → In t (rows_of_runs runs)
row_among runs i run below is t m = in_flat_map (λ (r : List TimedRow). r) run t runs
    (run_among runs i run below is) m

pub run_valid : (runs : List (List TimedRow)) (i : ℕ) (run : List TimedRow) → i < length runs
    → run ≡ get_or runs i run → AllValid (entries_of (rows_of_runs runs))
    → AllValid (entries_of run)
run_valid runs i run below is h = λ e m.
    let r = from_map entry_of e run m in
    subst (λ (x : Entry (List Value)). IsValidRow x.item) r.2
    (h (entry_of r.0) (in_map entry_of r.0 (rows_of_runs runs)
    (row_among runs i run below is r.0 r.1)))

pub run_each : (so : List Val → Type 0) (runs : List (List TimedRow)) (i : ℕ)
    (run : List TimedRow) → i < length runs → run ≡ get_or runs i run
    → EachRow so (rows_of_runs runs) → EachRow so run
run_each so runs i run below is l = all_members so run
    (λ t m. each_member so (rows_of_runs runs) t (row_among runs i run below is t m) l)

-- one row more, after those of the last
pub last_longer : (runs : List (List TimedRow)) (i : ℕ) (run : List TimedRow) (row : TimedRow)
    → i + 1 ≡ length runs → run ≡ get_or runs i run
    → rows_of_runs (set runs i (run ++ row ∷ [])) ≡ rows_of_runs runs ++ row ∷ []
last_longer [] i run row last is = absurd (omega arith)
last_longer (x ∷ []) zero run row last is =
    ap (λ (r : List TimedRow). (r ++ row ∷ []) ++ []) is ∙ append-nil (x ++ row ∷ [])
    ∙ ap (λ (r : List TimedRow). r ++ row ∷ []) (sym (append-nil x))
last_longer (x ∷ []) (suc i) run row last is = absurd (omega arith)
last_longer (x ∷ y ∷ runs) zero run row last is = absurd (omega arith)
last_longer (x ∷ y ∷ runs) (suc i) run row last is =
    ap (λ (rows : List TimedRow). x ++ rows) (last_longer (y ∷ runs) i run row (omega arith) is)
    ∙ sym (append_assoc x (rows_of_runs (y ∷ runs)) (row ∷ []))

-- or in a run of its own
pub run_more : (runs new : List (List TimedRow)) (run : List TimedRow) (row : TimedRow)
    → new ≡ runs ++ run ∷ [] → run ≡ row ∷ [] → rows_of_runs new ≡ rows_of_runs runs ++ row ∷ []
run_more runs new run row e is =
    ap rows_of_runs e
    ∙ flat_map-append (λ (r : List TimedRow). r) runs (run ∷ [])
    ∙ ap (λ (r : List TimedRow). rows_of_runs runs ++ (r ++ [])) is
