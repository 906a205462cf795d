-- The lines of turns, moment by moment.
use Rattle.std.specs.Prelude.{◌≡◌, ◌+◌, ◌++◌, ◌<◌, ◌≤◌, ◌∷◌, [], ℕ, zero, suc, List, map}
use Rattle.std.specs.Prelude.{take, drop, length, get_or, Ok, Err}
use Rattle.std.proofs.Common.{refl, sym, ap, subst, ◌∙◌, arith, append-nil}
use Rattle.std.proofs.lemmas.List.{drop-drop, length-drop}
use Rattle.std.specs.Global.{Vec}
use Rattle.std.specs.List.{prefix_len}
use Rattle.relations_spec.specs.Sets.{set_of}
use Rattle.smo_ops_spec.specs.First.{first_refusal}
use Rattle.version_export.specs.declared.fault.ExportFault.{ExportFault}
use Rattle.version_export.specs.declared.fault.ExportFault.TheVariants.{NoVersion, NoInverse}
use Rattle.version_export.specs.declared.fault.ExportFault.TheVariants.{TooLong, NoMemory}
use Rattle.version_export.specs.declared.row_turn.RowTurn.{RowTurn}
use Rattle.version_export.specs.Turns.{is_of, Rises}
use Rattle.version_export.specs.Statements.{Statement}
use Rattle.version_export.specs.Refused.{length_test, line_of}
use Rattle.version_export.specs.Written.{texts_of, text_at, row_statements, IsFirstRun, AddsLines}
use Rattle.version_export.specs.Written.{AddsFirst}
use Rattle.version_export.proofs.LineLaws.{one_met, one_more, one_fails}
use Rattle.version_export.proofs.RowOrder.{first_run_is}

-- the first run, by the moment of the first turn
run_found : (turns : List RowTurn) (d : RowTurn) (n : ℕ) → 0 < length turns → Rises 0 turns
    → n ≡ prefix_len (is_of (get_or turns 0 d).moment) turns
    → IsFirstRun turns (get_or turns 0 d).moment (take n turns) (drop n turns)
run_found [] d n l r p = absurd (omega (arith, l))
run_found (t ∷ turns) d n l r p = subst (λ k. IsFirstRun (t ∷ turns) t.moment
    (take k (t ∷ turns)) (drop k (t ∷ turns))) (sym p) (first_run_is t turns r)

pub run_added : (turns : List RowTurn) (old new : List (Vec ℕ)) (d : RowTurn) (n : ℕ)
    (now : List RowTurn) → 0 < length turns → Rises 0 turns
    → n ≡ prefix_len (is_of (get_or turns 0 d).moment) turns → n ≤ length turns
    → now ≡ take n turns
    → AddsLines (((get_or turns 0 d).moment, text_at (get_or turns 0 d).moment now) ∷ []) old new
    (Ok tt)
    → AddsFirst turns old new (Ok n)
run_added turns old new d n now l r p w a h = record {
  moment = (get_or turns 0 d).moment;
  run = run_found turns d n l r p;
  within = w;
  line = subst (λ (ts : List RowTurn). AddsLines ((
    (get_or turns 0 d).moment,
    text_at (get_or turns 0 d).moment ts,
  ) ∷ []) old new (Ok tt)) a h;
}

pub run_fails : (turns : List RowTurn) (old new : List (Vec ℕ)) (d : RowTurn) (n : ℕ)
    (now : List RowTurn) (fault : ExportFault) → 0 < length turns → Rises 0 turns
    → n ≡ prefix_len (is_of (get_or turns 0 d).moment) turns → now ≡ take n turns
    → AddsLines (((get_or turns 0 d).moment, text_at (get_or turns 0 d).moment now) ∷ []) old new
    (Err fault)
    → AddsFirst turns old new (Err fault)
run_fails turns old new d n now fault l r p a h =
    let m : ℕ = (get_or turns 0 d).moment in
    one_fails (m, text_at m (take n turns)) (row_statements (drop n turns))
    (row_statements turns) old new fault
    (subst (λ (ts : List RowTurn). AddsLines ((m, text_at m ts) ∷ []) old new (Err fault)) a h)
    (ap (λ (ss : List Statement). first_refusal (map length_test ss))
    (run_found turns d n l r p).statements)

-- it has a turn
pub run_some : (turns : List RowTurn) (old new : List (Vec ℕ)) (n : ℕ)
    → AddsFirst turns old new (Ok n) → (0 < n) × (n ≤ length turns)
run_some turns old new n f =
    let left = length-drop n turns in
    let within = f.within in
    let fewer = f.run.fewer in
    (omega (arith, left, fewer, within), within)

-- the lines up to the rest
abbrev pub LinesTo : List RowTurn → List (Vec ℕ) → List RowTurn → List (Vec ℕ) → Type 0
LinesTo turns old rest lines = Rises 0 rest
    × (first_refusal (map length_test (row_statements turns))
    ≡ first_refusal (map length_test (row_statements rest)))
    × (texts_of lines ++ map line_of (row_statements rest)
    ≡ texts_of old ++ map line_of (row_statements turns))

moment_added : (turns rest : List RowTurn) (old lines new : List (Vec ℕ)) (m : ℕ)
    (now later : List RowTurn) → LinesTo turns old rest lines → IsFirstRun rest m now later
    → AddsLines ((m, text_at m now) ∷ []) lines new (Ok tt) → LinesTo turns old later new
moment_added turns rest old lines new m now later i f a = (
  f.rises,
  i.1 ∙ ap (λ (ss : List Statement). first_refusal (map length_test ss)) f.statements
      ∙ one_met (m, text_at m now) (row_statements later) a.0,
  one_more (m, text_at m now) (row_statements later) lines new a.1
      ∙ ap (λ (ss : List Statement). texts_of lines ++ map line_of ss) (sym f.statements)
      ∙ i.2,
)

pub run_passed : (turns rest : List RowTurn) (old lines new : List (Vec ℕ)) (start n : ℕ)
    → LinesTo turns old (drop start turns) lines → rest ≡ drop start turns
    → AddsFirst rest lines new (Ok n) → LinesTo turns old (drop (start + n) turns) new
run_passed turns rest old lines new start n i e f =
    subst (λ ts. LinesTo turns old ts new) (ap (drop n) e ∙ drop-drop n start turns)
    (moment_added turns rest old lines new f.moment (take n rest) (drop n rest)
    (subst (λ ts. LinesTo turns old ts lines) (sym e) i) f.run f.line)

pub rest_fails : (turns rest : List RowTurn) (old lines new : List (Vec ℕ)) (start : ℕ)
    (fault : ExportFault) → LinesTo turns old (drop start turns) lines → rest ≡ drop start turns
    → AddsFirst rest lines new (Err fault) → AddsLines (row_statements turns) old new (Err fault)
rest_fails turns rest old lines new start (NoVersion version newest) i e a = absurd a
rest_fails turns rest old lines new start (NoInverse k kind) i e a = absurd a
rest_fails turns rest old lines new start (TooLong stamp size) i e a =
    i.1 ∙ ap (λ (ts : List RowTurn). first_refusal (map length_test (row_statements ts))) (sym e)
    ∙ a
rest_fails turns rest old lines new start NoMemory i e a = tt

nothing_left : row_statements [] ≡ []
unfolding set_of
nothing_left = refl

none_left : (turns : List RowTurn) (n : ℕ) → length turns ≤ n → drop n turns ≡ []
none_left [] zero l = refl
none_left [] (suc n) l = refl
none_left (t ∷ turns) zero l = absurd (omega (arith, l))
none_left (t ∷ turns) (suc n) l = none_left turns n (omega (arith, l))

pub all_added : (turns : List RowTurn) (old lines : List (Vec ℕ)) (n : ℕ)
    → LinesTo turns old (drop n turns) lines → length turns ≤ n
    → AddsLines (row_statements turns) old lines (Ok tt)
all_added turns old lines n i l =
    let none = ap row_statements (none_left turns n l) ∙ nothing_left in (
      i.1 ∙ ap (λ (ss : List Statement). first_refusal (map length_test ss)) none,
      sym (append-nil (texts_of lines))
          ∙ ap (λ (ss : List Statement). texts_of lines ++ map line_of ss) (sym none) ∙ i.2,
    )
