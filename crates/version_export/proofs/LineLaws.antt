-- Lines that are added after one another.
use Rattle.std.specs.Prelude.{◌≡◌, ◌++◌, ◌∷◌, [], ◌<◌, ◌≤◌, ℕ, Bool, true, false, List, map}
use Rattle.std.specs.Prelude.{length, nat_le, Some, None, Result, Ok, Err}
use Rattle.std.proofs.Common.{sym, ap, ◌∙◌, arith}
use Rattle.std.proofs.lemmas.Bool.Decides.{nat_tests}
use Rattle.std.proofs.lemmas.List.{append_assoc}
use Rattle.std.specs.Global.{Vec}
use Rattle.prima_base.specs.Limits.{max_statement}
use Rattle.smo_ops_spec.specs.First.{first_refusal, where_so}
use Rattle.smo_ops_spec.proofs.Firsts.{first_at, first_later, first_alone}
use Rattle.version_export.specs.declared.fault.ExportFault.{ExportFault}
use Rattle.version_export.specs.declared.fault.ExportFault.TheVariants.{NoVersion, NoInverse}
use Rattle.version_export.specs.declared.fault.ExportFault.TheVariants.{TooLong, NoMemory}
use Rattle.version_export.specs.Statements.{Statement}
use Rattle.version_export.specs.Refused.{too_long, length_test, line_of}
use Rattle.version_export.specs.Written.{texts_of, AddsLines, AreLines}

-- of one statement alone
pub one_short : (stamp : ℕ) (text : List ℕ) → length text < max_statement
    → first_refusal (map length_test ((stamp, text) ∷ [])) ≡ None
one_short stamp text l =
    let e : nat_le max_statement (length text) ≡ false = grind (arith, nat_tests, l) in
    ap (λ (b : Bool). first_refusal (where_so b (too_long stamp (length text)) ∷ [])) e

pub one_long : (stamp : ℕ) (text : List ℕ) → max_statement ≤ length text
    → first_refusal (map length_test ((stamp, text) ∷ [])) ≡ Some (too_long stamp (length text))
one_long stamp text l =
    let e : nat_le max_statement (length text) ≡ true = grind (arith, nat_tests, l) in
    ap (λ (b : Bool). first_refusal (where_so b (too_long stamp (length text)) ∷ [])) e

-- a line more, and those after it
pub one_met : (s : Statement) (ss : List Statement) → first_refusal (map length_test (s ∷ [])) ≡ None
    → first_refusal (map length_test (s ∷ ss)) ≡ first_refusal (map length_test ss)
one_met s ss e = first_later (length_test s) (map length_test ss)
    (sym (first_alone (length_test s)) ∙ e)

pub one_more : (s : Statement) (ss : List Statement) (old mid : List (Vec ℕ))
    → texts_of mid ≡ texts_of old ++ map line_of (s ∷ [])
    → texts_of mid ++ map line_of ss ≡ texts_of old ++ map line_of (s ∷ ss)
one_more s ss old mid e = ap (λ ts. ts ++ map line_of ss) e
    ∙ append_assoc (texts_of old) (map line_of (s ∷ [])) (map line_of ss)

-- the fault of one statement is that of all from it on
pub one_fails : (s : Statement) (ss all : List Statement) (old new : List (Vec ℕ))
    (fault : ExportFault) → AddsLines (s ∷ []) old new (Err fault)
    → first_refusal (map length_test all) ≡ first_refusal (map length_test (s ∷ ss))
    → AddsLines all old new (Err fault)
one_fails s ss all old new (NoVersion version newest) a e = absurd a
one_fails s ss all old new (NoInverse k kind) a e = absurd a
one_fails s ss all old new (TooLong stamp size) a e =
    e ∙ first_at (length_test s) (map length_test ss) (too_long stamp size)
    (sym (first_alone (length_test s)) ∙ a)
one_fails s ss all old new NoMemory a e = tt

-- the fault is told of whatever lines there were
pub fails_from : (ss : List Statement) (old new other more : List (Vec ℕ)) (fault : ExportFault)
    → AddsLines ss old new (Err fault) → AddsLines ss other more (Err fault)
fails_from ss old new other more (NoVersion version newest) a = absurd a
fails_from ss old new other more (NoInverse k kind) a = absurd a
fails_from ss old new other more (TooLong stamp size) a = a
fails_from ss old new other more NoMemory a = tt

pub more_lines : (s : Statement) (ss : List Statement) (old mid new : List (Vec ℕ))
    (r : Result (Unit {0}) ExportFault) → first_refusal (map length_test (s ∷ [])) ≡ None
    → texts_of mid ≡ texts_of old ++ map line_of (s ∷ [])
    → AddsLines ss mid new r → AddsLines (s ∷ ss) old new r
more_lines s ss old mid new (Ok u) e f a =
    (one_met s ss e ∙ a.0, a.1 ∙ one_more s ss old mid f)
more_lines s ss old mid new (Err (NoVersion version newest)) e f a = absurd a
more_lines s ss old mid new (Err (NoInverse k kind)) e f a = absurd a
more_lines s ss old mid new (Err (TooLong stamp size)) e f a = one_met s ss e ∙ a
more_lines s ss old mid new (Err NoMemory) e f a = tt

pub as_fault : (ss : List Statement) (old new : List (Vec ℕ)) (fault : ExportFault)
    → AddsLines ss old new (Err fault) → AreLines ss (Err fault)
as_fault ss old new (NoVersion version newest) a = absurd a
as_fault ss old new (NoInverse k kind) a = absurd a
as_fault ss old new (TooLong stamp size) a = a
as_fault ss old new NoMemory a = tt
