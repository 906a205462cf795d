-- Whether a command is accepted after a past: the first refusal in the one order.
use Rattle.std.specs.Prelude.{ℕ, List, ◌∷◌, length, nat_lt, Option, Some, None}
use Rattle.std.specs.Option.{option_map}
use Rattle.prima_base.specs.declared.refusal.What.TheVariants.{Versions}
use Rattle.prima_base.specs.declared.refusal.OpRefusal.{OpRefusal}
use Rattle.prima_base.specs.declared.refusal.OpRefusal.TheVariants.{Exists, NoTable, ColumnExists}
use Rattle.prima_base.specs.declared.refusal.OpRefusal.TheVariants.{NoColumn, ColumnsDiffer}
use Rattle.prima_base.specs.declared.refusal.OpRefusal.TheVariants.{BadCover, LastColumn, SameTable}
use Rattle.prima_base.specs.declared.refusal.OpRefusal.TheVariants.{WrongType, TooMany}
use Rattle.prima_base.specs.declared.refusal.Refusal.{Refusal}
use Rattle.prima_base.specs.declared.refusal.Refusal.TheVariants.{StampNotLater}
use Rattle.prima_base.specs.declared.refusal.Refusal.TheVariants.{Exists as TableExists}
use Rattle.prima_base.specs.declared.refusal.Refusal.TheVariants.{NoTable as TableMissing}
use Rattle.prima_base.specs.declared.refusal.Refusal.TheVariants.{ColumnExists as ColumnThere}
use Rattle.prima_base.specs.declared.refusal.Refusal.TheVariants.{NoColumn as ColumnUnknown}
use Rattle.prima_base.specs.declared.refusal.Refusal.TheVariants.{ColumnsDiffer as Unlike}
use Rattle.prima_base.specs.declared.refusal.Refusal.TheVariants.{BadCover as Uncovered}
use Rattle.prima_base.specs.declared.refusal.Refusal.TheVariants.{LastColumn as NoOtherColumn}
use Rattle.prima_base.specs.declared.refusal.Refusal.TheVariants.{SameTable as OneTable}
use Rattle.prima_base.specs.declared.refusal.Refusal.TheVariants.{WrongType as IllTyped}
use Rattle.prima_base.specs.declared.refusal.Refusal.TheVariants.{TooMany as OverLimit}
use Rattle.prima_base.specs.Limits.{max_versions}
use Rattle.smo_ops_types.specs.Commands.{PlainBody, changing, evolving, PlainCommand}
use Rattle.smo_ops_spec.specs.First.{unless, first_refusal}
use Rattle.smo_ops_spec.specs.Evolutions.{evolution_fault}
use Rattle.smo_ops_spec.specs.Inverses.{inverse_tests}
use Rattle.smo_ops_spec.specs.Past.{Past, newest_tables}
use Rattle.smo_ops_spec.specs.Checks.{Fault, changes_tests}
use Rattle.smo_ops_spec.specs.Counts.{Excess, first_excess}

-- an operator's refusal as that of a statement
abbrev pub operator_refusal : OpRefusal → Refusal
operator_refusal (Exists t) = TableExists t
operator_refusal (NoTable t) = TableMissing t
operator_refusal (ColumnExists t c) = ColumnThere t c
operator_refusal (NoColumn t c) = ColumnUnknown c
operator_refusal (ColumnsDiffer r s) = Unlike r s
operator_refusal (BadCover t) = Uncovered t
operator_refusal (LastColumn t) = NoOtherColumn t
operator_refusal (SameTable t) = OneTable t
operator_refusal (WrongType place) = IllTyped place
operator_refusal (TooMany what limit) = OverLimit what limit

abbrev pub count_fault : Excess → Fault
count_fault excess = option_map (λ e. OverLimit e.0 e.1) excess

-- the stamp is above the last one
abbrev pub stamp_fault : Option ℕ → ℕ → Fault
stamp_fault None stamp = None
stamp_fault (Some last) stamp = unless (nat_lt last stamp) (StampNotLater stamp last)

abbrev pub body_tests : Past → PlainBody → List Fault
body_tests past (changing changes) = changes_tests (newest_tables past) changes 0
body_tests past (evolving op inverse) =
    unless (nat_lt (length past.versions) max_versions) (OverLimit Versions max_versions)
    ∷ option_map operator_refusal (evolution_fault (newest_tables past) op)
    ∷ inverse_tests (newest_tables past) op inverse

-- counts, then the stamp, then what the command does
abbrev pub command_tests : Past → PlainCommand → List Fault
command_tests past command = count_fault (first_excess command.body)
    ∷ stamp_fault past.last command.stamp ∷ body_tests past command.body

-- the refusal of a command; none where it is accepted
abbrev pub command_fault : Past → PlainCommand → Fault
command_fault past command = first_refusal (command_tests past command)
