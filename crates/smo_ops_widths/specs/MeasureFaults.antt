-- Commands that make a version which is too wide. They are refused only where they are new: a
-- record or an image that has such a version is read.
use Rattle.std.specs.Prelude.{ℕ, nat_le, None}
use Rattle.prima_base.specs.declared.refusal.Refusal.TheVariants.{TooWide}
use Rattle.smo_ops_types.specs.Commands.{PlainBody, changing, evolving, PlainCommand}
use Rattle.smo_ops_spec.specs.First.{unless}
use Rattle.smo_ops_spec.specs.Checks.{Fault}
use Rattle.smo_ops_spec.specs.Past.{Past}
use Rattle.smo_ops_widths.specs.Widths.{widest, with_version}

-- the greatest measure that what makes a version may have
abbrev pub max_measure : ℕ
max_measure = 1000000

abbrev pub measure_fault : ℕ → Fault
measure_fault most = unless (nat_le most max_measure) (TooWide most)

-- changes make no version
abbrev pub body_width_fault : Past → ℕ → PlainBody → Fault
body_width_fault past stamp (changing changes) = None
body_width_fault past stamp (evolving op inverse) =
    measure_fault (widest (with_version past.versions stamp op inverse))

abbrev pub width_fault : Past → PlainCommand → Fault
width_fault past command = body_width_fault past command.stamp command.body
