use Rattle.std.proofs.Common.{◌≡◌, sym, subst}
use Rattle.std.proofs.lemmas.Result.{err_from_is_err_and}
use Rattle.smo_ops_types.specs.Commands.{PlainCommand}
use Rattle.smo_ops_spec.specs.Past.{Past}
use Rattle.archive_core_replay.specs.Memory.{checked_command, Prepares, RepresentsPast}
use Rattle.archive_core.proofs.archive.Archive.accept.Goals as goal

pub returns-in_err-put-clause-untouched : goal.returns-in_err-put-clause-untouched
returns-in_err-put-clause-untouched g c =
    let f = err_from_is_err_and c.from_residual-in_err-put.result
    c.from_residual-in_err-put.ensures.1 in
    rw (f.1, f.2) c.in_err-put.ensures.untouched

pub apply-requires : goal.apply-requires
apply-requires g c =
    let some = c.requires.accepted in
    subst (λ s. (x : Past) × (command : PlainCommand) × RepresentsPast s x
    × Prepares s.groups x command c.in_ok-prepared.prepared) (sym c.in_ok-put.ensures.same) (
      some.0,
      checked_command c.args.checked,
      c.prepare.ensures.represents some.0 some.1,
      c.in_ok-prepared.ensures.prepared some.0 some.1 some.2,
    )
