use Rattle.std.proofs.Common.{ap, ◌∙◌, sym}
use Rattle.std.specs.Option.{option_map}
use Rattle.std.specs.Prelude.{Some}
use Rattle.temporal_lang_spec.specs.PairFaults.{behind}
use Rattle.script_cli_statement.proofs.pair_response.fault_behind.Goals as goal

pub returns-in-Refused : goal.returns-in-Refused
returns-in-Refused c = λ wrong h. ap (option_map (behind c.args.nodes))
    (rw c.in-Refused.is at h) ∙ ap Some (sym c.refusal_behind.ensures)
