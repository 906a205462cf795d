use Rattle.std.proofs.Common.{◌∙◌, codes}
use Rattle.clap.specs.Matches.{found_of}
use Rattle.clap.proofs.WalkLemmas.{first_value-rows, raw_values-rows}
use Rattle.script_cli_arguments.proofs.Requests.{same_request}
use Rattle.script_cli_arguments.proofs.request.request_matched.Goals as goal

pub returns : goal.returns
returns c =
    let found = found_of c.args.matches.now in
    c.request_of.ensures
    ∙ same_request (c.get_raw.ensures ∙ raw_values-rows found (codes "journal-limit"))
    (c.get_raw-2.ensures ∙ raw_values-rows found (codes "size"))
    (c.get_str.ensures ∙ first_value-rows found (codes "word"))
