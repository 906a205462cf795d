use Rattle.smo_ops_spec.specs.History.{past_of}
use Rattle.version_export.proofs.GoodLines.{where_lines, where_lines_of_one}
use Rattle.version_export.proofs.version_script.export.Goals as goal

pub returns-clause-good : goal.returns-clause-good
returns-clause-good g c = λ history shows h creating some creates. where_lines history
    c.args.version h creating some creates c.lines_of_version.result
    (c.lines_of_version.ensures.is (past_of history) shows)

pub returns-clause-one : goal.returns-clause-one
returns-clause-one g c = λ history shows h t e. where_lines_of_one history c.args.version h t e
    c.lines_of_version.result (c.lines_of_version.ensures.is (past_of history) shows)
