use Rattle.std.proofs.Common.{ℕ, List, [], ◌∷◌, subst}
use Rattle.version_export.specs.Written.{AddsLines}
use Rattle.version_export.proofs.version_script.push_creation.Goals as goal

pub returns-in-Ok : goal.returns-in-Ok
returns-in-Ok c = subst (λ (text : List ℕ). AddsLines ((c.args.first, text) ∷ [])
    c.args.lines.now.items c.push_line.new.lines.items c.push_line.result) c.in-Ok.ensures
    c.push_line.ensures
