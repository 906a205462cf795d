use Rattle.std.proofs.Common.{List, ℕ, sym, ap, ◌∙◌, subst}
use Rattle.script_parse.specs.Script.{statements_of, tail_of}
use Rattle.script_parse_laws.specs.Parts.{IsScript}
use Rattle.script_parse_laws.proofs.Scripts.{joined_script, script_joined, each_statement, its_tail}
use Rattle.script_parse_laws.proofs.laws.a_script_is_read_in_one_way.Goals as goal

pub returns-clause-read : goal.returns-clause-read
returns-clause-read c = λ script.
    let law = c.script_is_its_statements.ensures in
    let P : List ℕ → Type 0 = λ l. IsScript l (statements_of script) (tail_of script) in
    subst P (law.joined script) (joined_script (statements_of script) (tail_of script)
    (law.statements script) (law.tail script))

pub returns-clause-only : goal.returns-clause-only
returns-clause-only c = λ script statements tail h.
    let law = c.statements_are_of_a_script.ensures in
    let each = each_statement script statements tail h in
    let last = its_tail script statements tail h in
    let same = script_joined script statements tail h in (
      sym (law.statements statements tail each last) ∙ ap statements_of same,
      sym (law.tail statements tail each last) ∙ ap tail_of same,
    )
