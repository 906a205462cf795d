use Rattle.std.proofs.Common.{◌≡◌, ◌++◌, drop}
use Rattle.std.specs.List.{flat_map}
use Rattle.piece_ir.specs.ExplainedPieces.{all_explained}
use Rattle.answer_text.specs.Texts.{explained_text}
use Rattle.answer_text.proofs.explanation.add_all.Given as goal

abbrev pub invariant-loop-explained : goal.invariant-loop-explained
invariant-loop-explained l =
    l.lines.items ++ flat_map explained_text (all_explained (drop l.explained-index l.list))
    ≡ l.initial.lines.items ++ flat_map explained_text (all_explained l.list)
