use Rattle.std.proofs.Common.{◌≡◌, ◌++◌, map, drop}
use Rattle.smo_ops_types.specs.Changes.{sets_of}
use Rattle.smo_parse.specs.Texts.{more_listed}
use Rattle.answer_text.specs.PieceTexts.{out_text}
use Rattle.answer_text.proofs.printer.write_more_outs.Given as goal

abbrev pub invariant-loop-out : goal.invariant-loop-out
invariant-loop-out l = l.text.items ++ more_listed
    (map out_text (sets_of (drop l.out-index l.outs))) ≡ l.initial.text.items
    ++ more_listed (map out_text (sets_of l.outs))
