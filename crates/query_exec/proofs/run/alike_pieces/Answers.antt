use Rattle.std.proofs.Common.{sym, ◌∙◌}
use Rattle.std.proofs.lemmas.Bool.{and_parts}
use Rattle.piece_ir.specs.Sameness.{same_test, same_outs}
use Rattle.piece_ir.specs.Shown.{piece_of}
use Rattle.piece_ir.proofs.SameLaws.{test_is, outs_are}
use Rattle.query_exec.proofs.run.alike_pieces.Goals as goal

pub returns : goal.returns
returns c = λ t.
    let p = piece_of c.args.piece.now in
    let q = piece_of c.args.other_piece.now in
    let h = and_parts (same_test p.cond q.cond) (same_outs p.outs q.outs)
    (sym c.same_form.ensures ∙ c.if-not-same_form.false) in
    record {
      atoms = rw (c.deref.ensures.value, c.deref-2.ensures.value) at (c.all_tables_alike.ensures t);
      cond = test_is p.cond q.cond h.0;
      outs = outs_are p.outs q.outs h.1;
    }
