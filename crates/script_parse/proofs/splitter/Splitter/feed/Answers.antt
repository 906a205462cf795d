use Rattle.std.proofs.Common.{◌∙◌, sym}
use Rattle.script_parse.proofs.ScriptReading.{parts_turn, endings_turn}
use Rattle.script_parse.proofs.splitter.Splitter.feed.Goals as goal

pub loop-i-preserved : goal.loop-i-preserved
loop-i-preserved c =
    let open_is = sym c.is_end.ensures ∙ c.if-is_end.false in
    record {
      alive = rw c.in-Ok.ensures.ok c.loop-i.invariant.alive;
      short = c.in-Ok.ensures.short;
      parts = λ more. rw c.in-Ok.ensures.ok (c.loop-i.invariant.parts more
          ∙ parts_turn c.args.bytes.now more c.loop-i.i _ _ c.loop-i-test.true open_is);
      endings = λ more. rw c.in-Ok.ensures.ok
          (c.loop-i.invariant.endings more ∙ endings_turn c.args.bytes.now more c.loop-i.i _ _
          c.loop-i-test.true open_is);
    }
