use Rattle.std.proofs.Common.{◌≡◌, ◌+◌, ◌≤◌, ℕ, List, ◌++◌, false, length, drop}
use Rattle.prima_base.specs.Limits.{max_statement}
use Rattle.script_parse.specs.Script.{parts_from, tail_from, ending}
use Rattle.script_parse.proofs.splitter.Splitter.feed.Given as goal

abbrev pub invariant-loop-i : goal.invariant-loop-i
invariant-loop-i l = record {
  alive : l.self.spent ≡ false;
  short : length l.self.kept ≤ max_statement + 1;
  parts : (more : List ℕ) → parts_from l.initial.self.mode l.initial.self.kept (l.bytes ++ more)
      ≡ parts_from l.self.mode l.self.kept (drop l.i l.bytes ++ more);
  endings : (more : List ℕ) → ending (tail_from l.initial.self.mode l.initial.self.kept
      (l.bytes ++ more)) ≡ ending (tail_from l.self.mode l.self.kept (drop l.i l.bytes ++ more));
}
