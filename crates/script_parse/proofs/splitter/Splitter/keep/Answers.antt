use Rattle.script_parse.proofs.Keeping.{tracked_step}
use Rattle.script_parse.proofs.splitter.Splitter.keep.Goals as goal

pub invariant_of-self : goal.invariant_of-self
invariant_of-self c = rw (
  c.next-self-inside.ensures,
  c.in-Ok.ensures.ok,
  c.stays_quiet-self-inside.ensures,
) (tracked_step _ _ _ _ c.self.invariant)
