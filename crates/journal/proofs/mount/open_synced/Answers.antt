use Rattle.journal.proofs.Moments.{short_leaves}
use Rattle.journal.proofs.mount.open_synced.Goals as goal

pub returns-in_err-begin-clause-same_or_nine : goal.returns-in_err-begin-clause-same_or_nine
returns-in_err-begin-clause-same_or_nine g c file honest seen only =
    short_leaves _ _ _ file honest seen only c.len.ensures.reads c.begin.ensures.goes
    (c.begin.ensures.same_or_nine file)

pub returns-then-len-le9-clause-same_or_nine : goal.returns-then-len-le9-clause-same_or_nine
returns-then-len-le9-clause-same_or_nine g c file honest seen only =
    short_leaves _ _ _ file honest seen only c.len.ensures.reads c.begin.ensures.goes
    (c.begin.ensures.same_or_nine file)
