use Rattle.archive_core_state.proofs.asked_query.accepted_query.Goals as goal

pub check_losses-requires : goal.check_losses-requires
check_losses-requires c = (
  c.requires.0,
  c.requires.1,
  c.in_ok-atoms.ensures c.requires.0 (c.in_ok-schema.ensures c.requires.0 c.requires.1),
)

pub returns : goal.returns
returns c = λ past represents.
    let schema = c.in_ok-schema.ensures past represents in
    let h = c.in_ok-atoms.ensures past schema in
    record {
      accepted = c.in_ok-check_losses.ensures past represents h;
      there = h.there;
      atoms = h.atoms;
      lasting = h.lasting;
    }
