use Rattle.version_groups.proofs.RestoredPasts.{represents_past_of}
use Rattle.version_groups.proofs.restoration.restored_groups_represent.Goals as goal

pub returns : goal.returns
returns c = λ past restored is. represents_past_of c.args.groups.now past restored is
