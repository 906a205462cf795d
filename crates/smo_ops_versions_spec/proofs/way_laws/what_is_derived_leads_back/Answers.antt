use Rattle.smo_ops_versions_spec.proofs.WayLeads.{each_leads_back}
use Rattle.smo_ops_versions_spec.proofs.way_laws.what_is_derived_leads_back.Goals as goal

pub returns : goal.returns
returns c = each_leads_back
