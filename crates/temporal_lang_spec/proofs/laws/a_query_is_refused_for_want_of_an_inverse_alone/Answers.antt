use Rattle.temporal_lang_spec.proofs.WayBackLaws.{no_way_back_is}
use Rattle.temporal_lang_spec.proofs.laws.a_query_is_refused_for_want_of_an_inverse_alone.Goals as goal

pub returns : goal.returns
returns c = no_way_back_is
