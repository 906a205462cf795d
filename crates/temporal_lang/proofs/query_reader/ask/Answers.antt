use Rattle.temporal_lang_grammar_spec.proofs.ValidQueries.{branches_have_parts, when_is_before}
use Rattle.temporal_lang.proofs.query_reader.ask.Goals as goal

pub invariant_of-result : goal.invariant_of-result
invariant_of-result c =
    let l = branches_have_parts _ _ _ _ _ c.in_ok-branches.ensures in
    let w = when_is_before _ _ _ _ _ c.in_ok-when.ensures in
    record { valid = record { some = l.0; parts = l.1; moments = w.0; bounds = w.1 } }
