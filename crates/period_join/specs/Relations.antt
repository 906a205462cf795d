-- How two periods stand to one another.
use Rattle.std.specs.Prelude.{Bool, ◌&&◌, ◌==◌, nat_lt}
use Rattle.relations_spec.specs.Spans.{Span}
use Rattle.temporal_lang_types.specs.declared.relation.Relation.{Relation}
use Rattle.temporal_lang_types.specs.declared.relation.Relation.TheVariants.{Before, Meets}
use Rattle.temporal_lang_types.specs.declared.relation.Relation.TheVariants.{Overlaps}
use Rattle.temporal_lang_types.specs.declared.relation.Relation.TheVariants.{Contains, Equals}

-- the first period stands in the relation to the second
abbrev pub relates : Relation → Span → Span → Bool
relates Before p q = nat_lt p.end q.start
relates Meets p q = p.end == q.start
relates Overlaps p q = nat_lt p.start q.start && nat_lt q.start p.end && nat_lt p.end q.end
relates Contains p q = nat_lt p.start q.start && nat_lt q.end p.end
relates Equals p q = p.start == q.start && p.end == q.end
