use Rattle.std.proofs.Common.{◌≡◌, ◌≤◌, ◌++◌, List}
use Rattle.lexer_combinators.specs.Reads.{ahead}
use Rattle.lexer_combinators.specs.Parsing.{prepend}
use Rattle.temporal_lang_types.specs.declared.agg_item.AggItem.{AggItem}
use Rattle.temporal_lang_grammar_spec.specs.AggregateReader.{more_aggs}
use Rattle.temporal_lang.proofs.aggregate_reader.more_aggregates.Given as goal

abbrev pub invariant-loop-left : goal.invariant-loop-left
invariant-loop-left l = (l.left ≤ 7) × (read : List AggItem)
    × (l.list.items ≡ l.fn.list.items ++ read)
    × (more_aggs 7 l.fn.c.nodes (ahead l.fn.c)
    ≡ prepend read (more_aggs l.left l.c.nodes (ahead l.c)))

abbrev pub decreases-loop-left : goal.decreases-loop-left
decreases-loop-left l = l.left
