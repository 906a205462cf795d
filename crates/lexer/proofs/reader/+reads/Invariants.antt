use Rattle.std.proofs.Common.{◌≡◌, ◌+◌, ◌-◌, ◌≤◌, ◌++◌, List, map, ◌*◌, codes}
use Rattle.prima_base.specs.declared.refusal.What.TheVariants as what
use Rattle.cond_expr.specs.Trees.{Tree, Test}
use Rattle.cond_expr.specs.Seen.{tree, test}
use Rattle.lexer_spec.specs.Lexemes.{is_word, is_sign}
use Rattle.lexer_combinators.specs.Reads.{ahead}
use Rattle.lexer_trees_spec.specs.Reader as spec
use Rattle.lexer_combinators.specs.Parsing as parsing
use Rattle.lexer.proofs.reader.+reads.Given as goal

abbrev pub decreases-bracketed : goal.decreases-bracketed
decreases-bracketed l = 16 * l.inner + 11

abbrev pub decreases-case_rest : goal.decreases-case_rest
decreases-case_rest l = 16 * l.inner + 11

abbrev pub decreases-comparison : goal.decreases-comparison
decreases-comparison l = 16 * l.depth + 3

abbrev pub decreases-concat_rest : goal.decreases-concat_rest
decreases-concat_rest l = 16 * l.depth + 1

abbrev pub decreases-length_rest : goal.decreases-length_rest
decreases-length_rest l = 16 * l.depth + 1

abbrev pub decreases-cond : goal.decreases-cond
decreases-cond l = 16 * l.depth + 10

abbrev pub decreases-conj : goal.decreases-conj
decreases-conj l = 16 * l.depth + 7

abbrev pub decreases-expr : goal.decreases-expr
decreases-expr l = 16 * l.depth + 2

abbrev pub decreases-fact : goal.decreases-fact
decreases-fact l = 16 * l.depth + 4

abbrev pub decreases-facts : goal.decreases-facts
decreases-facts l = 16 * l.depth + 6

abbrev pub decreases-conjs : goal.decreases-conjs
decreases-conjs l = 16 * l.depth + 9

abbrev pub decreases-more_exprs : goal.decreases-more_exprs
decreases-more_exprs l = 16 * l.inner + 5

abbrev pub decreases-more_facts : goal.decreases-more_facts
decreases-more_facts l = 16 * l.depth + 5

abbrev pub decreases-more_conjs : goal.decreases-more_conjs
decreases-more_conjs l = 16 * l.depth + 8

abbrev pub invariant-more_exprs-loop-alloc : goal.invariant-more_exprs-loop-alloc
invariant-more_exprs-loop-alloc l = (l.left ≤ 7) × (read : List Tree)
    × (map tree l.parts.items ≡ map tree l.fn.parts.items ++ read) ×
    (parsing.more (is_sign (codes ",")) what.Parts (spec.level l.qualified l.inner).expr 7
    l.fn.c.nodes (ahead l.fn.c) ≡ parsing.prepend read
    (parsing.more (is_sign (codes ",")) what.Parts (spec.level l.qualified l.inner).expr l.left
    l.c.nodes (ahead l.c)))

abbrev pub decreases-more_exprs-loop-alloc : goal.decreases-more_exprs-loop-alloc
decreases-more_exprs-loop-alloc l = l.left

abbrev pub invariant-more_facts-loop-alloc : goal.invariant-more_facts-loop-alloc
invariant-more_facts-loop-alloc l = (l.left ≤ 257) × (read : List Test)
    × (map test l.parts.items ≡ map test l.fn.parts.items ++ read) ×
    (parsing.more (is_word (codes "AND")) what.Nodes (spec.level l.qualified l.depth).fact
    (257 - l.fn.c.nodes) l.fn.c.nodes (ahead l.fn.c)
    ≡ parsing.prepend read (parsing.more (is_word (codes "AND")) what.Nodes
    (spec.level l.qualified l.depth).fact l.left l.c.nodes (ahead l.c)))

abbrev pub decreases-more_facts-loop-alloc : goal.decreases-more_facts-loop-alloc
decreases-more_facts-loop-alloc l = l.left

abbrev pub invariant-more_conjs-loop-alloc : goal.invariant-more_conjs-loop-alloc
invariant-more_conjs-loop-alloc l = (l.left ≤ 257) × (read : List Test)
    × (map test l.parts.items ≡ map test l.fn.parts.items ++ read) ×
    (parsing.more (is_word (codes "OR")) what.Nodes
    (spec.conj l.qualified (spec.can l.depth) (spec.inside l.qualified l.depth))
    (257 - l.fn.c.nodes) l.fn.c.nodes (ahead l.fn.c)
    ≡ parsing.prepend read (parsing.more (is_word (codes "OR")) what.Nodes
    (spec.conj l.qualified (spec.can l.depth) (spec.inside l.qualified l.depth)) l.left
    l.c.nodes (ahead l.c)))

abbrev pub decreases-more_conjs-loop-alloc : goal.decreases-more_conjs-loop-alloc
decreases-more_conjs-loop-alloc l = l.left

abbrev pub decreases-length_inside : goal.decreases-length_inside
decreases-length_inside l = 16 * l.inner + 12

abbrev pub decreases-concat_inside : goal.decreases-concat_inside
decreases-concat_inside l = 16 * l.inner + 12
