-- What is answered in the end, step by step.
use Rattle.std.proofs.Common.{◌≡◌, ℕ, List, [], ◌∷◌, map, sym, ap, ◌∙◌}
use Rattle.std.specs.List.{filter}
use Rattle.relations_spec.specs.Sets.{set_of}
use Rattle.relations_spec.specs.Choices.{choices}
use Rattle.prima_base.specs.declared.value.Value.{Value}
use Rattle.prima_base.specs.Order.{row_cmp}
use Rattle.cond_expr.specs.declared.expr.Column.{Column}
use Rattle.cond_expr.specs.Trees.{Tree, Test}
use Rattle.join_exec_levels.specs.declared.source.Source.{Source}
use Rattle.join_exec_spec.specs.Choosing.{complete_choices}
use Rattle.join_exec_spec.specs.Keeping.{meets, meets_all}
use Rattle.cond_expr.specs.Parts.{parts}
use Rattle.join_exec_spec.specs.Answering.{one_row, outputs}
use Rattle.join_exec_spec.proofs.PlaceLaws.{parts_meet}
use Rattle.join_exec_spec.proofs.JoinLaws.{filter_like}
use Rattle.join_exec_levels.proofs.ChoiceLaws.{all_choices, of_relations}
use Rattle.join_exec_levels.specs.Sources.{held_of, relations_of}

-- a choice meets the condition where it meets all its parts
pub by_parts : (cs : List Column) (c : Test) (ps : List Test) → ps ≡ parts c
    → (xs : List (List Value)) → filter (meets cs c) xs ≡ filter (meets_all cs ps) xs
by_parts cs c ps gathered xs = filter_like (meets cs c) (meets_all cs ps) xs
    (λ x. sym (ap (λ (qs : List Test). meets_all cs qs x) gathered ∙ parts_meet cs x c))

pub same_met : (cs : List Column) (c : Test) (ps : List Test) → ps ≡ parts c
    → (xs ys : List (List Value)) → filter (meets_all cs ps) xs ≡ filter (meets_all cs ps) ys
    → filter (meets cs c) xs ≡ filter (meets cs c) ys
same_met cs c ps gathered xs ys h = by_parts cs c ps gathered xs ∙ h
    ∙ sym (by_parts cs c ps gathered ys)

-- the choices of one row of each list
pub all_answered : (cs : List Column) (outs : List Tree) (c : Test) (ps : List Test) → ps ≡ parts c
    → (sources : List Source) (m : ℕ) (xs : List (List Value))
    → filter (meets_all cs ps) xs ≡ filter (meets_all cs ps)
    (complete_choices ([] ∷ []) (held_of sources m))
    → set_of row_cmp (map (outputs cs outs) (filter (meets cs c) xs))
    ≡ set_of row_cmp (map (outputs cs outs)
    (filter (meets cs c) (map one_row (choices (relations_of sources m)))))
all_answered cs outs c ps gathered sources m xs h =
    ap (λ (ys : List (List Value)). set_of row_cmp (map (outputs cs outs) ys))
    (same_met cs c ps gathered xs (complete_choices ([] ∷ []) (held_of sources m)) h
    ∙ ap (filter (meets cs c)) (all_choices (held_of sources m)))
    ∙ of_relations sources m (meets cs c) (outputs cs outs)
