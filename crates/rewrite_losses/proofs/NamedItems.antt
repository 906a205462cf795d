-- The loss of a query's items, branch after branch, as the code finds it.
use Rattle.std.proofs.Common.{◌≡◌, ◌+◌, ◌-◌, ◌≤◌, ℕ, List, [], ◌∷◌, ◌++◌, map, length, get_or}
use Rattle.std.proofs.Common.{take, drop, refl, sym, ap, ◌∙◌, arith}
use Rattle.std.proofs.lemmas.List.{take_all}
use Rattle.std.specs.Prelude.{Option, Some, None}
use Rattle.std.specs.List.{flat_map}
use Rattle.cond_expr.specs.declared.expr.ColRef.{ColRef}
use Rattle.cond_expr.specs.Seen.{tree, test}
use Rattle.smo_ops_spec.specs.First.{first_refusal as first_there}
use Rattle.smo_ops_spec.specs.Losses.{Loss}
use Rattle.smo_ops_spec.proofs.Firsts.{first_after, first_before}
use Rattle.smo_ops_versions_spec.specs.ColumnLosses.{Losses}
use Rattle.plain_answers_spec.specs.Branches.{Item}
use Rattle.plain_answers_spec.specs.Naming.{all_references}
use Rattle.temporal_lang_types.specs.declared.branch.Branch.{Branch}
use Rattle.temporal_lang_types.specs.Branches.{branch_of, branches_of}
use Rattle.temporal_lang_spec.specs.Losing.{items_from, branch_losses, items_loss}
use Rattle.rewrite_losses.specs.NamedItems.{losses_named}

-- ---- one branch

each_named : (losses : Losses) (b : Branch) (n : ℕ) (from : List Item)
    → losses_named losses (all_references (map tree b.outs.items) (test b.cond)) n from
    ≡ items_from losses (branch_of b) n from
each_named losses b n [] = refl
each_named losses b n (item ∷ from) = ap (λ (rest : List (Option Loss)).
    items_from losses (branch_of b) n (item ∷ []) ++ rest) (each_named losses b (n + 1) from)

pub of_branch : (losses : Losses) (b : Branch) (references : List ColRef) (from : List Item)
    (loss : Option Loss) → references ≡ all_references (map tree b.outs.items) (test b.cond)
    → from ≡ b.from.items → loss ≡ first_there (losses_named losses references 0 from)
    → loss ≡ first_there (branch_losses losses (branch_of b))
of_branch losses b references from loss e f h =
    h ∙ ap (λ (rs : List ColRef). first_there (losses_named losses rs 0 from)) e
    ∙ ap (λ (items : List Item). first_there (losses_named losses
    (all_references (map tree b.outs.items) (test b.cond)) 0 items)) f
    ∙ ap (λ (ls : List (Option Loss)). first_there ls) (each_named losses b 0 b.from.items)

-- ---- branch after branch

pub some_first : (losses : Losses) (bs : List Branch) (b : Branch) (l : Loss) → 1 ≤ length bs
    → b ≡ get_or bs 0 b → Some l ≡ first_there (branch_losses losses (branch_of b))
    → Some l ≡ items_loss losses (branches_of bs)
some_first losses [] b l low is e = absurd (omega arith)
some_first losses (x ∷ bs) b l low is e =
    sym (first_before (branch_losses losses (branch_of x))
    (flat_map (branch_losses losses) (branches_of bs)) l
    (sym (e ∙ ap (λ (y : Branch). first_there (branch_losses losses (branch_of y))) is)))

pub later_first : (losses : Losses) (bs : List Branch) (b : Branch) (r : Option Loss)
    → 1 ≤ length bs → b ≡ get_or bs 0 b
    → None ≡ first_there (branch_losses losses (branch_of b))
    → r ≡ items_loss losses (branches_of (take (length bs - 1) (drop 1 bs)))
    → r ≡ items_loss losses (branches_of bs)
later_first losses [] b r low is e q = absurd (omega arith)
later_first losses (x ∷ bs) b r low is e q =
    let short : length bs ≤ length (x ∷ bs) - 1 = omega arith in
    q ∙ ap (λ (ys : List Branch). items_loss losses (branches_of ys))
    (take_all (length (x ∷ bs) - 1) bs short)
    ∙ sym (first_after (branch_losses losses (branch_of x))
    (flat_map (branch_losses losses) (branches_of bs))
    (sym (e ∙ ap (λ (y : Branch). first_there (branch_losses losses (branch_of y))) is)))
