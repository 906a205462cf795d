-- What is so of each branch, and branches one after the other with their references made ones to
-- atoms.
use Rattle.std.specs.Prelude.{◌≡◌, ℕ, zero, suc, ◌+◌, ◌<◌, ◌≤◌, List, [], ◌∷◌, ◌++◌, length, take}
use Rattle.std.proofs.Common.{sym, ap, subst, ◌∙◌, get_or, arith}
use Rattle.std.proofs.lemmas.List.{take_more}
use Rattle.schema_catalog.specs.Tables.{Tables}
use Rattle.temporal_lang_types.specs.declared.branch.Branch.{Branch}
use Rattle.temporal_lang_types.specs.Branches.{branch_of, branches_of}
use Rattle.temporal_lang_spec.specs.Atoms.{branch_with_atoms, branches_with_atoms}
use Rattle.temporal_lang_spec.specs.Resolved.{HaveFew}
use Rattle.temporal_lang_spec.proofs.FillLaws.{map_both}

pub few_at : (xs : List Branch) (i : ℕ) (x : Branch) → HaveFew (branches_of xs) → i < length xs
    → x ≡ get_or xs i x → length x.from.items ≤ 8
few_at [] i x h l e = absurd (omega arith)
few_at (y ∷ xs) zero x h l e = subst (λ (z : Branch). length z.from.items ≤ 8) (sym e) h.0
few_at (y ∷ xs) (suc i) x h l e = few_at xs i x h.1 (omega arith) e

pub resolved_more : (tables : Tables) (xs : List Branch) (i : ℕ) (x : Branch) → i < length xs
    → x ≡ get_or xs i x → (done : List Branch) (new : Branch) (all : List Branch)
    → branches_of done ≡ branches_with_atoms tables (branches_of (take i xs))
    → branch_of new ≡ branch_with_atoms tables (branch_of x) → all ≡ done ++ new ∷ []
    → branches_of all ≡ branches_with_atoms tables (branches_of (take (i + 1) xs))
resolved_more tables xs i x below is done new all h k e =
    ap branches_of e ∙ map_both branch_of done (new ∷ [])
    ∙ ap (λ bs. bs ++ branch_of new ∷ []) h ∙ ap
    (λ b. branches_with_atoms tables (branches_of (take i xs)) ++ b ∷ []) k
    ∙ sym (ap (λ bs. branches_with_atoms tables (branches_of bs))
    (take_more xs i x below ∙ ap (λ b. take i xs ++ b ∷ []) (sym is))
    ∙ ap (branches_with_atoms tables) (map_both branch_of (take i xs) (x ∷ []))
    ∙ map_both (branch_with_atoms tables) (branches_of (take i xs)) (branch_of x ∷ []))
