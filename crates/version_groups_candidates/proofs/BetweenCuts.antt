-- The stored rows between two cuts.
use Rattle.std.proofs.Common.{◌≡◌, Bool, true, false}
use Rattle.std.specs.Prelude.{not, ◌&&◌}
use Rattle.relations_spec.specs.Sets.{In}
use Rattle.relations_spec.proofs.SetLaws.{in_filter, from_filter}
use Rattle.history_store.specs.Cuts.{Cut, is_before, between}
use Rattle.smo_ops_spec.specs.OneRow.{Row, Relation}
use Rattle.version_groups_candidates.specs.Candidates.{HaveHits}

not_and : (a b : Bool) → a ≡ false → b ≡ true → (not a && b) ≡ true
not_and true b e f = absurd (cc)
not_and false b e f = f

pub between_has_hits : (passes : Row → Bool) (from to : Cut) (stored : Relation)
    → ((row : Row) → In row stored → passes row ≡ true → (is_before from row ≡ false)
    × (is_before to row ≡ true)) → HaveHits passes stored (between from to stored)
between_has_hits passes from to stored within = record {
  only = λ row i. (from_filter (λ r. not (is_before from r) && is_before to r) row stored i).0;
  all = λ row i p. (let l = within row i p in
      in_filter (λ r. not (is_before from r) && is_before to r) row stored i
      (not_and (is_before from row) (is_before to row) l.0 l.1));
}
