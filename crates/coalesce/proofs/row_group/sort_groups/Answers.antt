use Rattle.std.proofs.Common.{◌≡◌, ◌≤◌, length, subst, sym, arith}
use Rattle.std.proofs.lemmas.List.Sorted.{IsPermutation-trans, length_permutation}
use Rattle.coalesce.proofs.row_group.sort_groups.Goals as goal

pub groups-preserved : goal.groups-preserved
groups-preserved c =
    let group = c.sort_part.ensures.permutation in
    let all = IsPermutation-trans _ _ _ c.groups.invariant.2 group in (
      subst (λ n. c.group_end-end.result ≤ n) (sym (length_permutation _ _ group))
          c.group_end-end.ensures.1,
      length_permutation _ _ all,
      all,
    )

pub groups-smaller : goal.groups-smaller
groups-smaller c =
    let long : length c.sort_part.new.self.items ≡ length c.groups.rows.items =
    length_permutation _ _ c.sort_part.ensures.permutation in
    let after = c.group_end-end.ensures.0 in
    let within = c.group_end-end.ensures.1 in
    omega (arith, long, after, within)
