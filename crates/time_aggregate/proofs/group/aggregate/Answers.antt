use Rattle.std.proofs.Common.{◌≡◌, ◌∙◌, List, [], ◌++◌, sym, ap, subst, take, arith}
use Rattle.relations_spec.specs.Timed.{Entry}
use Rattle.relations_spec.proofs.SetLaws.{in_map}
use Rattle.prima_base.specs.Timed.{entry_of}
use Rattle.prima_base.specs.declared.agg_row.AggRow.{AggRow}
use Rattle.prima_base.specs.Groups.{Group}
use Rattle.time_aggregate.specs.Aggregates.{Row}
use Rattle.prima_base.specs.Groups.{group_shown, groups_shown}
use Rattle.time_aggregate.specs.Turns.{rows_shown, row_at}
use Rattle.time_aggregate.proofs.JoinedGroups.{map_join}
use Rattle.time_aggregate.proofs.Grouping.{apart_more}
use Rattle.time_aggregate.proofs.GroupSteps.{BothKnown, none_told, told_more, told_all, part_in}
use Rattle.time_aggregate.proofs.GroupSteps.{in_part}
use Rattle.time_aggregate.proofs.group.aggregate.Goals as goal

pub groups-init : goal.groups-init
groups-init c = (
  omega arith,
  λ i j a b w. absurd (omega arith),
  subst (λ (w : List AggRow). BothKnown c.args.group c.args.items.now [] (groups_shown w))
      (sym c.new-listed.ensures.items) (none_told c.args.group c.args.items.now),
)

pub told_of-requires-clause-lasting : goal.told_of-requires-clause-lasting
told_of-requires-clause-lasting c = λ row m.
    let w = c.group_end-end.ensures.within.0 in
    (c.requires.each (entry_of row) (in_map entry_of row c.args.rows.now.items
    (part_in c.args.rows.now.items c.groups.start c.group_end-end.result row (omega arith)
    m))).lasting

pub told_of-requires-clause-one : goal.told_of-requires-clause-one
told_of-requires-clause-one c = λ row m.
    let w = c.group_end-end.ensures.within.0 in
    let all = rows_shown c.args.rows.now.items in
    let h = in_part c.args.rows.now.items c.groups.start c.group_end-end.result row (omega arith)
    c.group_end-end.ensures.within.1 m in
    subst (λ (r : Row). take c.args.group r ≡ take c.args.group (row_at all c.groups.start)) h.3
    (c.group_end-end.ensures.same h.0 h.1 h.2)

pub groups-preserved : goal.groups-preserved
groups-preserved c =
    let rows = c.args.rows.now.items in
    let inv = c.groups.invariant in
    let w = c.group_end-end.ensures.within.0 in
    let told = told_more c.args.group c.args.items.now rows c.groups.start c.group_end-end.result
    (groups_shown c.groups.listed.items) (groups_shown c.in_ok-told.told.items) (omega arith)
    c.group_end-end.ensures.within.1 inv.1 inv.2 c.in_ok-told.ensures in
    let e : groups_shown c.append.new.self.items ≡ groups_shown c.groups.listed.items
    ++ groups_shown c.in_ok-told.told.items = ap groups_shown c.in_ok-append.ensures.items
    ∙ map_join group_shown c.groups.listed.items c.in_ok-told.told.items in (
      c.group_end-end.ensures.within.1,
      apart_more c.args.group rows c.groups.start c.group_end-end.result c.requires.ascending inv.1
          c.group_end-end.ensures.within.0 c.group_end-end.ensures.same
          c.group_end-end.ensures.other,
      subst (λ (v : List (Entry Group)). BothKnown c.args.group c.args.items.now
          (take c.group_end-end.result rows) v) (sym e) told,
    )

pub returns : goal.returns
returns c = told_all c.args.group c.args.items.now c.args.rows.now.items c.groups.start
    (groups_shown c.groups.listed.items) (omega arith) c.requires c.groups.invariant.2
