use Rattle.std.proofs.Common.{rules, ◌≡◌, ◌++◌, List, ap, sym, subst, ◌∙◌, map, length, All}
use Rattle.prima_base.specs.declared.value.Val.{Val}
use Rattle.prima_base_rows.specs.Rows.{Rows}
use Rattle.prima_base_rows.specs.declared.place.RowPlace.{RowPlace}
use Rattle.prima_base_rows.specs.Places.{row_at, moved, IsInside}
use Rattle.prima_base_rows.proofs.Parts.{same_list, appended_rows, appended_inside}
use Rattle.prima_base_rows.proofs.rows.TimedRows.append.Goals as goal
use Rattle.prima_base_rows.proofs.rows.TimedRows.append.Goals.{After-push_moved}

pub returns-in_err-append-clause-same : goal.returns-in_err-append-clause-same
returns-in_err-append-clause-same c =
    let same : map (row_at c.append.new.self) c.reserve.new.self.items ≡ c.args.self.now.items =
    ap (map (row_at c.append.new.self)) c.reserve.ensures.items
    ∙ same_list c.self.inside.values c.append.new.self c.self.inside.places.items c.self.invariant
    c.in_err-append.ensures.items
    ∙ ap (λ (r : Rows). r.items) c.self.view_is in
    search rules

-- the places as they are afterwards
placed : (c : After-push_moved) → c.push_moved.new.places.items ≡ c.self.inside.places.items
    ++ map (moved (length c.self.inside.values.items)) c.other.inside.places.items
placed c = c.push_moved.ensures
    ∙ (λ i. c.reserve.ensures.items i
    ++ map (moved ((c.len-start.ensures ∙ c.self.inside.values.ok.0) i)) (c.deref.ensures.value i))

pub invariant_of-self-2 : goal.invariant_of-self-2
invariant_of-self-2 c =
    let k = (goal.at.invariant_of-self-2 c).After-push_moved in
    subst (λ (l : List RowPlace). All (IsInside c.append.new.self.items) l) (sym (placed k))
    (subst (λ (v : List Val). All (IsInside v) (c.self.inside.places.items
    ++ map (moved (length c.self.inside.values.items)) c.other.inside.places.items))
    (sym c.in_ok-append.ensures.items)
    (appended_inside c.self.inside.values.items c.other.inside.values.items
    c.self.inside.places.items c.other.inside.places.items c.self.invariant c.other.invariant))

pub returns-clause-rows : goal.returns-clause-rows
returns-clause-rows c =
    let k = (goal.at.returns-clause-rows c).After-push_moved in
    ap (map (row_at c.append.new.self)) (placed k)
    ∙ appended_rows c.self.inside.values c.append.new.self c.other.inside.values
    c.self.inside.places.items c.other.inside.places.items c.self.invariant
    c.in_ok-append.ensures.items
    ∙ (λ i. (c.self.view_is i).items ++ (c.other.view_is i).items)
