use Rattle.std.proofs.Common.{◌≡◌, ◌<◌, ◌+◌, ◌++◌, length, refl, sym, ap, subst, ◌∙◌, arith}
use Rattle.std.specs.Prelude.{List, ◌^◌, ℕ}
use Rattle.std.specs.Global.{Vec}
use Rattle.relations_spec.specs.Sets.{Ascends}
use Rattle.prima_base.specs.Order.{bytes_cmp}
use Rattle.smo_ops_types.specs.Operators.{evolution_of}
use Rattle.version_groups_tables.specs.declared.made_table.MadeTable.{MadeTable}
use Rattle.version_groups_tables.specs.Stored.{stored_names}
use Rattle.version_groups_tables.specs.Places.{at_places, AreWithin}
use Rattle.version_groups_tables.specs.Ending.{AreLiving}
use Rattle.version_groups.specs.declared.groups.Groups.TheInside.{Inside}
use Rattle.version_groups.specs.Groups.{Kept}
use Rattle.version_groups.specs.GroupFields.{groups_view}
use Rattle.version_groups.specs.Installing.{HasVersion, ComeWith}
use Rattle.version_groups.proofs.GroupPlaces.{newest_places_are, put_with, are_groups_with}
use Rattle.version_groups.proofs.GroupPlaces.{lifelines_are, has_version}
use Rattle.version_groups.proofs.Covered.{newest_living}
use Rattle.version_groups.proofs.groups.Groups.install_version.Goals as goal

pub end_consumed-requires-clause-there : goal.end_consumed-requires-clause-there
end_consumed-requires-clause-there c =
    let a = c.self.inside in
    subst (λ ts. AreWithin c.deref.result.now (length ts)) (sym c.deref_mut.ensures.value)
    (subst (λ ps. AreWithin ps (length a.stored.items)) (sym c.deref.ensures.value)
    c.self.invariant.newest_there)

pub end_consumed-requires-clause-ordered : goal.end_consumed-requires-clause-ordered
end_consumed-requires-clause-ordered c =
    let a = c.self.inside in
    subst (λ ts. Ascends bytes_cmp (stored_names (at_places ts c.deref.result.now)))
    (sym c.deref_mut.ensures.value)
    (subst (λ ps. Ascends bytes_cmp (stored_names (at_places a.stored.items ps)))
    (sym c.deref.ensures.value) c.self.invariant.newest)

pub end_consumed-requires-clause-living : goal.end_consumed-requires-clause-living
end_consumed-requires-clause-living c =
    let a = c.self.inside in
    subst (λ ts. AreLiving ts c.deref.result.now) (sym c.deref_mut.ensures.value)
    (subst (AreLiving a.stored.items) (newest_places_are a c.self.invariant
    ∙ sym c.deref.ensures.value)
    (newest_living (groups_view a) c.self.invariant.lifelines))

pub invariant_of-self : goal.invariant_of-self
invariant_of-self c =
    let a = c.self.inside in
    let b : Inside = record {
      alloc = a.alloc;
      nothing = a.nothing;
      versions =
          record { list = c.push_reserved.new.self };
      stored = c.put_after.new.list;
      earlier =
          c.push_reserved-2.new.self;
      newest = c.replace-before.new.dest;
    } in
    let n = c.len-last.ensures in
    let stored = put_with a (evolution_of c.args.version.op) c.len-last.result
    c.deref_mut.result.now
    c.end_consumed.new.tables c.args.begun.items c.put_after.new.list.items (omega (arith, n))
    c.deref_mut.ensures.value c.end_consumed.ensures c.put_after.ensures in
    let kept : a.stored.items ≡ c.args.self.now.stored =
    ap (λ (k : Kept). k.stored) c.self.view_is in
    let there : AreWithin b.newest.items (length a.stored.items + length c.args.begun.items) =
    subst (λ (v : Vec ℕ). AreWithin v.items (length a.stored.items + length c.args.begun.items))
    (sym c.replace-before.ensures.after)
    (subst (λ (ts : List MadeTable). AreWithin c.args.places.items
    (length ts + length c.args.begun.items)) (sym kept) c.requires.there) in
    let ordered : Ascends bytes_cmp (stored_names
    (at_places (a.stored.items ++ c.args.begun.items) b.newest.items)) =
    subst (λ (v : Vec ℕ). Ascends bytes_cmp (stored_names
    (at_places (a.stored.items ++ c.args.begun.items) v.items)))
    (sym c.replace-before.ensures.after)
    (subst (λ (ts : List MadeTable). Ascends bytes_cmp
    (stored_names (at_places (ts ++ c.args.begun.items) c.args.places.items))) (sym kept)
    c.requires.ordered) in
    let come : ComeWith (groups_view a) c.args.version c.args.begun.items b.newest.items =
    subst (λ (v : Vec ℕ). ComeWith (groups_view a) c.args.version c.args.begun.items v.items)
    (sym c.replace-before.ensures.after)
    (subst (λ (k : Kept). ComeWith k c.args.version c.args.begun.items c.args.places.items)
    (sym c.self.view_is) c.requires.come) in
    let lifelines = lifelines_are a b c.args.version c.replace-before.result c.args.begun.items
    (ap (λ (v : Vec ℕ). v.items) c.replace-before.ensures.value) c.push_reserved.ensures.items
    stored
    c.push_reserved-2.ensures.items c.self.invariant come there ordered in
    are_groups_with a b c.args.version c.replace-before.result c.args.begun.items
    (ap (λ (v : Vec ℕ). v.items) c.replace-before.ensures.value) c.push_reserved.ensures.items
    stored
    c.push_reserved-2.ensures.items c.self.invariant refl
    (subst (λ (k : Kept). length k.versions + 1 < 2 ^ 32) (sym c.self.view_is) c.requires.fits)
    there ordered lifelines

pub returns : goal.returns
returns c =
    let a = c.self.inside in
    let b : Inside = record {
      alloc = a.alloc;
      nothing = a.nothing;
      versions =
          record { list = c.push_reserved.new.self };
      stored = c.put_after.new.list;
      earlier =
          c.push_reserved-2.new.self;
      newest = c.replace-before.new.dest;
    } in
    let n = c.len-last.ensures in
    let stored = put_with a (evolution_of c.args.version.op) c.len-last.result
    c.deref_mut.result.now
    c.end_consumed.new.tables c.args.begun.items c.put_after.new.list.items (omega (arith, n))
    c.deref_mut.ensures.value c.end_consumed.ensures c.put_after.ensures in
    let kept : a.stored.items ≡ c.args.self.now.stored =
    ap (λ (k : Kept). k.stored) c.self.view_is in
    let there : AreWithin b.newest.items (length a.stored.items + length c.args.begun.items) =
    subst (λ (v : Vec ℕ). AreWithin v.items (length a.stored.items + length c.args.begun.items))
    (sym c.replace-before.ensures.after)
    (subst (λ (ts : List MadeTable). AreWithin c.args.places.items
    (length ts + length c.args.begun.items)) (sym kept) c.requires.there) in
    let ordered : Ascends bytes_cmp (stored_names
    (at_places (a.stored.items ++ c.args.begun.items) b.newest.items)) =
    subst (λ (v : Vec ℕ). Ascends bytes_cmp (stored_names
    (at_places (a.stored.items ++ c.args.begun.items) v.items)))
    (sym c.replace-before.ensures.after)
    (subst (λ (ts : List MadeTable). Ascends bytes_cmp
    (stored_names (at_places (ts ++ c.args.begun.items) c.args.places.items))) (sym kept)
    c.requires.ordered) in
    let come : ComeWith (groups_view a) c.args.version c.args.begun.items b.newest.items =
    subst (λ (v : Vec ℕ). ComeWith (groups_view a) c.args.version c.args.begun.items v.items)
    (sym c.replace-before.ensures.after)
    (subst (λ (k : Kept). ComeWith k c.args.version c.args.begun.items c.args.places.items)
    (sym c.self.view_is) c.requires.come) in
    let lifelines = lifelines_are a b c.args.version c.replace-before.result c.args.begun.items
    (ap (λ (v : Vec ℕ). v.items) c.replace-before.ensures.value) c.push_reserved.ensures.items
    stored
    c.push_reserved-2.ensures.items c.self.invariant come there ordered in
    subst (λ (k : Kept). HasVersion k (groups_view b) c.args.version c.args.begun.items
    c.args.places.items) c.self.view_is
    (subst (λ (v : Vec ℕ). HasVersion (groups_view a) (groups_view b) c.args.version
    c.args.begun.items v.items) c.replace-before.ensures.after
    (has_version a b c.args.version c.replace-before.result c.args.begun.items
    (ap (λ (v : Vec ℕ). v.items) c.replace-before.ensures.value) c.push_reserved.ensures.items
    stored
    c.push_reserved-2.ensures.items c.self.invariant lifelines))
