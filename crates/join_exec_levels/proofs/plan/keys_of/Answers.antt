use Rattle.std.proofs.Common.{◌≡◌, ◌++◌, ◌+◌, ◌<◌, ℕ, List, [], ◌∷◌, length, get_or, take}
use Rattle.std.proofs.Common.{sym, ap, ◌∙◌, Some, None}
use Rattle.std.specs.Prelude.{Option}
use Rattle.std.specs.Borrow.{Bor}
use Rattle.std.specs.List.{flat_map}
use Rattle.std.specs.Option.{option_map, option_to_list}
use Rattle.std.proofs.lemmas.List.{append-nil}
use Rattle.cond_expr.specs.declared.expr.Cond.{Cond}
use Rattle.cond_expr.specs.declared.expr.Column.{Column}
use Rattle.cond_expr.specs.Trees.{Test}
use Rattle.cond_expr.specs.Seen.{test}
use Rattle.join_exec_spec.specs.Keeping.{borrowed_tests}
use Rattle.join_exec_spec.proofs.OneMore.{flat_step}
use Rattle.join_exec_spec.proofs.PlaceLaws.{part_met, more_keys}
use Rattle.join_exec_levels.specs.Places.{key_places}
use Rattle.join_exec_levels.proofs.plan.keys_of.Goals as goal
use Rattle.join_exec_levels.proofs.plan.keys_of.Goals.{in-Some+in_ok-push+in_ok-push-2, in_default}

module _ (columns : List Column) (parts : List (Bor Cond)) (taken width i : ℕ) (part : Bor Cond)
    (inside : i < length parts) (is : part ≡ get_or parts i part) (side : ℕ × ℕ → ℕ) where
  abbrev of_one : Test → List ℕ
  of_one c = option_to_list (option_map side (key_places columns c taken width))

  -- one more part that is such an equality, or is none
  one_key : (keys more : List ℕ) (r : ℕ × ℕ)
      → key_places columns (test part.now) taken width ≡ Some r
      → keys ≡ flat_map of_one (borrowed_tests (take i parts)) → more ≡ keys ++ side r ∷ []
      → more ≡ flat_map of_one (borrowed_tests (take (i + 1) parts))
  one_key keys more r key so_far put =
      flat_step of_one (λ (c : Bor Cond). test c.now) parts i part keys more inside is so_far
      (put ∙ ap (λ (o : Option (ℕ × ℕ)). keys ++ option_to_list (option_map side o)) (sym key))

  no_key : (keys : List ℕ) → key_places columns (test part.now) taken width ≡ None
      → keys ≡ flat_map of_one (borrowed_tests (take i parts))
      → keys ≡ flat_map of_one (borrowed_tests (take (i + 1) parts))
  no_key keys none so_far =
      flat_step of_one (λ (c : Bor Cond). test c.now) parts i part keys keys inside is so_far
      (sym (append-nil keys) ∙ ap (λ (o : Option (ℕ × ℕ)). keys ++ option_to_list
      (option_map side o)) (sym none))

pub loop-part-preserved : goal.loop-part-preserved
loop-part-preserved c =
    let columns = c.args.columns.now in
    let parts = c.args.parts.now in
    let i = c.loop-part.part-index in
    let part = c.part-item.result in
    elim c.match-key_places.branch [
      | in-Some+in_ok-push+in_ok-push-2 w ↦ record {
        own = rw w.own-is (one_key columns parts c.args.taken c.args.width i part
            c.loop-part-test.true c.part-item.is (λ p. p.0) c.loop-part.own.items
            w.push.new.self.items (w.in-Some.a, w.in-Some.b)
            (cc (c.key_places.ensures.places, w.in-Some.is)) c.loop-part.invariant.own
            w.in_ok-push.ensures.items);
        other = rw w.other-is (one_key columns parts c.args.taken c.args.width i part
            c.loop-part-test.true c.part-item.is (λ p. p.1) c.loop-part.other.items
            w.push-in-Some.new.self.items (w.in-Some.a, w.in-Some.b)
            (cc (c.key_places.ensures.places, w.in-Some.is)) c.loop-part.invariant.other
            w.in_ok-push-2.ensures.items);
        same = λ p y z e f h. more_keys c.loop-part.own.items c.loop-part.other.items
            c.match-key_places.own.items c.match-key_places.other.items w.in-Some.a w.in-Some.b
            p y
            (rw w.own-is w.in_ok-push.ensures.items) (rw w.other-is w.in_ok-push-2.ensures.items)
            (c.loop-part.invariant.same p y z e f h)
            (w.in-Some.ensures.values p y z e f (part_met columns ((p ++ y) ++ z) parts i part
            c.loop-part-test.true c.part-item.is h));
      }
      | in_default w ↦ record {
        own = rw w.own-is (no_key columns parts c.args.taken c.args.width i part
            c.loop-part-test.true c.part-item.is (λ p. p.0) c.loop-part.own.items
            (cc (c.key_places.ensures.places, w.in_default.is))
            c.loop-part.invariant.own);
        other = rw w.other-is (no_key columns parts c.args.taken c.args.width i part
            c.loop-part-test.true c.part-item.is (λ p. p.1) c.loop-part.other.items
            (cc (c.key_places.ensures.places, w.in_default.is))
            c.loop-part.invariant.other);
        same = rw (w.own-is, w.other-is) c.loop-part.invariant.same;
      }
    ]
