use Rattle.std.proofs.Common.{◌≡◌, ◌+◌, ◌++◌, List, [], append_assoc, append-nil, refl, sym, ap}
use Rattle.std.proofs.Common.{◌∙◌, subst, arith}
use Rattle.std.specs.List.{filter, sum_by}
use Rattle.std.proofs.lemmas.List.Sums.{sum_by-cons}
use Rattle.relations_spec.specs.Timed.{Entry, held_at}
use Rattle.prima_base.specs.declared.value.Value.{Value}
use Rattle.cond_expr.specs.declared.expr.Column.{Column}
use Rattle.join_exec_spec.specs.Choosing.{complete_choices}
use Rattle.join_exec_spec.specs.Fitting.{Fit}
use Rattle.join_exec_spec.specs.Keeping.{meets_all, borrowed_tests}
use Rattle.join_exec_levels.specs.declared.level.Level.{Level}
use Rattle.join_exec_levels.specs.declared.source.Source.{Source}
use Rattle.join_exec_levels.specs.Levels.{made_through, AreValidLevels, LevelsBorrow}
use Rattle.join_exec_levels.specs.Sources.{SourcesBorrow, held_of}
use Rattle.join_exec_levels.proofs.LevelLaws.{through_more, valid_more, levels_more, none_left}
use Rattle.join_exec_levels.proofs.level.levels_of.Goals as goal

pub sources-preserved : goal.sources-preserved
sources-preserved c =
    let cs = c.args.columns.now in
    let met = meets_all cs (borrowed_tests c.args.parts.now) in
    let level : Level = c.in_ok-level_of.field-0 in
    let before : List Level = c.sources.levels.items in
    let left : List Source = c.pop_front.new.self.items in
    record {
      room = (
          let room = c.sources.invariant.room in
          let sum : sum_by (λ (s : Source). s.width) c.sources.sources.items
          ≡ c.in-Some.source.width + sum_by (λ (s : Source). s.width) left =
          ap (λ (xs : List Source). sum_by (λ (s : Source). s.width) xs) c.in-Some.ensures.items
          ∙ sum_by-cons (λ (s : Source). s.width) c.in-Some.source left in
          omega (arith, room, sum)
          );
      valid = subst AreValidLevels (sym c.in_ok-push.ensures.items)
          (valid_more before level c.sources.invariant.valid c.in_ok-level_of.ensures.valid);
      borrowed = λ which all h.
          let so = c.sources.invariant.borrowed which all h in
          let here = subst (SourcesBorrow which so.1) c.in-Some.ensures.items so.4 in (
            so.0 ++ here.0,
            here.1,
            so.2 ∙ ap (λ (cs : List Column). so.0 ++ cs) here.2
                ∙ sym (append_assoc so.0 here.0 here.1),
            subst (LevelsBorrow which (so.0 ++ here.0)) (sym c.in_ok-push.ensures.items)
                (levels_more which so.0 here.0 before level so.3
                (c.in_ok-level_of.ensures.borrowed which here.0 here.3)),
            here.4,
          );
      wide = λ ps f.
          subst (λ (ls : List Level). Fit (c.sources.taken + c.in-Some.source.width)
          (made_through cs ls ps)) (sym c.in_ok-push.ensures.items)
          (subst (λ (es : List (Entry (List Value))).
          Fit (c.sources.taken + c.in-Some.source.width) es)
          (sym (through_more cs before level ps))
          (c.in_ok-level_of.ensures.wide (made_through cs before ps)
          (c.sources.invariant.wide ps f)));
      joined = λ ps f m.
          ap (λ (ls : List Level). filter met
          (complete_choices (held_at (made_through cs ls ps) m) (held_of left m)))
          c.in_ok-push.ensures.items
          ∙ ap (λ (es : List (Entry (List Value))).
          filter met (complete_choices (held_at es m) (held_of left m)))
          (through_more cs before level ps)
          ∙ c.in_ok-level_of.ensures.joined (made_through cs before ps)
          (c.sources.invariant.wide ps f) m (held_of left m)
          ∙ ap (λ (xs : List Source). filter met
          (complete_choices (held_at (made_through cs before ps) m) (held_of xs m)))
          (sym c.in-Some.ensures.items)
          ∙ c.sources.invariant.joined ps f m;
    }

pub sources-init : goal.sources-init
sources-init c = record {
  room = (let k = c.requires in omega (arith, k));
  valid = subst AreValidLevels (sym c.new-levels.ensures.items) tt;
  borrowed = λ which all h. (
    [],
    all,
    refl,
    subst (LevelsBorrow which []) (sym c.new-levels.ensures.items) refl,
    h,
  );
  wide = λ ps f. subst (λ (ls : List Level). Fit 0 (made_through c.args.columns.now ls ps))
      (sym c.new-levels.ensures.items) f;
  joined = λ ps f m. ap (λ (ls : List Level).
      filter (meets_all c.args.columns.now (borrowed_tests c.args.parts.now))
      (complete_choices (held_at (made_through c.args.columns.now ls ps) m)
      (held_of c.args.sources.items m))) c.new-levels.ensures.items;
}

pub returns-clause-borrowed : goal.returns-clause-borrowed
returns-clause-borrowed c = λ which all h.
    let so = c.sources.invariant.borrowed which all h in
    let none : c.sources.sources.items ≡ [] =
    none_left c.sources.sources.items c.pop_front.new.self.items c.in_default.ensures.items
    c.in_default.ensures.rest in
    let last : so.1 ≡ [] = subst (SourcesBorrow which so.1) none so.4 in
    subst (λ (cs : List Column). LevelsBorrow which cs c.sources.levels.items)
    (sym (so.2 ∙ ap (λ (cs : List Column). so.0 ++ cs) last ∙ append-nil so.0)) so.3

pub returns-clause-joined : goal.returns-clause-joined
returns-clause-joined c = λ ps f m.
    let cs = c.args.columns.now in
    let met = meets_all cs (borrowed_tests c.args.parts.now) in
    let none : c.sources.sources.items ≡ [] =
    none_left c.sources.sources.items c.pop_front.new.self.items c.in_default.ensures.items
    c.in_default.ensures.rest in
    ap (λ (xs : List Source). filter met (complete_choices
    (held_at (made_through cs c.sources.levels.items ps) m) (held_of xs m))) (sym none)
    ∙ c.sources.invariant.joined ps f m
