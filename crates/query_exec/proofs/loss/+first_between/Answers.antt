use Rattle.std.proofs.Common.{◌≡◌, ◌≤◌, ◌<◌, ◌+◌, ◌-◌, ◌/◌, ℕ, length, take, vec_len, ap, sym, ◌∙◌}
use Rattle.std.proofs.Common.{arith}
use Rattle.std.specs.Option.{option_or}
use Rattle.smo_ops_types.specs.Commands.{versions_of}
use Rattle.temporal_lang_types.specs.Queries.{query_of}
use Rattle.query_exec.specs.Losing.{first_among}
use Rattle.query_exec.proofs.FirstLosses.{up_to_at, none_up_to, some_up_to}
use Rattle.query_exec.proofs.loss.+first_between.Goals as goal

-- the middle of two places that differ
middle_below : (low high : ℕ) → low ≤ high → (low ≡ high → ⊥) → low + (high - low) / 2 < high
middle_below low high a b = omega arith

pub first_lost-requires-clause-stored : goal.first_lost-requires-clause-stored
first_lost-requires-clause-stored t c =
    let below : c.args.low + (c.args.high - c.args.low) / 2 < c.args.high =
    middle_below c.args.low c.args.high c.requires.order c.if-low-high.false in
    let within = c.requires.within in
    let l : c.args.low + (c.args.high - c.args.low) / 2 < length c.args.parts.now =
    omega (arith, below, within) in
    up_to_at (vec_len c.args.versions.now.list) c.args.parts.now
    (c.args.low + (c.args.high - c.args.low) / 2) c.index-parts-middle.result c.requires.there l
    c.index-parts-middle.is

pub first_between-requires : goal.first_between-requires
first_between-requires t c =
    let versions = versions_of c.args.versions.now in
    let query = query_of c.args.query.now in
    let below : c.args.low + (c.args.high - c.args.low) / 2 < c.args.high =
    middle_below c.args.low c.args.high c.requires.order c.if-low-high.false in
    let within = c.requires.within in
    let l : c.args.low + (c.args.high - c.args.low) / 2 < length c.args.parts.now =
    omega (arith, below, within) in (
      (let less : (c.args.low + (c.args.high - c.args.low) / 2) - c.args.low <
          c.args.high - c.args.low = omega (arith, below) in omega (arith, less)),
      (
        c.requires.asked,
        (
          c.requires.versions,
          (
            c.requires.there,
            (
              c.requires.ascending,
              (
                omega arith,
                (
                  omega (arith, l),
                  (
                    c.requires.none,
                    some_up_to versions query c.args.parts.now
                        (c.args.low + (c.args.high - c.args.low) / 2) c.args.high
                        c.index-parts-middle.result c.in-Some.field-0 c.args.found below within
                        c.index-parts-middle.is (sym c.in_ok-loss.ensures ∙ c.in-Some.is)
                        c.requires.found
                        ∙ ap (λ o. option_or (first_among versions query
                        (take (c.args.low + (c.args.high - c.args.low) / 2) c.args.parts.now)) o)
                        (sym c.in-Some.is),
                  ),
                ),
              ),
            ),
          ),
        ),
      ),
    )

pub first_between-requires-in-None : goal.first_between-requires-in-None
first_between-requires-in-None t c =
    let versions = versions_of c.args.versions.now in
    let query = query_of c.args.query.now in
    let below : c.args.low + (c.args.high - c.args.low) / 2 < c.args.high =
    middle_below c.args.low c.args.high c.requires.order c.if-low-high.false in
    let within = c.requires.within in
    let l : c.args.low + (c.args.high - c.args.low) / 2 < length c.args.parts.now =
    omega (arith, below, within) in (
      (let less : c.args.high - (c.args.low + (c.args.high - c.args.low) / 2 + 1) <
          c.args.high - c.args.low = omega (arith, below) in omega (arith, less)),
      (
        c.requires.asked,
        (
          c.requires.versions,
          (
            c.requires.there,
            (
              c.requires.ascending,
              (
                omega (arith, below),
                (
                  within,
                  (
                    none_up_to versions query c.args.parts.now
                        (c.args.low + (c.args.high - c.args.low) / 2) c.index-parts-middle.result
                        c.requires.ascending l
                        c.index-parts-middle.is (sym c.in_ok-loss.ensures ∙ c.in-None.is),
                    c.requires.found,
                  ),
                ),
              ),
            ),
          ),
        ),
      ),
    )
