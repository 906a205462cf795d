use Rattle.std.proofs.Common.{◌≡◌, ◌-◌, ◌+◌, ◌<◌, length, take, vec_len, None, refl, sym, ap, ◌∙◌}
use Rattle.std.proofs.Common.{arith}
use Rattle.std.specs.Option.{option_or}
use Rattle.smo_ops_types.specs.Commands.{versions_of}
use Rattle.temporal_lang_types.specs.Queries.{query_of}
use Rattle.query_exec.specs.Losing.{first_among}
use Rattle.query_exec.proofs.FirstLosses.{up_to_at, greatest, none_among, some_up_to, all_parts}
use Rattle.query_exec.proofs.loss.decided.Goals as goal

pub first_lost-requires-clause-stored : goal.first_lost-requires-clause-stored
first_lost-requires-clause-stored c =
    let some = c.in-len1-up.len_at_least in
    let last : length c.args.parts.now - 1 < length c.args.parts.now = omega arith in
    up_to_at (vec_len c.args.versions.now.list) c.args.parts.now (length c.args.parts.now - 1)
    c.last-item.result c.requires.there last c.last-item.is

pub returns-in-None : goal.returns-in-None
returns-in-None c =
    let some = c.in-len1-up.len_at_least in
    let last : (length c.args.parts.now - 1) + 1 ≡ length c.args.parts.now = omega arith in
    sym (none_among (versions_of c.args.versions.now) (query_of c.args.query.now)
    c.last-item.result.1 c.args.parts.now
    (λ p m. greatest 0 c.args.parts.now (length c.args.parts.now - 1) c.last-item.result
    c.requires.ascending last c.last-item.is p m)
    (sym c.in_ok-loss-in-len1-up.ensures ∙ c.in-None.is))

pub first_between-requires-clause-found : goal.first_between-requires-clause-found
first_between-requires-clause-found c =
    let versions = versions_of c.args.versions.now in
    let query = query_of c.args.query.now in
    let some = c.in-len1-up.len_at_least in
    let last : length c.args.parts.now - 1 < length c.args.parts.now = omega (arith, some) in
    some_up_to versions query c.args.parts.now (length c.args.parts.now - 1)
    (length c.args.parts.now) c.last-item.result c.in-Some.field-0 None last (omega arith)
    c.last-item.is (sym c.in_ok-loss-in-len1-up.ensures ∙ c.in-Some.is)
    (all_parts versions query c.args.parts.now (length c.args.parts.now) refl)
    ∙ ap (λ o. option_or (first_among versions query
    (take (length c.args.parts.now - 1) c.args.parts.now)) o) (sym c.in-Some.is)
