-- The ids of the keys that go on are those that have the last moment of all.
use Rattle.std.proofs.Common.{◌≡◌, ℕ, ◌+◌, ◌-◌, ◌<◌, ◌≤◌, true, List, length, get_or, subst, arith}
use Rattle.std.proofs.lemmas.Bool.Decides.{nat_tests}
use Rattle.relations_spec.specs.Sets.{In}
use Rattle.relations_spec.specs.Spans.{Span, forever, covers}
use Rattle.history_store_columns.specs.Keys.{no_span, IsOpen}
use Rattle.history_store_change_spec.specs.Change.{ids_from}
use Rattle.history_store_change_spec.proofs.Indexing.{is_held, in_ids}

abbrev pub last_moment : ℕ
last_moment = forever - 1

module _ (keys : List Span) where
  module _ (lasting : (id : ℕ) → id < length keys
      → ((get_or keys id no_span).start < (get_or keys id no_span).end)
      × ((get_or keys id no_span).end ≤ forever)) where
    pub are_open : (q : ℕ) → In q (ids_from 0 last_moment keys) → IsOpen keys q
    are_open q i = found (is_held q 0 last_moment keys i)
      where
        found : (k : ℕ) × (k < length keys) × (covers (get_or keys k no_span) last_moment ≡ true)
            × (0 + k ≡ q) → IsOpen keys q
        found (k, h, t, e) =
            let n : k ≡ q = omega (arith, e) in
            let l = (lasting k h).1 in
            let o : (get_or keys k no_span).end ≡ forever = grind (arith, nat_tests) in
            subst (IsOpen keys) n (h, o)

    pub are_there : (q : ℕ) → IsOpen keys q → In q (ids_from 0 last_moment keys)
    are_there q o =
        let l = (lasting q o.0).0 in
        let e : (get_or keys q no_span).end ≡ forever = o.1 in
        let t : covers (get_or keys q no_span) last_moment ≡ true = grind (arith, nat_tests) in
        let n : 0 + q ≡ q = omega arith in
        subst (λ j. In j (ids_from 0 last_moment keys)) n (in_ids 0 last_moment q keys o.0 t)
