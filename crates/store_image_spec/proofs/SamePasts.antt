-- A past is known by its versions, its last stamp, its counts and its database at each moment.
use Rattle.std.proofs.Common.{◌≡◌, ◌≤◌, ◌<◌, ℕ, sym, ap, ◌∙◌, inl, inr, arith}
use Rattle.relations_spec.specs.Spans.{forever}
use Rattle.smo_ops_spec.specs.ValidPast.{IsPast, last_or_nought}
use Rattle.smo_ops_spec.specs.Past.{Past, no_database, database_at}
use Rattle.smo_ops_spec.proofs.PastLaws.{newest_holds, up_to_later}
use Rattle.smo_ops_spec.proofs.PastMoments.{before_or_not}
use Rattle.smo_ops_spec.proofs.PastSteps.{agreeing_states}

-- from the last stamp on the database stays
from_last : (p : Past) → IsPast p → (m : ℕ) → last_or_nought p.last ≤ m
    → database_at p m ≡ database_at p (last_or_nought p.last)
from_last p is m l =
    newest_holds no_database p.states m (up_to_later (last_or_nought p.last) m p.states l is.ended)
    ∙ sym (newest_holds no_database p.states (last_or_nought p.last) is.ended)

same_past : (p q : Past) → p.versions ≡ q.versions → p.last ≡ q.last → p.commands ≡ q.commands
    → p.sizes ≡ q.sizes → p.states ≡ q.states → p ≡ q
same_past p q v l c s t = λ i. record {
  versions = v i;
  last = l i;
  commands = c i;
  sizes = s i;
  states = t i;
}

pub known_past : (p q : Past) → IsPast p → IsPast q → last_or_nought p.last < forever
    → p.versions ≡ q.versions → p.last ≡ q.last → p.commands ≡ q.commands → p.sizes ≡ q.sizes
    → ((m : ℕ) → m < forever → database_at p m ≡ database_at q m) → p ≡ q
known_past p q is also ends v l c s f = same_past p q v l c s (agreeing_states p q is also v each)
  where
    one : last_or_nought p.last ≡ last_or_nought q.last
    one = ap last_or_nought l

    each : (m : ℕ) → database_at p m ≡ database_at q m
    each m = elim (before_or_not m forever) [
      | inl k ↦ f m k
      | inr k ↦
          from_last p is m (omega (arith, k, ends)) ∙ f (last_or_nought p.last) ends
          ∙ ap (database_at q) one ∙ sym (from_last q also m (omega (arith, k, ends, one)))
    ]
