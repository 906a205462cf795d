-- The versions of a past with one more: each is accepted after the one before.
use Rattle.std.proofs.Common.{◌≡◌, ◌<◌, ℕ, zero, suc, List, [], ◌∷◌, ◌++◌, refl, sym, subst, arith}
use Rattle.std.specs.Prelude.{nat_lt, Option, Some, None, ⊤}
use Rattle.prima_base.specs.declared.refusal.Refusal.TheVariants.{StampNotLater}
use Rattle.schema_catalog.specs.Tables.{Tables}
use Rattle.smo_ops_spec.specs.After.{IsValid}
use Rattle.smo_ops_spec.specs.Evolutions.{schema_after_each, evolution_fault}
use Rattle.smo_ops_spec.specs.Counts.{first_excess}
use Rattle.smo_ops_spec.specs.Inverses.{inverse_fault}
use Rattle.smo_ops_types.specs.Commands.{evolving, PlainVersion}
use Rattle.smo_ops_spec.specs.Past.{newest_from, tables_from}
use Rattle.smo_ops_spec.specs.Accepts.{stamp_fault}
use Rattle.smo_ops_spec.specs.ValidPast.{AllInForce, last_or_nought, IsLater, AreVersions}
use Rattle.smo_ops_spec.proofs.Firsts.{met}
use Rattle.smo_ops_spec.proofs.MemberLaws.{all_accepted, each_is_valid}

-- each of the versions begins before the moment
abbrev AllEarlier : ℕ → List PlainVersion → Type 0
AllEarlier moment [] = ⊤
AllEarlier moment (v ∷ versions) = (v.stamp < moment) × AllEarlier moment versions

earlier_than : (low moment : ℕ) (versions : List PlainVersion) → low < moment
    → AllInForce low versions → AllEarlier moment versions
earlier_than low moment [] l h = tt
earlier_than low moment (v ∷ versions) l h = (
  let k = h.0 in omega arith,
  earlier_than low moment versions l h.1,
)

all_earlier : (last : Option ℕ) (stamp : ℕ) (versions : List PlainVersion)
    → (last ≡ None → versions ≡ []) → AllInForce (last_or_nought last) versions
    → stamp_fault last stamp ≡ None
    → AllEarlier stamp versions
all_earlier None stamp versions w h e = subst (AllEarlier stamp) (sym (w refl)) tt
all_earlier (Some last) stamp versions w h e =
    earlier_than last stamp versions (let k =
    met (nat_lt last stamp) (StampNotLater stamp last) e in grind (arith, k)) h

one_more : (last : Option ℕ) (before : Tables) (versions : List PlainVersion) (v : PlainVersion)
    → AreVersions last before versions → IsLater last v.stamp → AllEarlier v.stamp versions
    → first_excess (evolving v.op v.inverse) ≡ None
    → evolution_fault (newest_from before versions) v.op ≡ None
    → inverse_fault (newest_from before versions) v.op v.inverse ≡ None
    → v.tables ≡ schema_after_each (newest_from before versions) v.op
    → AreVersions last before (versions ++ v ∷ [])
one_more last before [] v h later earlier counted accepted inverse tables = (
  record {
    later = later;
    counted = counted;
    accepted = accepted;
    inverse = inverse;
    tables =
        tables;
  },
  tt,
)
one_more last before (w ∷ versions) v h later earlier counted accepted inverse tables = (
  h.0,
  one_more (Some w.stamp) w.tables versions v h.1 earlier.0 earlier.1 counted accepted
      inverse tables,
)

-- with one that is accepted after the newest, at a later stamp than the last
pub versions_with : (before : Tables) (versions : List PlainVersion) (last : Option ℕ)
    (v : PlainVersion) → (last ≡ None → versions ≡ []) → AllInForce (last_or_nought last) versions
    → AreVersions None before versions → stamp_fault last v.stamp ≡ None
    → first_excess (evolving v.op v.inverse) ≡ None
    → evolution_fault (newest_from before versions) v.op ≡ None
    → inverse_fault (newest_from before versions) v.op v.inverse ≡ None
    → v.tables ≡ schema_after_each (newest_from before versions) v.op
    → AreVersions None before (versions ++ v ∷ [])
versions_with before versions last v w h are e counted accepted inverse tables =
    one_more None before versions v are tt (all_earlier last v.stamp versions w h e) counted
    accepted inverse tables

-- the tables of each version are valid
pub valid_from : (last : Option ℕ) (before : Tables) (versions : List PlainVersion) (k : ℕ)
    → IsValid before → AreVersions last before versions → IsValid (tables_from before versions k)
valid_from last before [] k h are = h
valid_from last before (v ∷ versions) zero h are = h
valid_from last before (v ∷ versions) (suc k) h are =
    valid_from (Some v.stamp) v.tables versions k
    (subst IsValid (sym are.0.tables) (each_is_valid before v.op h
    (all_accepted before v.op are.0.accepted))) are.1
