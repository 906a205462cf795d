-- The versions that are read are those that are accepted one after the other.
use Rattle.std.proofs.Common.{◌≡◌, ℕ, zero, suc, ◌+◌, ◌≤◌, ◌<◌, true, List, [], ◌∷◌, length, refl}
use Rattle.std.proofs.Common.{sym, ap, ◌∙◌, subst, arith}
use Rattle.std.specs.Prelude.{Option, Some, None, nat_lt, is_none, ◌&&◌}
use Rattle.std.specs.Option.{option_map}
use Rattle.std.specs.List.{AllByRecursion}
use Rattle.std.proofs.lemmas.Bool.{ltb-true, lt-ltb, le-leb}
use Rattle.relations_spec.specs.Spans.{forever}
use Rattle.schema_catalog.specs.Tables.{Tables}
use Rattle.prima_base.specs.declared.refusal.What.TheVariants.{Versions}
use Rattle.prima_base.specs.declared.refusal.Refusal.TheVariants.{TooMany as OverLimit}
use Rattle.prima_base.specs.Limits.{max_versions}
use Rattle.smo_ops_types.specs.Operators.{Operator, nop}
use Rattle.smo_ops_types.specs.Commands.{evolving, PlainCommand, PlainVersion}
use Rattle.smo_ops_spec.specs.Accepts.{operator_refusal, count_fault, stamp_fault}
use Rattle.smo_ops_spec.specs.Accepts.{command_fault}
use Rattle.smo_ops_spec.specs.After.{IsValid}
use Rattle.smo_ops_spec.specs.Evolutions.{schema_after_each, evolution_fault}
use Rattle.smo_ops_spec.specs.Counts.{first_excess}
use Rattle.smo_ops_spec.specs.First.{unless}
use Rattle.smo_ops_spec.specs.Inverses.{inverse_fault, inverse_tests}
use Rattle.smo_ops_spec.specs.ValidPast.{last_or_nought, AllInForce, IsLater, IsVersion}
use Rattle.smo_ops_spec.specs.ValidPast.{AreVersions}
use Rattle.smo_ops_spec.specs.Past.{Past, no_tables}
use Rattle.smo_ops_spec.proofs.Firsts.{first_later}
use Rattle.smo_ops_spec.proofs.MemberLaws.{all_accepted, each_is_valid}
use Rattle.smo_ops_spec.proofs.PastSteps.{beginning_is_past}
use Rattle.command_codec_spec.specs.Valid.{HasOneMember, HaveOneMember, IsWritableEvolution}
use Rattle.command_codec_spec.specs.Valid.{EvolutionNamed, IsWritableBody}
use Rattle.command_codec_spec.proofs.AcceptedCommands.{accepted_writable}
use Rattle.command_codec_spec.proofs.Correctness.{true_false}
use Rattle.command_codec_spec.proofs.Numbers.{both_true, of_both}
use Rattle.store_image_spec.specs.Images.{VersionsNamed, VersionsOfOne}
use Rattle.store_image_spec.specs.ItemChecks.{is_stamp, is_later, is_accepted}
use Rattle.store_image_spec.proofs.ReadParts.{IsEncoded, AreRead}
use Rattle.store_image_spec.proofs.Checking.{stamp_within}

none_is : {A : Type 0} (o : Option A) → is_none o ≡ true → o ≡ None
none_is None e = refl
none_is (Some a) e = true_false (sym e)

later_is : (before : Option ℕ) (m : ℕ) → is_later before m ≡ true → IsLater before m
later_is None m e = tt
later_is (Some b) m e = ltb-true b m e

is_later_so : (before : Option ℕ) (m : ℕ) → IsLater before m → is_later before m ≡ true
is_later_so None m h = refl
is_later_so (Some b) m h = lt-ltb b m h

-- ---- what is read

module _ (last : Option ℕ) where
  accepted_is : (number : ℕ) (before : Option ℕ) (tables : Tables) (v : PlainVersion)
      → is_accepted number before tables v ≡ true → v.tables ≡ schema_after_each tables v.op
      → (number < max_versions) × IsVersion before tables v
  accepted_is number before tables v e t =
      let a = of_both (nat_lt number max_versions && is_later before v.stamp)
      (is_none (first_excess (evolving v.op v.inverse))
      && (is_none (evolution_fault tables v.op) && is_none (inverse_fault tables v.op v.inverse)))
      e in
      let b = of_both (nat_lt number max_versions) (is_later before v.stamp) a.0 in
      let c = of_both (is_none (first_excess (evolving v.op v.inverse)))
      (is_none (evolution_fault tables v.op) && is_none (inverse_fault tables v.op v.inverse))
      a.1 in
      let d = of_both (is_none (evolution_fault tables v.op))
      (is_none (inverse_fault tables v.op v.inverse)) c.1 in (
        ltb-true number max_versions b.0,
        record {
          later = later_is before v.stamp b.1;
          counted = none_is (first_excess (evolving v.op v.inverse)) c.0;
          accepted = none_is (evolution_fault tables v.op) d.0;
          inverse = none_is (inverse_fault tables v.op v.inverse) d.1;
          tables = t;
        },
      )

  is_accepted_so : (number : ℕ) (before : Option ℕ) (tables : Tables) (v : PlainVersion)
      → number < max_versions → IsVersion before tables v
      → is_accepted number before tables v ≡ true
  is_accepted_so number before tables v n h =
      both_true (nat_lt number max_versions && is_later before v.stamp)
      (is_none (first_excess (evolving v.op v.inverse))
      && (is_none (evolution_fault tables v.op) && is_none (inverse_fault tables v.op v.inverse)))
      (both_true (nat_lt number max_versions) (is_later before v.stamp)
      (lt-ltb number max_versions n) (is_later_so before v.stamp h.later))
      (both_true (is_none (first_excess (evolving v.op v.inverse)))
      (is_none (evolution_fault tables v.op) && is_none (inverse_fault tables v.op v.inverse))
      (ap is_none h.counted)
      (both_true (is_none (evolution_fault tables v.op))
      (is_none (inverse_fault tables v.op v.inverse))
      (ap is_none h.accepted) (ap is_none h.inverse)))

  -- what can be written has one member
  one_of : (op : List Operator) → IsWritableEvolution op → HasOneMember op
  one_of [] w = absurd w
  one_of (op ∷ []) w = tt
  one_of (op ∷ next ∷ ops) w = absurd w

  one_each : (ops : List (List Operator)) → AllByRecursion IsWritableEvolution ops
      → AllByRecursion HasOneMember ops
  one_each [] w = tt
  one_each (op ∷ ops) w = (one_of op w.0, one_each ops w.1)

  pub record Valid (number : ℕ) (before : Option ℕ) (tables : Tables) (l : List PlainVersion) :
      Type 0 where
    pub evolved : AreVersions before tables l
    pub begun : AllInForce (last_or_nought last) l
    pub without : last ≡ None → l ≡ []
    pub few : number ≤ max_versions → number + length l ≤ max_versions
    pub named : VersionsNamed l
    pub members : VersionsOfOne l

  pub read_valid : (n number : ℕ) (before : Option ℕ) (tables : Tables) (l : List PlainVersion)
      → AreRead last n number before tables l → Valid number before tables l
  read_valid zero number before tables l h = subst (Valid number before tables) (sym h)
      (record {
        evolved = tt;
        begun = tt;
        without = λ e. refl;
        few = λ k. omega (arith, k);
        named =
            tt;
        members = tt;
      })
  read_valid (suc n) number before tables [] h = absurd h
  read_valid (suc n) number before tables (v ∷ l) (
    (
      ((stamp_fits, (writable, op_named), few_back, (back_writable, back_named)), next),
      accepted,
    ),
    later,
  ) =
      let e = of_both (is_stamp last v.stamp) (is_accepted number before tables v) accepted in
      let a = accepted_is number before tables v e.1 next in
      let r = read_valid n (number + 1) (Some v.stamp) v.tables l later in
      record {
        evolved = (a.1, r.evolved);
        begun = (stamp_within last v.stamp e.0, r.begun);
        without = λ q. absurd (true_false (sym e.0 ∙ ap (λ o. is_stamp o v.stamp) q));
        few = λ k. (let b = a.0 in let m = r.few (omega (arith, b)) in omega (arith, m));
        named = ((op_named, back_named), r.named);
        members = ((one_of v.op writable, one_each v.inverse back_writable), r.members);
      }

-- ---- what can be read

-- a past of one version with these tables, in which a version of theirs is accepted
one_version : Tables → Past
one_version tables = record {
  versions = record
      { stamp = 0; op = nop ∷ []; inverse = []; tables = tables } ∷ [];
  last = None;
  commands = 0;
  sizes =
      [];
  states = [];
}

pub version_writable : (last : Option ℕ) (tables : Tables) (v : PlainVersion) → IsValid tables
    → HaveOneMember (evolving v.op v.inverse) → IsVersion last tables v
    → IsWritableBody (evolving v.op v.inverse)
unfolding one_version
version_writable last tables v l one h =
    accepted_writable (one_version tables) command l one accepted
  where
    command : PlainCommand
    command = record { stamp = 0; body = evolving v.op v.inverse }

    accepted : command_fault (one_version tables)
        (record { stamp = 0; body = evolving v.op v.inverse }) ≡ None
    accepted =
        first_later (count_fault (first_excess (evolving v.op v.inverse)))
        (stamp_fault None 0 ∷ unless (nat_lt 1 max_versions) (OverLimit Versions max_versions)
        ∷ option_map operator_refusal (evolution_fault tables v.op) ∷ inverse_tests tables v.op
        v.inverse)
        (ap count_fault h.counted)
        ∙ first_later (option_map operator_refusal (evolution_fault tables v.op))
        (inverse_tests tables v.op v.inverse) (ap (option_map operator_refusal) h.accepted)
        ∙ h.inverse

some_last : (last : Option ℕ) (m : ℕ) → (last ≡ None → ⊥) → m ≤ last_or_nought last
    → is_stamp last m ≡ true
some_last None m f h = absurd (f refl)
some_last (Some k) m f h = le-leb m k h

module _ (last : Option ℕ) (ends : last_or_nought last < forever) where
  encoded : (before : Option ℕ) (tables : Tables) (v : PlainVersion) → IsValid tables
      → HaveOneMember (evolving v.op v.inverse) → IsVersion before tables v
      → v.stamp ≤ last_or_nought last → EvolutionNamed v.op
      → AllByRecursion EvolutionNamed v.inverse → IsEncoded v
  encoded before tables v l one h b n i =
      let w = version_writable before tables v l one h in
      let few = w.1 in
      let e = ends in (
        omega (arith, b, e),
        (w.0, n),
        omega (arith, few),
        (w.2, i),
      )

  pub valid_read : (number : ℕ) (before : Option ℕ) (tables : Tables) (l : List PlainVersion)
      → IsValid tables → AreVersions before tables l → AllInForce (last_or_nought last) l
      → (last ≡ None → l ≡ [])
      → number + length l ≤ max_versions → VersionsNamed l → VersionsOfOne l
      → AreRead last (length l) number before tables l
  valid_read number before tables [] w a b f n k one = refl
  valid_read number before tables (v ∷ l) w a b f n k one = (
    (
      (encoded before tables v w one.0 a.0 b.0 k.0.0 k.0.1, a.0.tables),
      both_true (is_stamp last v.stamp) (is_accepted number before tables v)
          (some_last last v.stamp some b.0) (is_accepted_so last number before tables v
          (omega (arith, n)) a.0),
    ),
    valid_read (number + 1) (Some v.stamp) v.tables l
        (subst IsValid (sym a.0.tables) (each_is_valid tables v.op w
        (all_accepted tables v.op a.0.accepted))) a.1 b.1
        (λ e. absurd (some e)) (omega (arith, n)) k.1 one.1,
  )
    where
      some : last ≡ None → ⊥
      some e = let z : v ∷ l ≡ [] = f e in absurd (cc)

pub none_is_valid : IsValid no_tables
none_is_valid = beginning_is_past.tables
