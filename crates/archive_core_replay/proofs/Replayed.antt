-- Commands carried out one after the other.
use Rattle.std.proofs.Common.{◌≡◌, ℕ, ◌+◌, ◌<◌, ◌≤◌, List, [], ◌∷◌, ◌++◌, length, get_or, take}
use Rattle.std.proofs.Common.{drop, map, refl, sym, subst, ap, ◌∙◌, arith, Some, None, Err}
use Rattle.std.proofs.lemmas.List.{take_more, drop_more, take_all, take-append-drop, length-take-le}
use Rattle.std.proofs.lemmas.List.{length-map, get_or-map, get_or_default}
use Rattle.std.proofs.lemmas.Slice.Zip.{get_or-zip, firsts-zip}
use Rattle.std.specs.List.{zip}
use Rattle.prima_base.specs.declared.refusal.Refusal.{Refusal}
use Rattle.smo_ops_types.specs.Commands.{PlainCommand, command_of}
use Rattle.smo_ops_types.specs.declared.command.Body.{Body}
use Rattle.smo_ops_spec.specs.Accepts.{command_fault}
use Rattle.smo_ops_spec.specs.Past.{Past, past_with}
use Rattle.smo_ops_spec.specs.History.{AllAccepted, past_after}
use Rattle.journal.specs.declared.rec.Rec.{Rec}
use Rattle.archive_core_state.specs.ArchiveContents.{ArchiveContent, RepresentsPast}
use Rattle.archive_core_replay.specs.declared.fault.RestoreFault.{RestoreFault}
use Rattle.archive_core_replay.specs.declared.fault.RestoreFault.TheVariants.{Damaged}
use Rattle.archive_core_replay.specs.Replaying.{Replays, IsStoppedAt, IsReplayed}

accepted_push : (past : Past) (commands : List PlainCommand) (c : PlainCommand)
    → AllAccepted past commands → command_fault (past_after past commands) c ≡ None
    → AllAccepted past (commands ++ c ∷ [])
accepted_push past [] c all met = (met, tt)
accepted_push past (d ∷ commands) c all met =
    (all.0, accepted_push (past_with past d) commands c all.1 met)

past_push : (past : Past) (commands : List PlainCommand) (c : PlainCommand)
    → past_after past (commands ++ c ∷ []) ≡ past_with (past_after past commands) c
past_push past [] c = refl
past_push past (d ∷ commands) c = past_push (past_with past d) commands c

module _ (past : Past) (commands : List (ℕ × Body)) (k : ℕ) (c : ℕ × Body)
    (inside : k < length commands) (is : c ≡ get_or commands k c) where
  inside_plain : k < length (map command_of commands)
  inside_plain = omega (arith, length-map commands command_of)

  this : get_or (map command_of commands) k (command_of c) ≡ command_of c
  this = get_or-map command_of commands k c (command_of c) inside ∙ ap command_of (sym is)

  more : take (k + 1) (map command_of commands) ≡ take k (map command_of commands) ++ command_of c
      ∷ []
  more = take_more (map command_of commands) k (command_of c) inside_plain
      ∙ ap (λ (d : PlainCommand). take k (map command_of commands) ++ d ∷ []) this

  -- one command more is carried out
  pub one_more_replayed : (old new : ArchiveContent)
      → IsReplayed past (take k (map command_of commands)) old
      → command_fault (past_after past (take k (map command_of commands))) (command_of c) ≡ None
      → RepresentsPast new (past_with (past_after past (take k (map command_of commands)))
      (command_of c)) → IsReplayed past (take (k + 1) (map command_of commands)) new
  one_more_replayed old new before met represents =
      subst (λ (l : List PlainCommand). IsReplayed past l new) (sym more) (record {
        accepted = accepted_push past (take k (map command_of commands)) (command_of c)
            before.accepted
            met;
        represents = subst (RepresentsPast new)
            (sym (past_push past (take k (map command_of commands))
            (command_of c))) represents;
      })

  -- one is refused
  pub stopped : (recs : List Rec) (old : ArchiveContent) (place : ℕ) (r : Refusal) (d : Rec)
      → k < length recs → IsReplayed past (take k (map command_of commands)) old
      → command_fault (past_after past (take k (map command_of commands))) (command_of c) ≡ Some r
      → place ≡ (get_or recs k d).at → IsStoppedAt past (map command_of commands) recs place
  stopped recs old place r d within before refused at = record {
    before = take k (map command_of commands);
    command = command_of c;
    after = drop (k + 1) (map command_of commands);
    are = sym (take-append-drop k (map command_of commands))
        ∙ ap (λ (l : List PlainCommand). take k (map command_of commands) ++ l)
        (drop_more (map command_of commands) k (command_of c) inside_plain
        ∙ ap (λ (d : PlainCommand). d ∷ drop (k + 1) (map command_of commands)) this);
    accepted = before.accepted;
    refusal = r;
    refused = refused;
    place_is = λ e. at ∙ ap (λ (rec : Rec). rec.at) (get_or_default recs k d e within)
        ∙ ap (λ (n : ℕ). (get_or recs n e).at)
        (sym (length-take-le k (map command_of commands) (omega (arith, inside_plain))));
  }

-- as many go together in turn as there are commands
pub pairs : (commands : List (ℕ × Body)) (recs : List Rec) → length commands ≡ length recs
    → length (zip commands recs) ≡ length commands
pairs commands recs same =
    sym (length-map (zip commands recs) (λ (p : (ℕ × Body) × Rec). p.0))
    ∙ ap (λ (l : List (ℕ × Body)). length l) (firsts-zip commands recs (sym same))

-- what replaying one command answered, where it told damage
pub told_damage : (past : Past) (c : PlainCommand) (at place : ℕ) (e : RestoreFault)
    (new : ArchiveContent) → Replays past c at (Err e) new → e ≡ Damaged place
    → (place ≡ at) × ((r : Refusal) × (command_fault past c ≡ Some r))
told_damage past c at place e new replays is =
    subst (λ (f : RestoreFault). Replays past c at (Err f) new) is replays

pub all_replayed : (past : Past) (commands : List (ℕ × Body)) (k : ℕ) (archive : ArchiveContent)
    → length commands ≤ k → IsReplayed past (take k (map command_of commands)) archive
    → IsReplayed past (map command_of commands) archive
all_replayed past commands k archive all replayed =
    subst (λ (l : List PlainCommand). IsReplayed past l archive)
    (take_all k (map command_of commands) (omega (arith, length-map commands command_of)))
    replayed

-- a command and its record, of those that go together in turn
pub pair_at : (commands : List (ℕ × Body)) (recs : List Rec) → length commands ≡ length recs
    → (n : ℕ) (c : ℕ × Body) (r : Rec) → n < length (zip commands recs)
    → (c, r) ≡ get_or (zip commands recs) n (c, r)
    → (n < length commands) × (c ≡ get_or commands n c) × (r ≡ get_or recs n r)
pair_at commands recs same n c r within is =
    let inside : n < length commands = omega (arith, pairs commands recs same, within) in
    let both = is ∙ get_or-zip commands recs n (c, r) inside (omega (arith, inside, same)) in
    (inside, ap (λ (p : (ℕ × Body) × Rec). p.0) both, ap (λ (p : (ℕ × Body) × Rec). p.1) both)
