use Rattle.std.proofs.Common.{◌≡◌, ◌+◌, ◌∙◌, ℕ, List, length, ap, subst, inr, arith}
use Rattle.std.specs.Prelude.{Result, Err}
use Rattle.command_codec_spec.specs.Reading.{Unexpected}
use Rattle.store_image_spec.specs.Reader as spec
use Rattle.archive_core_replay.specs.declared.fault.RestoreFault.{RestoreFault}
use Rattle.archive_core_replay.specs.declared.fault.RestoreFault.TheVariants as restoring
use Rattle.archive_core_replay.proofs.record_reader.check_checkpoint.Goals as goal

same_place : {T : Type 0} (a b : ℕ)
    → ◌≡◌ {A = Result T RestoreFault} (Err (restoring.Damaged a)) (Err (restoring.Damaged b))
    → b ≡ a
same_place a b e = cc

pub returns-in-Err-BadAt-clause-damaged : goal.returns-in-Err-BadAt-clause-damaged
returns-in-Err-BadAt-clause-damaged c place e =
    let within = c.in-Err-BadAt.within in
    let bad = subst (λ (xs : List ℕ). (rest : List ℕ) × (spec.image xs ≡ Unexpected rest)
    × (within + length rest ≡ length xs)) c.deref.ensures.value
    (c.in-Err-BadAt.ensures.bad within (ap (λ f. Err f) c.in-Err-BadAt.field-0-is)) in
    record {
      within = within;
      refused = inr (c.requires, (bad.0, bad.1, omega (arith, bad.2)));
      place_is = λ small. same_place c.place_in.result place e
          ∙ c.place_in.ensures (omega (arith, small, bad.2));
    }
