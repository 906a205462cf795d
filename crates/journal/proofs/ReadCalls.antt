-- Calls that read, one after the other.
use Rattle.std.proofs.Common.{⊎_elim, inl, inr, refl, ◌∙◌}
use Rattle.disk_model.specs.Meaning.{Meaning, IsValid}
use Rattle.disk_model.specs.MomentLaws.{goes_refl, goes_trans, still_honest}
use Rattle.disk_model.specs.DeviceCalls.{Reads}

pub reads_nothing : (d : Meaning) → IsValid d → Reads d d
reads_nothing d law = record {
  goes = goes_refl d law;
  seen = refl;
  crash = λ honest c left. left;
  during = λ honest c left. inl (law.only_now c left);
}

pub reads_then : (a b c : Meaning) → Reads a b → Reads b c → Reads a c
reads_then a b c one two = record {
  goes = goes_trans a b c one.goes two.goes;
  seen = two.seen ∙ one.seen;
  crash = λ honest f left.
      one.crash honest f (two.crash (still_honest a b one.goes honest) f left);
  during = λ honest f left. ⊎_elim
      (λ before. ⊎_elim (λ old. inl old) (λ mid. inl (one.crash honest f mid))
      (one.during honest f before))
      (λ after. ⊎_elim (λ mid. inl (one.crash honest f mid)) (λ new. inr new)
      (two.during (still_honest a b one.goes honest) f after))
      (two.goes.joins a.moment f one.goes.later left);
}
