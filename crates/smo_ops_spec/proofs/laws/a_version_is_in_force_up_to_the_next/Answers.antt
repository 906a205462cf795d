use Rattle.std.proofs.Common.{ℕ, subst}
use Rattle.std.specs.Prelude.{None}
use Rattle.smo_ops_spec.specs.Past.{no_tables}
use Rattle.smo_ops_spec.proofs.VersionsInForce.{IsNow, in_force_at, is_now}
use Rattle.smo_ops_spec.proofs.laws.a_version_is_in_force_up_to_the_next.Goals as goal

pub returns : goal.returns
returns c = λ past k m is few l. (
  λ e. subst (λ (j : ℕ). IsNow past.versions m j) e
      (is_now None no_tables past.versions m is.evolved l),
  λ h. in_force_at None no_tables past.versions k m is.evolved few h.0 h.1,
)
