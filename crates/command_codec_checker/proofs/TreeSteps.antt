-- The steps of going over expressions and conditions.
use Rattle.std.proofs.Common.{◌≡◌, ℕ, suc, ◌-◌, ◌≢◌, nat_lt, List, Result, subst, arith}
use Rattle.command_codec_spec.specs.Reader.{expr, cond, level}
use Rattle.command_codec.specs.Reads.{Recognizes}

-- a level over the one below
pub expr_levels : {X E : Type 0} (levels : ℕ) (ts : List ℕ) (result : Result X E)
    (new : List ℕ)
    → levels ≢ 0 → Recognizes (expr (nat_lt 0 (levels - 1)) (level (levels - 1)) ts) result new
    → Recognizes ((level levels).expr ts) result new
expr_levels levels ts result new h r =
    let e : suc (levels - 1) ≡ levels = omega arith in
    let P : ℕ → Type 0 = λ n. Recognizes ((level n).expr ts) result new in
    subst P e r

pub cond_levels : {X E : Type 0} (levels : ℕ) (ts : List ℕ) (result : Result X E)
    (new : List ℕ)
    → levels ≢ 0 → Recognizes (cond (nat_lt 0 (levels - 1)) (level (levels - 1)) ts) result new
    → Recognizes ((level levels).cond ts) result new
cond_levels levels ts result new h r =
    let e : suc (levels - 1) ≡ levels = omega arith in
    let P : ℕ → Type 0 = λ n. Recognizes ((level n).cond ts) result new in
    subst P e r
