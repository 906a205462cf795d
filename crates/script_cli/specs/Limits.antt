-- The limit of the script of one run, in bytes.
use Rattle.std.specs.Prelude.{ℕ}

-- 2 ^ 40
abbrev pub longest_script : ℕ
longest_script = 1099511627776
