-- Lists with some bytes in the place of others.
use Rattle.std.proofs.Common.{◌≡◌, ℕ, ◌+◌, ◌≤◌, List, ◌++◌, length, take, drop, refl, sym, ◌∙◌, ap}
use Rattle.std.proofs.Common.{arith, append_assoc}
use Rattle.std.proofs.lemmas.List.{take_at, drop_at, length-append, length-take, length-drop}
use Rattle.disk_model.specs.DeviceCalls.{Torn, with_bytes}

pub torn_with : (file : List ℕ) (at : ℕ) (bytes : List ℕ) → at ≤ length file
    → Torn at (length bytes) file (with_bytes file at bytes)
torn_with file at bytes begins =
    let n : length (take at file) ≡ at = omega (arith, length-take at file) in
    let rest = drop (at + length bytes) file in
    let l : length (with_bytes file at bytes) ≡ at + (length bytes + length rest) =
    omega (arith, n, length-append (take at file) (bytes ++ rest), length-append bytes rest) in
    let back : drop (at + length bytes) (take at file ++ (bytes ++ rest)) ≡ rest =
    ap (λ (xs : List ℕ). drop (at + length bytes) xs) (sym (append_assoc (take at file) bytes rest))
    ∙ drop_at (take at file ++ bytes) rest (at + length bytes)
    (omega (arith, n, length-append (take at file) bytes)) in
    record {
      before = take_at (take at file) (bytes ++ rest) at n;
      after = back;
      no_shorter = omega (arith, l, length-drop (at + length bytes) file);
      no_longer = omega (arith, l, length-drop (at + length bytes) file);
    }

pub torn_same : (file : List ℕ) (at n : ℕ) → Torn at n file file
torn_same file at n = record {
  before = refl;
  after = refl;
  no_shorter = omega arith;
  no_longer =
      omega arith;
}
