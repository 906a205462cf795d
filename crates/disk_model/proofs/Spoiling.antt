-- A file with one byte in the place of a range, and of all ranges that some calls wrote.
use Rattle.std.proofs.Common.{◌≡◌, inl, inr, ℕ, ◌+◌, ◌-◌, ◌<◌, ◌≤◌, min, List}
use Rattle.std.proofs.Common.{◌++◌, length, get_or, take, drop, replicate, refl, sym, ◌∙◌, ap}
use Rattle.std.proofs.Common.{arith}
use Rattle.std.proofs.Common.{true, false, Bool, drop-drop}
use Rattle.std.specs.Prelude.{◌||◌, nat_le, if◌then◌else◌}
use Rattle.std.proofs.lemmas.Bool.{cases_lt}
use Rattle.std.proofs.lemmas.Bool.Decides.{nat_tests}
use Rattle.std.proofs.lemmas.List.{length-append, length-take, get_or_append_left}
use Rattle.std.proofs.lemmas.List.{get_or-append_right, get_or-take, get_or-drop, get_or-replicate}
use Rattle.std.proofs.lemmas.List.{length-replicate}
use Rattle.disk_model.specs.Calls.{has_written}
use Rattle.disk_model.specs.CrashImages.{is_within}
use Rattle.disk_model.specs.declared.call.Call.{Call}

module _ (file mid : List ℕ) (at len from to byte : ℕ) (starts : from ≡ min at (length file))
    (ends : to ≡ from + min len (length file - from)) (same : mid ≡ replicate (to - from) byte)
    (long : length mid ≡ to - from) where
  abbrev spoiled_file : List ℕ
  spoiled_file = take from file ++ (mid ++ drop (from + (to - from)) file)

  prefix : length (take from file) ≡ from
  prefix = omega (arith, length-take from file, starts)

  before : (i : ℕ) → i < from
      → get_or spoiled_file i 0 ≡ (if is_within at len i then byte else get_or file i 0)
  before i lt =
      let out : is_within at len i ≡ false = grind (arith, nat_tests, starts) in
      get_or_append_left (take from file) (mid ++ drop (from + (to - from)) file) 0 i
      (omega (arith, prefix)) ∙ get_or-take from file i 0 lt
      ∙ sym (ap (λ b. if b then byte else get_or file i 0) out)

  within : (i : ℕ) → from ≤ i → i < to
      → get_or spoiled_file i 0 ≡ (if is_within at len i then byte else get_or file i 0)
  within i le lt =
      let inside : is_within at len i ≡ true = grind (arith, nat_tests, starts, ends) in
      get_or-append_right (take from file) (mid ++ drop (from + (to - from)) file) from i 0 prefix
      le
      ∙ get_or_append_left mid (drop (from + (to - from)) file) 0 (i - from)
      (omega (arith, long, le, lt))
      ∙ ap (λ (l : List ℕ). get_or l (i - from) 0) same
      ∙ get_or-replicate (to - from) (i - from) byte 0 (omega (arith, le, lt))
      ∙ sym (ap (λ b. if b then byte else get_or file i 0) inside)

  after : (i : ℕ) → to ≤ i → i < length file
      → get_or spoiled_file i 0 ≡ (if is_within at len i then byte else get_or file i 0)
  after i le lt =
      let out : is_within at len i ≡ false =
      grind (arith, nat_tests, starts, ends) in
      let up : from ≤ to = omega (arith, starts, ends) in
      get_or-append_right (take from file) (mid ++ drop (from + (to - from)) file) from i 0 prefix
      (omega (arith, le, up))
      ∙ get_or-append_right mid (drop (from + (to - from)) file) (to - from) (i - from) 0 long
      (omega (arith, le, up))
      ∙ get_or-drop (from + (to - from)) file (i - from - (to - from)) 0
      ∙ ap (λ j. get_or file j 0) (omega (arith, le, up))
      ∙ sym (ap (λ b. if b then byte else get_or file i 0) out)

  spoiled : (i : ℕ) → i < length file
      → get_or spoiled_file i 0 ≡ (if is_within at len i then byte else get_or file i 0)
  spoiled i lt = elim (cases_lt i from) [
    | inl early ↦ before i early
    | inr late ↦ elim (cases_lt i to) [
      | inl inside ↦ within i late inside
      | inr past ↦ after i past lt
    ]
  ]

  -- the same, with what stands behind the range as the rest of its rest
  pub spoiled_part : (i : ℕ) → i < length file
      → get_or (take from file ++ (mid ++ drop (to - from) (drop from file))) i 0
      ≡ (if is_within at len i then byte else get_or file i 0)
  spoiled_part i lt = ap (λ (l : List ℕ). get_or (take from file ++ (mid ++ l)) i 0)
      (drop-drop (to - from) from file) ∙ spoiled i lt

-- spoiled by one range after another
pub spoiled_by_both : (a b : Bool) (byte x : ℕ)
    → (if b then byte else (if a then byte else x)) ≡ (if a || b then byte else x)
spoiled_by_both true true byte x = refl
spoiled_by_both true false byte x = refl
spoiled_by_both false true byte x = refl
spoiled_by_both false false byte x = refl

-- the file spoiled in the written ranges, and then lengthened
module _ (since : List Call) (file spoilt : List ℕ) (more byte : ℕ)
    (same : length spoilt ≡ length file)
    (bytes : (i : ℕ) → i < length file
    → get_or spoilt i 0 ≡ (if has_written since i then byte else get_or file i 0)) where
  pub length-lengthened : length (spoilt ++ replicate more byte) ≡ length file + more
  length-lengthened = omega (
    arith,
    same,
    length-append spoilt (replicate more byte),
    length-replicate more byte,
  )

  or_false : (b : Bool) → b || false ≡ b
  or_false true = refl
  or_false false = refl

  or_true : (b : Bool) → b || true ≡ true
  or_true true = refl
  or_true false = refl

  pub lengthened : (i : ℕ) → i < length (spoilt ++ replicate more byte)
      → get_or (spoilt ++ replicate more byte) i 0
      ≡ (if has_written since i || nat_le (length file) i then byte else get_or file i 0)
  lengthened i lt = elim (cases_lt i (length file)) [
    | inl old ↦
        let before : nat_le (length file) i ≡ false = grind (arith, nat_tests) in
        get_or_append_left spoilt (replicate more byte) 0 i (omega (arith, same, old))
        ∙ bytes i old
        ∙ sym (ap (λ b. if b then byte else get_or file i 0)
        (ap (λ b. has_written since i || b) before ∙ or_false (has_written since i)))
    | inr new ↦
        let past : nat_le (length file) i ≡ true = grind (arith, nat_tests) in
        get_or-append_right spoilt (replicate more byte) (length file) i 0 same new
        ∙ get_or-replicate more (i - length file) byte 0 (omega (arith, lt, length-lengthened, new))
        ∙ sym (ap (λ b. if b then byte else get_or file i 0)
        (ap (λ b. has_written since i || b) past ∙ or_true (has_written since i)))
  ]
