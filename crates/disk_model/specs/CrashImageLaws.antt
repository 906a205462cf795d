-- A crash image by number is one of the files that a crash may leave.
use Rattle.std.proofs.Common.{◌≡◌, ◌⊎◌, inl, inr, ℕ, ◌+◌, ◌-◌, ◌%◌, ◌<◌, ◌≤◌, List, [], ◌∷◌}
use Rattle.std.proofs.Common.{length, get_or, map, refl, ◌∙◌, ap, arith, Bool, true, false}
use Rattle.std.specs.Prelude.{nat_eq, nat_le, ◌||◌, if◌then◌else◌}
use Rattle.std.specs.List.{range_with_len}
use Rattle.std.proofs.lemmas.Bool.Decides.{nat_tests}
use Rattle.std.proofs.lemmas.List.FromFn.{length-map-range_with_len, get_or-map-range_with_len}
use Rattle.std.proofs.lemmas.Nat.{mod_below}
use Rattle.disk_model.specs.Images.{State, IsUnwritten, IsImage}
use Rattle.disk_model.specs.CrashImages.{is_within, is_written, image_length, image_byte}
use Rattle.disk_model.specs.CrashImages.{crash_image}

not_within : (at n i : ℕ) → (i < at) ⊎ (at + n ≤ i) → is_within at n i ≡ false
not_within at n i (inl before) = grind (arith, nat_tests)
not_within at n i (inr later) = grind (arith, nat_tests)

not_written : (ranges : List (ℕ × ℕ)) (i : ℕ) → IsUnwritten ranges i
    → is_written ranges i ≡ false
not_written [] i free = refl
not_written (range ∷ ranges) i free =
    ap (λ b. b || is_written ranges i) (not_within range.0 range.1 i free.0)
    ∙ not_written ranges i free.1

kept_byte : (s : State) (pick i : ℕ) → i < length s.synced → IsUnwritten s.ranges i
    → image_byte s pick i ≡ get_or s.synced i 0
kept_byte s pick i lt free =
    let inside : nat_le (length s.synced) i ≡ false = grind (arith, nat_tests) in
    ap (λ b. if b then pick % 256 else get_or s.synced i 0)
    (ap (λ b. b || nat_le (length s.synced) i) (not_written s.ranges i free) ∙ inside)

is_spoiled : (s : State) (pick : ℕ) → length s.synced ≤ length s.seen
    → IsImage s (map (image_byte s pick) (range_with_len 0 (image_length s pick)))
is_spoiled s pick grown =
    let n = length-map-range_with_len (image_byte s pick) 0 (image_length s pick) in
    let growth = length s.seen - length s.synced + 1 in
    record {
      no_shorter = omega (arith, n);
      no_longer = omega (arith, n, grown, mod_below pick growth (omega arith));
      stays = λ i lt free.
          get_or-map-range_with_len (image_byte s pick) 0 (image_length s pick) i i 0
          (omega (arith, lt)) (omega arith) ∙ kept_byte s pick i lt free;
    }

-- whichever it is of three files, each of which is an image
one_of_three : (s : State) (x y z : List ℕ) (a b : Bool) → IsImage s x → IsImage s y → IsImage s z
    → IsImage s (if a then x else if b then y else z)
one_of_three s x y z true b first second third = first
one_of_three s x y z false true first second third = second
one_of_three s x y z false false first second third = third

synced_image : (s : State) → length s.synced ≤ length s.seen → IsImage s s.synced
synced_image s grown = record {
  no_shorter = omega arith;
  no_longer = grown;
  stays = λ i lt free. refl;
}

pub crash_image_is : (s : State) (pick : ℕ) → IsImage s s.seen → IsImage s (crash_image s pick)
crash_image_is s pick seen =
    one_of_three s s.seen s.synced
    (map (image_byte s pick) (range_with_len 0 (image_length s pick))) (nat_eq pick 0)
    (nat_eq pick 1) seen (synced_image s seen.no_shorter) (is_spoiled s pick seen.no_shorter)
