-- The laws of a disk in memory.
use Rattle.std.proofs.Common.{◌≡◌, ◌⊎◌, inl, inr, ℕ, ◌+◌, ◌-◌, ◌<◌, ◌≤◌, List, [], ◌∷◌, ◌++◌}
use Rattle.std.proofs.Common.{length, get_or, take, drop, refl, sym, ◌∙◌, ap, subst, arith, Bool}
use Rattle.std.proofs.Common.{true, false, IsTrue}
use Rattle.std.specs.Prelude.{Option, Some, None, ◌&&◌}
use Rattle.std.proofs.lemmas.Bool.{both_ways}
use Rattle.std.proofs.lemmas.Bool.Decides.{nat_tests}
use Rattle.std.proofs.lemmas.List.{take_all, length-append, length-take, length-drop}
use Rattle.std.proofs.lemmas.List.{get_or_append_left, get_or-append_right, get_or-take}
use Rattle.std.proofs.lemmas.List.{get_or-drop}
use Rattle.disk_model.specs.Meaning.{IsValid}
use Rattle.disk_model.specs.DeviceCalls.{with_bytes}
use Rattle.disk_model.specs.Images.{Step, State, begun, after, run, fits, all_fit, IsImage}
use Rattle.disk_model.specs.Memory.{meaning_of}

pub length-with : (file : List ℕ) (at : ℕ) (bytes : List ℕ) → at ≤ length file
    → length file ≤ length (with_bytes file at bytes)
length-with file at bytes begins =
    omega (
      arith,
      length-append (take at file) (bytes ++ drop (at + length bytes) file),
      length-append bytes (drop (at + length bytes) file),
      length-take at file,
      length-drop (at + length bytes) file,
    )

-- a write leaves what stands before and after it
pub with-elsewhere : (file : List ℕ) (at : ℕ) (bytes : List ℕ) (i : ℕ) → at ≤ length file
    → (i < at) ⊎ (at + length bytes ≤ i) → get_or (with_bytes file at bytes) i 0 ≡ get_or file i 0
with-elsewhere file at bytes i begins (inl before) =
    get_or_append_left (take at file) (bytes ++ drop (at + length bytes) file) 0 i
    (omega (arith, length-take at file)) ∙ get_or-take at file i 0 before
with-elsewhere file at bytes i begins (inr later) =
    let n : length (take at file) ≡ at = omega (arith, length-take at file) in
    let j : at + length bytes + (i - at - length bytes) ≡ i = omega arith in
    get_or-append_right (take at file) (bytes ++ drop (at + length bytes) file) at i 0 n
    (omega arith)
    ∙ get_or-append_right bytes (drop (at + length bytes) file) (length bytes) (i - at) 0 refl
    (omega arith)
    ∙ get_or-drop (at + length bytes) file (i - at - length bytes) 0 ∙ ap (λ k. get_or file k 0) j

-- what a read gives is one of the images, after each step
stays_image : (s : State) (step : Step) → IsTrue (fits s step) → IsImage s s.seen
    → IsImage (after step s) (after step s).seen
stays_image s (Some write) begins was =
    let at_end : write.0 ≤ length s.seen = grind (arith, nat_tests) in
    record {
      no_shorter = omega (arith, was.no_shorter, length-with s.seen write.0 write.1 at_end);
      no_longer = omega arith;
      stays = λ i lt free. with-elsewhere s.seen write.0 write.1 i at_end free.0
          ∙ was.stays i lt free.1;
    }
stays_image s None begins was = record {
  no_shorter = omega arith;
  no_longer = omega arith;
  stays =
      λ i lt free. refl;
}

and_left : (a b : Bool) → IsTrue (a && b) → IsTrue a
and_left true b h = refl
and_left false b h = absurd (both_ways false refl h)

and_right : (a b : Bool) → IsTrue (a && b) → IsTrue b
and_right true b h = h
and_right false b h = absurd (both_ways false refl h)

run_image : (s : State) (steps : List Step) → IsTrue (all_fit s steps) → IsImage s s.seen
    → IsImage (run s steps) (run s steps).seen
run_image s [] fit was = was
run_image s (step ∷ steps) fit was =
    run_image (after step s) steps (and_right (fits s step) (all_fit (after step s) steps) fit)
    (stays_image s step (and_left (fits s step) (all_fit (after step s) steps) fit) was)

pub seen_image : (first : List ℕ) (steps : List Step) → IsTrue (all_fit (begun first) steps)
    → IsImage (run (begun first) steps) (run (begun first) steps).seen
seen_image first steps fit = run_image (begun first) steps fit
    (record { no_shorter = omega arith; no_longer = omega arith; stays = λ i lt free. refl })

some_same : (a b : List ℕ) → Some a ≡ Some b → a ≡ b
some_same a b e = ap (λ (o : Option (List ℕ)). get o) e
  where
    get : Option (List ℕ) → List ℕ
    get (Some x) = x
    get None = a

pub valid : (first : List ℕ) (steps : List Step) (bytes : List ℕ) (faults : ℕ)
    → IsTrue (all_fit (begun first) steps) → bytes ≡ (run (begun first) steps).seen
    → IsValid (meaning_of first steps bytes faults)
valid first steps bytes faults fit same = record {
  now = λ c left. (
    length steps,
    omega arith,
    omega arith,
    subst (λ l. IsImage (run (begun first) l) c)
        (sym (take_all (length steps) steps (omega arith))) left,
  );
  only_now = λ c left. subst (λ l. IsImage (run (begun first) l) c)
      (take_all left.0 steps (omega (arith, left.1))) left.3;
  earlier = λ t c le left. (left.0, omega (arith, left.1, le), left.2, left.3);
  stays = λ file honest is. subst (IsImage (run (begun first) steps))
      (sym same ∙ some_same bytes file is) (seen_image first steps fit);
}
