-- A list of writes and syncs, parted after its last sync.
use Rattle.std.proofs.Common.{◌≡◌, ℕ, zero, suc, ◌+◌, ◌-◌, ◌%◌, ◌<◌, ◌≤◌, List, [], ◌∷◌, ◌++◌}
use Rattle.std.proofs.Common.{length, get_or, take, drop, refl, sym, ◌∙◌, ap, subst, arith, map}
use Rattle.std.proofs.Common.{true, false, Bool, IsTrue, drop-drop, take-suc}
use Rattle.std.specs.Prelude.{Some, None, Result, Ok, Err, IfOk, ◌≢◌, nat_eq, nat_le, ◌&&◌, ◌||◌}
use Rattle.std.specs.Prelude.{if◌then◌else◌}
use Rattle.std.specs.List.{range_with_len}
use Rattle.std.proofs.lemmas.Bool.{both_ways}
use Rattle.std.proofs.lemmas.Bool.Decides.{nat_tests}
use Rattle.std.proofs.lemmas.List.{length-take, length-drop, take-append-drop, take_all}
use Rattle.std.proofs.lemmas.List.FromFn.{fill_by_all}
use Rattle.disk_model.specs.Images.{Step, State, begun, after, run, fits, all_fit, IsImage}
use Rattle.disk_model.specs.Memory.{Since}
use Rattle.disk_model.specs.MemoryLaws.{seen_image}
use Rattle.disk_model.specs.CrashImageLaws.{crash_image_is}
use Rattle.disk_model.specs.Calls.{total, steps_of, are_writes, has_written, LastIsSync}
use Rattle.disk_model.specs.CrashImages.{is_within, is_written, image_length, image_byte}
use Rattle.disk_model.specs.CrashImages.{crash_image}
use Rattle.disk_model.specs.declared.call.Call.{Call}
use Rattle.disk_model.specs.declared.call.Call.TheVariants as call
use Rattle.disk_model.proofs.Pushing.{run-push, sync-push, grown}

pub total_parts : (xs ys : List Call) → total (xs ++ ys) ≡ total xs + total ys
total_parts [] ys = omega arith
total_parts (call.Write at len ∷ xs) ys = omega (arith, total_parts xs ys)
total_parts (call.Sync ∷ xs) ys = total_parts xs ys

pub steps_parts : (xs ys : List Call) (written : List ℕ)
    → steps_of (xs ++ ys) written ≡ steps_of xs written ++ steps_of ys (drop (total xs) written)
steps_parts [] ys written = refl
steps_parts (call.Write at len ∷ xs) ys written =
    ap (λ (l : List Step). Some (at, take len written) ∷ l)
    (steps_parts xs ys (drop len written)
    ∙ ap (λ (l : List ℕ). steps_of xs (drop len written) ++ steps_of ys l)
    (drop-drop (total xs) len written))
steps_parts (call.Sync ∷ xs) ys written =
    ap (λ (l : List Step). None ∷ l) (steps_parts xs ys written)

pub run_parts : (s : State) (a b : List Step) → run s (a ++ b) ≡ run (run s a) b
run_parts s [] b = refl
run_parts s (step ∷ a) b = run_parts (after step s) a b

fit_left : (s : State) (a b : List Step) → IsTrue (all_fit s (a ++ b)) → IsTrue (all_fit s a)
fit_left s [] b fit = refl
fit_left s (step ∷ a) b fit = both (fits s step) (all_fit (after step s) (a ++ b))
    (all_fit (after step s) a) fit (fit_left (after step s) a b)
  where
    both : (x y z : Bool) → IsTrue (x && y) → (IsTrue y → IsTrue z) → IsTrue (x && z)
    both true y z h f = f h
    both false y z h f = absurd (both_ways false refl h)

fit_right : (s : State) (a b : List Step) → IsTrue (all_fit s (a ++ b))
    → IsTrue (all_fit (run s a) b)
fit_right s [] b fit = fit
fit_right s (step ∷ a) b fit = fit_right (after step s) a b
    (second (fits s step) (all_fit (after step s) (a ++ b)) fit)
  where
    second : (x y : Bool) → IsTrue (x && y) → IsTrue y
    second true y h = h
    second false y h = absurd (both_ways false refl h)

-- up to a last sync
pub synced_state : (first : List ℕ) (calls : List Call) (written : List ℕ) (k : ℕ)
    → k ≤ length calls → LastIsSync k calls
    → run (begun first) (steps_of (take k calls) written)
    ≡ begun (run (begun first) (steps_of (take k calls) written)).seen
synced_state first calls written zero le sync = refl
synced_state first calls written (suc j) le sync =
    let last : suc j - 1 ≡ j = omega arith in
    let here : get_or calls j call.Sync ≡ call.Sync =
    subst (λ n. get_or calls n call.Sync ≡ call.Sync) last (sync (omega arith)) in
    let parts : take (suc j) calls ≡ take j calls ++ call.Sync ∷ [] =
    take-suc calls j call.Sync (omega (arith, le))
    ∙ ap (λ (c : Call). take j calls ++ c ∷ []) here in
    let is : run (begun first) (steps_of (take (suc j) calls) written)
    ≡ after None (run (begun first) (steps_of (take j calls) written)) =
    ap (λ (l : List Call). run (begun first) (steps_of l written)) parts
    ∙ ap (λ (l : List Step). run (begun first) l) (sync-push (take j calls) written)
    ∙ run-push (begun first) (steps_of (take j calls) written) None in
    is ∙ ap (λ (s : State). begun s.seen) (sym is)

-- writes alone, from some state on
pub writes_synced : (s : State) (calls : List Call) (written : List ℕ) → IsTrue (are_writes calls)
    → (run s (steps_of calls written)).synced ≡ s.synced
writes_synced s [] written are = refl
writes_synced s (call.Write at len ∷ calls) written are =
    writes_synced (after (Some (at, take len written)) s) calls (drop len written) are
writes_synced s (call.Sync ∷ calls) written are = absurd (both_ways false refl are)

swapped : (a b c : Bool) → a || (b || c) ≡ (b || a) || c
swapped true true c = refl
swapped true false c = refl
swapped false true c = refl
swapped false false c = refl

pub writes_written : (s : State) (calls : List Call) (written : List ℕ) (i : ℕ)
    → IsTrue (are_writes calls) → total calls ≤ length written
    → is_written (run s (steps_of calls written)).ranges i
    ≡ has_written calls i || is_written s.ranges i
writes_written s [] written i are all = refl
writes_written s (call.Write at len ∷ calls) written i are all =
    let n : length (take len written) ≡ len = omega (arith, all, length-take len written) in
    writes_written (after (Some (at, take len written)) s) calls (drop len written) i are
    (omega (arith, all, length-drop len written))
    ∙ ap (λ m. has_written calls i || (is_within at m i || is_written s.ranges i)) n
    ∙ swapped (has_written calls i) (is_within at len i) (is_written s.ranges i)
writes_written s (call.Sync ∷ calls) written i are all = absurd (both_ways false refl are)

-- The front of the calls up to the last sync, and the writes behind it. `start` is a copy of the
-- file at first, `left` what the front leaves, `copy` a copy of that, and `seen` what is left of it
-- by the writes.
module _ (first : List ℕ) (calls front back : List Call) (written start : List ℕ) (k : ℕ)
    (all : total calls ≤ length written)
    (fit : IsTrue (all_fit (begun first) (steps_of calls written))) (within : k ≤ length calls)
    (since : IsTrue (are_writes (drop k calls))) (sync : LastIsSync k calls)
    (is_front : front ≡ take k calls) (is_back : back ≡ drop k calls)
    (is_start : start ≡ first) where
  halves : calls ≡ front ++ back
  halves = sym (ap (λ (l : List Call). l ++ back) is_front
      ∙ ap (λ (l : List Call). take k calls ++ l) is_back ∙ take-append-drop k calls)

  writes : IsTrue (are_writes back)
  writes = subst (λ l. IsTrue (are_writes l)) (sym is_back) since

  sums : total calls ≡ total front + total back
  sums = ap total halves ∙ total_parts front back

  pub total_front : total front ≤ length written
  total_front = omega (arith, sums, all)

  parts : steps_of calls written
      ≡ steps_of front written ++ steps_of back (drop (total front) written)
  parts = ap (λ (l : List Call). steps_of l written) halves ∙ steps_parts front back written

  fit_both : IsTrue (all_fit (begun first)
      (steps_of front written ++ steps_of back (drop (total front) written)))
  fit_both = subst (λ l. IsTrue (all_fit (begun first) l)) parts fit

  pub fit_front : IsTrue (all_fit (begun start) (steps_of front written))
  fit_front = subst (λ l. IsTrue (all_fit (begun l) (steps_of front written))) (sym is_start)
      (fit_left (begun first) (steps_of front written)
      (steps_of back (drop (total front) written)) fit_both)

  at_sync : run (begun first) (steps_of front written)
      ≡ begun (run (begun first) (steps_of front written)).seen
  at_sync = subst (λ l. run (begun first) (steps_of l written)
      ≡ begun (run (begun first) (steps_of l written)).seen) (sym is_front)
      (synced_state first calls written k within sync)

  module _ (left rest copy : List ℕ) (used : ℕ)
      (is_left : left ≡ (run (begun start) (steps_of front written)).seen)
      (is_used : used ≡ total front) where
    pub used_within : used ≤ length written
    used_within = omega (arith, is_used, total_front)

    there : run (begun first) (steps_of front written) ≡ begun left
    there = at_sync ∙ ap (λ (l : List ℕ). begun l)
        (sym (is_left ∙ ap (λ (l : List ℕ). (run (begun l) (steps_of front written)).seen)
        is_start))

    whole : run (begun first) (steps_of calls written)
        ≡ run (begun left) (steps_of back (drop used written))
    whole = ap (λ (l : List Step). run (begun first) l) parts
        ∙ run_parts (begun first) (steps_of front written)
        (steps_of back (drop (total front) written))
        ∙ ap (λ (s : State). run s (steps_of back (drop (total front) written))) there
        ∙ ap (λ n. run (begun left) (steps_of back (drop n written))) (sym is_used)

    pub left_is : left ≡ (run (begun first) (steps_of calls written)).synced
    left_is = sym (ap (λ (s : State). s.synced) whole
        ∙ writes_synced (begun left) back (drop used written) writes)

    module _ (is_rest : rest ≡ drop used written) (is_copy : copy ≡ left) where
      total_rest : total back ≤ length (drop used written)
      total_rest = omega (arith, sums, all, is_used, length-drop used written)

      pub total_back : total back ≤ length rest
      total_back = omega (arith, ap (λ (l : List ℕ). length l) is_rest, total_rest)

      fit_rest : IsTrue (all_fit (begun left) (steps_of back (drop used written)))
      fit_rest = subst (λ n. IsTrue (all_fit (begun left) (steps_of back (drop n written))))
          (sym is_used) (subst (λ s. IsTrue (all_fit s
          (steps_of back (drop (total front) written))))
          there (fit_right (begun first) (steps_of front written)
          (steps_of back (drop (total front) written)) fit_both))

      pub fit_back : IsTrue (all_fit (begun copy) (steps_of back rest))
      fit_back = subst (λ l. IsTrue (all_fit (begun l) (steps_of back rest))) (sym is_copy)
          (subst (λ l. IsTrue (all_fit (begun left) (steps_of back l))) (sym is_rest) fit_rest)

      module _ (seen : List ℕ)
          (is_seen : seen ≡ (run (begun copy) (steps_of back rest)).seen) where
        pub seen_is : seen ≡ (run (begun first) (steps_of calls written)).seen
        seen_is = is_seen
            ∙ ap (λ (l : List ℕ). (run (begun l) (steps_of back rest)).seen) is_copy
            ∙ ap (λ (l : List ℕ). (run (begun left) (steps_of back l)).seen) is_rest
            ∙ sym (ap (λ (s : State). s.seen) whole)

        pub no_shorter : length left ≤ length seen
        no_shorter = omega (
          arith,
          ap (λ (l : List ℕ). length l) left_is,
          ap (λ (l : List ℕ). length l) seen_is,
          grown first (steps_of calls written) fit,
        )

        no_more : (b : Bool) → b || false ≡ b
        no_more true = refl
        no_more false = refl

        written_is : (i : ℕ) → is_written (run (begun first) (steps_of calls written)).ranges i
            ≡ has_written back i
        written_is i = ap (λ (s : State). is_written s.ranges i) whole
            ∙ writes_written (begun left) back (drop used written) i writes total_rest
            ∙ no_more (has_written back i)

        pub spoiled_is : (pick : ℕ) (image : List ℕ)
            → length image ≡ length left + pick % (length seen - length left + 1)
            → ((i : ℕ) → i < length image → get_or image i 0
            ≡ (if has_written back i || nat_le (length left) i then pick % 256
            else get_or left i 0))
            → image ≡ map (image_byte (run (begun first) (steps_of calls written)) pick)
            (range_with_len 0 (image_length (run (begun first) (steps_of calls written)) pick))
        spoiled_is pick image len bytes =
            let s : State = run (begun first) (steps_of calls written) in
            let n : length image ≡ image_length s pick =
            len
            ∙ ap (λ (l : List ℕ). length l + pick % (length seen - length l + 1)) left_is
            ∙ ap (λ (l : List ℕ). length s.synced + pick % (length l - length s.synced + 1))
            seen_is in
            fill_by_all (image_byte s pick) image (image_length s pick) 0 n
            (λ i lt. bytes i (omega (arith, lt, n))
            ∙ ap (λ (b : Bool). if b || nat_le (length left) i then pick % 256
            else get_or left i 0) (sym (written_is i))
            ∙ ap (λ (l : List ℕ). if is_written s.ranges i || nat_le (length l) i then pick % 256
            else get_or l i 0) left_is)

-- the image of a number
pub first_pick : (s : State) (pick : ℕ) → pick ≡ 0 → crash_image s pick ≡ s.seen
first_pick s pick is = subst (λ p. crash_image s p ≡ s.seen) (sym is) refl

pub second_pick : (s : State) (pick : ℕ) → pick ≡ 1 → crash_image s pick ≡ s.synced
second_pick s pick is = subst (λ p. crash_image s p ≡ s.synced) (sym is) refl

pub other_pick : (s : State) (pick : ℕ) → pick ≢ 0 → pick ≢ 1
    → crash_image s pick ≡ map (image_byte s pick) (range_with_len 0 (image_length s pick))
other_pick s pick not_first not_second =
    let rest = map (image_byte s pick) (range_with_len 0 (image_length s pick)) in
    let first : nat_eq pick 0 ≡ false = grind (arith, nat_tests) in
    let second : nat_eq pick 1 ≡ false = grind (arith, nat_tests) in
    ap (λ b. if b then s.seen else if nat_eq pick 1 then s.synced else rest) first
    ∙ ap (λ b. if b then s.synced else rest) second

-- of an answer that is not an error
pub if_ok : {T E : Type 0} {P Q : T → Type 0} (r : Result T E) → ((x : T) → P x → Q x) → IfOk r P
    → IfOk r Q
if_ok (Ok x) f p = f x p
if_ok (Err e) f p = tt

pub both_ok : {T E : Type 0} {P Q R : T → Type 0} (r : Result T E)
    → ((x : T) → P x → Q x → R x) → IfOk r P → IfOk r Q → IfOk r R
both_ok (Ok x) f p q = f x p q
both_ok (Err e) f p q = tt

pub take_steps : (k : ℕ) (calls : List Call) (written : List ℕ)
    → steps_of (take k calls) written ≡ take k (steps_of calls written)
take_steps zero calls written = refl
take_steps (suc k) [] written = refl
take_steps (suc k) (call.Write at len ∷ calls) written =
    ap (λ (l : List Step). Some (at, take len written) ∷ l) (take_steps k calls (drop len written))
take_steps (suc k) (call.Sync ∷ calls) written =
    ap (λ (l : List Step). None ∷ l) (take_steps k calls written)

-- the first calls of a disk in memory
module _ (first : List ℕ) (calls : List Call) (written : List ℕ) (k : ℕ)
    (all : total calls ≡ length written)
    (fit : IsTrue (all_fit (begun first) (steps_of calls written))) where
  pub prefix_total : total (take k calls) ≤ length written
  prefix_total = omega (
    arith,
    ap total (take-append-drop k calls),
    total_parts (take k calls) (drop k calls),
    all,
  )

  fit_taken : IsTrue (all_fit (begun first) (take k (steps_of calls written)))
  fit_taken = fit_left (begun first) (take k (steps_of calls written))
      (drop k (steps_of calls written))
      (subst (λ l. IsTrue (all_fit (begun first) l))
      (sym (take-append-drop k (steps_of calls written))) fit)

  pub prefix_fit : IsTrue (all_fit (begun first) (steps_of (take k calls) written))
  prefix_fit = subst (λ l. IsTrue (all_fit (begun first) l)) (sym (take_steps k calls written))
      fit_taken

  module _ (image : List ℕ) (pick : ℕ)
      (is : image ≡ crash_image (run (begun first) (steps_of (take k calls) written)) pick) where
    pub image_is : image ≡ crash_image (run (begun first) (take k (steps_of calls written))) pick
    image_is = is ∙ ap (λ (l : List Step). crash_image (run (begun first) l) pick)
        (take_steps k calls written)

    pub is_image : IsImage (run (begun first) (take k (steps_of calls written))) image
    is_image = subst (IsImage (run (begun first) (take k (steps_of calls written)))) (sym image_is)
        (crash_image_is (run (begun first) (take k (steps_of calls written))) pick
        (seen_image first (take k (steps_of calls written)) fit_taken))

    pub is_left : k ≤ length (steps_of calls written) → Since first (steps_of calls written) k image
    is_left le = (k, omega arith, le, is_image)

    pub is_left_now : k ≡ length (steps_of calls written)
        → IsImage (run (begun first) (steps_of calls written)) image
    is_left_now e = subst (λ l. IsImage (run (begun first) l) image)
        (take_all k (steps_of calls written) (omega (arith, e))) is_image
