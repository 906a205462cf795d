-- One step more.
use Rattle.std.proofs.Common.{◌≡◌, inl, inr, ℕ, ◌+◌, ◌≤◌, List, [], ◌∷◌, ◌++◌, length, take, drop}
use Rattle.std.proofs.Common.{refl, sym, ◌∙◌, ap, subst, arith, true, IsTrue}
use Rattle.std.specs.Prelude.{Some, None}
use Rattle.std.proofs.lemmas.Bool.{cases_lt, and_from}
use Rattle.std.proofs.lemmas.Bool.Decides.{nat_tests}
use Rattle.std.proofs.lemmas.List.{take_all, take-append-le, drop-append-le, length-append}
use Rattle.std.proofs.lemmas.List.{length-drop}
use Rattle.std.proofs.lemmas.Grind.{same_number_lists}
use Rattle.disk_model.specs.Meaning.{Only}
use Rattle.disk_model.specs.Moments.{GoesOn, BeforeOrAfter}
use Rattle.disk_model.specs.DeviceCalls.{Torn, Writes, Syncs, with_bytes}
use Rattle.disk_model.specs.Images.{Step, State, begun, after, run, fits, all_fit, IsImage}
use Rattle.disk_model.specs.Calls.{total, steps_of}
use Rattle.disk_model.specs.declared.call.Call.{Call}
use Rattle.disk_model.specs.declared.call.Call.TheVariants as call
use Rattle.disk_model.specs.Memory.{meaning_of}
use Rattle.disk_model.specs.MemoryLaws.{seen_image}
use Rattle.disk_model.proofs.Shapes.{torn_with}
use Rattle.disk_model.proofs.Following.{image_follows}

pub run-push : (s : State) (steps : List Step) (step : Step)
    → run s (steps ++ step ∷ []) ≡ after step (run s steps)
run-push s [] step = refl
run-push s (x ∷ steps) step = run-push (after x s) steps step

pub fit-push : (s : State) (steps : List Step) (step : Step) → IsTrue (all_fit s steps)
    → IsTrue (fits (run s steps) step) → IsTrue (all_fit s (steps ++ step ∷ []))
fit-push s [] step fit one = and_from (fits s step) true one refl
fit-push s (x ∷ steps) step fit one =
    grind (arith, nat_tests, fit-push (after x s) steps step, and_from)

-- the bytes of the last sync are no longer than the file
pub grown : (first : List ℕ) (steps : List Step) → IsTrue (all_fit (begun first) steps)
    → length (run (begun first) steps).synced ≤ length (run (begun first) steps).seen
grown first steps fit = (seen_image first steps fit).no_shorter

module _ (first : List ℕ) (steps : List Step) (step : Step) where
  earlier : (k : ℕ) (c : List ℕ) → k ≤ length steps
      → IsImage (run (begun first) (take k (steps ++ step ∷ []))) c
      → IsImage (run (begun first) (take k steps)) c
  earlier k c le = subst (λ l. IsImage (run (begun first) l) c)
      (take-append-le k steps (step ∷ []) le)

  earlier_back : (k : ℕ) (c : List ℕ) → k ≤ length steps
      → IsImage (run (begun first) (take k steps)) c
      → IsImage (run (begun first) (take k (steps ++ step ∷ []))) c
  earlier_back k c le = subst (λ l. IsImage (run (begun first) l) c)
      (sym (take-append-le k steps (step ∷ []) le))

  longer : length (steps ++ step ∷ []) ≡ length steps + 1
  longer = length-append steps (step ∷ [])

  goes : (bytes bytes_2 : List ℕ) (faults faults_2 : ℕ) → faults ≤ faults_2
      → GoesOn (meaning_of first steps bytes faults)
      (meaning_of first (steps ++ step ∷ []) bytes_2 faults_2)
  goes bytes bytes_2 faults faults_2 counts = record {
    later = omega (arith, longer);
    joins = λ t c le left. elim (cases_lt (length steps) left.0) [
      | inl new ↦ inr (left.0, omega (arith, new), left.2, left.3)
      | inr old ↦ inl (left.0, left.1, old, earlier left.0 c old left.3)
    ];
    keeps = λ t c le left. (
      left.0,
      left.1,
      omega (arith, left.2, longer),
      earlier_back left.0 c left.2 left.3,
    );
    adds = λ t c le left. (left.0, omega (arith, le, left.1), left.2, left.3);
    counts = counts;
    honest = refl;
    same = refl;
  }

  during : (bytes bytes_2 : List ℕ) (faults faults_2 : ℕ)
      → BeforeOrAfter (meaning_of first steps bytes faults)
      (meaning_of first (steps ++ step ∷ []) bytes_2 faults_2)
  during bytes bytes_2 faults faults_2 c left = elim (cases_lt (length steps) left.0) [
    | inl new ↦ inr (subst (λ l. IsImage (run (begun first) l) c)
        (take_all left.0 (steps ++ step ∷ []) (omega (arith, longer, new))) left.3)
    | inr old ↦ inl (subst (λ l. IsImage (run (begun first) l) c) (take_all left.0 steps left.1)
        (earlier left.0 c old left.3))
  ]

-- a write that is kept
pub writes : (first : List ℕ) (steps : List Step) (at : ℕ) (put bytes bytes_2 : List ℕ) (faults : ℕ)
    → IsTrue (all_fit (begun first) steps) → bytes ≡ (run (begun first) steps).seen
    → at ≤ length bytes → bytes_2 ≡ with_bytes bytes at put
    → Writes at (length put) (meaning_of first steps bytes faults)
    (meaning_of first (steps ++ Some (at, put) ∷ []) bytes_2 faults)
writes first steps at put bytes bytes_2 faults fit same begins is = record {
  goes = goes first steps (Some (at, put)) bytes bytes_2 faults faults (omega arith);
  seen = subst (Torn at (length put) bytes) (sym is) (torn_with bytes at put begins);
  crash = λ honest c left. image_follows (run (begun first) steps) at put c
      (omega (arith, begins, ap length same)) (grown first steps fit)
      (subst (λ s. IsImage s c) (run-push (begun first) steps (Some (at, put))) left);
  during = λ honest. during first steps (Some (at, put)) bytes bytes_2 faults faults;
}

synced_image : (s : State) (c : List ℕ) → IsImage (after None s) c → c ≡ s.seen
synced_image s c image = same_number_lists c s.seen
    (omega (arith, image.no_shorter, image.no_longer))
    (λ i lt. image.stays i (omega (arith, lt, image.no_longer)) tt)

-- a sync that is kept
module _ (first : List ℕ) (steps : List Step) (bytes : List ℕ) (faults : ℕ)
    (fit : IsTrue (all_fit (begun first) steps))
    (same : bytes ≡ (run (begun first) steps).seen) where
  pub durable : Only bytes (meaning_of first (steps ++ None ∷ []) bytes faults).may_leave
  durable c left = synced_image (run (begun first) steps) c
      (subst (λ s. IsImage s c) (run-push (begun first) steps None) left) ∙ sym same

  pub syncs : Syncs (meaning_of first steps bytes faults)
      (meaning_of first (steps ++ None ∷ []) bytes faults)
  syncs = record {
    goes = goes first steps None bytes bytes faults faults (omega arith);
    tells = tt;
    crash = λ honest c left. subst (IsImage (run (begun first) steps)) (sym (durable c left ∙ same))
        (seen_image first steps fit);
    during = λ honest. during first steps None bytes bytes faults faults;
  }

pub total-push : (calls : List Call) (it : Call)
    → total (calls ++ it ∷ []) ≡ total calls + total (it ∷ [])
total-push [] it = omega arith
total-push (call.Write at len ∷ calls) it = omega (arith, total-push calls it)
total-push (call.Sync ∷ calls) it = total-push calls it

pub write-push : (calls : List Call) (written : List ℕ) (at len : ℕ) (put : List ℕ)
    → total calls ≡ length written → len ≡ length put
    → steps_of (calls ++ call.Write at len ∷ []) (written ++ put)
    ≡ steps_of calls written ++ Some (at, put) ∷ []
write-push [] [] at len put all is =
    ap (λ (l : List ℕ). Some (at, l) ∷ []) (take_all len put (omega (arith, is)))
write-push [] (x ∷ written) at len put all is = absurd (omega (arith, all))
write-push (call.Write from n ∷ calls) written at len put all is =
    let short : n ≤ length written = omega (arith, all) in
    ap (λ (l : List ℕ). Some (from, l) ∷ steps_of (calls ++ call.Write at len ∷ [])
    (drop n (written ++ put))) (take-append-le n written put short)
    ∙ ap (λ (l : List ℕ). Some (from, take n written) ∷ steps_of
    (calls ++ call.Write at len ∷ []) l) (drop-append-le n written put short)
    ∙ ap (λ (l : List Step). Some (from, take n written) ∷ l)
    (write-push calls (drop n written) at len put
    (omega (arith, all, length-drop n written)) is)
write-push (call.Sync ∷ calls) written at len put all is =
    ap (λ (l : List Step). None ∷ l) (write-push calls written at len put all is)

pub sync-push : (calls : List Call) (written : List ℕ)
    → steps_of (calls ++ call.Sync ∷ []) written ≡ steps_of calls written ++ None ∷ []
sync-push [] written = refl
sync-push (call.Write from n ∷ calls) written =
    ap (λ (l : List Step). Some (from, take n written) ∷ l) (sync-push calls (drop n written))
sync-push (call.Sync ∷ calls) written = ap (λ (l : List Step). None ∷ l) (sync-push calls written)

-- The invariant of the disk in memory, one call on.
module _ (first : List ℕ) (calls calls_2 : List Call) (written written_2 put bytes bytes_2 : List ℕ)
    (at : ℕ) (all : total calls ≡ length written)
    (fit : IsTrue (all_fit (begun first) (steps_of calls written)))
    (same : bytes ≡ (run (begun first) (steps_of calls written)).seen) (begins : at ≤ length bytes)
    (pushed : calls_2 ≡ calls ++ call.Write at (length put) ∷ [])
    (more : written_2 ≡ written ++ put) (is : bytes_2 ≡ with_bytes bytes at put) where
  pub write_steps : steps_of calls_2 written_2 ≡ steps_of calls written ++ Some (at, put) ∷ []
  write_steps = ap (λ (l : List Call). steps_of l written_2) pushed
      ∙ ap (λ (l : List ℕ). steps_of (calls ++ call.Write at (length put) ∷ []) l) more
      ∙ write-push calls written at (length put) put all refl

  pub write_total : total calls_2 ≡ length written_2
  write_total = omega (
    arith,
    ap total pushed,
    total-push calls (call.Write at (length put)),
    ap length more,
    length-append written put,
    all,
  )

  pub write_fit : IsTrue (all_fit (begun first) (steps_of calls_2 written_2))
  write_fit =
      let one : IsTrue (fits (run (begun first) (steps_of calls written)) (Some (at, put))) =
      grind (arith, nat_tests, begins, ap length same) in
      subst (λ l. IsTrue (all_fit (begun first) l)) (sym write_steps)
      (fit-push (begun first) (steps_of calls written) (Some (at, put)) fit one)

  pub write_same : bytes_2 ≡ (run (begun first) (steps_of calls_2 written_2)).seen
  write_same =
      is ∙ ap (λ (l : List ℕ). with_bytes l at put) same
      ∙ sym (ap (λ (l : List Step). (run (begun first) l).seen) write_steps
      ∙ ap (λ (s : State). s.seen) (run-push (begun first) (steps_of calls written)
      (Some (at, put))))

  pub write_writes : (faults : ℕ) → Writes at (length put)
      (meaning_of first (steps_of calls written) bytes faults)
      (meaning_of first (steps_of calls_2 written_2) bytes_2 faults)
  write_writes faults =
      subst (λ l. Writes at (length put) (meaning_of first (steps_of calls written) bytes faults)
      (meaning_of first l bytes_2 faults)) (sym write_steps)
      (writes first (steps_of calls written) at put bytes bytes_2 faults fit same begins is)

module _ (first : List ℕ) (calls calls_2 : List Call) (written bytes : List ℕ)
    (all : total calls ≡ length written)
    (fit : IsTrue (all_fit (begun first) (steps_of calls written)))
    (same : bytes ≡ (run (begun first) (steps_of calls written)).seen)
    (pushed : calls_2 ≡ calls ++ call.Sync ∷ []) where
  pub sync_steps : steps_of calls_2 written ≡ steps_of calls written ++ None ∷ []
  sync_steps = ap (λ (l : List Call). steps_of l written) pushed ∙ sync-push calls written

  pub sync_total : total calls_2 ≡ length written
  sync_total = omega (arith, ap total pushed, total-push calls call.Sync, all)

  pub sync_fit : IsTrue (all_fit (begun first) (steps_of calls_2 written))
  sync_fit = subst (λ l. IsTrue (all_fit (begun first) l)) (sym sync_steps)
      (fit-push (begun first) (steps_of calls written) None fit refl)

  pub sync_same : bytes ≡ (run (begun first) (steps_of calls_2 written)).seen
  sync_same = same ∙ sym (ap (λ (l : List Step). (run (begun first) l).seen) sync_steps
      ∙ ap (λ (s : State). s.seen) (run-push (begun first) (steps_of calls written) None))

  pub sync_syncs : (faults : ℕ) → Syncs (meaning_of first (steps_of calls written) bytes faults)
      (meaning_of first (steps_of calls_2 written) bytes faults)
  sync_syncs faults =
      subst (λ l. Syncs (meaning_of first (steps_of calls written) bytes faults)
      (meaning_of first l bytes faults)) (sym sync_steps)
      (syncs first (steps_of calls written) bytes faults fit same)

  pub sync_durable : (faults : ℕ) → Only bytes
      (meaning_of first (steps_of calls_2 written) bytes faults).may_leave
  sync_durable faults =
      subst (λ l. Only bytes (meaning_of first l bytes faults).may_leave) (sym sync_steps)
      (durable first (steps_of calls written) bytes faults fit same)

-- each call is a step
pub length-steps : (calls : List Call) (written : List ℕ)
    → length (steps_of calls written) ≡ length calls
length-steps [] written = refl
length-steps (call.Write at len ∷ calls) written =
    omega (arith, length-steps calls (drop len written))
length-steps (call.Sync ∷ calls) written = omega (arith, length-steps calls written)
