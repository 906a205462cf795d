-- The list of writes and syncs, followed anew.
use Rattle.std.proofs.Common.{◌≡◌, ℕ, suc, ◌+◌, ◌<◌, ◌≤◌, List, [], ◌∷◌}
use Rattle.std.proofs.Common.{length, get_or, take, drop, refl, sym, ◌∙◌, ap, subst, arith}
use Rattle.std.proofs.Common.{true, false, Bool, IsTrue, drop-drop, drop-cons}
use Rattle.std.specs.Prelude.{Some, None, nat_le, ◌&&◌}
use Rattle.std.proofs.lemmas.Bool.{both_ways}
use Rattle.std.proofs.lemmas.Bool.Decides.{nat_tests}
use Rattle.disk_model.specs.DeviceCalls.{with_bytes}
use Rattle.disk_model.specs.Images.{Step, State, begun, after, run, all_fit}
use Rattle.disk_model.specs.Calls.{total, steps_of}
use Rattle.disk_model.specs.declared.call.Call.{Call}
use Rattle.disk_model.specs.declared.call.Call.TheVariants as call

-- what a read gives, and which writes fit, rest on what a read gave before
pub run_seen : (s t : State) (steps : List Step) → s.seen ≡ t.seen
    → (run s steps).seen ≡ (run t steps).seen
run_seen s t [] same = same
run_seen s t (Some write ∷ steps) same =
    run_seen (after (Some write) s) (after (Some write) t) steps
    (ap (λ (l : List ℕ). with_bytes l write.0 write.1) same)
run_seen s t (None ∷ steps) same = run_seen (after None s) (after None t) steps same

pub fit_seen : (s t : State) (steps : List Step) → s.seen ≡ t.seen
    → all_fit s steps ≡ all_fit t steps
fit_seen s t [] same = refl
fit_seen s t (Some write ∷ steps) same =
    ap (λ (l : List ℕ). nat_le write.0 (length l) && all_fit (after (Some write) s) steps) same
    ∙ ap (λ b. nat_le write.0 (length t.seen) && b)
    (fit_seen (after (Some write) s) (after (Some write) t) steps
    (ap (λ (l : List ℕ). with_bytes l write.0 write.1) same))
fit_seen s t (None ∷ steps) same = fit_seen (after None s) (after None t) steps same

and_left : (a b : Bool) → IsTrue (a && b) → IsTrue a
and_left true b h = refl
and_left false b h = absurd (both_ways false refl h)

and_right : (a b : Bool) → IsTrue (a && b) → IsTrue b
and_right true b h = h
and_right false b h = absurd (both_ways false refl h)

-- the first of the calls is a write
module _ (file written : List ℕ) (at len : ℕ) (calls : List Call)
    (fit : IsTrue (all_fit (begun file) (steps_of (call.Write at len ∷ calls) written))) where
  abbrev write : State
  write = after (Some (at, take len written)) (begun file)

  pub write_begins : at ≤ length file
  write_begins =
      let h : IsTrue (nat_le at (length file)) =
      and_left (nat_le at (length file)) (all_fit write (steps_of calls (drop len written))) fit in
      grind (arith, nat_tests)

  pub write_fits : IsTrue (all_fit (begun (with_bytes file at (take len written)))
      (steps_of calls (drop len written)))
  write_fits = subst IsTrue
      (fit_seen write (begun (with_bytes file at (take len written)))
      (steps_of calls (drop len written)) refl)
      (and_right (nat_le at (length file)) (all_fit write (steps_of calls (drop len written))) fit)

  pub write_runs : (run (begun (with_bytes file at (take len written)))
      (steps_of calls (drop len written))).seen
      ≡ (run (begun file) (steps_of (call.Write at len ∷ calls) written)).seen
  write_runs = run_seen (begun (with_bytes file at (take len written))) write
      (steps_of calls (drop len written)) refl

-- the first of the calls is a sync
module _ (file written : List ℕ) (calls : List Call) where
  pub sync_fits : IsTrue (all_fit (begun file) (steps_of (call.Sync ∷ calls) written))
      → IsTrue (all_fit (begun file) (steps_of calls written))
  sync_fits fit = fit

  pub sync_runs : (run (begun file) (steps_of calls written)).seen
      ≡ (run (begun file) (steps_of (call.Sync ∷ calls) written)).seen
  sync_runs = refl

-- one call more, where it is a write
module _ (calls : List Call) (d : Call) (k used at len : ℕ) (file file_2 written : List ℕ)
    (lt : k < length calls) (is : get_or calls k d ≡ call.Write at len)
    (fit : IsTrue (all_fit (begun file) (steps_of (drop k calls) (drop used written)))) where
  first_write : drop k calls ≡ call.Write at len ∷ drop (k + 1) calls
  first_write =
      let next : suc k ≡ k + 1 = omega arith in
      drop-cons calls k d lt ∙ ap (λ (c : Call). c ∷ drop (suc k) calls) is
      ∙ ap (λ n. call.Write at len ∷ drop n calls) next

  fit_here : IsTrue (all_fit (begun file) (steps_of (call.Write at len ∷ drop (k + 1) calls)
      (drop used written)))
  fit_here = subst (λ l. IsTrue (all_fit (begun file) (steps_of l (drop used written)))) first_write
      fit

  behind : drop len (drop used written) ≡ drop (used + len) written
  behind = drop-drop len used written

  pub begins : at ≤ length file
  begins = write_begins file (drop used written) at len (drop (k + 1) calls) fit_here

  pub used_step : (all : ℕ) → used + total (drop k calls) ≡ all
      → used + len + total (drop (k + 1) calls) ≡ all
  used_step all is_all = omega (arith, is_all, ap total first_write)

  module _ (put : file_2 ≡ with_bytes file at (take len (drop used written))) where
    pub fit_step : IsTrue (all_fit (begun file_2)
        (steps_of (drop (k + 1) calls) (drop (used + len) written)))
    fit_step =
        subst (λ l. IsTrue (all_fit (begun l)
        (steps_of (drop (k + 1) calls) (drop (used + len) written)))) (sym put)
        (subst (λ l. IsTrue (all_fit (begun (with_bytes file at (take len (drop used written))))
        (steps_of (drop (k + 1) calls) l))) behind
        (write_fits file (drop used written) at len (drop (k + 1) calls) fit_here))

    pub seen_step : (run (begun file_2) (steps_of (drop (k + 1) calls)
        (drop (used + len) written))).seen
        ≡ (run (begun file) (steps_of (drop k calls) (drop used written))).seen
    seen_step =
        ap (λ (l : List ℕ). (run (begun l) (steps_of (drop (k + 1) calls)
        (drop (used + len) written))).seen) put
        ∙ ap (λ (l : List ℕ). (run (begun (with_bytes file at (take len (drop used written))))
        (steps_of (drop (k + 1) calls) l)).seen) (sym behind)
        ∙ write_runs file (drop used written) at len (drop (k + 1) calls) fit_here
        ∙ ap (λ (l : List Call). (run (begun file) (steps_of l (drop used written))).seen)
        (sym first_write)

-- one call more, where it is a sync
module _ (calls : List Call) (d : Call) (k : ℕ) (file written : List ℕ) (lt : k < length calls)
    (is : get_or calls k d ≡ call.Sync) where
  first_sync : drop k calls ≡ call.Sync ∷ drop (k + 1) calls
  first_sync =
      let next : suc k ≡ k + 1 = omega arith in
      drop-cons calls k d lt ∙ ap (λ (c : Call). c ∷ drop (suc k) calls) is
      ∙ ap (λ n. call.Sync ∷ drop n calls) next

  pub sync_total : total (drop (k + 1) calls) ≡ total (drop k calls)
  sync_total = sym (ap total first_sync)

  pub fit_sync : IsTrue (all_fit (begun file) (steps_of (drop k calls) written))
      → IsTrue (all_fit (begun file) (steps_of (drop (k + 1) calls) written))
  fit_sync fit = subst (λ l. IsTrue (all_fit (begun file) (steps_of l written))) first_sync fit

  pub seen_sync : (run (begun file) (steps_of (drop (k + 1) calls) written)).seen
      ≡ (run (begun file) (steps_of (drop k calls) written)).seen
  seen_sync = ap (λ (l : List Call). (run (begun file) (steps_of l written)).seen) (sym first_sync)
