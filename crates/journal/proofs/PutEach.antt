-- One step of a list of puts: a record that is left out, one that is put, and one that fails.
use Rattle.std.proofs.Common.{◌≡◌, ℕ, ◌+◌, ◌<◌, ◌≤◌, IsTrue, List, [], ◌∷◌, ◌++◌, length, get_or}
use Rattle.std.proofs.Common.{take, drop, sym, ◌∙◌, ap, subst, arith}
use Rattle.std.proofs.Common.{Result, Ok, Err, ⊎_elim}
use Rattle.std.proofs.lemmas.Bool.{cases_lt, cond_below, cond_above}
use Rattle.std.proofs.lemmas.List.{take_more, take-take, take_all, length-drop, drop-drop}
use Rattle.std.proofs.lemmas.List.{get_or-drop}
use Rattle.std.proofs.lemmas.List.{drop_more, drop_all, length-take-le}
use Rattle.disk_model.specs.Meaning.{Meaning, IsValid}
use Rattle.disk_model.specs.Moments.{Leaves}
use Rattle.journal.specs.Puts.{Puts, Acknowledges, HoldsPrefix, HavePut}
use Rattle.journal.specs.PutLaws.{leaves_one_more, exit_one_more, have_more}
use Rattle.journal.specs.PutLists.{records_of, fitting}
use Rattle.journal.specs.Records.{Record, Holds}
use Rattle.journal.specs.JournalFiles.{sealed_record, needs}
use Rattle.journal.specs.declared.sealed.Sealed.{Sealed}
use Rattle.journal.specs.declared.fault.PutFault.{PutFault}
use Rattle.journal.specs.declared.fault.PutFault.TheVariants as put

pub left_out : (limit at : ℕ) (r : Record) (rs : List Record) → limit < at + needs r
    → fitting limit at (r ∷ rs) ≡ fitting limit at rs
left_out limit at r rs beyond =
    sym (cond_below limit (at + needs r) (fitting limit at rs)
    (r ∷ fitting limit (at + 10 + length r.1) rs) beyond)

pub put_first : (limit at next : ℕ) (r : Record) (rs : List Record) → at + needs r ≤ limit
    → next + 1 ≡ at + needs r → fitting limit at (r ∷ rs) ≡ r ∷ fitting limit next rs
put_first limit at next r rs within place =
    let same : next ≡ at + 10 + length r.1 = omega (arith, place) in
    sym (cond_above limit (at + needs r) (fitting limit at rs)
    (r ∷ fitting limit (at + 10 + length r.1) rs) (r ∷ fitting limit next rs) within
    (ap (λ n. r ∷ fitting limit n rs) same))

-- the records from one of the list on
pub records_from : (list : List Sealed) (i : ℕ) (it : Sealed) → i < length list
    → it ≡ get_or list i it
    → records_of (drop i list) ≡ sealed_record it ∷ records_of (drop (i + 1) list)
records_from list i it within is =
    ap records_of (drop_more list i it within)
    ∙ ap (λ s. sealed_record s ∷ records_of (drop (i + 1) list)) (sym is)

-- a put did not answer that the record does not fit
abbrev pub IsNotFull : {U : Type 0} → Result U PutFault → Type 0
IsNotFull (Ok x) = Unit {0}
IsNotFull (Err put.Disk) = Unit {0}
IsNotFull (Err (put.Full at need limit)) = ⊥

pub fits_unless_full : {U : Type 0} (r : Result U PutFault) (limit end a n l : ℕ) → IsNotFull r
    → (limit < end → r ≡ Err (put.Full a n l)) → end ≤ limit
fits_unless_full r limit end a n l not_full full =
    ⊎_elim (λ beyond. absurd (subst IsNotFull (full beyond) not_full)) (λ within. within)
    (cases_lt limit end)

-- the record after those of the list that have been tried is left out, or put
module _ (limit at : ℕ) (list : List Sealed) (i : ℕ) (it : Sealed) (within : i < length list)
    (is : it ≡ get_or list i it) (left : List Record)
    (rest : left ≡ fitting limit at (records_of (drop i list))) where
  next_is : left ≡ fitting limit at (sealed_record it ∷ records_of (drop (i + 1) list))
  next_is = rest ∙ ap (fitting limit at) (records_from list i it within is)

  pub step_out : limit < at + needs (sealed_record it)
      → left ≡ fitting limit at (records_of (drop (i + 1) list))
  step_out beyond =
      next_is ∙ left_out limit at (sealed_record it) (records_of (drop (i + 1) list)) beyond

  pub step_in : (next : ℕ) → at + needs (sealed_record it) ≤ limit
      → next + 1 ≡ at + needs (sealed_record it)
      → left ≡ sealed_record it ∷ fitting limit next (records_of (drop (i + 1) list))
  step_in next fits place =
      next_is ∙ put_first limit at next (sealed_record it) (records_of (drop (i + 1) list)) fits
      place

-- nothing is left to be put
pub all_put : (limit at i done : ℕ) (list : List Sealed) (whole : List Record) → length list ≤ i
    → drop done whole ≡ fitting limit at (records_of (drop i list)) → length whole ≤ done
all_put limit at i done list whole end rest =
    let none = rest ∙ ap (λ l. fitting limit at (records_of l)) (drop_all i list end) in
    omega (arith, length-drop done whole, ap length none)

module _ (whole : List Record) (done : ℕ) (r : Record) (rest : List Record)
    (here : drop done whole ≡ r ∷ rest) where
  pub inside : done < length whole
  inside = omega (arith, length-drop done whole, ap length here)

  pub rest_is : drop (done + 1) whole ≡ rest
  rest_is = sym (drop-drop 1 done whole) ∙ ap (λ l. drop 1 l) here

  one_more : take done whole ++ r ∷ [] ≡ take (done + 1) whole
  one_more =
      let place : done + 0 ≡ done = omega arith in
      let at : get_or whole done r ≡ r =
      ap (λ n. get_or whole n r) (sym place) ∙ sym (get_or-drop done whole 0 r)
      ∙ ap (λ (l : List Record). get_or l 0 r) here in
      sym (take_more whole done r inside ∙ ap (λ (x : Record). take done whole ++ x ∷ []) at)

  -- a prefix of the first of them is one of them all
  of_whole : (opening : List Record) (least most : ℕ) (c : List ℕ) → most ≤ done + 1
      → HoldsPrefix opening (take done whole ++ r ∷ []) least most c
      → HoldsPrefix opening whole least most c
  of_whole opening least most c few (n, low, high, holds) =
      let same : take n (take done whole ++ r ∷ []) ≡ take n whole =
      ap (λ l. take n l) one_more ∙ take-take n (done + 1) whole (omega (arith, high, few)) in
      (n, low, high, subst (λ l. Holds c (opening ++ l)) same holds)

  module _ (start last new : Meaning) (gate : ℕ) (opening : List Record)
      (honest : IsTrue start.is_honest)
      (have : HavePut start last gate opening (take done whole)) (puts : Puts last new gate r) where
    pub is_put : (next : ℕ) → Acknowledges last new gate next r
        → HavePut start new next opening (take (done + 1) whole)
    is_put next acknowledges =
        subst (HavePut start new next opening) one_more
        (have_more start last gate opening (take done whole) honest have new next r puts
        acknowledges)

    size : length (take done whole ++ r ∷ []) ≡ done + 1
    size = ap length one_more ∙ length-take-le (done + 1) whole (omega (arith, inside))

    -- it failed: at each moment
    pub failed_leaves : Leaves start new (HoldsPrefix opening whole 0 (length whole))
    failed_leaves c left =
        let prefix = leaves_one_more start last gate opening (take done whole) honest have new r
        puts
        c left in
        let held = of_whole opening 0 (length (take done whole ++ r ∷ [])) c (omega (arith, size))
        prefix in
        (held.0, held.1, omega (arith, held.2, size, inside), held.3)

    -- and after it
    pub failed_exit : IsValid new → (c : List ℕ) → new.may_leave c
        → HoldsPrefix opening whole done (done + 1) c
    failed_exit law c left =
        let short : length (take done whole) ≡ done =
        length-take-le done whole (omega (arith, inside)) in
        let prefix = exit_one_more start last gate opening (take done whole) honest have new r law
        puts c left in
        let held = of_whole opening (length (take done whole)) (length (take done whole) + 1) c
        (omega (arith, short)) prefix in
        (held.0, omega (arith, held.1, short), omega (arith, held.2, short), held.3)

-- all of them are put
module _ (whole : List Record) (done : ℕ) (end : length whole ≤ done) (within : done ≤ length whole)
    (start now : Meaning) (gate : ℕ) (opening : List Record)
    (have : HavePut start now gate opening (take done whole)) where
  pub have_all : HavePut start now gate opening whole
  have_all = subst (HavePut start now gate opening) (take_all done whole end) have

  pub all_left : (c : List ℕ) → now.may_leave c → HoldsPrefix opening whole done done c
  all_left c left =
      let stands = have.stands in (
        done,
        omega arith,
        omega arith,
        subst (λ f. Holds f (opening ++ take done whole)) (sym (stands.durable c left))
            stands.holds,
      )
