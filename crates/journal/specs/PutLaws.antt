-- Whatever is put, and wherever it stops, a crash leaves the opening records and after them a
-- prefix of those put, with all that were answered Ok.
use Rattle.std.proofs.Common.{◌≡◌, inl, inr, ℕ, ◌+◌, ◌≤◌, IsTrue, List, [], ◌∷◌, ◌++◌}
use Rattle.std.proofs.Common.{length}
use Rattle.std.proofs.Common.{take, sym, ◌∙◌, ap, subst, arith, append_assoc, length-append}
use Rattle.std.proofs.Math.Seq.{take-append_seam, take-append-add}
use Rattle.std.proofs.lemmas.List.{append-nil, take_all, take-append-le}
use Rattle.disk_model.specs.Meaning.{Meaning, IsValid}
use Rattle.disk_model.specs.Moments.{Leaves}
use Rattle.disk_model.specs.MomentLaws.{goes_refl, goes_trans, still_honest, then_leaves}
use Rattle.disk_model.specs.MomentLaws.{leaves_now}
use Rattle.journal.specs.Records.{Record, Holds}
use Rattle.journal.specs.JournalFiles.{Stands, WithOrWithout}
use Rattle.journal.specs.Puts.{Puts, Acknowledges, ArePut, HoldsPrefix, HavePut}

module _ (opening put : List Record) where
  -- the records before, with the new one or without
  one_more : (r : Record) (c : List ℕ) → WithOrWithout (opening ++ put) r c
      → HoldsPrefix opening (put ++ r ∷ []) (length put) (length put + 1) c
  one_more r c (inl without) =
      let same : put ≡ take (length put) (put ++ r ∷ []) = sym (take-append_seam put (r ∷ [])) in (
        length put,
        omega arith,
        omega arith,
        subst (λ l. Holds c (opening ++ l)) same without,
      )
  one_more r c (inr with) =
      let whole : take (length put + 1) (put ++ r ∷ []) ≡ put ++ r ∷ [] =
      take_all (length put + 1) (put ++ r ∷ []) (omega (arith, length-append put (r ∷ []))) in
      let same : (opening ++ put) ++ r ∷ [] ≡ opening ++ take (length put + 1) (put ++ r ∷ []) =
      append_assoc opening put (r ∷ []) ∙ ap (λ (l : List Record). opening ++ l) (sym whole) in
      (length put + 1, omega arith, omega arith, subst (Holds c) same with)

  -- a prefix of the first of them is one of them all
  longer : (more : List Record) (least most : ℕ) (c : List ℕ) → most ≤ length put
      → HoldsPrefix opening put least most c → HoldsPrefix opening (put ++ more) least most c
  longer more least most c within (n, low, high, holds) =
      let same : take n put ≡ take n (put ++ more) =
      sym (take-append-le n put more (omega (arith, high, within))) in
      (n, low, high, subst (λ l. Holds c (opening ++ l)) same holds)

  -- a prefix of those after them
  after : (more : List Record) (least most : ℕ) (c : List ℕ)
      → HoldsPrefix (opening ++ put) more least most c
      → HoldsPrefix opening (put ++ more) (length put + least) (length put + most) c
  after more least most c (n, low, high, holds) =
      let same : (opening ++ put) ++ take n more ≡ opening ++ take (length put + n) (put ++ more) =
      append_assoc opening put (take n more)
      ∙ ap (λ (l : List Record). opening ++ l) (sym (take-append-add put more n)) in
      (length put + n, omega (arith, low), omega (arith, high), subst (Holds c) same holds)

-- the bounds may be wider
wider : (opening put : List Record) (a b x y : ℕ) (c : List ℕ) → x ≤ a → b ≤ y
    → HoldsPrefix opening put a b c → HoldsPrefix opening put x y c
wider opening put a b x y c low high (n, from, to, holds) =
    (n, omega (arith, low, from), omega (arith, high, to), holds)

-- nothing has been put
pub have_none : (d : Meaning) (gate : ℕ) (opening : List Record) → IsValid d
    → Stands d gate opening → HavePut d d gate opening []
have_none d gate opening law stands = record {
  goes = goes_refl d law;
  leaves = λ c left.
      let here = subst (λ f. Holds f opening)
      (sym (stands.durable c (law.only_now c left))) stands.holds in
      (0, omega arith, omega arith, subst (Holds c) (sym (append-nil opening)) here);
  stands = subst (Stands d gate) (sym (append-nil opening)) stands;
}

module _ (start last : Meaning) (gate : ℕ) (opening put : List Record)
    (honest : IsTrue start.is_honest)
    (have : HavePut start last gate opening put) where
  -- a put follows, of whatever answer: at each moment
  pub leaves_one_more : (new : Meaning) (r : Record) → Puts last new gate r
      → Leaves start new (HoldsPrefix opening (put ++ r ∷ []) 0 (length (put ++ r ∷ [])))
  leaves_one_more new r puts =
      let still = still_honest start last have.goes honest in
      let size : length (put ++ r ∷ []) ≡ length put + 1 = length-append put (r ∷ []) in
      then_leaves start last new (HoldsPrefix opening (put ++ r ∷ []) 0 (length (put ++ r ∷ [])))
      (λ c left. wider opening (put ++ r ∷ []) 0 (length put) 0 (length (put ++ r ∷ [])) c
      (omega arith) (omega (arith, size))
      (longer opening put (r ∷ []) 0 (length put) c (omega arith) (have.leaves c left)))
      have.goes puts.goes
      (λ c left. wider opening (put ++ r ∷ []) (length put) (length put + 1) 0
      (length (put ++ r ∷ [])) c
      (omega arith) (omega (arith, size))
      (one_more opening put r c (puts.any_moment
      (opening ++ put) still have.stands c left)))

  -- and after it: all that were answered Ok, and at most that one more
  pub exit_one_more : (new : Meaning) (r : Record) → IsValid new → Puts last new gate r
      → (c : List ℕ) → new.may_leave c
      → HoldsPrefix opening (put ++ r ∷ []) (length put) (length put + 1) c
  exit_one_more new r law puts c left =
      let still = still_honest start last have.goes honest in
      one_more opening put r c
      (leaves_now last new (WithOrWithout (opening ++ put) r) law puts.goes
      (puts.any_moment (opening ++ put) still have.stands) c left)

  -- it is answered Ok
  pub have_more : (new : Meaning) (next : ℕ) (r : Record) → Puts last new gate r
      → Acknowledges last new gate next r → HavePut start new next opening (put ++ r ∷ [])
  have_more new next r puts acknowledges = record {
    goes = goes_trans start last new have.goes puts.goes;
    leaves = leaves_one_more new r puts;
    stands = subst (Stands new next) (append_assoc opening put (r ∷ []))
        (acknowledges (opening ++ put) (still_honest start last have.goes honest) have.stands);
  }

-- puts after one another
pub have_put : (start now : Meaning) (at gate : ℕ) (opening put : List Record) → IsValid start
    → IsTrue start.is_honest → Stands start at opening → ArePut start at put now gate
    → HavePut start now gate opening put
have_put start now at gate opening put law honest stands (ArePut.none d place) =
    have_none start at opening law stands
have_put start now at gate opening put law honest stands
    (ArePut.more a last b c mid next rs r before puts ok) =
    have_more start last mid opening rs honest
    (have_put start last at mid opening rs law honest stands before) now gate r puts ok

-- From the moment on at which some puts had been answered Ok, their records are in every file that
-- a crash leaves, whatever is put after them.
module _ (start mid last : Meaning) (at gate place : ℕ) (opening put more : List Record)
    (law : IsValid start) (law_mid : IsValid mid) (honest : IsTrue start.is_honest)
    (stands : Stands start at opening) (before : ArePut start at put mid gate)
    (then : ArePut mid gate more last place) where
  pub first : HavePut start mid gate opening put
  first = have_put start mid at gate opening put law honest stands before

  still : IsTrue mid.is_honest
  still = still_honest start mid first.goes honest

  pub second : HavePut mid last place (opening ++ put) more
  second = have_put mid last gate place (opening ++ put) more law_mid still first.stands then

  pub from_then_on : Leaves mid last (HoldsPrefix opening (put ++ more) (length put)
      (length (put ++ more)))
  from_then_on c left =
      wider opening (put ++ more) (length put + 0) (length put + length more) (length put)
      (length (put ++ more)) c (omega arith) (omega (arith, length-append put more))
      (after opening put more 0 (length more) c (second.leaves c left))

  -- the same where one more put follows that may have failed
  pub from_then_on_stopped : (new : Meaning) (r : Record) → Puts last new place r
      → Leaves mid new (HoldsPrefix opening (put ++ (more ++ r ∷ [])) (length put)
      (length (put ++ (more ++ r ∷ []))))
  from_then_on_stopped new r puts c left =
      wider opening (put ++ (more ++ r ∷ [])) (length put + 0)
      (length put + length (more ++ r ∷ []))
      (length put) (length (put ++ (more ++ r ∷ []))) c (omega arith)
      (omega (arith, length-append put (more ++ r ∷ [])))
      (after opening put (more ++ r ∷ []) 0 (length (more ++ r ∷ [])) c
      (leaves_one_more mid last place (opening ++ put) more still second new r puts c left))

  -- and from the start on: a prefix of them all
  pub all_the_while : (new : Meaning) (r : Record) → Puts last new place r
      → Leaves start new (HoldsPrefix opening (put ++ (more ++ r ∷ [])) 0
      (length (put ++ (more ++ r ∷ []))))
  all_the_while new r puts =
      let whole = put ++ (more ++ r ∷ []) in
      then_leaves start mid new (HoldsPrefix opening whole 0 (length whole))
      (λ c left. wider opening whole 0 (length put) 0 (length whole) c (omega arith)
      (omega (arith, length-append put (more ++ r ∷ [])))
      (longer opening put (more ++ r ∷ []) 0 (length put) c (omega arith) (first.leaves c left)))
      first.goes (goes_trans mid last new second.goes puts.goes)
      (λ c left. wider opening whole (length put) (length whole) 0 (length whole) c (omega arith)
      (omega arith) (from_then_on_stopped new r puts c left))
