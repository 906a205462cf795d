-- Records that are put, and then more.
use Rattle.std.proofs.Common.{◌≡◌, ◌⊎◌, inl, inr, ℕ, ◌+◌, List, [], ◌∷◌, ◌++◌, length, take, sym}
use Rattle.std.proofs.Common.{◌∙◌, ap, subst, arith, append_assoc, length-append}
use Rattle.std.proofs.Math.Seq.{take-append-add}
use Rattle.std.proofs.lemmas.List.{take-append-le, map-append}
use Rattle.disk_model.specs.Meaning.{Meaning, IsValid}
use Rattle.disk_model.specs.Moments.{Leaves}
use Rattle.disk_model.specs.declared.disk.Disk.{Ghosts}
use Rattle.disk_model.specs.MomentLaws.{goes_trans, still_honest, then_leaves, leaves_now}
use Rattle.journal.specs.Records.{Record, Holds}
use Rattle.journal.specs.JournalFiles.{Stands, WithOrWithout}
use Rattle.journal.specs.Puts.{HoldsPrefix, HavePut}
use Rattle.journal.specs.PutLaws.{leaves_one_more}
use Rattle.archive_core_file_spec.specs.LogRecords.{LogRecord, record_of, records_of}
use Rattle.script_cli_statement.specs.ArchiveOnDisk.{HoldsAt, Archive, below, place_of}
use Rattle.script_cli_statement.specs.Due.{Due}
use Rattle.script_cli_statement.specs.Putting.{HasPut, MayHavePut}
use Rattle.script_cli.specs.Driving.{PutsSome}
use Rattle.script_cli_statement.specs.Responses.{PutBetween}
use Rattle.script_cli.proofs.DueRecords.{records_together, encoded_append}

-- ---- records

module _ (opening xs ys : List Record) where
  longer : (c : List ℕ) → HoldsPrefix opening xs 0 (length xs) c
      → HoldsPrefix opening (xs ++ ys) 0 (length (xs ++ ys)) c
  longer c (n, low, high, holds) = (
    n,
    low,
    omega (arith, high, length-append xs ys),
    subst (λ l. Holds c (opening ++ l)) (sym (take-append-le n xs ys high)) holds,
  )

  after : (c : List ℕ) → HoldsPrefix (opening ++ xs) ys 0 (length ys) c
      → HoldsPrefix opening (xs ++ ys) 0 (length (xs ++ ys)) c
  after c (n, low, high, holds) =
      let same : (opening ++ xs) ++ take n ys ≡ opening ++ take (length xs + n) (xs ++ ys) =
      append_assoc opening xs (take n ys) ∙ ap (λ (l : List Record). opening ++ l)
      (sym (take-append-add xs ys n)) in (
        length xs + n,
        omega arith,
        omega (arith, high, length-append xs ys),
        subst (Holds c) same holds,
      )

  have_then : (a b c : Meaning) (m n : ℕ) → HavePut a b m opening xs
      → HavePut b c n (opening ++ xs) ys → HavePut a c n opening (xs ++ ys)
  have_then a b c m n one two = record {
    goes = goes_trans a b c one.goes two.goes;
    leaves = then_leaves a b c (HoldsPrefix opening (xs ++ ys) 0 (length (xs ++ ys)))
        (λ f left. longer f (one.leaves f left)) one.goes two.goes
        (λ f left. after f (two.leaves f left));
    stands = subst (Stands c n) (append_assoc opening xs ys) two.stands;
  }

-- ---- what they stand for

-- and then more
pub put_then : (a b c : Meaning) (at m n : ℕ) (xs ys : List LogRecord) → HasPut a b at m xs
    → HasPut b c m n ys → HasPut a c at n (xs ++ ys)
put_then a b c at m n xs ys one two = record {
  encoded = encoded_append xs ys one.encoded two.encoded;
  goes = goes_trans a b c one.goes two.goes;
  holds = λ opening held. subst (λ (l : List LogRecord). HoldsAt c n (records_of l))
      (append_assoc opening xs ys) (two.holds (opening ++ xs) (one.holds opening held));
  have = λ opening honest stands.
      let first = one.have opening honest stands in
      let there : Stands b m (records_of (opening ++ xs)) =
      subst (Stands b m) (sym (map-append record_of opening xs)) first.stands in
      let second = two.have (opening ++ xs) (still_honest a b one.goes honest) there in
      let second_after : HavePut b c n (records_of opening ++ records_of xs) (records_of ys) =
      subst (λ (l : List Record). HavePut b c n l (records_of ys))
      (map-append record_of opening xs) second in
      subst (λ (l : List Record). HavePut a c n (records_of opening) l)
      (sym (map-append record_of xs ys))
      (have_then (records_of opening) (records_of xs) (records_of ys) a b c m n first second_after);
}

-- or the disk fails
pub put_some : (a b c : Meaning) (at m : ℕ) (xs : List LogRecord) (due : List Due) → IsValid c
    → HasPut a b at m xs → (may : MayHavePut b c m due)
    → PutsSome a c at xs (xs ++ may.its_record ∷ [])
put_some a b c at m xs due law one may =
    let d = may.its_record in
    let size : records_of (xs ++ d ∷ []) ≡ records_of xs ++ record_of d ∷ [] =
    map-append record_of xs (d ∷ []) in
    record {
      done_encoded = one.encoded;
      encoded = encoded_append xs (d ∷ []) one.encoded (may.encoded, tt);
      goes = goes_trans a b c one.goes may.puts_it.goes;
      leaves = λ opening honest stands. subst
          (λ (l : List Record). Leaves a c (HoldsPrefix (records_of opening) l 0 (length l)))
          (sym size)
          (leaves_one_more a b m (records_of opening) (records_of xs) honest
          (one.have opening honest stands) c (record_of d) may.puts_it);
      exit = λ opening honest stands f left.
          let have = one.have opening honest stands in
          let here : WithOrWithout (records_of opening ++ records_of xs) (record_of d) f =
          leaves_now b c (WithOrWithout (records_of opening ++ records_of xs) (record_of d)) law
          may.puts_it.goes
          (may.puts_it.any_moment (records_of opening ++ records_of xs)
          (still_honest a b one.goes honest) have.stands) f left in
          without_or_with opening f here;
    }
  where
    without_or_with : (opening : List LogRecord) (f : List ℕ)
        → WithOrWithout (records_of opening ++ records_of xs) (record_of may.its_record) f
        → Holds f (records_of (opening ++ xs))
        ⊎ Holds f (records_of (opening ++ (xs ++ may.its_record ∷ [])))
    without_or_with opening f (inl without) =
        inl (subst (Holds f) (sym (map-append record_of opening xs)) without)
    without_or_with opening f (inr with) =
        inr (subst (Holds f)
        (ap (λ (l : List Record). l ++ record_of may.its_record ∷ [])
        (sym (map-append record_of opening xs))
        ∙ sym (map-append record_of (opening ++ xs) (may.its_record ∷ []))
        ∙ ap records_of (append_assoc opening xs (may.its_record ∷ []))) with)

-- ---- between two moments of an archive

module _ {D : Type 0} {g : Ghosts D} where
  -- and then more
  pub then_between : (a b c : Archive D g) (xs ys : List Due) → PutBetween a b xs
      → PutBetween b c ys → PutBetween a c (xs ++ ys)
  then_between a b c xs ys one two = (
    one.0 ++ two.0,
    records_together xs ys one.0 two.0 one.1 two.1,
    put_then (below a) (below b) (below c) (place_of a) (place_of b) (place_of c) one.0 two.0 one.2
        two.2,
  )
