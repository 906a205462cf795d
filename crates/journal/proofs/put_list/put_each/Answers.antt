use Rattle.std.proofs.Common.{◌≡◌, ◌+◌, Err, length, drop, take, sym, ◌∙◌, ap, subst, arith}
use Rattle.disk_model.specs.Moments.{GoesOn}
use Rattle.disk_model.specs.MomentLaws.{goes_trans}
use Rattle.journal.specs.Fields.{below, place_of, limit_of}
use Rattle.journal.specs.PutLists.{records_of, fitting}
use Rattle.journal.specs.Puts.{HavePut}
use Rattle.journal.specs.JournalFiles.{HasGate, sealed_record, needs}
use Rattle.journal.proofs.PutEach.{IsNotFull, fits_unless_full, step_out, step_in, inside, rest_is}
use Rattle.journal.proofs.PutEach.{is_put, failed_leaves, failed_exit, all_put, have_all}
use Rattle.journal.proofs.put_list.put_each.Goals as goal
use Rattle.journal.proofs.put_list.put_each.Goals.{in-Ok, in-Err-Full}

pub returns-in-Err-Disk-clause-any_moment : goal.returns-in-Err-Disk-clause-any_moment
returns-in-Err-Disk-clause-any_moment g c opening honest stands file left =
    let i = c.loop-sealed.invariant in
    let last = c.loop-sealed.journal in
    let it = c.sealed-item.result in
    let start = c.args.journal.now in
    let list = c.args.list.now in
    let done = c.loop-sealed.put in
    let whole = fitting (limit_of start) (place_of start) (records_of list) in
    let next = place_of last + 10 + length (sealed_record it).1 in
    let not_full : IsNotFull c.put.result = subst IsNotFull
    (sym (c.in-Err-Disk.is ∙ ap Err c.in-Err-Disk.field-0-is)) tt in
    let fits = fits_unless_full c.put.result (limit_of last)
    (place_of last + needs (sealed_record it))
    _ _ _ not_full c.put.ensures.full.1 in
    let here = step_in (limit_of start) (place_of last) list
    c.loop-sealed.sealed-index it c.loop-sealed-test.true c.sealed-item.is (drop done whole) i.rest
    next (omega (arith, fits, i.limit)) (omega arith) in
    failed_leaves whole done (sealed_record it)
    (fitting (limit_of start) next (records_of (drop (c.loop-sealed.sealed-index + 1) list))) here
    (below start) (below last) (below c.put.new.self) (place_of last) opening honest
    (i.have opening honest stands) c.put.ensures.puts file left

pub returns-in-Err-Disk-clause-stopped : goal.returns-in-Err-Disk-clause-stopped
returns-in-Err-Disk-clause-stopped g c opening honest stands file left =
    let i = c.loop-sealed.invariant in
    let last = c.loop-sealed.journal in
    let it = c.sealed-item.result in
    let start = c.args.journal.now in
    let list = c.args.list.now in
    let done = c.loop-sealed.put in
    let whole = fitting (limit_of start) (place_of start) (records_of list) in
    let next = place_of last + 10 + length (sealed_record it).1 in
    let not_full : IsNotFull c.put.result = subst IsNotFull
    (sym (c.in-Err-Disk.is ∙ ap Err c.in-Err-Disk.field-0-is)) tt in
    let fits = fits_unless_full c.put.result (limit_of last)
    (place_of last + needs (sealed_record it))
    _ _ _ not_full c.put.ensures.full.1 in
    let here = step_in (limit_of start) (place_of last) list
    c.loop-sealed.sealed-index it c.loop-sealed-test.true c.sealed-item.is (drop done whole) i.rest
    next (omega (arith, fits, i.limit)) (omega arith) in
    failed_exit whole done (sealed_record it)
    (fitting (limit_of start) next (records_of (drop (c.loop-sealed.sealed-index + 1) list))) here
    (below start) (below last) (below c.put.new.self) (place_of last) opening honest
    (i.have opening honest stands) c.put.ensures.puts (g.met.D.Disk.valid c.put.new.self.disk)
    file left

pub loop-sealed-preserved : goal.loop-sealed-preserved
loop-sealed-preserved g c =
    let M = g.D.Disk.meaning in
    let i = c.loop-sealed.invariant in
    let start = c.args.journal.now in
    let last = c.loop-sealed.journal in
    let new = c.put.new.self in
    let it = c.sealed-item.result in
    let list = c.args.list.now in
    let at = c.loop-sealed.sealed-index in
    let done = c.loop-sealed.put in
    let r = sealed_record it in
    let whole = fitting (limit_of start) (place_of start) (records_of list) in
    let after = records_of (drop (at + 1) list) in
    elim c.match-put.branch [
      | in-Ok w ↦
          let fits = fits_unless_full c.put.result (limit_of last) (place_of last + needs r) _ _ _
          (subst IsNotFull (sym w.in-Ok.is) tt) c.put.ensures.full.1 in
          let here = step_in (limit_of start) (place_of last) list at it c.loop-sealed-test.true
          c.sealed-item.is (drop done whole) i.rest (place_of new) (omega (arith, fits, i.limit))
          w.in-Ok.ensures.place in
          record {
            ready = w.in-Ok.ensures.ready;
            limit = c.put.ensures.limit ∙ i.limit;
            goes = goes_trans _ _ _ i.goes c.put.ensures.puts.goes;
            unfailed = w.in-Ok.ensures.unfailed ∙ i.unfailed;
            rest = subst (λ n. drop n whole ≡ fitting (limit_of start) (place_of new) after)
                (sym w.put-is) (rest_is whole done r _ here);
            within = omega (arith, w.put-is, inside whole done r _ here);
            counted = omega (arith, w.put-is, i.counted);
            have = λ opening honest stands.
                subst (λ n. HavePut (below start) (below new) (place_of new) opening (take n whole))
                (sym w.put-is)
                (is_put whole done r _ here (below start) (below last) (below new) (place_of last)
                opening honest (i.have opening honest stands) c.put.ensures.puts (place_of new)
                w.in-Ok.ensures.acknowledged);
          }
      | in-Err-Full w ↦
          let beyond = c.put.ensures.full_alone _ _ _
          (w.in-Err-Full.is ∙ ap Err w.in-Err-Full.field-0-is) in
          let same = c.put.ensures.unchanged beyond in
          let out = step_out (limit_of start) (place_of last) list at it c.loop-sealed-test.true
          c.sealed-item.is (drop done whole) i.rest (omega (arith, beyond, i.limit)) in
          record {
            ready = subst (λ d. HasGate (M d) (place_of new)) (sym same.0)
                (subst (λ n. HasGate (below last) n) (sym same.1) i.ready);
            limit = c.put.ensures.limit ∙ i.limit;
            goes = subst (λ d. GoesOn (below start) (M d)) (sym same.0) i.goes;
            unfailed = ap (λ d. (M d).faults) same.0 ∙ i.unfailed;
            rest = subst (λ n. drop n whole ≡ fitting (limit_of start) (place_of new) after)
                (sym w.put-is) (out ∙ ap (λ n. fitting (limit_of start) n after) (sym same.1));
            within = omega (arith, w.put-is, i.within);
            counted = omega (arith, w.put-is, i.counted);
            have = λ opening honest stands.
                subst (λ n. HavePut (below start) (below new) (place_of new) opening (take n whole))
                (sym w.put-is)
                (subst (λ n. HavePut (below start) (below new) n opening (take done whole))
                (sym same.1)
                (subst (λ d. HavePut (below start) (M d) (place_of last) opening (take done whole))
                (sym same.0) (i.have opening honest stands)));
          }
    ]

pub returns-clause-all : goal.returns-clause-all
returns-clause-all g c =
    let i = c.loop-sealed.invariant in
    let start = c.args.journal.now in
    let now = c.loop-sealed.journal in
    let whole = fitting (limit_of start) (place_of start) (records_of c.args.list.now) in
    omega (
      arith,
      i.within,
      all_put (limit_of start) (place_of now)
          c.loop-sealed.sealed-index c.loop-sealed.put c.args.list.now whole
          (omega (arith, c.loop-sealed-test.false)) i.rest,
    )

pub returns-clause-any_moment : goal.returns-clause-any_moment
returns-clause-any_moment g c opening honest stands file left =
    let i = c.loop-sealed.invariant in
    let start = c.args.journal.now in
    let now = c.loop-sealed.journal in
    let whole = fitting (limit_of start) (place_of start) (records_of c.args.list.now) in
    let end = all_put (limit_of start) (place_of now)
    c.loop-sealed.sealed-index c.loop-sealed.put c.args.list.now whole
    (omega (arith, c.loop-sealed-test.false)) i.rest in
    (have_all whole c.loop-sealed.put end i.within (below start) (below now) (place_of now) opening
    (i.have opening honest stands)).leaves
    file left

pub returns-clause-stands : goal.returns-clause-stands
returns-clause-stands g c opening honest stands =
    let i = c.loop-sealed.invariant in
    let start = c.args.journal.now in
    let now = c.loop-sealed.journal in
    let whole = fitting (limit_of start) (place_of start) (records_of c.args.list.now) in
    let end = all_put (limit_of start) (place_of now)
    c.loop-sealed.sealed-index c.loop-sealed.put c.args.list.now whole
    (omega (arith, c.loop-sealed-test.false)) i.rest in
    (have_all whole c.loop-sealed.put end i.within (below start) (below now) (place_of now) opening
    (i.have opening honest stands)).stands
