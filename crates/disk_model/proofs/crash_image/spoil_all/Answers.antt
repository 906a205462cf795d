use Rattle.std.proofs.Common.{◌≡◌, ◌+◌, ◌-◌, ◌%◌, ◌<◌, ◌++◌, List, ℕ, length, get_or, replicate}
use Rattle.std.proofs.Common.{sym}
use Rattle.std.proofs.Common.{◌∙◌, ap, subst, take_at}
use Rattle.std.specs.Prelude.{◌||◌, nat_le, if◌then◌else◌}
use Rattle.disk_model.specs.Calls.{has_written}
use Rattle.disk_model.proofs.Spoiling.{length-lengthened, lengthened}
use Rattle.disk_model.proofs.crash_image.spoil_all.Goals as goal

pub returns-clause-len : goal.returns-clause-len
returns-clause-len c =
    let byte = c.byte_of-byte.result in
    let more = c.growth_of-more.result in
    let base = c.deref_mut.result.now in
    let spoilt = c.spoil_written.new.file in
    let same = c.spoil_written.ensures.len in
    let value = c.deref_mut.ensures.value in
    let items : c.lengthen.new.file.items ≡ spoilt ++ replicate more byte =
    c.in_ok-lengthen.ensures ∙ ap (λ (l : List ℕ). l ++ replicate more byte)
    (take_at spoilt _ c.args.file.len (same ∙ c.deref_mut.ensures.len)) in
    ap (λ (l : List ℕ). length l) items
    ∙ length-lengthened c.args.since.now base spoilt more byte same c.spoil_written.ensures.bytes
    ∙ ap (λ (l : List ℕ). length l + more) value
    ∙ ap (λ n. length c.args.file.items + n) (c.growth_of-more.ensures
    ∙ ap (λ n. c.args.pick % (length c.args.seen.now - n + 1)) (c.len.ensures
    ∙ sym c.deref_mut.ensures.len ∙ ap (λ (l : List ℕ). length l) value))

pub returns-clause-bytes : goal.returns-clause-bytes
returns-clause-bytes c i lt =
    let byte = c.byte_of-byte.result in
    let more = c.growth_of-more.result in
    let base = c.deref_mut.result.now in
    let spoilt = c.spoil_written.new.file in
    let same = c.spoil_written.ensures.len in
    let since = c.args.since.now in
    let file = c.args.file.items in
    let items : c.lengthen.new.file.items ≡ spoilt ++ replicate more byte =
    c.in_ok-lengthen.ensures ∙ ap (λ (l : List ℕ). l ++ replicate more byte)
    (take_at spoilt _ c.args.file.len (same ∙ c.deref_mut.ensures.len)) in
    ap (λ (l : List ℕ). get_or l i 0) items
    ∙ lengthened since base spoilt more byte same c.spoil_written.ensures.bytes i
    (subst (λ (l : List ℕ). i < length l) items lt)
    ∙ ap (λ (l : List ℕ). if has_written since i || nat_le (length l) i then byte
    else get_or l i 0) c.deref_mut.ensures.value
    ∙ ap (λ b. if has_written since i || nat_le (length file) i then b else get_or file i 0)
    c.byte_of-byte.ensures
