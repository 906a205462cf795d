use Rattle.std.proofs.Common.{rules, ◌≡◌, ◌<◌, [], ◌∷◌, length, get_or, ap, sym, ◌∙◌, subst, arith}
use Rattle.std.proofs.lemmas.List.{get_or_default}
use Rattle.prima_base.specs.Bytes.{IsTxt}
use Rattle.history_store_columns.specs.TextFields.{parts}
use Rattle.history_store_columns.proofs.StoredTexts.{length-parts, part_at, rise_at, valid_at}
use Rattle.history_store_columns.proofs.text_buffer.TextBuffer.text.Goals as goal

pub start_of-requires : goal.start_of-requires
start_of-requires c =
    let a = c.self.inside in
    let h : c.args.at < length (parts 0 a.ends.items a.bytes.items) =
    rw (← c.self.view_is) at c.requires in
    let m = length-parts 0 a.ends.items a.bytes.items in
    let b : c.args.at < length a.ends.items = omega (arith, h, m) in
    let n : length c.deref-2.result.now ≡ length a.ends.items = ap length c.deref-2.ensures.value in
    omega (arith, b, n)

pub index-requires : goal.index-requires
index-requires c =
    let a = c.self.inside in
    let h : c.args.at < length (parts 0 a.ends.items a.bytes.items) =
    rw (← c.self.view_is) at c.requires in
    let m = length-parts 0 a.ends.items a.bytes.items in
    let b : c.args.at < length a.ends.items = omega (arith, h, m) in
    search rules

pub part-requires-clause-order : goal.part-requires-clause-order
part-requires-clause-order c =
    let a = c.self.inside in
    let h : c.args.at < length (parts 0 a.ends.items a.bytes.items) =
    rw (← c.self.view_is) at c.requires in
    let m = length-parts 0 a.ends.items a.bytes.items in
    let b : c.args.at < length a.ends.items = omega (arith, h, m) in
    let s : c.start_of.result ≡ get_or (0 ∷ a.ends.items) c.args.at 0 = c.start_of.ensures
    ∙ ap (λ xs. get_or (0 ∷ xs) c.args.at 0) c.deref-2.ensures.value in
    let e : c.index.result.now ≡ get_or a.ends.items c.args.at 0 = c.index.ensures
    ∙ get_or_default a.ends.items c.args.at c.index.result.now 0 b in
    rw (s, e) (rise_at 0 (length a.bytes.items) a.ends.items c.args.at c.self.invariant.rise b).0

pub part-requires-clause-within : goal.part-requires-clause-within
part-requires-clause-within c =
    let a = c.self.inside in
    let h : c.args.at < length (parts 0 a.ends.items a.bytes.items) =
    rw (← c.self.view_is) at c.requires in
    let m = length-parts 0 a.ends.items a.bytes.items in
    let b : c.args.at < length a.ends.items = omega (arith, h, m) in
    let s : c.start_of.result ≡ get_or (0 ∷ a.ends.items) c.args.at 0 = c.start_of.ensures
    ∙ ap (λ xs. get_or (0 ∷ xs) c.args.at 0) c.deref-2.ensures.value in
    let e : c.index.result.now ≡ get_or a.ends.items c.args.at 0 = c.index.ensures
    ∙ get_or_default a.ends.items c.args.at c.index.result.now 0 b in
    rw (e, c.deref.ensures.value) (rise_at 0 (length a.bytes.items) a.ends.items c.args.at
    c.self.invariant.rise b).1

pub returns-clause-text : goal.returns-clause-text
returns-clause-text c =
    let a = c.self.inside in
    let h : c.args.at < length (parts 0 a.ends.items a.bytes.items) =
    rw (← c.self.view_is) at c.requires in
    let m = length-parts 0 a.ends.items a.bytes.items in
    let b : c.args.at < length a.ends.items = omega (arith, h, m) in
    let s : c.start_of.result ≡ get_or (0 ∷ a.ends.items) c.args.at 0 = c.start_of.ensures
    ∙ ap (λ xs. get_or (0 ∷ xs) c.args.at 0) c.deref-2.ensures.value in
    let e : c.index.result.now ≡ get_or a.ends.items c.args.at 0 = c.index.ensures
    ∙ get_or_default a.ends.items c.args.at c.index.result.now 0 b in
    let text : c.part.result.now ≡ get_or (parts 0 a.ends.items a.bytes.items) c.args.at [] =
    rw (c.part.ensures, s, e, c.deref.ensures.value)
    (sym (part_at 0 a.ends.items a.bytes.items c.args.at b)) in
    rw (← c.self.view_is) text

pub returns-clause-valid : goal.returns-clause-valid
returns-clause-valid c =
    let a = c.self.inside in
    let h : c.args.at < length (parts 0 a.ends.items a.bytes.items) =
    rw (← c.self.view_is) at c.requires in
    let m = length-parts 0 a.ends.items a.bytes.items in
    let b : c.args.at < length a.ends.items = omega (arith, h, m) in
    let s : c.start_of.result ≡ get_or (0 ∷ a.ends.items) c.args.at 0 = c.start_of.ensures
    ∙ ap (λ xs. get_or (0 ∷ xs) c.args.at 0) c.deref-2.ensures.value in
    let e : c.index.result.now ≡ get_or a.ends.items c.args.at 0 = c.index.ensures
    ∙ get_or_default a.ends.items c.args.at c.index.result.now 0 b in
    let text : c.part.result.now ≡ get_or (parts 0 a.ends.items a.bytes.items) c.args.at [] =
    rw (c.part.ensures, s, e, c.deref.ensures.value)
    (sym (part_at 0 a.ends.items a.bytes.items c.args.at b)) in
    subst IsTxt (sym text) (valid_at (parts 0 a.ends.items a.bytes.items) c.args.at
    c.self.invariant.valid h)
