use Rattle.std.proofs.Common.{rules, ◌≡◌, ◌+◌, ◌++◌, length, ap, sym, ◌∙◌, length-append}
use Rattle.history_store_columns.proofs.StoredTexts.{more_texts}
use Rattle.history_store_columns.proofs.text_buffer.TextBuffer.push.Goals as goal

pub invariant_of-self : goal.invariant_of-self
invariant_of-self c =
    let a = c.self.inside in
    let t : c.append.new.bytes.items ≡ a.bytes.items ++ c.args.text.now = c.append.ensures.items in
    let l : c.len.result ≡ length c.append.new.bytes.items = search rules in
    let n : c.len.result ≡ length a.bytes.items + length c.args.text.now = l ∙ ap length t
    ∙ length-append a.bytes.items c.args.text.now in
    let m = more_texts a.bytes.items a.ends.items c.append.new.bytes.items
    c.push_reserved.new.self.items c.args.text.now c.len.result t c.push_reserved.ensures.items
    n (sym l) c.self.invariant.rise c.self.invariant.valid c.requires.valid in
    record { rise = m.rise; valid = m.valid }

pub returns-clause-items : goal.returns-clause-items
returns-clause-items c =
    let a = c.self.inside in
    let t : c.append.new.bytes.items ≡ a.bytes.items ++ c.args.text.now = c.append.ensures.items in
    let l : c.len.result ≡ length c.append.new.bytes.items = search rules in
    let n : c.len.result ≡ length a.bytes.items + length c.args.text.now = l ∙ ap length t
    ∙ length-append a.bytes.items c.args.text.now in
    let m = more_texts a.bytes.items a.ends.items c.append.new.bytes.items
    c.push_reserved.new.self.items c.args.text.now c.len.result t c.push_reserved.ensures.items
    n (sym l) c.self.invariant.rise c.self.invariant.valid c.requires.valid in
    rw (← c.self.view_is) m.items
