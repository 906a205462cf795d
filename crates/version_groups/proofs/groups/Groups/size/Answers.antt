use Rattle.std.proofs.Common.{◌≡◌, ◌<◌, List, length, get_or, sym, ap, subst, ◌∙◌, arith}
use Rattle.std.specs.Option.{unwrap_or}
use Rattle.smo_ops_spec.specs.Sizes.{Size}
use Rattle.version_groups_tables.specs.declared.made_table.MadeTable.{MadeTable}
use Rattle.version_groups.specs.Groups.{Kept}
use Rattle.version_groups.specs.Sizes.{HasSize}
use Rattle.version_groups.proofs.Applied.{as_many}
use Rattle.version_groups.proofs.SizeLines.{all_cells}
use Rattle.version_groups.proofs.groups.Groups.size.Goals as goal

pub returns : goal.returns
returns c = λ past represents.
    let t = c.in_ok-table.table.now in
    let i = c.args.i in
    let stored : c.deref.result.now ≡ c.args.self.now.stored = c.deref.ensures.value
    ∙ ap (λ (k : Kept). k.stored) c.self.view_is in
    let found = c.in_ok-table.ensures.lookup.3 in
    let within : i < length past.sizes =
    (let l = found.0 in let n = represents.sizes.count in let e =
    ap length stored in omega (arith, l, n, e)) in
    let is : get_or c.args.self.now.stored i t ≡ t =
    ap (λ (ts : List MadeTable). get_or ts i t) (sym stored) ∙ sym (found.1 t) in
    let size : (s : Size) → HasSize (get_or past.sizes i s) t = λ s.
    subst (λ (x : MadeTable). HasSize (get_or past.sizes i s) x) is
    (represents.sizes.each i s t within) in (
      within,
      λ s. record {
        table = (size s).name;
        first = (size s).first;
        last = c.unwrap_or.ensures ∙ ap (λ o. unwrap_or o c.newest.result) (size s).last
            ∙ ap (unwrap_or (get_or past.sizes i s).last)
            (c.newest.ensures ∙ as_many c.args.self.now past represents);
        keys = c.keys.ensures ∙ (size s).keys;
        cells = c.cells.ensures ∙ all_cells (get_or past.sizes i s).columns t.store.cells
            (size s).columns;
      },
    )
