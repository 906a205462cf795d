use Rattle.std.proofs.Common.{◌<◌, ◌∙◌, length, refl, sym, ap, subst}
use Rattle.std.specs.Prelude.{List}
use Rattle.prima_base.specs.Columns.{Column}
use Rattle.version_groups_tables.proofs.evolution.begin_table.Goals as goal

pub returns-clause-size : goal.returns-clause-size
returns-clause-size c =
    let of = c.in_ok-new.ensures in
    let same = c.columns.ensures.value in
    record {
      name = c.in_ok-copy.ensures ∙ c.name.ensures.value;
      first = refl;
      last = refl;
      columns = of.columns ∙ same;
      keys = of.key_count;
      count = of.valid.width ∙ ap (λ (cs : List Column). length cs) (of.columns ∙ same);
      later = of.later;
      written = λ f k l. of.written f k (subst (λ (cs : List Column). k < length cs) (sym same) l);
    }
