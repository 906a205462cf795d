-- The versions and the table that are read are those of the lifeline that is due.
use Rattle.std.proofs.Common.{◌≡◌, ℕ, ◌==◌, eqb-true, true, List, ap, ◌∙◌}
use Rattle.std.specs.Prelude.{◌&&◌}
use Rattle.prima_base.specs.OrderLaws.{same_is}
use Rattle.smo_ops_spec.specs.OneRow.{same}
use Rattle.command_codec_spec.proofs.Numbers.{of_both}
use Rattle.smo_ops_versions_spec.specs.Lifelines.{Lifeline}
use Rattle.store_image_spec.specs.ItemChecks.{is_line}
use Rattle.store_image_spec.specs.Encoding.{last_number}
use Rattle.store_image_reader.specs.Seen.{head_of}

pub head_due : (due : Lifeline) (read : (ℕ × ℕ) × List ℕ) → is_line due read ≡ true
    → read ≡ head_of due
head_due due read e =
    let a = of_both (read.0.0 == due.first && read.0.1 == last_number due.last)
    (same read.1 due.table) e in
    let b = of_both (read.0.0 == due.first) (read.0.1 == last_number due.last) a.0 in
    ap (λ n. ((n, read.0.1), read.1)) (eqb-true read.0.0 due.first b.0)
    ∙ ap (λ n. ((due.first, n), read.1)) (eqb-true read.0.1 (last_number due.last) b.1)
    ∙ ap (λ n. ((due.first, last_number due.last), n)) (same_is read.1 due.table a.1)
