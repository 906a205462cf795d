use Rattle.std.proofs.Common.{sym, ◌∙◌}
use Rattle.temporal_lang_losses_spec.proofs.LawOfLosses.{over_agrees}
use Rattle.temporal_lang_losses_spec.proofs.Fillings.{filled_agrees}
use Rattle.temporal_lang_losses_spec.proofs.Undoing.{undone_agrees}
use Rattle.temporal_lang_losses_spec.proofs.PlainAlike.{plain_alike}
use Rattle.temporal_lang_losses_spec.proofs.laws.databases_agree_up_to_losses.Goals as goal

pub returns : goal.returns
returns c = record {
  over = λ tables op losses a b valid e h. over_agrees tables op losses a b h e valid;
  filled = λ tables f loss losses a b v w valid e p q h.
      filled_agrees tables losses f.table f.name loss valid a b h v w (p ∙ sym q) e f.kind;
  undone = λ before op loss losses a b e h. undone_agrees loss before op losses a b e h;
  alike = λ tables losses branches a b e h. plain_alike tables losses branches e a b h;
}
