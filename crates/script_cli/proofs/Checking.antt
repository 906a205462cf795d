-- What a run answers by its words.
use Rattle.std.proofs.Common.{◌≡◌, inl, inr, ℕ, List, refl, sym, ap, subst, ◌∙◌}
use Rattle.std.specs.Prelude.{Option, Some, None, option_and_then, Result, Ok, Err, OnOk, OnErr}
use Rattle.std.specs.Io.KnownBytes.{Appends}
use Rattle.prima_io.specs.Causes.{HasCause}
use Rattle.prima_io.specs.Moves.{AppendsLess}
use Rattle.disk_model.specs.Meaning.{Meaning}
use Rattle.script_cli_arguments.specs.declared.request.Mode.TheVariants.{Sample}
use Rattle.script_cli_arguments.specs.declared.request.Request.{Request}
use Rattle.script_cli_arguments.specs.Arguments.{limit_of_run, request}
use Rattle.answer_text.specs.Texts.{wrong_words_text}
use Rattle.script_cli_statement.specs.Given.{Given}
use Rattle.script_cli.specs.Runs.{Ran, RunsOver, ToldUnopened, IsUntouched, RefusedWords, PutsLine}
use Rattle.script_cli.specs.declared.status.Status.{Status}
use Rattle.script_cli.specs.declared.status.Status.TheVariants.{Words, NoMemory}
use Rattle.script_cli.proofs.Unopened.{keeps_same}

-- a line was put whole, or less of it
pub line_put : {T E : Type 0} (r : Result T E) (line : List ℕ) (u w : Option (List ℕ)) (f h : ℕ)
    → OnOk r (Appends u w line) → OnErr r (AppendsLess u w line) → HasCause f h r
    → PutsLine line u w f h
line_put (Ok x) line u w f h all part cause = inl (all, cause.kept)
line_put (Err e) line u w f h all part cause = inr (part, cause.failed)

-- a run over a disk is not answered by wrong words
pub over_not_words : (limit : Given) (status : Status) (a c u w : Option (List ℕ)) (f h : ℕ)
    (old new : Meaning) → RunsOver limit status a c u w f h old new → status ≡ Words → ⊥
over_not_words limit status a c u w f h old new (inl n) is =
    subst (λ s. ToldUnopened s u w f h old.seen new.seen) is n.told
over_not_words limit status a c u w f h old new (inr r) is =
    let ran = subst (λ s. Ran limit r.start s a c u w) is r.ran in ran.wrote

pub none_or_some : {T : Type 0} (o : Option T) (t : T) (P : Type 0) → o ≡ Some t → o ≡ None → P
none_or_some o t P some none = absurd (cc (some, none))

-- where nothing is asked for, no run is
pub not_for_none : (o : Option Request) (limit : ℕ) → o ≡ None
    → option_and_then limit_of_run o ≡ Some limit → ⊥
not_for_none o limit none for = let here : None ≡ Some limit =
    sym (ap (option_and_then limit_of_run) none) ∙ for in cc

-- what is asked for is one thing
pub same_request : (o : Option Request) (r : Request) (limit size : ℕ) → o ≡ Some r
    → o ≡ Some (request limit (Sample size)) → (r.journal_limit ≡ limit) × (r.mode ≡ Sample size)
same_request o r limit size is for = let same : r ≡ request limit (Sample size) = cc (is, for) in
    (ap (λ (x : Request). x.journal_limit) same, ap (λ (x : Request). x.mode) same)

-- wrong words
module _ {D : Type 0} (status : Status) (is : status ≡ Words) (a u w : Option (List ℕ)) (f h : ℕ)
    (line : PutsLine wrong_words_text u w f h) where
  pub refused_words : (disk : D) → RefusedWords status a a u w f h disk disk
  refused_words disk = record { kept = keeps_same a; disk = refl; wrote = inl (is, line) }

-- no memory for the words
module _ {D : Type 0} (a u : Option (List ℕ)) (f : ℕ) (disk : D) where
  pub refused_memory : RefusedWords NoMemory a a u u f f disk disk
  refused_memory = record { kept = keeps_same a; disk = refl; wrote = inr (refl, refl) }

  pub untouched_memory : IsUntouched NoMemory a a u u disk disk
  untouched_memory = record { memory = refl; kept = keeps_same a; wrote = refl; disk = refl }
