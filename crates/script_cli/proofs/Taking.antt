-- What the run of a script has made of the bytes that it took.
use Rattle.std.proofs.Common.{◌≡◌, ℕ, ◌+◌, Bool, true, false, List, [], ◌∷◌, ◌++◌, length, refl}
use Rattle.std.proofs.Common.{sym, ap, ◌∙◌, subst, arith, append_assoc, append-nil, length-append}
use Rattle.std.specs.Prelude.{◌||◌, Option, Some, None, MatchOption}
use Rattle.std.specs.Io.KnownBytes.{Appends}
use Rattle.std.proofs.KnownBytes.{Appends-trans, Appends-nil}
use Rattle.disk_model.specs.Meaning.{IsValid}
use Rattle.disk_model.specs.declared.disk.Disk.{Ghosts}
use Rattle.script_cli_statement.specs.ArchiveOnDisk.{Archive, below}
use Rattle.script_parse.specs.Script.{StatementPart, parts_from, tail_from, ending}
use Rattle.script_parse.specs.Splitting.{found, IsSettled, State}
use Rattle.script_parse.specs.declared.splitter.Cut.{Cut}
use Rattle.script_parse.specs.declared.splitter.Cut.TheVariants.{More}
use Rattle.smo_ops_types.specs.Commands.{PlainCommand}
use Rattle.script_cli_statement.specs.Due.{Due, commands_due}
use Rattle.script_cli_statement.specs.Given.{Given}
use Rattle.script_cli.specs.declared.script_run.ScriptRun.{ScriptRun}
use Rattle.script_cli_statement.specs.declared.stop_reason.StopReason.{StopReason}
use Rattle.script_cli_statement.specs.declared.stop_reason.StopReason.TheVariants.{NoMemory}
use Rattle.script_cli_statement.specs.Replies.{Recorded}
use Rattle.script_cli.specs.Output.{part_reply, replies, all_puts, recorded_after, any_error}
use Rattle.script_cli_statement.specs.Responses.{PutBetween, StopsIn}
use Rattle.script_cli.specs.Taking.{Fed, Stopped, RepresentsRun, next_reply, parts_after}
use Rattle.script_cli.specs.Taking.{ending_after}
use Rattle.script_cli_statement.proofs.OnePut.{nothing_between}
use Rattle.script_cli.proofs.PutsAfter.{then_between}
use Rattle.script_cli.proofs.DueRecords.{commands_append}

pub or_assoc : (a b c : Bool) → (a || (b || c)) ≡ ((a || b) || c)
or_assoc true b c = refl
or_assoc false b c = refl

or_false : (a : Bool) → a ≡ (a || false)
or_false true = refl
or_false false = refl

-- ---- statements one after the other

module _ (limit : Given) where
  pub after-append : (now : Recorded) (xs ys : List StatementPart)
      → recorded_after limit now (xs ++ ys) ≡ recorded_after limit (recorded_after limit now xs) ys
  after-append now [] ys = refl
  after-append now (x ∷ xs) ys = after-append (part_reply limit now x).after xs ys

  pub replies-append : (now : Recorded) (xs ys : List StatementPart)
      → replies limit now (xs ++ ys) ≡ replies limit now xs
      ++ replies limit (recorded_after limit now xs) ys
  replies-append now [] ys = refl
  replies-append now (x ∷ xs) ys =
      let next = (part_reply limit now x).after in
      ap (λ l. (part_reply limit now x).text ++ l) (replies-append next xs ys)
      ∙ sym (append_assoc (part_reply limit now x).text (replies limit next xs)
      (replies limit (recorded_after limit next xs) ys))

  pub put-append : (now : Recorded) (xs ys : List StatementPart)
      → all_puts limit now (xs ++ ys) ≡ all_puts limit now xs
      ++ all_puts limit (recorded_after limit now xs) ys
  put-append now [] ys = refl
  put-append now (x ∷ xs) ys =
      let next = (part_reply limit now x).after in
      ap (λ l. (part_reply limit now x).puts ++ l) (put-append next xs ys)
      ∙ sym (append_assoc (part_reply limit now x).puts (all_puts limit next xs)
      (all_puts limit (recorded_after limit next xs) ys))

  pub error-append : (now : Recorded) (xs ys : List StatementPart)
      → any_error limit now (xs ++ ys) ≡ (any_error limit now xs
      || any_error limit (recorded_after limit now xs) ys)
  error-append now [] ys = refl
  error-append now (x ∷ xs) ys =
      let next = (part_reply limit now x).after in
      ap (λ b. (part_reply limit now x).is_error || b) (error-append next xs ys)
      ∙ or_assoc (part_reply limit now x).is_error (any_error limit next xs)
      (any_error limit (recorded_after limit next xs) ys)

-- ---- bytes one after the other

module _ {D : Type 0} {g : Ghosts D} (limit : Given) (now : Recorded) where
  -- none was taken
  pub took_none : (s : ScriptRun) (a : Archive D g) (bytes : List ℕ) (w : Option (List ℕ))
      → IsValid (below a) → RepresentsRun a s limit now → Fed limit now s s a a bytes bytes w w
  took_none s a bytes w law represents = record {
    parts = [];
    cut = λ more. refl;
    end = λ more. refl;
    represents = represents;
    refused = or_false s.refused;
    puts = nothing_between a law;
    counted = omega arith;
    wrote = Appends-nil w;
  }

  -- one ended
  pub took_one : (s t : ScriptRun) (a b : Archive D g) (xs ys : List ℕ) (u v : Option (List ℕ))
      (part : StatementPart)
      → ((more : List ℕ) → parts_after s (xs ++ more) ≡ part ∷ parts_after t (ys ++ more))
      → ((more : List ℕ) → ending_after s (xs ++ more) ≡ ending_after t (ys ++ more))
      → RepresentsRun b t limit (part_reply limit now part).after
      → t.refused ≡ (s.refused || (part_reply limit now part).is_error)
      → PutBetween a b (part_reply limit now part).puts
      → t.puts ≡ s.puts + length (commands_due (part_reply limit now part).puts)
      → Appends u v (part_reply limit now part).text → Fed limit now s t a b xs ys u v
  took_one s t a b xs ys u v part cut end represents faulty puts counted wrote = record {
    parts = part ∷ [];
    cut = cut;
    end = end;
    represents = represents;
    refused = faulty ∙ ap (λ x. s.refused || x) (or_false (part_reply limit now part).is_error);
    puts = subst (PutBetween a b) (sym (append-nil (part_reply limit now part).puts)) puts;
    counted = counted ∙ ap (λ (l : List Due). s.puts + length (commands_due l))
        (sym (append-nil (part_reply limit now part).puts));
    wrote = subst (Appends u v) (sym (append-nil (part_reply limit now part).text)) wrote;
  }

  -- more were taken
  pub took_more : (s t n : ScriptRun) (a b c : Archive D g) (xs ys zs : List ℕ)
      (u v w : Option (List ℕ)) → (k : Fed limit now s t a b xs ys u v)
      → Fed limit (recorded_after limit now k.parts) t n b c ys zs v w
      → Fed limit now s n a c xs zs u w
  took_more s t n a b c xs ys zs u v w k m =
      let next = recorded_after limit now k.parts in record {
        parts = k.parts ++ m.parts;
        cut = λ more. k.cut more ∙ ap (λ l. k.parts ++ l) (m.cut more)
            ∙ sym (append_assoc k.parts m.parts (parts_after n (zs ++ more)));
        end = λ more. k.end more ∙ m.end more;
        represents = subst (RepresentsRun c n limit) (sym (after-append limit now k.parts m.parts))
            m.represents;
        refused = m.refused ∙ ap (λ x. x || any_error limit next m.parts) k.refused
            ∙ sym (or_assoc s.refused (any_error limit now k.parts)
            (any_error limit next m.parts))
            ∙ ap (λ x. s.refused || x) (sym (error-append limit now k.parts m.parts));
        puts = subst (PutBetween a c) (sym (put-append limit now k.parts m.parts))
            (then_between a b c (all_puts limit now k.parts) (all_puts limit next m.parts) k.puts
            m.puts);
        counted = omega (
          arith,
          m.counted,
          k.counted,
          ap (λ (l : List Due). length (commands_due l)) (put-append limit now k.parts m.parts),
          ap (λ (l : List PlainCommand). length l)
              (commands_append (all_puts limit now k.parts) (all_puts limit next m.parts)),
          length-append (commands_due (all_puts limit now k.parts))
              (commands_due (all_puts limit next m.parts)),
        );
        wrote = subst (Appends u w) (sym (replies-append limit now k.parts m.parts))
            (Appends-trans u v w (replies limit now k.parts) (replies limit next m.parts) k.wrote
            m.wrote);
      }

  -- the same bytes before others
  unfoldable pub took_longer : (s t : ScriptRun) (a b : Archive D g) (xs ys zs : List ℕ)
      (u v : Option (List ℕ)) → Fed limit now s t a b xs ys u v
      → Fed limit now s t a b (xs ++ zs) (ys ++ zs) u v
  took_longer s t a b xs ys zs u v k = record {
    parts = k.parts;
    cut = λ more. ap (parts_after s) (append_assoc xs zs more) ∙ k.cut (zs ++ more)
        ∙ ap (λ l. k.parts ++ parts_after t l) (sym (append_assoc ys zs more));
    end = λ more. ap (ending_after s) (append_assoc xs zs more) ∙ k.end (zs ++ more)
        ∙ ap (ending_after t) (sym (append_assoc ys zs more));
    represents = k.represents;
    refused = k.refused;
    puts = k.puts;
    counted = k.counted;
    wrote = k.wrote;
  }

  -- after statements that were answered the run stopped
  pub halted_after : (reason : StopReason) (before parts : List StatementPart) (a b c : Archive D g)
      (u v w : Option (List ℕ)) → PutBetween a b (all_puts limit now before)
      → Appends u v (replies limit now before)
      → Stopped reason limit (recorded_after limit now before) parts b c v w
      → Stopped reason limit now (before ++ parts) a c u w
  halted_after reason before parts a b c u v w puts wrote h =
      let next = recorded_after limit now before in record {
        whole = before ++ h.whole;
        rest = h.rest;
        are = ap (λ l. before ++ l) h.are ∙ sym (append_assoc before h.whole h.rest);
        mid = h.mid;
        between = h.between;
        wrote = subst (Appends u h.between) (sym (replies-append limit now before h.whole))
            (Appends-trans u v h.between (replies limit now before) (replies limit next h.whole)
            wrote h.wrote);
        puts = subst (PutBetween a h.mid) (sym (put-append limit now before h.whole))
            (then_between a b h.mid (all_puts limit now before) (all_puts limit next h.whole) puts
            h.puts);
        stops = subst (λ n. StopsIn reason (next_reply limit n h.rest) h.mid c h.between w)
            (sym (after-append limit now before h.whole)) h.stops;
      }

  -- after bytes that were taken
  pub halted_more : (reason : StopReason) (s t : ScriptRun) (a b c : Archive D g) (xs ys : List ℕ)
      (u v w : Option (List ℕ)) → (k : Fed limit now s t a b xs ys u v)
      → Stopped reason limit (recorded_after limit now k.parts) (parts_after t ys) b c v w
      → Stopped reason limit now (parts_after s xs) a c u w
  halted_more reason s t a b c xs ys u v w k h =
      let all : parts_after s xs ≡ k.parts ++ parts_after t ys =
      ap (parts_after s) (sym (append-nil xs)) ∙ k.cut []
      ∙ ap (λ l. k.parts ++ parts_after t l) (append-nil ys) in
      subst (λ l. Stopped reason limit now l a c u w) (sym all)
      (halted_after reason k.parts (parts_after t ys) a b c u v w k.puts k.wrote h)

  -- the run stopped in the first of these
  pub halted_first : (reason : StopReason) (parts : List StatementPart) (a b : Archive D g)
      (u v : Option (List ℕ)) → IsValid (below a)
      → StopsIn reason (next_reply limit now parts) a b u v
      → Stopped reason limit now parts a b u v
  halted_first reason parts a b u v law stops = record {
    whole = [];
    rest = parts;
    are = refl;
    mid = a;
    between = u;
    wrote = Appends-nil u;
    puts = nothing_between a law;
    stops = stops;
  }

  -- memory ran out before any of these was answered
  pub halted_memory : (parts : List StatementPart) (a : Archive D g) (u : Option (List ℕ))
      → IsValid (below a) → Stopped NoMemory limit now parts a a u u
  halted_memory parts a u law =
      halted_first NoMemory parts a a u u law (refl, nothing_between a law)

-- what an answer is in its case
pub left_none : {T : Type 0} (o : Option T) (A : Type 0) (B : T → Type 0) → o ≡ None
    → MatchOption o A B → A
left_none o A B e h = subst (λ x. MatchOption x A B) e h

pub left_some : {T : Type 0} (o : Option T) (t : T) (A : Type 0) (B : T → Type 0) → o ≡ Some t
    → MatchOption o A B → B t
left_some o t A B e h = subst (λ x. MatchOption x A B) e h

-- a cut where no statement ended took all bytes
pub all_taken : (cut : Cut) (rest : List ℕ) (state : State) → cut ≡ More → IsSettled cut rest state
    → rest ≡ []
all_taken cut rest state e h = let P : Cut → Type 0 = λ k. IsSettled k rest state in subst P e h

module _ {D : Type 0} {g : Ghosts D} (limit : Given) (now : Recorded) (s t : ScriptRun) (z : State)
    (a b : Archive D g) (xs ys : List ℕ) (u v : Option (List ℕ)) (cut : Cut)
    (statements : (more : List ℕ) → parts_after s (xs ++ more) ≡ found cut
    ++ parts_from z.mode z.kept (ys ++ more))
    (tail : (more : List ℕ) → ending_after s (xs ++ more)
    ≡ ending (tail_from z.mode z.kept (ys ++ more)))
    (same : t.splitter ≡ z) where
  -- no statement ended
  pub took_all : cut ≡ More → ys ≡ [] → IsValid (below a) → RepresentsRun a t limit now
      → t.refused ≡ s.refused → t.puts ≡ s.puts → Fed limit now s t a a xs [] u u
  took_all e all law represents faulty counted = record {
    parts = [];
    cut = λ more. statements more ∙ ap (λ k. found k ++ parts_from z.mode z.kept (ys ++ more)) e
        ∙ ap (λ l. parts_from z.mode z.kept (l ++ more)) all
        ∙ ap (λ z. parts_from z.mode z.kept more) (sym same);
    end = λ more. tail more ∙ ap (λ l. ending (tail_from z.mode z.kept (l ++ more))) all
        ∙ ap (λ z. ending (tail_from z.mode z.kept more)) (sym same);
    represents = represents;
    refused = faulty ∙ or_false s.refused;
    puts = nothing_between a law;
    counted = omega (arith, counted);
    wrote = Appends-nil u;
  }

  -- a statement ended, and was answered
  pub took_answer : (part : StatementPart) → found cut ≡ part ∷ []
      → RepresentsRun b t limit (part_reply limit now part).after
      → t.refused ≡ (s.refused || (part_reply limit now part).is_error)
      → PutBetween a b (part_reply limit now part).puts
      → t.puts ≡ s.puts + length (commands_due (part_reply limit now part).puts)
      → Appends u v (part_reply limit now part).text → Fed limit now s t a b xs ys u v
  took_answer part e represents faulty puts counted wrote = took_one limit now s t a b xs ys u v
      part
      (λ more. statements more ∙ ap (λ l. l ++ parts_from z.mode z.kept (ys ++ more)) e
      ∙ ap (λ z. part ∷ parts_from z.mode z.kept (ys ++ more)) (sym same))
      (λ more. tail more ∙ ap (λ z. ending (tail_from z.mode z.kept (ys ++ more))) (sym same))
      represents faulty puts counted wrote

  -- or the run stopped in its reply
  pub halted_answer : (reason : StopReason) (part : StatementPart) → found cut ≡ part ∷ []
      → IsValid (below a) → StopsIn reason (part_reply limit now part) a b u v
      → Stopped reason limit now (parts_after s xs) a b u v
  halted_answer reason part e law stops =
      let whole : parts_after s xs ≡ part ∷ parts_from z.mode z.kept (ys ++ []) =
      ap (parts_after s) (sym (append-nil xs)) ∙ statements []
      ∙ ap (λ l. l ++ parts_from z.mode z.kept (ys ++ [])) e in
      subst (λ l. Stopped reason limit now l a b u v) (sym whole)
      (halted_first limit now reason (part ∷ parts_from z.mode z.kept (ys ++ [])) a b u v law
      stops)
