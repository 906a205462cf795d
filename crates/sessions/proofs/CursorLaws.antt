-- What each step does to a cursor that it does not close, and so what any list of steps does.
use Rattle.std.proofs.Common.{◌≡◌, ℕ, zero, suc, ◌+◌, ◌&&◌, Bool, true, false, not, cond, nat_eq}
use Rattle.std.proofs.Common.{List, []}
use Rattle.std.proofs.Common.{◌∷◌, ◌++◌, length, take, drop, Option, Some, None, refl, sym, ap, ◌∙◌}
use Rattle.std.proofs.Common.{subst}
use Rattle.std.proofs.Common.{true≢false, is_some, arith, length-append}
use Rattle.std.proofs.lemmas.List.{drop-drop}
use Rattle.std.proofs.Math.Seq.{take-add}
use borrow.Author.Tests.{eqb-true, eq-eqb}
use Rattle.std.specs.Map.{lookup, set_value, remove_entry}
use Rattle.relations_spec.specs.Timed.{Entry}
use Rattle.prima_base.specs.Order.{same}
use Rattle.prima_base.specs.OrderLaws.{same_is, name_eq_equiv}
use Rattle.temporal_lang_types.specs.Queries.{PlainQuery}
use Rattle.smo_ops_types.specs.Commands.{PlainCommand}
use Rattle.smo_ops_spec.specs.OneRow.{Row}
use Rattle.smo_ops_spec.specs.Checks.{Fault}
use Rattle.sessions.specs.SessionStates.{PlainCursor, a_cursor, CursorKey, is_cursor, cursor_of}
use Rattle.sessions.specs.SessionStates.{advanced}
use Rattle.sessions.specs.Requests.{Request, beginning, buffering, committing, aborting, opening}
use Rattle.sessions.specs.Requests.{fetching, closing}
use Rattle.sessions.specs.Steps.{World}
use Rattle.sessions.specs.Steps.{fault_of, world_then, cursor_fault}
use Rattle.sessions.specs.Steps.{with_fetched}
use Rattle.sessions.specs.Steps.{a_world, open_fault, cursor_on, fetch_answer, fetched}
use Rattle.sessions.specs.Runs.{Step, asked, elsewhere, after, after_all, given_at, given}
use Rattle.sessions.specs.Runs.{leaves_open, is_of_cursor}
use Rattle.sessions.specs.Runs.{leave_open, entries_given, unless_refused, IsServed}

-- ---- look-ups under a test, where the entries change under another

module _ {K X : Type 0} (test : K → Bool) where
  pub lookup_pushed : (es : List (K × X)) (e : K × X) (x : X) → lookup test es ≡ Some x
      → lookup test (es ++ e ∷ []) ≡ Some x
  lookup_pushed [] e x h = absurd (true≢false (sym (ap is_some h)))
  lookup_pushed (d ∷ es) e x h = by (test d.0) h (lookup_pushed es e x)
    where
      by : (b : Bool) → cond b (Some d.1) (lookup test es) ≡ Some x
          → (lookup test es ≡ Some x → lookup test (es ++ e ∷ []) ≡ Some x)
          → cond b (Some d.1) (lookup test (es ++ e ∷ [])) ≡ Some x
      by true h rest = h
      by false h rest = rest h

  pub lookup_pushed_apart : (es : List (K × X)) (e : K × X) → test e.0 ≡ false
      → lookup test (es ++ e ∷ []) ≡ lookup test es
  lookup_pushed_apart [] e f = ap (λ b. cond b (Some e.1) None) f
  lookup_pushed_apart (d ∷ es) e f = ap (cond (test d.0) (Some d.1)) (lookup_pushed_apart es e f)

  pub lookup_last : (es : List (K × X)) (e : K × X) → lookup test es ≡ None → test e.0 ≡ true
      → lookup test (es ++ e ∷ []) ≡ Some e.1
  lookup_last [] e none here = ap (λ b. cond b (Some e.1) None) here
  lookup_last (d ∷ es) e none here = by (test d.0) none (λ h. lookup_last es e h here)
    where
      by : (b : Bool) → cond b (Some d.1) (lookup test es) ≡ None
          → (lookup test es ≡ None → lookup test (es ++ e ∷ []) ≡ Some e.1)
          → cond b (Some d.1) (lookup test (es ++ e ∷ [])) ≡ Some e.1
      by true h rest = absurd (true≢false (ap is_some h))
      by false h rest = rest h

  pub lookup_set : (es : List (K × X)) (w x : X) → lookup test es ≡ Some x
      → lookup test (set_value test es w) ≡ Some w
  lookup_set [] w x h = absurd (true≢false (sym (ap is_some h)))
  lookup_set (d ∷ es) w x h = by (test d.0) refl h (lookup_set es w x)
    where
      by : (b : Bool) → test d.0 ≡ b → cond b (Some d.1) (lookup test es) ≡ Some x
          → (lookup test es ≡ Some x → lookup test (set_value test es w) ≡ Some w)
          → lookup test (cond b ((d.0, w) ∷ es) (d ∷ set_value test es w)) ≡ Some w
      by true e h rest = ap (λ b. cond b (Some w) (lookup test es)) e
      by false e h rest = ap (λ b. cond b (Some d.1) (lookup test (set_value test es w))) e ∙ rest h

  module _ (other : K → Bool) (apart : (k : K) → other k ≡ true → test k ≡ false) where
    pub lookup_set_apart : (es : List (K × X)) (w : X)
        → lookup test (set_value other es w) ≡ lookup test es
    lookup_set_apart [] w = refl
    lookup_set_apart (d ∷ es) w = by (other d.0) (apart d.0) (lookup_set_apart es w)
      where
        by : (b : Bool) → (b ≡ true → test d.0 ≡ false)
            → lookup test (set_value other es w) ≡ lookup test es
            → lookup test (cond b ((d.0, w) ∷ es) (d ∷ set_value other es w)) ≡ lookup test (d ∷ es)
        by true e rest = ap (λ b. cond b (Some w) (lookup test es)) (e refl)
            ∙ sym (ap (λ b. cond b (Some d.1) (lookup test es)) (e refl))
        by false e rest = ap (cond (test d.0) (Some d.1)) rest

    pub lookup_removed_apart : (es : List (K × X))
        → lookup test (remove_entry other es) ≡ lookup test es
    lookup_removed_apart [] = refl
    lookup_removed_apart (d ∷ es) = by (other d.0) (apart d.0) (lookup_removed_apart es)
      where
        by : (b : Bool) → (b ≡ true → test d.0 ≡ false)
            → lookup test (remove_entry other es) ≡ lookup test es
            → lookup test (cond b es (d ∷ remove_entry other es)) ≡ lookup test (d ∷ es)
        by true e rest = sym (ap (λ b. cond b (Some d.1) (lookup test es)) (e refl))
        by false e rest = ap (cond (test d.0) (Some d.1)) rest

-- ---- two keys are one, or apart

both : (a b : Bool) → (a && b) ≡ true → (a ≡ true) × (b ≡ true)
both true true h = (refl, refl)
both true false h = absurd (true≢false (sym h))
both false b h = absurd (true≢false (sym h))

pub key_is : (s : ℕ) (name : List ℕ) (k : CursorKey) → is_cursor s name k ≡ true → (s, name) ≡ k
key_is s name k h =
    let e = both (nat_eq s k.0) (same name k.1) h in
    λ i. (eqb-true s k.0 e.0 i, same_is name k.1 e.1 i)

pub keys_apart : (s q : ℕ) (name n : List ℕ) → is_cursor s name (q, n) ≡ false → (k : CursorKey)
    → is_cursor q n k ≡ true → is_cursor s name k ≡ false
keys_apart s q name n h k e = sym (ap (is_cursor s name) (key_is q n k e)) ∙ h

-- ---- steps

pub take_own : {X : Type 0} (n : ℕ) (xs : List X) → take n xs ≡ take (length (take n xs)) xs
take_own zero xs = refl
take_own (suc n) [] = refl
take_own (suc n) (x ∷ xs) = ap (λ l. x ∷ l) (take_own n xs)

is_own : (s : ℕ) (name : List ℕ) → is_cursor s name (s, name) ≡ true
is_own s name = (λ i. eq-eqb s s refl i && same name name) ∙ name_eq_equiv.refl name

not_true : (b : Bool) → not b ≡ true → b ≡ false
not_true true h = absurd (true≢false (sym h))
not_true false h = refl

module _ (needs : PlainCommand → ℕ) (s : ℕ) (name : List ℕ) where
  -- a cursor that was there goes on over so many entries of its answer
  pub record Goes (w v : World) (c : PlainCursor) (g : List (Entry Row)) : Type 0 where
    pub now : cursor_of v.sessions s name
        ≡ Some (a_cursor c.answer (c.fetched + length g) c.periods)
    pub part : g ≡ take (length g) (drop c.fetched c.answer)

  stays : (w v : World) (c : PlainCursor) → cursor_of w.sessions s name ≡ Some c
      → cursor_of v.sessions s name ≡ cursor_of w.sessions s name → Goes w v c []
  stays w v c h e =
      let z : c.fetched ≡ c.fetched + 0 = omega arith in
      record { now = e ∙ h ∙ (λ i. Some (a_cursor c.answer (z i) c.periods)); part = refl }

  unless_same : (f : Fault) (then w : World)
      → cursor_of then.sessions s name ≡ cursor_of w.sessions s name
      → cursor_of (unless_refused f then w).sessions s name ≡ cursor_of w.sessions s name
  unless_same None then w e = e
  unless_same (Some r) then w e = refl

  -- its own fetch
  own : (w : World) (c : PlainCursor) (count : ℕ) (o : Option PlainCursor) (b : Bool)
      → cursor_of w.sessions s name ≡ Some c → Some c ≡ o → true ≡ b
      → Goes w (unless_refused (cursor_fault s name o)
      (a_world w.shared (with_fetched s name count o w.sessions)) w) c
      (cond b (entries_given o count) [])
  own w c count o b h e t = subst (λ (x : Bool). Goes w (unless_refused (cursor_fault s name o)
      (a_world w.shared (with_fetched s name count o w.sessions)) w) c
      (cond x (entries_given o count) [])) t
      (subst (λ (x : Option PlainCursor). Goes w (unless_refused (cursor_fault s name x)
      (a_world w.shared (with_fetched s name count x w.sessions)) w) c (entries_given x count)) e
      (record {
        now = lookup_set (is_cursor s name) w.sessions.cursors (advanced count c) c h;
        part = take_own count (drop c.fetched c.answer);
      }))

  others : (w : World) (q : ℕ) (n : List ℕ) (count : ℕ) (o : Option PlainCursor)
      → is_cursor s name (q, n) ≡ false
      → cursor_of (with_fetched q n count o w.sessions) s name ≡ cursor_of w.sessions s name
  others w q n count None f = refl
  others w q n count (Some x) f = lookup_set_apart (is_cursor s name) (is_cursor q n)
      (keys_apart s q name n f) w.sessions.cursors (advanced count x)

  fetches : (w : World) (c : PlainCursor) (q : ℕ) (n : List ℕ) (count : ℕ)
      → cursor_of w.sessions s name ≡ Some c → (b : Bool) → is_cursor s name (q, n) ≡ b
      → Goes w (after needs w (asked q (fetching n count))) c
      (given_at needs w s name (asked q (fetching n count)))
  fetches w c q n count h true e = subst (λ (k : CursorKey).
      Goes w (after needs w (asked k.0 (fetching k.1 count))) c
      (cond (is_cursor s name k) (entries_given (cursor_of w.sessions k.0 k.1) count) []))
      (key_is s name (q, n) e)
      (own w c count (cursor_of w.sessions s name) (is_cursor s name (s, name)) h (sym h)
      (sym (is_own s name)))
  fetches w c q n count h false e = subst (λ (b : Bool).
      Goes w (after needs w (asked q (fetching n count))) c
      (cond b (entries_given (cursor_of w.sessions q n) count) [])) (sym e)
      (stays w (after needs w (asked q (fetching n count))) c h
      (unless_same (fault_of needs w q (fetching n count))
      (world_then needs w q (fetching n count)) w
      (others w q n count (cursor_of w.sessions q n) e)))

  goes_one : (w : World) (c : PlainCursor) (step : Step) → cursor_of w.sessions s name ≡ Some c
      → leaves_open s name step ≡ true
      → Goes w (after needs w step) c (given_at needs w s name step)
  goes_one w c (elsewhere shared) h l = stays w (a_world shared w.sessions) c h refl
  goes_one w c (asked q beginning) h l = stays w (after needs w (asked q beginning)) c h
      (unless_same (fault_of needs w q beginning) (world_then needs w q beginning) w refl)
  goes_one w c (asked q (buffering cs)) h l = stays w (after needs w (asked q (buffering cs))) c h
      (unless_same (fault_of needs w q (buffering cs)) (world_then needs w q (buffering cs)) w refl)
  goes_one w c (asked q (committing m)) h l = stays w (after needs w (asked q (committing m))) c h
      (unless_same (fault_of needs w q (committing m)) (world_then needs w q (committing m)) w refl)
  goes_one w c (asked q aborting) h l = stays w (after needs w (asked q aborting)) c h
      (unless_same (fault_of needs w q aborting) (world_then needs w q aborting) w refl)
  goes_one w c (asked q (opening n query)) h l =
      stays w (after needs w (asked q (opening n query))) c h
      (unless_same (fault_of needs w q (opening n query)) (world_then needs w q (opening n query)) w
      (lookup_pushed (is_cursor s name) w.sessions.cursors _ c h ∙ sym h))
  goes_one w c (asked q (fetching n count)) h l =
      fetches w c q n count h (is_cursor s name (q, n)) refl
  goes_one w c (asked q (closing n)) h l = stays w (after needs w (asked q (closing n))) c h
      (unless_same (fault_of needs w q (closing n)) (world_then needs w q (closing n)) w
      (lookup_removed_apart (is_cursor s name) (is_cursor q n)
      (keys_apart s q name n (not_true (is_cursor s name (q, n)) l)) w.sessions.cursors))

  pub goes_all : (w : World) (c : PlainCursor) (steps : List Step)
      → cursor_of w.sessions s name ≡ Some c → leave_open s name steps ≡ true
      → Goes w (after_all needs w steps) c (given needs w s name steps)
  goes_all w c [] h l = stays w w c h refl
  goes_all w c (step ∷ steps) h l =
      let e = both (leaves_open s name step) (leave_open s name steps) l in
      let g = given_at needs w s name step in
      let f = c.fetched in
      let one = goes_one w c step h e.0 in
      let rest = goes_all (after needs w step) (a_cursor c.answer (f + length g) c.periods) steps
      one.now e.1 in
      let more = given needs (after needs w step) s name steps in
      let far : f + length g + length more ≡ f + length (g ++ more)
      = omega (arith, length-append g more) in
      record {
        now = rest.now ∙ (λ i. Some (a_cursor c.answer (far i) c.periods));
        part = (λ i. one.part i ++ rest.part i)
            ∙ ap (λ l. take (length g) (drop f c.answer) ++ take (length more) l)
            (sym (drop-drop (length g) f c.answer))
            ∙ sym (take-add (length g) (length more) (drop f c.answer))
            ∙ ap (λ n. take n (drop f c.answer)) (sym (length-append g more));
      }

  not_open : (f : Fault) (o : Option PlainCursor) → open_fault s name f o ≡ None → o ≡ None
  not_open f None h = refl
  not_open f (Some c) h = absurd (true≢false (ap is_some h))

  pub cursor_is_served : (w : World) (query : PlainQuery) (steps : List Step)
      → fault_of needs w s (opening name query) ≡ None → leave_open s name steps ≡ true
      → IsServed needs w s name query steps
  cursor_is_served w query steps fault l =
      let v = after needs w (asked s (opening name query)) in
      let c = cursor_on w.shared query in
      let opened_now : cursor_of v.sessions s name ≡ Some c
      = ap (λ (x : World). cursor_of x.sessions s name)
      (ap (λ (x : Fault). unless_refused x (world_then needs w s (opening name query)) w) fault)
      ∙ lookup_last (is_cursor s name) w.sessions.cursors ((s, name), c)
      (not_open _ (cursor_of w.sessions s name) fault) (is_own s name) in
      let all = goes_all v c steps opened_now l in
      record {
        prefix = all.part;
        open_still = λ count. ap (cursor_fault s name) all.now;
        next = λ count. ap (fetch_answer count) all.now
            ∙ ap (λ n. fetched c.periods (take count (drop n c.answer))) (omega arith);
      }

  -- a request that is not about the cursor leaves it
  pub cursor_apart : (w : World) (q : ℕ) (request : Request)
      → is_of_cursor s name q request ≡ false
      → cursor_of (after needs w (asked q request)).sessions s name ≡ cursor_of w.sessions s name
  cursor_apart w q beginning e = unless_same (fault_of needs w q beginning)
      (world_then needs w q beginning) w refl
  cursor_apart w q (buffering cs) e = unless_same (fault_of needs w q (buffering cs))
      (world_then needs w q (buffering cs)) w refl
  cursor_apart w q (committing m) e = unless_same (fault_of needs w q (committing m))
      (world_then needs w q (committing m)) w refl
  cursor_apart w q aborting e = unless_same (fault_of needs w q aborting)
      (world_then needs w q aborting) w refl
  cursor_apart w q (opening n query) e = unless_same (fault_of needs w q (opening n query))
      (world_then needs w q (opening n query)) w
      (lookup_pushed_apart (is_cursor s name) w.sessions.cursors _ e)
  cursor_apart w q (fetching n count) e = unless_same (fault_of needs w q (fetching n count))
      (world_then needs w q (fetching n count)) w
      (others w q n count (cursor_of w.sessions q n) e)
  cursor_apart w q (closing n) e = unless_same (fault_of needs w q (closing n))
      (world_then needs w q (closing n)) w
      (lookup_removed_apart (is_cursor s name) (is_cursor q n) (keys_apart s q name n e)
      w.sessions.cursors)
