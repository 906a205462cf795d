-- What each step does to a transaction that it does not end, and so what any list of steps does.
use Rattle.std.proofs.Common.{◌≡◌, ℕ, Bool, true, false, not, cond, nat_eq, List, [], ◌∷◌, ◌++◌}
use Rattle.std.proofs.Common.{◌&&◌}
use Rattle.std.proofs.Common.{Option, Some, None, refl, sym, ap, ◌∙◌, subst, true≢false}
use Rattle.std.proofs.Common.{append_assoc}
use borrow.Author.Tests.{eqb-true, eq-eqb}
use Rattle.std.specs.Cmp.{nat_eq_equiv}
use Rattle.prima_base.specs.declared.refusal.Refusal.TheVariants.{SchemaMoved}
use Rattle.smo_ops_types.specs.Changes.{PlainChange}
use Rattle.smo_ops_types.specs.Commands.{PlainCommand}
use Rattle.smo_ops_spec.specs.First.{first_refusal, unless}
use Rattle.smo_ops_spec.specs.Checks.{Fault}
use Rattle.sessions.specs.Shared.{newest}
use Rattle.sessions.specs.SessionStates.{PlainTransaction, a_transaction, PlainCursor}
use Rattle.sessions.specs.SessionStates.{PlainSessions}
use Rattle.sessions.specs.Requests.{Request, beginning, buffering, committing, aborting, opening}
use Rattle.sessions.specs.Requests.{fetching, closing}
use Rattle.sessions.specs.Steps.{World}
use Rattle.sessions.specs.Steps.{fault_of, world_then, a_world, with_fetched}
use Rattle.sessions.specs.Steps.{begin_fault, buffered_in, changes_fault, commit_fault}
use Rattle.sessions.specs.Steps.{commit_answer, changes_so_far, shared_after}
use Rattle.sessions.specs.Runs.{shared_unless}
use Rattle.sessions.specs.Runs.{Step, asked, elsewhere, after, after_all, unless_refused, added_at}
use Rattle.sessions.specs.Runs.{added, added_unless, leaves_begun, leave_begun, is_refused, IsWhole}
use Rattle.sessions.specs.Runs.{refused_where_moved, is_commit, is_of_transaction}
use Rattle.sessions.proofs.Committed.{only_one}

both : (a b : Bool) → (a && b) ≡ true → (a ≡ true) × (b ≡ true)
both true true h = (refl, refl)
both true false h = absurd (true≢false (sym h))
both false b h = absurd (true≢false (sym h))

not_true : (b : Bool) → not b ≡ true → b ≡ false
not_true true h = absurd (true≢false (sym h))
not_true false h = refl

nothing_more : {X : Type 0} (xs : List X) → xs ≡ xs ++ []
nothing_more [] = refl
nothing_more (x ∷ xs) = ap (λ l. x ∷ l) (nothing_more xs)

module _ (needs : PlainCommand → ℕ) (s : ℕ) where
  -- the transaction is there, with so many changes more
  Has : World → PlainTransaction → List PlainChange → Type 0
  Has v t g = v.sessions.transaction s ≡ Some (a_transaction t.began (t.changes ++ g))

  stays : (w v : World) (t : PlainTransaction) → w.sessions.transaction s ≡ Some t
      → v.sessions.transaction s ≡ w.sessions.transaction s → Has v t []
  unfolding Has
  stays w v t h e = e ∙ h ∙ (λ i. Some (a_transaction t.began (nothing_more t.changes i)))

  unless_same : (f : Fault) (then w : World)
      → then.sessions.transaction s ≡ w.sessions.transaction s
      → (unless_refused f then w).sessions.transaction s ≡ w.sessions.transaction s
  unless_same None then w e = e
  unless_same (Some r) then w e = refl

  -- another session's transaction
  apart : (q : ℕ) (x y : Option PlainTransaction) → nat_eq s q ≡ false → cond (nat_eq q s) x y ≡ y
  apart q x y e = ap (λ b. cond b x y) (nat_eq_equiv.symm q s ∙ e)

  begins : (w : World) (t : PlainTransaction) (q : ℕ) → w.sessions.transaction s ≡ Some t
      → (b : Bool) → nat_eq s q ≡ b
      → (after needs w (asked q beginning)).sessions.transaction s ≡ w.sessions.transaction s
  begins w t q h true e = subst (λ k. (after needs w (asked k beginning)).sessions.transaction s
      ≡ w.sessions.transaction s) (eqb-true s q e)
      (ap (λ o. (unless_refused (begin_fault s o)
      (world_then needs w s beginning) w).sessions.transaction s) h)
  begins w t q h false e = unless_same (fault_of needs w q beginning)
      (world_then needs w q beginning) w (apart q _ (w.sessions.transaction s) e)

  buffers_own : (w : World) (t : PlainTransaction) (cs : List PlainChange) (f : Fault)
      → w.sessions.transaction s ≡ Some t
      → Has (unless_refused f (world_then needs w s (buffering cs)) w) t (added_unless f cs)
  unfolding Has
  buffers_own w t cs None h = ap (λ b. cond b (buffered_in cs (w.sessions.transaction s))
      (w.sessions.transaction s)) (eq-eqb s s refl) ∙ ap (buffered_in cs) h
  buffers_own w t cs (Some r) h = h ∙ (λ i. Some (a_transaction t.began (nothing_more t.changes i)))

  buffers : (w : World) (t : PlainTransaction) (q : ℕ) (cs : List PlainChange)
      → w.sessions.transaction s ≡ Some t → (b : Bool) → nat_eq s q ≡ b
      → Has (after needs w (asked q (buffering cs))) t
      (cond b (added_unless (fault_of needs w q (buffering cs)) cs) [])
  buffers w t q cs h true e = subst (λ k. Has (after needs w (asked k (buffering cs))) t
      (added_unless (fault_of needs w k (buffering cs)) cs)) (eqb-true s q e)
      (buffers_own w t cs (fault_of needs w s (buffering cs)) h)
  buffers w t q cs h false e = stays w (after needs w (asked q (buffering cs))) t h
      (unless_same (fault_of needs w q (buffering cs)) (world_then needs w q (buffering cs)) w
      (apart q _ (w.sessions.transaction s) e))

  refused_same : (f : Fault) (then w : World) → is_refused f ≡ true
      → (unless_refused f then w).sessions.transaction s ≡ w.sessions.transaction s
  refused_same None then w e = absurd (true≢false (sym e))
  refused_same (Some r) then w e = refl

  commits : (w : World) (q m : ℕ) (b : Bool) → nat_eq s q ≡ b
      → cond b (is_refused (fault_of needs w q (committing m))) true ≡ true
      → (after needs w (asked q (committing m))).sessions.transaction s
      ≡ w.sessions.transaction s
  commits w q m true e l = refused_same (fault_of needs w q (committing m))
      (world_then needs w q (committing m)) w l
  commits w q m false e l = unless_same (fault_of needs w q (committing m))
      (world_then needs w q (committing m)) w (apart q _ (w.sessions.transaction s) e)

  fetched_same : (q : ℕ) (n : List ℕ) (count : ℕ) (o : Option PlainCursor) (it : PlainSessions)
      → (with_fetched q n count o it).transaction s ≡ it.transaction s
  fetched_same q n count None it = refl
  fetched_same q n count (Some c) it = refl

  has_one : (w : World) (t : PlainTransaction) (step : Step) → w.sessions.transaction s ≡ Some t
      → leaves_begun needs w s step ≡ true → Has (after needs w step) t (added_at needs w s step)
  has_one w t (elsewhere shared) h l = stays w (a_world shared w.sessions) t h refl
  has_one w t (asked q beginning) h l = stays w (after needs w (asked q beginning)) t h
      (begins w t q h (nat_eq s q) refl)
  has_one w t (asked q (buffering cs)) h l = buffers w t q cs h (nat_eq s q) refl
  has_one w t (asked q (committing m)) h l = stays w (after needs w (asked q (committing m))) t h
      (commits w q m (nat_eq s q) refl l)
  has_one w t (asked q aborting) h l = stays w (after needs w (asked q aborting)) t h
      (unless_same (fault_of needs w q aborting) (world_then needs w q aborting) w
      (apart q None (w.sessions.transaction s) (not_true (nat_eq s q) l)))
  has_one w t (asked q (opening n query)) h l =
      stays w (after needs w (asked q (opening n query))) t h
      (unless_same (fault_of needs w q (opening n query)) (world_then needs w q (opening n query)) w
      refl)
  has_one w t (asked q (fetching n count)) h l =
      stays w (after needs w (asked q (fetching n count))) t h
      (unless_same (fault_of needs w q (fetching n count))
      (world_then needs w q (fetching n count)) w (fetched_same q n count _ w.sessions))
  has_one w t (asked q (closing n)) h l = stays w (after needs w (asked q (closing n))) t h
      (unless_same (fault_of needs w q (closing n)) (world_then needs w q (closing n)) w refl)

  has_all : (w : World) (t : PlainTransaction) (steps : List Step)
      → w.sessions.transaction s ≡ Some t → leave_begun needs w s steps ≡ true
      → Has (after_all needs w steps) t (added needs w s steps)
  unfolding Has
  has_all w t [] h l = stays w w t h refl
  has_all w t (step ∷ steps) h l =
      let e = both (leaves_begun needs w s step) (leave_begun needs (after needs w step) s steps)
      l in
      has_all (after needs w step) (a_transaction t.began (t.changes ++ added_at needs w s step))
      steps
      (has_one w t step h e.0) e.1
      ∙ (λ i. Some (a_transaction t.began (append_assoc t.changes (added_at needs w s step)
      (added needs (after needs w step) s steps) i)))

  not_begun : (o : Option PlainTransaction) → begin_fault s o ≡ None → o ≡ None
  not_begun None h = refl
  not_begun (Some t) h = absurd (true≢false (ap is_refused h))

  moved : (b : Bool) (began now : ℕ) (f : Fault)
      → first_refusal (unless b (SchemaMoved began now) ∷ f ∷ [])
      ≡ refused_where_moved b began now f
  moved true began now f = only_one f
  moved false began now f = refl

  kept_or_as_was : (f : Fault) (then z : World)
      → (unless_refused f then z).shared ≡ shared_unless f then.shared z.shared
  kept_or_as_was None then z = refl
  kept_or_as_was (Some r) then z = refl

  pub transaction_is_whole : (w : World) (steps : List Step) (stamp : ℕ)
      → fault_of needs w s beginning ≡ None
      → leave_begun needs (after needs w (asked s beginning)) s steps ≡ true
      → IsWhole needs w s steps stamp
  unfolding Has
  transaction_is_whole w steps stamp fault l =
      let v = after needs w (asked s beginning) in
      let t = a_transaction (newest w.shared) [] in
      let begun_now : v.sessions.transaction s ≡ Some t
      = ap (λ (x : World). x.sessions.transaction s)
      (ap (λ (x : Fault). unless_refused x (world_then needs w s beginning) w) fault)
      ∙ ap (λ b. cond b (Some t) (w.sessions.transaction s)) (eq-eqb s s refl) in
      let all = has_all v t steps begun_now l in
      let z = after_all needs v steps in
      record {
        refused = ap (commit_fault needs z.shared s stamp) all
            ∙ moved (nat_eq (newest w.shared) (newest z.shared)) (newest w.shared)
            (newest z.shared) (changes_fault needs z.shared stamp (added needs v s steps));
        answered = ap (λ o. commit_answer stamp (changes_so_far o) z.shared) all;
        whole = kept_or_as_was (fault_of needs z s (committing stamp))
            (world_then needs z s (committing stamp)) z
            ∙ ap (λ o. shared_unless (fault_of needs z s (committing stamp))
            (shared_after needs stamp (changes_so_far o) z.shared) z.shared) all;
      }

  same_shared : (f : Fault) (w : World) (it : PlainSessions)
      → (unless_refused f (a_world w.shared it) w).shared ≡ w.shared
  same_shared None w it = refl
  same_shared (Some r) w it = refl

  pub only_commits : (w : World) (request : Request) → is_commit request ≡ false
      → (after needs w (asked s request)).shared ≡ w.shared
  only_commits w (committing m) e = absurd (true≢false e)
  only_commits w beginning e = same_shared (fault_of needs w s beginning) w _
  only_commits w (buffering cs) e = same_shared (fault_of needs w s (buffering cs)) w _
  only_commits w aborting e = same_shared (fault_of needs w s aborting) w _
  only_commits w (opening n query) e = same_shared (fault_of needs w s (opening n query)) w _
  only_commits w (fetching n count) e = same_shared (fault_of needs w s (fetching n count)) w _
  only_commits w (closing n) e = same_shared (fault_of needs w s (closing n)) w _

  -- a request that is not about the session's transaction leaves it
  pub transaction_apart : (w : World) (q : ℕ) (request : Request)
      → is_of_transaction s q request ≡ false
      → (after needs w (asked q request)).sessions.transaction s ≡ w.sessions.transaction s
  transaction_apart w q beginning e = unless_same (fault_of needs w q beginning)
      (world_then needs w q beginning) w (apart q _ (w.sessions.transaction s) e)
  transaction_apart w q (buffering cs) e = unless_same (fault_of needs w q (buffering cs))
      (world_then needs w q (buffering cs)) w (apart q _ (w.sessions.transaction s) e)
  transaction_apart w q (committing m) e = unless_same (fault_of needs w q (committing m))
      (world_then needs w q (committing m)) w (apart q None (w.sessions.transaction s) e)
  transaction_apart w q aborting e = unless_same (fault_of needs w q aborting)
      (world_then needs w q aborting) w (apart q None (w.sessions.transaction s) e)
  transaction_apart w q (opening n query) e = unless_same (fault_of needs w q (opening n query))
      (world_then needs w q (opening n query)) w refl
  transaction_apart w q (fetching n count) e = unless_same (fault_of needs w q (fetching n count))
      (world_then needs w q (fetching n count)) w (fetched_same q n count _ w.sessions)
  transaction_apart w q (closing n) e = unless_same (fault_of needs w q (closing n))
      (world_then needs w q (closing n)) w refl
